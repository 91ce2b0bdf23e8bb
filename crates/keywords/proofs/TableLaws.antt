-- The groups of the keyword table, by tests that are computed over all rows and letters.
-- Assumes nothing.
use Prim.Native.Nat.{ℕ, ◌+◌, ◌-◌, ◌*◌, ◌≤◌, ◌<◌}
use mathlib.Core.Path.{◌≡◌, refl, sym, ◌∙◌}
use mathlib.Core.List.{List, [], ◌∷◌}
use native.Mathlib.Omega.{arith}
use lib.Dec.{T, leb, leb→le}
use lib.ListN.{length, get_or}
use Rattle.laws.proofs.Below.{below, at}
use Rattle.rules.specs.Kinds.{ident}
use Rattle.rules.specs.Tables.{Spelling, keywords, word_kind, table_rules}
use Rattle.tables.specs.Keywords.{letter_of, of_letter, keyword_start, keyword_table, row_rules}
use Rattle.tables.proofs.Entries.{by-table}
use Rattle.keywords.specs.Rows.{row_at, rows_from}
use Rattle.keywords.proofs.GroupLaws.{word_of_letter}
use Rattle.keywords.proofs.SearchLaws.{Row}

-- rows of a table that can be searched, and the spellings that they hold
pub record Group (t : List ℕ) (from to : ℕ) (ks : List Spelling) : Type 0 where
  pub inside : 11 * to ≤ length t
  pub narrow : (i : ℕ) → i < to → get_or t (11 * i) 0 ≤ 9
  pub holds : rows_from t from (to - from) ≡ ks

-- a table of so many rows, each of at most nine bytes
group : {t : List ℕ} (rows : ℕ) → T (leb (11 * rows) (length t)) → T (below (λ i. leb (get_or t (11 * i) 0) 9) rows)
    → {from to : ℕ} {ks : List Spelling} → to ≤ rows → rows_from t from (to - from) ≡ ks → Group t from to ks
group {t} rows size narrow h e = record {
  inside = omega (arith, leb→le (11 * rows) (length t) size);
  narrow = λ i k. leb→le _ _ (at (λ m. leb (get_or t (11 * m) 0) 9) rows narrow i (omega arith));
  holds = e;
}

-- Keywords.

start_small : (x : ℕ) → x ≤ 32 → keyword_start x ≤ 46
unfolding table_rules row_rules
start_small x h = leb→le _ _ (at (λ m. leb (keyword_start m) 46) 33 tt x (omega arith))

letter-rows : (x : ℕ) → x < 32 → rows_from keyword_table (keyword_start x) (keyword_start (x + 1) - keyword_start x) ≡ of_letter x keywords
unfolding table_rules row_rules row_at rows_from
letter-rows x h = by-table (λ m. rows_from keyword_table (keyword_start m) (keyword_start (m + 1) - keyword_start m)) (λ m. of_letter m keywords) 32 [] refl x h

rows_of : (x : ℕ) → x < 32 → Group keyword_table (keyword_start x) (keyword_start (x + 1)) (of_letter x keywords)
unfolding table_rules row_rules
rows_of x h = group 46 tt tt (start_small (x + 1) (omega arith)) (letter-rows x h)

-- the search through the rows of the word's letter is that through all
pub begins : (w : List ℕ) {from to : ℕ} → from ≡ keyword_start (letter_of w) → to ≡ keyword_start (letter_of w + 1)
    → word_kind keywords w ≡ word_kind (rows_from keyword_table from (to - from)) w
begins w e f =
    let g = rows_of (letter_of w) (omega arith) in
    sym (word_of_letter w keywords) ∙ sym (rw (e, f, g.holds))

-- a row that is searched, of those of a letter, which end at `to`
pub record Searched (to row : ℕ) : Type 0 where
  pub narrow : get_or keyword_table (11 * row) 0 ≤ 9
  pub inside : row < 46
  pub at_row : Row keyword_table to row

pub searched : (x : ℕ) → x < 32 → {to row : ℕ} → to ≡ keyword_start (x + 1) → row < to → Searched to row
searched x h {to} {row} e before =
    let g = rows_of x h in
    let n = g.narrow row (omega (arith, e)) in
    record {
      narrow = n;
      inside = omega (arith, e, start_small (x + 1) (omega arith));
      at_row = record { before = before; fits = omega (arith, e, g.inside, n) };
    }

-- no keyword is empty
pub no_word : (w : List ℕ) → length w ≡ 0 → word_kind keywords w ≡ ident
unfolding table_rules
no_word [] h = refl
no_word (b ∷ w) h = absurd (omega arith)
