-- A row of a table against a text, byte by byte; a row passed or taken by the search.
-- Assumes nothing.
use Prim.Native.Nat.{ℕ, suc, ◌+◌, ◌-◌, ◌*◌, ◌≤◌, ◌<◌}
use mathlib.Core.Path.{◌≡◌, sym, ap, ◌∙◌}
use mathlib.Core.Bool.{Bool, true, false}
use mathlib.Core.List.{List, ◌∷◌}
use native.Mathlib.Omega.{arith}
use native.Mathlib.Numerals.{add-one}
use native.Mathlib.Nat.{add-zero}
use lib.ListN.{length, get_or, take, drop, length-drop}
use lib.Seq.{drop-cons, length-take-le}
use borrow.Author.Tests.{eq-eqb, ne_eqb}
use Rattle.std.specs.Prelude.{if◌then◌else◌}
use Rattle.rules.specs.Lists.{begins, same}
use Rattle.rules.specs.Kinds.{ident}
use Rattle.rules.specs.Tables.{word_kind}
use Rattle.keywords.specs.Rows.{row_at, rows_from}
use Rattle.rules.proofs.BeginsLaws.{same_whole}
use Rattle.keywords.proofs.GroupLaws.{same_not}

-- the bytes of a row at `base`, `len` of them, agree with the text from byte i on
abbrev pub agree_from : (t s : List ℕ) (base len i : ℕ) → Bool
agree_from t s base len i = begins (take (len - i) (drop (base + 2 + i) t)) (drop i s)

module _ (t s : List ℕ) (base len : ℕ) (fits : base + 2 + len ≤ length t) where
  -- the byte at i, and those behind it
  at_byte : (i : ℕ) → i < len → len ≤ length s
      → agree_from t s base len i ≡ begins (get_or t (base + 2 + i) 0 ∷ take (len - (i + 1)) (drop (base + 2 + (i + 1)) t)) (get_or s i 0 ∷ drop (i + 1) s)
  at_byte i h k =
      let n : len - i ≡ suc (len - (i + 1)) = omega arith in
      let a : base + 2 + (i + 1) ≡ suc (base + 2 + i) = omega arith in
      rw (n, a, drop-cons t (base + 2 + i) 0 (omega arith), drop-cons s i 0 (omega arith), add-one i)

  agree-more : (i : ℕ) → i < len → len ≤ length s → get_or t (base + 2 + i) 0 ≡ get_or s i 0 → agree_from t s base len i ≡ agree_from t s base len (i + 1)
  unfolding begins
  agree-more i h k e = at_byte i h k ∙ rw (eq-eqb _ _ e)

  agree_not : (i : ℕ) → i < len → len ≤ length s → (get_or t (base + 2 + i) 0 ≡ get_or s i 0 → ⊥) → agree_from t s base len i ≡ false
  unfolding begins
  agree_not i h k e = at_byte i h k ∙ rw (ne_eqb _ _ e)

  agree-end : (i : ℕ) → len ≤ i → agree_from t s base len i ≡ true
  unfolding begins
  agree-end i h =
      let n : len - i ≡ 0 = omega arith in
      rw n

-- the length of row k
abbrev pub length_at : (t : List ℕ) (k : ℕ) → ℕ
length_at t k = get_or t (11 * k) 0

-- row k of the table, one of those before `to`
pub record Row (t : List ℕ) (to k : ℕ) : Type 0 where
  pub before : k < to
  pub fits : 11 * k + 2 + length_at t k ≤ length t

-- The search for a word, from row k on; `kind` is what the whole search gives.
module _ {t : List ℕ} {to k : ℕ} (r : Row t to k) (w : List ℕ) {kind : ℕ} (inv : kind ≡ word_kind (rows_from t k (to - k)) w) where
  at_spelling : kind ≡ (if same (row_at t k).bytes w then get_or t (11 * k + 1) 0 else word_kind (rows_from t (k + 1) (to - (k + 1))) w)
  unfolding rows_from word_kind row_at
  at_spelling =
      let h = r.before in
      let n : to - k ≡ suc (to - (k + 1)) = omega arith in
      inv ∙ rw (n, add-one k)

  row_length : length (row_at t k).bytes ≡ length_at t k
  unfolding row_at
  row_length = let f = r.fits in length-take-le _ (drop (11 * k + 2) t) (simp length-drop (omega arith))

  -- a row of another length
  pub other_length : (length_at t k ≡ length w → ⊥) → kind ≡ word_kind (rows_from t (k + 1) (to - (k + 1))) w
  other_length h = at_spelling ∙ rw (same_not (row_at t k).bytes w (λ e. h (sym row_length ∙ ap length e)))

  module _ (l : length_at t k ≡ length w) (i : ℕ) (so_far : agree_from t w (11 * k) (length w) 0 ≡ agree_from t w (11 * k) (length w) i) where
    at-bytes : same (row_at t k).bytes w ≡ agree_from t w (11 * k) (length w) i
    unfolding row_at
    at-bytes =
        let z : length w - 0 ≡ length_at t k = omega arith in
        same_whole (row_at t k).bytes w (row_length ∙ l) ∙ sym (rw (z, add-zero (11 * k + 2))) ∙ so_far

    -- byte i differs
    pub other_byte : i < length w → (get_or t (11 * k + 2 + i) 0 ≡ get_or w i 0 → ⊥) → kind ≡ word_kind (rows_from t (k + 1) (to - (k + 1))) w
    other_byte h e =
        let f = r.fits in
        at_spelling ∙ rw (at-bytes ∙ agree_not t w (11 * k) (length w) (omega arith) i h (omega arith) e)

    -- byte i agrees
    pub same_byte : i < length w → get_or t (11 * k + 2 + i) 0 ≡ get_or w i 0 → agree_from t w (11 * k) (length w) 0 ≡ agree_from t w (11 * k) (length w) (i + 1)
    same_byte h e =
        let f = r.fits in
        so_far ∙ agree-more t w (11 * k) (length w) (omega arith) i h (omega arith) e

    -- every byte agreed
    pub spelled : i ≡ length w → kind ≡ get_or t (11 * k + 1) 0
    spelled h =
        let f = r.fits in
        at_spelling ∙ rw (at-bytes ∙ agree-end t w (11 * k) (length w) (omega arith) i (omega arith))

-- no row is left
pub no_spelling : (t w : List ℕ) (to k : ℕ) {kind : ℕ} → kind ≡ word_kind (rows_from t k (to - k)) w → to ≤ k → kind ≡ ident
unfolding rows_from word_kind
no_spelling t w to k inv h =
    let n : to - k ≡ 0 = omega arith in
    rw (inv, n)
