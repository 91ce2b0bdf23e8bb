-- Entries of tables, by the rule of each; two functions with one table.
-- Assumes nothing.
use Prim.Native.Nat.{ℕ, ◌+◌, ◌*◌, ◌/◌, ◌%◌, ◌≤◌, ◌<◌}
use mathlib.Core.Path.{◌≡◌, refl, sym, ap, ◌∙◌}
use mathlib.Core.List.{List}
use native.Mathlib.Omega.{arith}
use lib.Dec.{leb, leb→le}
use lib.ListN.{get_or}
use Rattle.laws.specs.Blocks.{table}
use Rattle.laws.proofs.Below.{at, entry}
use Rattle.rules.specs.Lists.{bit}
use Rattle.rules.specs.Tables.{class_of, table_rules}
use Rattle.tables.specs.Bytes.{class_table, reach_table, misses}
use Rattle.tables.specs.Keywords.{keyword_start, keyword_table, row_rules}
use Rattle.tables.specs.Signs.{place_of, second_bytes, pair_code, sign_table, sign_index, sign_index_table, code_rules}

-- two functions that give the same table
pub by-table : {A : Type 0} (f g : ℕ → A) (n : ℕ) (d : A) → table f 0 n ≡ table g 0 n → (k : ℕ) → k < n → f k ≡ g k
by-table f g n d e k h = sym (entry f n k d h) ∙ ap (λ (l : List _). get_or l k d) e ∙ entry g n k d h

-- the class of a byte
pub class_is : {l : List ℕ} → l ≡ class_table → (b : ℕ) → b < 256 → get_or l b 0 ≡ class_of b
unfolding class_table
class_is e b h = ap (λ (k : List ℕ). get_or k b 0) e ∙ entry class_of 256 b 0 h

pub class_small : (b : ℕ) → b < 256 → class_of b ≤ 6
unfolding table_rules
class_small b h = leb→le _ _ (at (λ m. leb (class_of m) 6) 256 tt b h)

-- whether a byte ends a run
pub miss_bit : {l : List ℕ} → l ≡ reach_table → (which b : ℕ) → which < 4 → b < 256 → get_or l (256 * which + b) 0 ≡ bit (misses which b)
unfolding reach_table
miss_bit e which b k h =
    let q : (256 * which + b) / 256 ≡ which = omega arith in
    let r : (256 * which + b) % 256 ≡ b = omega arith in
    ap (λ (l : List ℕ). get_or l (256 * which + b) 0) e ∙ entry (λ i. bit (misses (i / 256) (i % 256))) 1024 (256 * which + b) 0 (omega arith) ∙ rw (q, r)

-- what is looked up by a sign's first byte
pub row_is : {l : List ℕ} → l ≡ sign_index_table → (b : ℕ) → b < 256 → get_or l b 0 ≡ sign_index b
unfolding sign_index_table
row_is e b h = ap (λ (k : List ℕ). get_or k b 0) e ∙ entry sign_index 256 b 0 h

-- the column of its second byte
pub column_is : {l : List ℕ} → l ≡ sign_table → (b : ℕ) → b < 256 → get_or l b 0 ≡ place_of b second_bytes
unfolding code_rules table_rules
column_is e b h = ap (λ (k : List ℕ). get_or k b 0) e ∙ by-table (λ m. get_or sign_table m 0) (λ m. place_of m second_bytes) 256 0 refl b h

-- the code in a row and column
pub code_is : {l : List ℕ} → l ≡ sign_table → (i : ℕ) → i < 104 → get_or l (256 + i) 0 ≡ pair_code i
unfolding code_rules table_rules
code_is e i h = ap (λ (k : List ℕ). get_or k (256 + i) 0) e ∙ by-table (λ m. get_or sign_table (256 + m) 0) pair_code 104 0 refl i h

-- where the rows of a letter begin
pub start_is : {l : List ℕ} → l ≡ keyword_table → (x : ℕ) → x ≤ 32 → get_or l (506 + x) 0 ≡ keyword_start x
unfolding table_rules row_rules
start_is e x h = ap (λ (k : List ℕ). get_or k (506 + x) 0) e ∙ by-table (λ m. get_or keyword_table (506 + m) 0) keyword_start 33 0 refl x (omega arith)
