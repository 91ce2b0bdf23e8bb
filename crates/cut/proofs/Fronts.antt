-- The first two bytes of a byte literal.
-- Assumes nothing.
use Prim.Native.Nat.{ℕ, suc, ◌+◌, ◌≤◌, ◌<◌}
use mathlib.Core.Path.{◌≡◌, sym, ap, ◌∙◌}
use mathlib.Core.Bool.{true, false, ◌&&◌}
use mathlib.Core.List.{List, ◌∷◌}
use native.Mathlib.Omega.{arith}
use native.Mathlib.Nat.{add-zero}
use lib.Dec.{eqb}
use lib.ListN.{length, get_or, drop, length-drop}
use lib.Seq.{drop-cons}
use borrow.Author.Tests.{ne_eqb, eqb-true}
use Rattle.rules.specs.Lists.{ascii, begins, trim_end}
use Rattle.rules.specs.Tables.{is_cr}
use Rattle.rules.proofs.ListLaws.{and_left, and_right, begins-le, trim_end-keeps}
use Rattle.rules.proofs.BeginsLaws.{begins-other}

-- a byte literal begins with a `b`
pub no_literal : (line : List ℕ) (at : ℕ) → at < length line → (get_or line at 0 ≡ 98 → ⊥) → begins (ascii "b'") (drop at line) ≡ false
no_literal line at h n = rw add-zero at (begins-other (ascii "b'") line at 0 (omega arith) (omega arith) (rw add-zero n))

-- a line that has `b'` has them before its trailing CRs
pub literal_room : (line : List ℕ) (at : ℕ) → begins (ascii "b'") (drop at line) ≡ true → at + 2 ≤ length (trim_end is_cr line)
unfolding begins is_cr
literal_room line at e =
    let n = begins-le (ascii "b'") (drop at line) e in
    let m = length-drop at line in
    let h : suc at < length line = omega arith in
    let parts : drop at line ≡ get_or line at 0 ∷ get_or line (suc at) 0 ∷ drop (suc (suc at)) line =
    drop-cons line at 0 (omega arith) ∙ ap (λ (l : List ℕ). get_or line at 0 ∷ l) (drop-cons line (suc at) 0 h) in
    let both : (eqb 98 (get_or line at 0) && (eqb 39 (get_or line (suc at) 0) && true)) ≡ true = ap (begins (ascii "b'")) (sym parts) ∙ e in
    let q = eqb-true 39 (get_or line (suc at) 0) (and_left (eqb 39 (get_or line (suc at) 0)) true (and_right (eqb 98 (get_or line at 0)) _ both)) in
    omega (arith, trim_end-keeps is_cr line (suc at) h (ne_eqb (get_or line (suc at) 0) 13 (λ r. omega arith)))
