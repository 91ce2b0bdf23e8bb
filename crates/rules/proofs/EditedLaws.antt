-- The edited text: its length, its kept tail, and its line starts there, which are line starts of the old text.
-- Assumes nothing.
use Prim.Native.Nat.{ℕ, zero, suc, ◌+◌, ◌-◌, ◌≤◌, ◌<◌}
use mathlib.Core.Path.{◌≡◌, sym, ap, ◌∙◌}
use mathlib.Core.List.{List, ◌++◌, append_assoc}
use native.Mathlib.Omega.{arith}
use native.Mathlib.Nat.{add-zero}
use lib.ListN.{length, get_or, take, drop, length-append, length-drop, take-append-drop}
use lib.Seq.{drop-drop, get_or-drop, drop-append-add, length-take-le}
use Rattle.rules.specs.Reading.{lines_of, count_lf}
use Rattle.rules.specs.StopRule.{Edit, edited, kept_from}
use Rattle.rules.proofs.LineLaws.{total, take_lines, start_lf, lf_start}

module _ (t : List ℕ) (ed : Edit) (ha : ed.a ≤ length t) where
  pub length_edited : length (edited t ed) ≡ kept_from ed + (length t - ed.b)
  unfolding edited
  length_edited =
      length-append (take ed.a t) (ed.w ++ drop ed.b t)
      ∙ omega (arith, length-append ed.w (drop ed.b t), length-take-le ed.a t ha, length-drop ed.b t)

  -- behind the inserted bytes the edited text is the old one
  pub drop_edited : (p : ℕ) → kept_from ed ≤ p → drop p (edited t ed) ≡ drop (ed.b + (p - kept_from ed)) t
  unfolding edited
  drop_edited p hp =
      let hx : length (take ed.a t ++ ed.w) ≡ kept_from ed = length-append (take ed.a t) ed.w ∙ ap (λ (n : ℕ). n + length ed.w) (length-take-le ed.a t ha) in
      let hq : p ≡ length (take ed.a t ++ ed.w) + (p - kept_from ed) = omega arith in
      ap (drop p) (sym (append_assoc (take ed.a t) ed.w (drop ed.b t)))
      ∙ ap (λ (n : ℕ). drop n ((take ed.a t ++ ed.w) ++ drop ed.b t)) hq
      ∙ drop-append-add (take ed.a t ++ ed.w) (drop ed.b t) (p - kept_from ed) ∙ drop-drop (p - kept_from ed) ed.b t

  -- the lines before the first to be read again are the same in both texts
  pub same-front : take (count_lf (take ed.a t)) (lines_of (edited t ed)) ≡ take (count_lf (take ed.a t)) (lines_of t)
  unfolding edited
  same-front =
      take_lines (take ed.a t) (ed.w ++ drop ed.b t) (drop ed.a t)
      ∙ ap (λ (x : List ℕ). take (count_lf (take ed.a t)) (lines_of x)) (take-append-drop ed.a t)

-- a line start beyond a + |w| is a line start of the old text
pub old-start : (t : List ℕ) (ed : Edit) → ed.a ≤ ed.b → ed.b ≤ length t → (j p : ℕ) → total (take j (lines_of (edited t ed))) ≡ p
    → kept_from ed < p → p < length (edited t ed) → (i : ℕ) × (total (take i (lines_of t)) ≡ ed.b + (p - kept_from ed))
old-start t ed hab hb j zero hj hf hp = absurd (omega arith)
old-start t ed hab hb j (suc k) hj hf hp =
    let q : ℕ = ed.b + (k - kept_from ed) in
    let ha : ed.a ≤ length t = omega arith in
    let hk : kept_from ed ≤ k = omega arith in
    let byte : get_or t q 0 ≡ 10 =
    (rw add-zero at (sym (get_or-drop q t 0 0)))
    ∙ ap (λ (x : List ℕ). get_or x 0 0) (sym (drop_edited t ed ha k hk))
    ∙ (rw add-zero at (get_or-drop k (edited t ed) 0 0))
    ∙ start_lf j (edited t ed) k (sym hj) hp in
    let r = lf_start t q (omega (arith, length_edited t ed ha)) byte in
    let e : total (take r.0 (lines_of t)) ≡ ed.b + (suc k - kept_from ed) = omega (arith, r.1) in
    (r.0, e)
