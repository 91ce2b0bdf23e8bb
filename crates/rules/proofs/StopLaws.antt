-- Laws of line starts and of the stop rule.
-- Assumes nothing.
use Prim.Native.Nat.{ℕ, zero, suc, ◌+◌, ◌<◌, suc-le-suc}
use mathlib.Core.Path.{◌≡◌, refl, sym, ap, ◌∙◌}
use mathlib.Core.Bool.{Bool, true, false, ◌||◌, not, false≢true, or-false}
use mathlib.Core.List.{List, [], ◌∷◌, ◌++◌}
use native.Mathlib.Omega.{arith}
use native.Mathlib.Nat.{add-zero, add_assoc}
use lib.ListN.{length, take, drop}
use lib.Dec.{eqb}
use borrow.Author.Tests.{eqb-true, eq-eqb, ne_eqb}
use Rattle.rules.specs.Lists.{any, run}
use Rattle.rules.specs.Limits.{LineLimits}
use Rattle.rules.specs.Line.{State, read_line}
use Rattle.rules.specs.Reading.{Line, lines_of, content, Entry, reads, read_from, byte_sum, state_at}
use Rattle.rules.specs.StopRule.{Mark, marks_from, same_state, same_mark}
use Rattle.rules.proofs.ListLaws.{and-true, run_true, run_false}
use Rattle.rules.proofs.LineLaws.{next-line, first_some}
use Rattle.rules.proofs.ReadingLaws.{step}
use Rattle.rules.proofs.StateLaws.{same_state_true}

abbrev pub mark : ℕ → State → Mark
mark p s = record { start = p; state = s }

-- Marks of lines.

pub marks_append : (p : ℕ) (xs ys : List Entry) → marks_from p (xs ++ ys) ≡ marks_from p xs ++ marks_from (p + byte_sum xs) ys
unfolding marks_from byte_sum
marks_append p [] ys = rw (add-zero p)
marks_append p (e ∷ xs) ys = ap (λ (r : List Mark). mark p e.before ∷ r) (marks_append (p + e.size) xs ys ∙ rw (add_assoc p e.size (byte_sum xs)))

pub length_marks : (p : ℕ) (es : List Entry) → length (marks_from p es) ≡ length es
unfolding marks_from
length_marks p [] = refl
length_marks p (e ∷ es) = ap suc (length_marks (p + e.size) es)

same_mark_true : (x y : Mark) → same_mark x y ≡ true → (x.start ≡ y.start) × (x.state ≡ y.state)
unfolding same_mark
same_mark_true x y h =
    let a = and-true (eqb x.start y.start) (same_state x.state y.state) h in
    (eqb-true x.start y.start a.0, same_state_true x.state y.state a.1)

-- a mark among those of lines is that of a line
pub mark-find : (p : ℕ) (es : List Entry) (end : State) (m : Mark) → any (same_mark m) (marks_from p es) ≡ true
    → (i : ℕ) × (i < length es) × (p + byte_sum (take i es) ≡ m.start) × (m.state ≡ state_at es end i)
unfolding any marks_from byte_sum
mark-find p [] end m h = absurd (false≢true h)
mark-find p (e ∷ es) end m h = go (same_mark m (mark p e.before)) refl h (λ k. mark-find (p + e.size) es end m k)
  where
    go : (x : Bool) → same_mark m (mark p e.before) ≡ x → (x || any (same_mark m) (marks_from (p + e.size) es)) ≡ true
        → (any (same_mark m) (marks_from (p + e.size) es) ≡ true
        → (i : ℕ) × (i < length es) × (p + e.size + byte_sum (take i es) ≡ m.start) × (m.state ≡ state_at es end i))
        → (i : ℕ) × (i < suc (length es)) × (p + byte_sum (take i (e ∷ es)) ≡ m.start) × (m.state ≡ state_at (e ∷ es) end i)
    go true x k ih =
        let s = same_mark_true m (mark p e.before) x in
        (0, omega arith, omega (arith, s.0), s.1)
    go false x k ih =
        let r = ih k in
        (suc r.0, suc-le-suc r.1, omega (arith, r.2), r.3)

-- Lines have bytes, so no two start at the same byte.

abbrev pub Positive : List Entry → Type 0
Positive [] = Unit {0}
Positive (e ∷ es) = (0 < e.size) × Positive es

pub read-positive : (lim : LineLimits) (ls : List Line) (t : List ℕ) (s : State) (es : List Entry) (z : State) → lines_of t ≡ ls → read_from lim s ls ≡ reads es z → Positive es
unfolding read_from
read-positive lim [] t s es z hl h = let k : es ≡ [] = cc in rw k tt
read-positive lim (l ∷ ls) t s es z hl h =
    let st = step lim s l (read_line lim s (content l)) (λ y. read_from lim y ls) es z h in
    rw st.entries-are (first_some t l ls hl, read-positive lim ls (drop (length l) t) st.mid st.rest z (next-line t l ls hl) st.rest-is)

-- the number of lines that start before the one at byte q
unfoldable pub line_at_byte : (q : ℕ) → List Mark → ℕ
line_at_byte q ms = run (λ (m : Mark). not (eqb m.start q)) ms

pub line-at-byte : (p : ℕ) (es : List Entry) (i : ℕ) → Positive es → i < length es → line_at_byte (p + byte_sum (take i es)) (marks_from p es) ≡ i
unfolding line_at_byte marks_from byte_sum
line-at-byte p [] i h hi = absurd (omega arith)
line-at-byte p (e ∷ es) zero h hi =
    run_false (λ (m : Mark). not (eqb m.start (p + 0))) (mark p e.before) (marks_from (p + e.size) es) (ap not (eq-eqb p (p + 0) (sym (add-zero p))))
line-at-byte p (e ∷ es) (suc i) h hi =
    let q : ℕ = p + (e.size + byte_sum (take i es)) in
    let other : p ≡ q → ⊥ = λ x. omega (arith, h.0) in
    run_true (λ (m : Mark). not (eqb m.start q)) (mark p e.before) (marks_from (p + e.size) es) (ap not (ne_eqb p q other))
    ∙ ap suc (rw (add_assoc p e.size (byte_sum (take i es))) at (line-at-byte (p + e.size) es i h.1 (omega arith)))

-- there, the mark is found exactly if the state is that of the line
none-later : (p : ℕ) (es : List Entry) (m : Mark) → m.start < p → any (same_mark m) (marks_from p es) ≡ false
unfolding any marks_from same_mark
none-later p [] m h = refl
none-later p (e ∷ es) m h =
    let other : m.start ≡ p → ⊥ = λ x. omega arith in
    rw (ne_eqb m.start p other) (none-later (p + e.size) es m (omega arith))

same_mark-here : (q p : ℕ) (s z : State) → q ≡ p → same_mark (mark q s) (mark p z) ≡ same_state s z
unfolding same_mark
same_mark-here q p s z h = rw (eq-eqb q p h)

same_mark-other : (q p : ℕ) (s z : State) → (q ≡ p → ⊥) → same_mark (mark q s) (mark p z) ≡ false
unfolding same_mark
same_mark-other q p s z h = rw (ne_eqb q p h)

pub mark-at : (p : ℕ) (es : List Entry) (end : State) (i : ℕ) (s : State) → Positive es → i < length es
    → any (same_mark (mark (p + byte_sum (take i es)) s)) (marks_from p es) ≡ same_state s (state_at es end i)
unfolding any marks_from byte_sum
mark-at p [] end i s h hi = absurd (omega arith)
mark-at p (e ∷ es) end zero s h hi =
    rw (same_mark-here (p + 0) p s e.before (add-zero p), none-later (p + e.size) es (mark (p + 0) s) (omega (arith, h.0))) (or-false (same_state s e.before))
mark-at p (e ∷ es) end (suc i) s h hi =
    let q : ℕ = p + (e.size + byte_sum (take i es)) in
    let other : q ≡ p → ⊥ = λ x. omega (arith, h.0) in
    rw (same_mark-other q p s e.before other) (rw (add_assoc p e.size (byte_sum (take i es))) at (mark-at (p + e.size) es end i s h.1 (omega arith)))
