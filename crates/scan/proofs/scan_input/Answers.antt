use Rattle.std.proofs.Common.{◌≡◌, ℕ, ◌≤◌, ◌<◌, Bool, true, false, List, [], ◌++◌, Option, None, Some, Result, Ok, Err, OnOk, IfSome, arith, rules, length, take, drop, refl, sym, ap, ◌∙◌, subst, append-nil, length-append, length-take-le, take_at}
use Rattle.std.proofs.lemmas.Bool.{lt-ltb, ltb-true, ltb-false}
use Rattle.std.proofs.Math.Dec.{ltb}
use Rattle.std.specs.Io.KnownBytes.{Appends, Consumes, IsAtEnd}
use Rattle.rules.specs.Lists.{overwrite}
use Rattle.rules.specs.Scan.{scan_bytes, scan_output, refused_row}
use Rattle.scan.proofs.scan_input.Goals as goal

-- a list at the front of a buffer
front_of : (xs buffer : List ℕ) (out : List ℕ) (size : ℕ) → size ≡ length xs → out ≡ overwrite xs buffer → (size ≤ length out) × (take size out ≡ xs)
unfolding overwrite
front_of xs buffer out size n e =
    let rest = drop (length xs) buffer in
    (omega (arith, n, ap length e, length-append xs rest), ap (take size) e ∙ take_at xs rest size (sym n))

-- of a text over 512 bytes
of_long : (text : List ℕ) → 512 < length text → scan_output text ≡ refused_row 1
unfolding scan_output
of_long text h = rw (lt-ltb scan_bytes (length text) h) refl

-- a text is known by its first 513 bytes
of_front : (text front rest : List ℕ) → text ≡ front ++ rest → (length front < 513 → rest ≡ []) → scan_output front ≡ scan_output text
of_front text front rest e ended = go (ltb (length front) 513) refl
  where
    go : (b : Bool) → ltb (length front) 513 ≡ b → scan_output front ≡ scan_output text
    go true h = ap scan_output (sym (e ∙ ap (λ l. front ++ l) (ended (ltb-true (length front) 513 h)) ∙ append-nil front))
    go false h =
        let long = ltb-false (length front) 513 h in
        of_long front (omega arith) ∙ sym (of_long text (omega (arith, ap length e, length-append front rest)))

-- what was read as known bytes, and what was written for it
written : {T E : Type 0} (r : Result T E) (known left : Option (List ℕ)) (before after : Option (List ℕ)) (buffer printed : List ℕ) (n : ℕ)
    → n ≤ length buffer → length buffer ≡ 513 → Consumes known left (take n buffer) → (n < length buffer → IsAtEnd left)
    → printed ≡ scan_output (take n buffer) → OnOk r (Appends before after printed) → OnOk r (IfSome known (λ text. Appends before after (scan_output text)))
written (Err e) known left before after buffer printed n le size p q s a = tt
written (Ok x) None left before after buffer printed n le size p q s a = tt
written (Ok x) (Some text) None before after buffer printed n le size p q s a = absurd p
written (Ok x) (Some text) (Some rest) before after buffer printed n le size p q s a =
    let ended : length (take n buffer) < 513 → rest ≡ [] = λ h. q (omega (arith, h, length-take-le n buffer le)) in
    subst (Appends before after) (s ∙ of_front text (take n buffer) rest p ended) a

pub slice_bounds-out-end : goal.slice_bounds-out-end
slice_bounds-out-end g c = (front_of _ _ _ _ c.scan-size.ensures.value c.scan-size.ensures.out_after).0

pub slice_bounds-write_all-end : goal.slice_bounds-write_all-end
slice_bounds-write_all-end g c =
    sym (length-take-le _ _ (front_of _ _ _ _ c.scan-size.ensures.value c.scan-size.ensures.out_after).0)

pub returns-clause-printed : goal.returns-clause-printed
returns-clause-printed g c =
    let read = c.in_ok-n.ensures in
    let scanned = c.scan-size.ensures in
    written _ _ _ _ _ _ _ _ read.in_bounds (search rules) read.bytes read.end (front_of _ _ _ _ scanned.value scanned.out_after).1 c.write_all.ensures.bytes
