-- The whole message: its fields, and that it is small enough.
-- Assumes nothing.
use Prim.Native.Nat.{ℕ, zero, suc, ◌+◌, ◌-◌, ◌/◌, ◌^◌, ◌≤◌, ◌<◌, pred}
use mathlib.Core.Path.{◌≡◌, refl, sym, ap}
use mathlib.Core.Bool.{Bool, true, false}
use mathlib.Core.List.{List, [], ◌∷◌, ◌++◌}
use native.Mathlib.Omega.{arith}
use lib.Dec.{ltb}
use lib.ListN.{length, drop, replicate, length-append, length-take, length-drop, length-replicate}
use Rattle.std.specs.Prelude.{if◌then◌else◌}
use Rattle.rules.specs.Lists.{ascii, run, concat}
use Rattle.rules.specs.Utf8.{later_byte, encode}
use Rattle.rules.specs.Failure.{Shows, nothing, scalar, hex_digits, details, detail_of, FailureRecord}
use Rattle.rules.specs.Reading.{not_lf, content}
use Rattle.rules.specs.Report.{digits_in, decimal, shown, detail_text, aligned, failing_line, message}
use Rattle.print.proofs.Prints.{places-le, length_digits, length_decimal}
use Rattle.refusals.specs.declared.FailureRecord.{FailureRecord as FailureIn}
use Rattle.print.specs.Printers.{PrinterLaws}
use Rattle.message.specs.Messages.{heading_of, place_of, excerpt_of, caret_of, message_of, message_in, Printable}
use Rattle.print.proofs.Fields.{length_fields, fits_as, prints_as, fields_front, fields_back, print_both}

abbrev pub fields_of : List ℕ → (code detail found line column start : ℕ) → List (List ℕ)
fields_of t n d c l k start = heading_of n d c ++ (place_of l k ++ (excerpt_of t l start ++ caret_of k))

pub message-fields : (t : List ℕ) (n d c p l k : ℕ) → concat (fields_of t n d c l k (p + 1 - k)) ≡ message_of t n d c p l k
unfolding message_of message failing_line
message-fields t n d c p l k =
    let e : p + 1 - k ≡ suc p - k = omega arith in
    let f : k - 1 ≡ pred k = omega arith in
    rw (e, f) refl

-- a failure's message does not depend on its range
pub message_of_lem : (t : List ℕ) (f : FailureRecord) → message_of t f.code f.detail f.found f.position f.line f.column ≡ message t f
unfolding message_of message failing_line
message_of_lem t f = refl

-- Sizes.

length_cons : (x : List ℕ) (xs : List (List ℕ)) → length (concat (x ∷ xs)) ≡ length x + length (concat xs)
unfolding concat
length_cons x xs = length-append x (concat xs)

length_nil : length (concat []) ≡ 0
unfolding concat
length_nil = refl

encode-small : (v : ℕ) → length (encode v) ≤ 4
unfolding encode
encode-small v = go (ltb v 0x80) (ltb v 0x800) (ltb v 0x10000)
  where
    go : (a b e : Bool)
        → length (if a then v ∷ [] else if b then (0xC0 + v / 64) ∷ later_byte v ∷ [] else if e then (0xE0 + v / 64 / 64) ∷ later_byte (v / 64) ∷ later_byte v ∷ []
        else (0xF0 + v / 64 / 64 / 64) ∷ later_byte (v / 64 / 64) ∷ later_byte (v / 64) ∷ later_byte v ∷ []) ≤ 4
    go true b e = omega arith
    go false true e = omega arith
    go false false true = omega arith
    go false false false = omega arith

shown-small : (s : Shows) (c : ℕ) → length (shown s c) ≤ 4
unfolding shown
shown-small nothing c = omega arith
shown-small scalar c = encode-small c
shown-small hex_digits c = omega (arith, length_digits 16 4 c [])

texts_small : (d : ℕ) → length (ascii (detail_of d).front) + length (ascii (detail_of d).back) ≤ 80
unfolding details detail_of
texts_small zero = omega arith
texts_small (suc zero) = omega arith
texts_small (suc (suc zero)) = omega arith
texts_small (suc (suc (suc zero))) = omega arith
texts_small (suc (suc (suc (suc zero)))) = omega arith
texts_small (suc (suc (suc (suc (suc zero))))) = omega arith
texts_small (suc (suc (suc (suc (suc (suc zero)))))) = omega arith
texts_small (suc (suc (suc (suc (suc (suc (suc zero))))))) = omega arith
texts_small (suc (suc (suc (suc (suc (suc (suc (suc zero)))))))) = omega arith
texts_small (suc (suc (suc (suc (suc (suc (suc (suc (suc zero))))))))) = omega arith
texts_small (suc (suc (suc (suc (suc (suc (suc (suc (suc (suc zero)))))))))) = omega arith
texts_small (suc (suc (suc (suc (suc (suc (suc (suc (suc (suc (suc zero))))))))))) = omega arith
texts_small (suc (suc (suc (suc (suc (suc (suc (suc (suc (suc (suc (suc zero)))))))))))) = omega arith
texts_small (suc (suc (suc (suc (suc (suc (suc (suc (suc (suc (suc (suc (suc d))))))))))))) = omega arith

detail-small : (d c : ℕ) → length (detail_text (detail_of d) c) ≤ 84
unfolding detail_text
detail-small d c =
    let f = ascii (detail_of d).front in
    let s = shown (detail_of d).shows c in
    let b = ascii (detail_of d).back in
    omega (arith, length-append f (s ++ b), length-append s b, texts_small d, shown-small (detail_of d).shows c)

heading_small : (n d c : ℕ) → length (concat (heading_of n d c)) ≤ 98
heading_small n d c =
    let x1 = ascii "error[E" in
    let x2 = digits_in 10 4 n [] in
    let x3 = ascii "]: " in
    let x4 = detail_text (detail_of d) c in
    omega (
      arith,
      length_cons x1 (x2 ∷ x3 ∷ x4 ∷ []),
      length_cons x2 (x3 ∷ x4 ∷ []),
      length_cons x3 (x4 ∷ []),
      length_cons x4 [],
      length_nil,
      length_digits 10 4 n [],
      detail-small d c,
    )

decimal-small : (n : ℕ) → n < 10_000_000_000 → length (decimal n) ≤ 10
decimal-small n h = omega (arith, length_decimal n, places-le 9 n n h)

place-small : (l k : ℕ) → l < 10_000_000_000 → k < 10_000_000_000 → length (concat (place_of l k)) ≤ 35
place-small l k g h =
    let x1 = ascii "\n --> <input>:" in
    let x2 = decimal l in
    let x3 = ascii ":" in
    let x4 = decimal k in
    omega (
      arith,
      length_cons x1 (x2 ∷ x3 ∷ x4 ∷ []),
      length_cons x2 (x3 ∷ x4 ∷ []),
      length_cons x3 (x4 ∷ []),
      length_cons x4 [],
      length_nil,
      decimal-small l g,
      decimal-small k h,
    )

aligned-small : (n : ℕ) → n < 10_000_000_000 → length (aligned (decimal n)) ≤ 12
unfolding aligned
aligned-small n h =
    let m = 2 - length (decimal n) in
    omega (arith, length-append (replicate {A = ℕ} m 32) (decimal n), length-replicate {A = ℕ} m 32, decimal-small n h)

content-small : (l : List ℕ) → length (content l) ≤ length l
unfolding content
content-small l = omega (arith, length-take (run not_lf l) l)

excerpt_small : (t : List ℕ) (l start : ℕ) → l < 10_000_000_000 → length (concat (excerpt_of t l start)) ≤ 20 + length t
excerpt_small t l start h =
    let x1 = ascii "\n  |\n" in
    let x2 = aligned (decimal l) in
    let x3 = ascii " | " in
    let x4 = content (drop start t) in
    omega (
      arith,
      length_cons x1 (x2 ∷ x3 ∷ x4 ∷ []),
      length_cons x2 (x3 ∷ x4 ∷ []),
      length_cons x3 (x4 ∷ []),
      length_cons x4 [],
      length_nil,
      aligned-small l h,
      content-small (drop start t),
      length-drop start t,
    )

caret_small : (k : ℕ) → length (concat (caret_of k)) ≤ 6 + k
caret_small k =
    let x1 = ascii "\n  | " in
    let x2 = replicate {A = ℕ} (k - 1) 32 in
    let x3 = ascii "^" in
    omega (arith, length_cons x1 (x2 ∷ x3 ∷ []), length_cons x2 (x3 ∷ []), length_cons x3 [], length_nil, length-replicate {A = ℕ} (k - 1) 32)

pub fields-small : (t : List ℕ) (n d c l k start : ℕ) → l < 10_000_000_000 → k < 10_000_000_000 → length (concat (fields_of t n d c l k start)) ≤ 159 + length t + k
fields-small t n d c l k start g h =
    let h1 = heading_of n d c in
    let h2 = place_of l k in
    let h3 = excerpt_of t l start in
    let h4 = caret_of k in
    omega (
      arith,
      length_fields h1 (h2 ++ (h3 ++ h4)),
      length_fields h2 (h3 ++ h4),
      length_fields h3 h4,
      heading_small n d c,
      place-small l k g h,
      excerpt_small t l start g,
      caret_small k,
    )

-- the message of a failure is a count
pub message-counts : (t : List ℕ) (f : FailureIn) → Printable t f → f.line < 10_000_000_000 → 0 + length (message_in t f) < 2 ^ 64
message-counts t f p l =
    let s = fields-small t f.code f.detail f.found f.line f.column (f.position + 1 - f.column) l (omega (arith, p.3, p.4, p.6)) in
    omega (arith, s, p.3, p.4, p.6, ap length (message-fields t f.code f.detail f.found f.position f.line f.column))

-- A message printed part by part: the room that each part finds, and the whole.
module _ {P : Type 0} {fits : P → ℕ → Type 0} {prints : P → List ℕ → P → Type 0} (laws : PrinterLaws fits prints) (t : List ℕ) (f : FailureIn) where
  abbrev heading : List (List ℕ)
  heading = heading_of f.code f.detail f.found

  abbrev place : List (List ℕ)
  place = place_of f.line f.column

  abbrev excerpt : List (List ℕ)
  excerpt = excerpt_of t f.line (f.position + 1 - f.column)

  abbrev caret : List (List ℕ)
  caret = caret_of f.column

  whole : concat (heading ++ (place ++ (excerpt ++ caret))) ≡ message_in t f
  whole = message-fields t f.code f.detail f.found f.position f.line f.column

  all_fits : {p : P} → fits p (length (message_in t f)) → fits p (length (concat (heading ++ (place ++ (excerpt ++ caret)))))
  all_fits r = fits_as laws (ap length (sym whole)) r

  pub heading_fits : {p : P} → fits p (length (message_in t f)) → fits p (length (concat heading))
  heading_fits r = fields_front laws heading (place ++ (excerpt ++ caret)) (all_fits r)

  behind_heading : {p q : P} → fits p (length (message_in t f)) → prints p (concat heading) q → fits q (length (concat (place ++ (excerpt ++ caret))))
  behind_heading r m = fields_back laws heading (place ++ (excerpt ++ caret)) (all_fits r) m

  pub place_fits : {p q : P} → fits p (length (message_in t f)) → prints p (concat heading) q → fits q (length (concat place))
  place_fits r m = fields_front laws place (excerpt ++ caret) (behind_heading r m)

  behind_place : {p q r : P} → fits p (length (message_in t f)) → prints p (concat heading) q → prints q (concat place) r → fits r (length (concat (excerpt ++ caret)))
  behind_place r m n = fields_back laws place (excerpt ++ caret) (behind_heading r m) n

  pub excerpt_fits : {p q r : P} → fits p (length (message_in t f)) → prints p (concat heading) q → prints q (concat place) r → fits r (length (concat excerpt))
  excerpt_fits r m n = fields_front laws excerpt caret (behind_place r m n)

  pub caret_fits : {p q r s : P} → fits p (length (message_in t f)) → prints p (concat heading) q → prints q (concat place) r → prints r (concat excerpt) s → fits s (length (concat caret))
  caret_fits r m n o = fields_back laws excerpt caret (behind_place r m n) o

  pub message_printed : {p q r s u : P} → prints p (concat heading) q → prints q (concat place) r → prints r (concat excerpt) s → prints s (concat caret) u → prints p (message_in t f) u
  message_printed m n o v =
      prints_as laws whole (print_both laws heading (place ++ (excerpt ++ caret)) m (print_both laws place (excerpt ++ caret) n (print_both laws excerpt caret o v)))
