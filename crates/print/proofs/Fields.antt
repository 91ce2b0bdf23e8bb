-- Fields printed one after another: the room that each finds, and the text that they make together.
-- Assumes nothing.
use Prim.Native.Nat.{ℕ, ◌+◌}
use mathlib.Core.Path.{◌≡◌, refl, sym, ap, ◌∙◌, subst}
use mathlib.Core.List.{List, [], ◌∷◌, ◌++◌, append_assoc, append-nil}
use native.Mathlib.Omega.{arith}
use lib.ListN.{length, length-append, replicate, length-replicate}
use Rattle.rules.specs.Lists.{concat}
use Rattle.rules.specs.Report.{digits_in}
use Rattle.print.specs.Printers.{PrinterLaws}
use Rattle.print.proofs.Prints.{length_digits}

pub concat-one : (x : List ℕ) → concat (x ∷ []) ≡ x
unfolding concat
concat-one x = append-nil x

pub concat_append : (xs ys : List (List ℕ)) → concat (xs ++ ys) ≡ concat xs ++ concat ys
unfolding concat
concat_append [] ys = refl
concat_append (x ∷ xs) ys = ap (λ (r : List ℕ). x ++ r) (concat_append xs ys) ∙ sym (append_assoc x (concat xs) (concat ys))

pub length_fields : (xs ys : List (List ℕ)) → length (concat (xs ++ ys)) ≡ length (concat xs) + length (concat ys)
length_fields xs ys = ap length (concat_append xs ys) ∙ length-append (concat xs) (concat ys)

module _ {P : Type 0} {fits : P → ℕ → Type 0} {prints : P → List ℕ → P → Type 0} (laws : PrinterLaws fits prints) where
  pub fits_as : {p : P} {n k : ℕ} → n ≡ k → fits p n → fits p k
  fits_as {p} e f = subst (fits p) e f

  pub prints_as : {p q : P} {x y : List ℕ} → x ≡ y → prints p x q → prints p y q
  prints_as {p} {q} e m = subst (λ (t : List ℕ). prints p t q) e m

  -- One text, and then another.

  pub fits_front : {p : P} (x y : List ℕ) → fits p (length (x ++ y)) → fits p (length x)
  fits_front {p} x y f = laws.fewer p (length (x ++ y)) (length x) (omega (arith, length-append x y)) f

  pub fits_back : {p q : P} (x y : List ℕ) → fits p (length (x ++ y)) → prints p x q → fits q (length y)
  fits_back {p} {q} x y f m = laws.takes p q x (length y) m (fits_as (length-append x y) f)

  -- One field, and then more.

  pub fits_first : {p : P} (x : List ℕ) (xs : List (List ℕ)) → fits p (length (concat (x ∷ xs))) → fits p (length x)
  unfolding concat
  fits_first x xs f = fits_front x (concat xs) f

  pub fits_next : {p q : P} (x : List ℕ) (xs : List (List ℕ)) → fits p (length (concat (x ∷ xs))) → prints p x q → fits q (length (concat xs))
  unfolding concat
  fits_next x xs f m = fits_back x (concat xs) f m

  pub print_then : {p q r : P} (x : List ℕ) (xs : List (List ℕ)) → prints p x q → prints q (concat xs) r → prints p (concat (x ∷ xs)) r
  unfolding concat
  print_then {p} {q} {r} x xs m n = laws.joined p q r x (concat xs) m n

  pub print_last : {p q : P} {x : List ℕ} → prints p x q → prints p (concat (x ∷ [])) q
  print_last {x = x} m = prints_as (sym (concat-one x)) m

  -- Several fields, and then more.

  pub fields_front : {p : P} (xs ys : List (List ℕ)) → fits p (length (concat (xs ++ ys))) → fits p (length (concat xs))
  fields_front xs ys f = fits_front (concat xs) (concat ys) (fits_as (ap length (concat_append xs ys)) f)

  pub fields_back : {p q : P} (xs ys : List (List ℕ)) → fits p (length (concat (xs ++ ys))) → prints p (concat xs) q → fits q (length (concat ys))
  fields_back xs ys f m = fits_back (concat xs) (concat ys) (fits_as (ap length (concat_append xs ys)) f) m

  pub print_both : {p q r : P} (xs ys : List (List ℕ)) → prints p (concat xs) q → prints q (concat ys) r → prints p (concat (xs ++ ys)) r
  print_both {p} {q} {r} xs ys m n = prints_as (sym (concat_append xs ys)) (laws.joined p q r (concat xs) (concat ys) m n)

  -- What a call asks, by the kind of field.

  pub fill_fits : {p : P} (b n : ℕ) → fits p (length (replicate n b)) → fits p n
  fill_fits b n f = fits_as (length-replicate n b) f

  pub digits_fits : {p : P} (base places n : ℕ) → fits p (length (digits_in base places n [])) → fits p places
  digits_fits base places n f = let l = length_digits base places n [] in fits_as (omega (arith, l)) f
