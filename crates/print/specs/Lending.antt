-- The laws of a buffer that is lent.
-- Assumes nothing.
use Prim.Native.Nat.{ℕ, ◌+◌}
use mathlib.Core.Path.{refl, sym, ap, ◌∙◌}
use mathlib.Core.List.{List, ◌++◌}
use native.Mathlib.Omega.{arith}
use lib.ListN.{length, length-append}
use lib.Seq.{sets, length-sets}
use Rattle.laws.proofs.Sets.{sets_append}
use Rattle.print.specs.Printers.{PrinterLaws, lent_fits, Writes}
use Rattle.print.specs.declared.Lent.{Lent}

joined : (p q r : Lent) (xs ys : List ℕ) → Writes p xs q → Writes q ys r → Writes p (xs ++ ys) r
joined p q r xs ys m n =
    record {
      same = n.same ∙ m.same;
      size = omega (arith, m.size, n.size, length-append xs ys);
      written = n.written ∙ (λ i. sets (m.written i) (m.size i) ys) ∙ sym (sets_append xs ys p.out.now p.size);
    }

takes : (p q : Lent) (xs : List ℕ) (n : ℕ) → Writes p xs q → lent_fits p (length xs + n) → lent_fits q n
takes p q xs n m h = omega (arith, m.size, h, ap length m.written, length-sets p.out.now p.size xs)

pub lent_laws : PrinterLaws lent_fits Writes
lent_laws = record {
  nothing = λ p. record { same = refl; size = omega arith; written = refl };
  joined = joined;
  takes = takes;
  fewer = λ p n k l h. omega (arith, l, h);
}
