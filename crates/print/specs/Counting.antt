-- A count's laws.
-- Assumes nothing.
use native.Mathlib.Omega.{arith}
use lib.ListN.{length-append}
use Rattle.print.specs.Printers.{PrinterLaws, count_fits, Counts}

pub count_laws : PrinterLaws count_fits Counts
count_laws = record {
  nothing = λ p. omega arith;
  joined = λ p q r xs ys m n. omega (arith, m, n, length-append xs ys);
  takes = λ p q xs n m h. omega (arith, m, h);
  fewer = λ p n k l h. omega (arith, l, h);
}
