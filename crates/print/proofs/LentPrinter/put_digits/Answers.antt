-- `print::LentPrinter::put_digits` meets its contract.
use mathlib.Core.Path.{refl, ◌∙◌, ap}
use Prim.Native.Nat.{ℕ}
use mathlib.Core.List.{[]}
use native.Mathlib.Omega.{arith}
use Rattle.rules.specs.Report.{digits_in}
use Rattle.print.proofs.Prints.{length_digits, run_put, part_length}
use Rattle.print.proofs.LentPrinter.put_digits.Goals as goal

pub returns : goal.returns
returns c =
    let a = c.args in
    let o = a.self.now in
    let l = length_digits a.base a.places a.n [] in
    record {
      same = refl;
      size = omega (arith, l);
      written = run_put o.out.now (digits_in a.base a.places a.n []) _ o.size _ (c.write_digits.ensures ∙ ap (λ (k : ℕ). digits_in a.base k a.n []) (part_length o.out.now o.size a.places _ (omega arith) c.requires.2)) (omega (arith, l)) (omega (arith, l, c.requires.2));
    }
