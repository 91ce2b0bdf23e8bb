-- `print::LentPrinter::put_fill` meets its contract.
use mathlib.Core.Path.{refl, ap, ◌∙◌}
use Prim.Native.Nat.{ℕ}
use native.Mathlib.Omega.{arith}
use lib.ListN.{replicate, length-replicate}
use Rattle.print.proofs.Prints.{run_put, part_length}
use Rattle.print.proofs.LentPrinter.put_fill.Goals as goal

pub returns : goal.returns
returns c =
    let o = c.args.self.now in
    let l = length-replicate c.args.count c.args.byte in
    record { same = refl; size = omega (arith, l); written = run_put o.out.now (replicate c.args.count c.args.byte) _ o.size _ (c.fill.ensures.after (λ y e. e) ∙ ap (λ (k : ℕ). replicate k c.args.byte) (part_length o.out.now o.size c.args.count _ (omega arith) c.requires)) (omega (arith, l)) (omega (arith, l, c.requires)) }
