-- `scanning::put_failure` meets its contract.
use mathlib.Core.Path.{ap, ◌∙◌}
use mathlib.Core.List.{List}
use Prim.Native.Nat.{ℕ}
use native.Mathlib.Omega.{arith}
use lib.ListN.{set}
use Rattle.laws.proofs.Sets.{sets_snoc}
use Rattle.message.specs.Messages.{message_in}
use Rattle.scanning.proofs.put_failure.Goals as goal

pub returns-clause-out_after : goal.returns-clause-out_after
returns-clause-out_after c =
    let p = c.put_message-size in
    ap (λ (l : List ℕ). set l p.result 10) p.ensures.out_after
    ∙ sets_snoc (message_in c.args.text.now c.args.f) c.args.out.now 0 p.result 10 (omega (arith, p.ensures.value))
