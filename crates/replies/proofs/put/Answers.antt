-- `replies::put` meets its contract.
use native.Mathlib.Omega.{arith}
use Rattle.replies.proofs.Fronts.{front}
use Rattle.replies.proofs.put.Goals as goal

pub returns-clause-reply_after : goal.returns-clause-reply_after
returns-clause-reply_after g c =
    front g.row.N c.args.words c.args.reply.now _ c.copy_from_slice.ensures.after c.copy_from_slice.ensures.len (omega (arith, c.requires, c.told-reply))
