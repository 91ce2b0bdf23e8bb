-- `message::message_size` meets its contract.
use native.Mathlib.Omega.{arith}
use Rattle.message.proofs.Whole.{message-counts}
use Rattle.message.proofs.message_size.Goals as goal

pub print_message-requires-clause-fits : goal.print_message-requires-clause-fits
print_message-requires-clause-fits c = message-counts c.args.text.now c.args.f c.requires (omega arith)
