-- `report::put_failure` meets its contract.
use mathlib.Core.Path.{refl}
use native.Mathlib.Omega.{arith}
use Rattle.message.specs.Messages.{message_in}
use Rattle.report.proofs.Reports.{short-answer, message-answer}
use Rattle.report.proofs.put_failure.Goals as goal

pub put_message-requires : goal.put_message-requires
put_message-requires c = record { printable = c.requires; f_in_bounds = omega (arith, c.message_size-size.ensures, c.if-out-size.false) }

pub returns-then-out-size : goal.returns-then-out-size
returns-then-out-size c =
    let a = c.args in
    let p = c.message_size-size in
    let met = short-answer a.out.now (message_in a.text.now a.f) p.result p.ensures _ refl c.if-out-size.true in
    record { result_value = met.0; out_after = met.1 }

pub returns : goal.returns
returns c =
    let a = c.args in
    let p = c.message_size-size in
    let met = message-answer a.out.now (message_in a.text.now a.f) p.result p.ensures _ _ refl c.if-out-size.false c.put_message.ensures.out_after in
    record { result_value = met.0; out_after = met.1 }
