-- A number in decimal is parsed as itself.
use Rattle.std.proofs.Common.{◌≡◌, Ok, arith, rules}
use Rattle.std.proofs.lemmas.Fmt.{parse-decimal}
use Rattle.replay.proofs.fields.number.Goals as goal

pub returns-in-Ok-clause-all_spelled : goal.returns-in-Ok-clause-all_spelled
returns-in-Ok-clause-all_spelled c value small e =
    let p : c.parse.result ≡ Ok value = parse-decimal 64 value c.args.field.now c.parse.result small small e c.parse.ensures.value.0 in
    let is = c.in-Ok.is in
    grind arith

pub returns-in_default-clause-all_spelled : goal.returns-in_default-clause-all_spelled
returns-in_default-clause-all_spelled c value small e =
    let p : c.parse.result ≡ Ok value = parse-decimal 64 value c.args.field.now c.parse.result small small e c.parse.ensures.value.0 in
    let is = c.in-Ok.is in
    let no = c.if-spelled.false in
    let yes = c.spelled.ensures.1 in
    grind arith

pub returns-in_default-2-clause-all_spelled : goal.returns-in_default-2-clause-all_spelled
returns-in_default-2-clause-all_spelled c value small e =
    let p : c.parse.result ≡ Ok value = parse-decimal 64 value c.args.field.now c.parse.result small small e c.parse.ensures.value.0 in
    search (rules, p)
