-- The header of a reading fits.
use Rattle.std.proofs.Common.{arith}
use Rattle.walk_tokens.proofs.Accepted.{answer-fits}
use Rattle.walk_tokens.proofs.walk_text.Goals as goal

pub page_of-page-requires : goal.page_of-page-requires
page_of-page-requires g c =
    let (n, (m, (k, room))) = answer-fits c.args.text.now _ _ _ _ _ c.in-Ok.ensures.result_value in
    (n, (m, (k, omega (arith, room, c.read.auto.tokens))))
