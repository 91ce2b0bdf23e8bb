use Rattle.std.proofs.Common.{refl, rules}
use Rattle.replay.specs.Fields.{SpellsNumber}
use Rattle.replay.proofs.Each.{SpellsEach-push}
use Rattle.replay.proofs.fields.Fields.numbers.Goals as goal

pub loop-preserved : goal.loop-preserved
loop-preserved c = record {
  count = search rules;
  spelled = SpellsEach-push SpellsNumber _ _ _ _ _ _ _ c.loop.invariant.spelled c.in_ok-number.ensures.spelled refl c.in_ok-push.ensures.items c.in_ok-number.ensures.rest;
}
