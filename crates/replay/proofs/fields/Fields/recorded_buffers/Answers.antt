use Rattle.std.proofs.Common.{◌≡◌, ◌∙◌, subst, arith, rules}
use Rattle.replay.specs.Fields.{left, SpellsEach}
use Rattle.replay.specs.Units.{RecordsBuffer}
use Rattle.replay.proofs.Each.{SpellsEach-push}
use Rattle.replay.proofs.fields.Fields.recorded_buffers.Goals as goal

pub loop-preserved : goal.loop-preserved
loop-preserved g c =
    let read = c.in_ok-recorded_buffer.ensures.spelled in
    record {
      count = search rules;
      spelled = SpellsEach-push (λ field units. RecordsBuffer g.T.Recorded.recorded field units.items) _ _ _ _ _ _ read.0
          c.loop.invariant.spelled read.1 read.2 c.in_ok-push.ensures.items c.in_ok-recorded_buffer.ensures.rest;
    }

pub returns : goal.returns
returns g c =
    let ended : c.loop.counter ≡ c.min-end.result = omega (arith, c.loop-test.false, c.loop.auto.counter-end) in (
      c.in_ok-number.field-0,
      c.in_ok-number.ensures.spelled,
      c.loop.invariant.count ∙ (ended ∙ c.min-end.ensures),
      subst (λ rest. SpellsEach (λ field units. RecordsBuffer g.T.Recorded.recorded field units.items) rest c.loop.buffers.items (left c.loop.self))
          c.in_ok-number.ensures.rest c.loop.invariant.spelled,
    )
