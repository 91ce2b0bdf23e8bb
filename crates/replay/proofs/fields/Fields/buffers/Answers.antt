use Rattle.std.proofs.Common.{◌≡◌, Some, decimal, length, subst, arith, rules}
use Rattle.replay.specs.Fields.{left, next_field, SpellsEach}
use Rattle.replay.specs.Units.{SpellsBuffer}
use Rattle.replay.proofs.Each.{SpellsEach-push}
use Rattle.replay.proofs.fields.Fields.buffers.Goals as goal

pub loop-preserved : goal.loop-preserved
loop-preserved g c =
    let read = c.in_ok-buffer.ensures.spelled in
    record {
      count = search rules;
      spelled = SpellsEach-push (λ field units. SpellsBuffer g.T.Unit.spells field units.items) _ _ _ _ _ _ read.0
          c.loop.invariant.spelled read.1 read.2 c.in_ok-push.ensures.items c.in_ok-buffer.ensures.rest;
    }

pub returns : goal.returns
returns g c =
    let count : c.in_ok-end.end ≡ length c.loop.buffers.items = omega (arith, c.loop.invariant.count) in (
      subst (λ n. next_field (left c.args.self.now) ≡ Some (decimal n)) count c.in_ok-end.ensures.spelled,
      subst (λ rest. SpellsEach (λ field units. SpellsBuffer g.T.Unit.spells field units.items) rest c.loop.buffers.items (left c.loop.self))
          c.in_ok-end.ensures.rest c.loop.invariant.spelled,
    )
