use Rattle.std.proofs.Common.{◌≡◌, ◌∙◌, Some, IsOk, decimal, ap, arith, rules, flat_map}
use Rattle.replay.specs.Fnv.{fnv, fnv_basis}
use Rattle.replay.specs.Units.{SpellsDigest}
use Rattle.replay.proofs.Each.{all_spelled, next_spelled}
use Rattle.replay.proofs.fields.Fields.expect_digests.Goals as goal

pub returns-in_err-expect_number-clause-all_spelled : goal.returns-in_err-expect_number-clause-all_spelled
returns-in_err-expect_number-clause-all_spelled g c after each =
    let next = next_spelled (λ field units. SpellsDigest g.T.Unit.bytes field units.items) _ _ _ _ _ (omega arith) c.buffer-item.is c.loop-buffer.invariant after each in
    let digest : fnv fnv_basis (flat_map g.T.Unit.bytes c.buffer-item.result.items) ≡ c.with.result.0 = cc in
    let ok : IsOk c.expect_number.result = c.expect_number.ensures.spelled.1 (next.1 ∙ ap Some (next.2 ∙ ap decimal digest)) in
    search (rules, ok)

pub returns-clause-spelled : goal.returns-clause-spelled
returns-clause-spelled g c = all_spelled (λ field units. SpellsDigest g.T.Unit.bytes field units.items) _ _ _ _ (omega arith) c.loop-buffer.invariant
