use Rattle.std.proofs.Common.{◌∙◌, map, subst, subst₂, sym, ap, lit<}
use Rattle.std.specs.Str.Iter.{split_text, split_has_more, split_pattern}
use Rattle.std.proofs.lemmas.Iterator.Consumers.{YieldsList-end}
use Rattle.std.proofs.lemmas.Iterator.Splits.{YieldsList-from_str_split}
use Rattle.std.proofs.lemmas.List.{map_push}
use Rattle.replay.specs.Units.{SpellsRuns}
use Rattle.replay.proofs.Runs.{SpellsRuns-push}
use Rattle.replay.proofs.fields.Fields.buffer.Goals as goal

pub loop-run-preserved : goal.loop-run-preserved
loop-run-preserved g c =
    let put = c.in_ok-put_run.ensures in
    let more = SpellsRuns-push g.T.Unit.spells (map (λ run. run.now) c.loop-run.yielded) c.in-Some.run'.now c.loop-run.units.items put.0 c.loop-run.invariant put.2 in
    subst₂ (SpellsRuns g.T.Unit.spells) (sym (map_push (λ run. run.now) c.loop-run.yielded c.in-Some.run')) (sym put.1) more

pub returns-clause-spelled : goal.returns-clause-spelled
returns-clause-spelled g c =
    let e = c.into_iter-run-iterator.ensures.into_iter_gives in
    let split = c.split-run-items.ensures in
    let runs = YieldsList-from_str_split 44 c.in_ok-next.field-0.now (lit< tt) (ap split_text e ∙ split.text) (ap split_has_more e ∙ split.has_more)
    (ap split_pattern e ∙ split.pattern) in
    let all = YieldsList-end runs c.loop-run.yielded _ c.loop-run.yielded_by _ _ c.in-None.is c.next-in-loop-run.ensures.steps in
    (c.in_ok-next.field-0.now, c.in_ok-next.ensures.field, subst (λ runs. SpellsRuns g.T.Unit.spells runs c.loop-run.units.items) all.0 c.loop-run.invariant)
