use Rattle.std.proofs.Common.{◌∙◌, map, subst, subst₂, sym, ap, lit<, rules}
use Rattle.std.specs.Str.Iter.{split_text, split_has_more, split_pattern}
use Rattle.std.proofs.lemmas.Iterator.Consumers.{YieldsList-end}
use Rattle.std.proofs.lemmas.Iterator.Splits.{YieldsList-from_str_split}
use Rattle.std.proofs.lemmas.List.{map_push}
use Rattle.std.proofs.lemmas.Str.Pattern.{strip_suffix_char}
use Rattle.replay.specs.Units.{SpellsRuns}
use Rattle.replay.proofs.Runs.{SpellsRuns-push, terminated}
use Rattle.replay.proofs.fields.Fields.recorded_buffer.Goals as goal

pub loop-run-preserved : goal.loop-run-preserved
loop-run-preserved g c =
    let put = c.in_ok-put_recorded_run.ensures.spelled in
    let more = SpellsRuns-push g.T.Recorded.recorded (map (λ run. run.now) c.loop-run.yielded) c.in-Some.run'.now c.loop-run.units.items put.0 c.loop-run.invariant.spelled put.2 in
    record {
      spelled = subst₂ (SpellsRuns g.T.Recorded.recorded) (sym (map_push (λ run. run.now) c.loop-run.yielded c.in-Some.run')) (sym put.1) more;
      fits = c.in_ok-put_recorded_run.ensures.fits;
    }

pub returns-clause-spelled : goal.returns-clause-spelled
returns-clause-spelled g c =
    let field = c.in_ok-field.field in
    let e = c.into_iter-run-iterator.ensures.into_iter_gives in
    let split = c.split-run-items.ensures in
    let cut = YieldsList-from_str_split 44 c.unwrap_or.result.now (lit< tt) (ap split_text e ∙ split.text) (ap split_has_more e ∙ split.has_more)
    (ap split_pattern e ∙ split.pattern) in
    let all = YieldsList-end cut c.loop-run.yielded _ c.loop-run.yielded_by _ _ c.in-None.is c.next-in-loop-run.ensures.steps in
    let runs = terminated field c.unwrap_or.result c.strip_suffix.result (strip_suffix_char 44 field.now c.strip_suffix.result c.strip_suffix.ensures.cases (lit< tt))
    c.unwrap_or.ensures in
    let spelled = subst (λ runs. SpellsRuns g.T.Recorded.recorded runs c.loop-run.units.items) all.0 c.loop-run.invariant.spelled in
    (field.now, c.in_ok-field.ensures.field, (λ none. search (rules, none), λ some. (c.unwrap_or.result.now, runs, spelled)))
