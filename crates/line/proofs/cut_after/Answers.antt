-- `line::cut_after` meets its contract.
use Rattle.std.proofs.Common.{ℕ, ◌≡◌, ◌+◌, ◌≤◌, sym, ◌∙◌, List, length, arith, Ok}
use Rattle.rules.specs.Line.{cuts_from}
use Rattle.rules.proofs.ListLaws.{and_right}
use Rattle.levels.specs.Levels.{leading, Within}
use Rattle.levels.specs.declared.Lead.{Lead}
use Rattle.levels.proofs.Leading.{lead_le}
use Rattle.line.specs.LineCuts.{line_cuts_of}
use Rattle.line.specs.declared.Ends.{Ends}
use Rattle.line.proofs.Whole.{line-ends, few-tokens, room-inside, room-end, whole-ends, whole-over, whole-fails}
use Rattle.line.proofs.cut_after.Goals as goal

-- so few tokens stand at a line's start, and in its cuts
few : (lead : Lead) (line : List ℕ) (depth m : ℕ) (e : Ends) → Within (Ok lead) → length line ≤ 1_048_576 → m ≡ length (leading lead) → Ok e ≡ line_cuts_of depth (cuts_from 0 0 line) → m + e.count ≤ 1_048_592
few lead line depth m e w h is q =
    let t = line-ends depth (cuts_from 0 0 line) e q in
    omega (arith, h, is, lead_le lead w, t.2, few-tokens line t.0 t.1)

pub overflow_add-count : goal.overflow_add-count
overflow_add-count g c =
    omega (arith, few c.args.lead c.args.line.now c.depth.result _ c.in_ok-end.end c.requires.lead_bound.0 (omega (arith, c.requires.line_bound.0)) c.put_leading-leading.ensures.value (c.in_ok-end.ensures.value (sym c.ends_early.ensures ∙ c.if-ends_early.false)))

pub overflow_add-result : goal.overflow_add-result
overflow_add-result g c =
    omega (arith, few c.args.lead c.args.line.now c.depth.result _ c.in_ok-end.end c.requires.lead_bound.0 (omega (arith, c.requires.line_bound.0)) c.put_leading-leading.ensures.value (c.in_ok-end.ensures.value (sym c.ends_early.ensures ∙ c.if-ends_early.false)))

pub cut_line-requires-clause-room : goal.cut_line-requires-clause-room
cut_line-requires-clause-room g c =
    let a = c.args in
    let m = c.put_leading-leading.ensures in
    room-inside g.S.RecordSink.laws a.lead a.line.now a.place m.value m.taken (cuts_from 0 0 a.line.now) c.requires.room

pub put_token-requires-clause-fits : goal.put_token-requires-clause-fits
put_token-requires-clause-fits g c =
    let a = c.args in
    let m = c.put_leading-leading.ensures in
    let t = line-ends c.depth.result (cuts_from 0 0 a.line.now) c.in_ok-end.end (c.in_ok-end.ensures.value (sym c.ends_early.ensures ∙ c.if-ends_early.false)) in
    room-end g.S.RecordSink.laws a.lead a.line.now a.place m.value m.taken t.0 t.2 _ (cuts_from 0 0 a.line.now) t.1 c.requires.room c.cut_line.ensures.taken

pub returns-clause-taken : goal.returns-clause-taken
returns-clause-taken g c =
    let a = c.args in
    let m = c.put_leading-leading.ensures in
    let t = line-ends c.depth.result (cuts_from 0 0 a.line.now) c.in_ok-end.end (c.in_ok-end.ensures.value (sym c.ends_early.ensures ∙ c.if-ends_early.false)) in
    whole-ends g.S.RecordSink.laws a.lead a.line.now a.place m.value m.taken t.0 t.2 (cuts_from 0 0 a.line.now) t.1 c.cut_line.ensures.taken c.put_token.ensures

pub returns-then-ends_early-clause-taken : goal.returns-then-ends_early-clause-taken
returns-then-ends_early-clause-taken g c =
    let a = c.args in
    let m = c.put_leading-leading.ensures in
    whole-over g.S.RecordSink.laws a.lead a.line.now a.place m.value m.taken (cuts_from 0 0 a.line.now) c.cut_line.ensures.taken
    (λ at xs. g.S.RecordSink.over_law _ at xs (and_right _ _ (sym c.ends_early.ensures ∙ c.if-ends_early.true)))

pub returns-in_err-end-clause-taken : goal.returns-in_err-end-clause-taken
returns-in_err-end-clause-taken g c =
    let a = c.args in
    let m = c.put_leading-leading.ensures in
    whole-fails g.S.RecordSink.laws a.lead a.line.now a.place m.value m.taken _ c.depth.result _ (cuts_from 0 0 a.line.now) c.in_err-end.ensures.value
    (λ o at xs. g.S.RecordSink.over_law _ at xs (and_right _ _ o)) c.cut_line.ensures.taken
