-- `planning::plan_edit` meets its contract.
use Rattle.std.proofs.Common.{arith}
use Rattle.std.proofs.lemmas.Result.{err_from_is_err_and}
use Rattle.header.specs.Pages.{lent_page}
use Rattle.plans.specs.Plans.{lent_edit}
use Rattle.planning.proofs.Edits.{may-begin, no_line, within, starts, stop-fits, stop-plan, end-fits, end-plan, unread-plan}
use Rattle.planning.proofs.plan_edit.Goals as goal

pub begin_line-requires : goal.begin_line-requires
begin_line-requires c =
    let a = c.args in
    let q = c.requires in
    let w = may-begin (lent_page a.page) (lent_edit a.edit) q.page_fits q.in_range q.edited_value in
    (omega (arith, w.0, q.in_range.0), w.1)

pub returns-in_default : goal.returns-in_default
returns-in_default c =
    let a = c.args in
    let q = c.requires in
    no_line (lent_page a.page) (lent_edit a.edit) q.page_fits q.in_range q.edited_value c.in_default.ensures

pub before_line-begin-requires : goal.before_line-begin-requires
before_line-begin-requires c =
    let a = c.args in
    let q = c.requires in
    let w = within (lent_page a.page) (lent_edit a.edit) q.page_fits q.in_range q.edited_value c.in-Some.ensures in
    (omega (arith, w.0, w.1), omega (arith, w.0, w.2))

pub load_state-state-requires-clause-i_in_bounds : goal.load_state-state-requires-clause-i_in_bounds
load_state-state-requires-clause-i_in_bounds c =
    let a = c.args in
    let q = c.requires in
    let w = within (lent_page a.page) (lent_edit a.edit) q.page_fits q.in_range q.edited_value c.in-Some.ensures in
    (omega (arith, w.0, w.1), omega (arith, w.0, w.2))

pub reread_from-requires-clause-within : goal.reread_from-requires-clause-within
reread_from-requires-clause-within c =
    let a = c.args in
    let q = c.requires in
    let w = within (lent_page a.page) (lent_edit a.edit) q.page_fits q.in_range q.edited_value c.in-Some.ensures in
    (w.0, w.2)

pub reread_from-requires-clause-start_bound : goal.reread_from-requires-clause-start_bound
reread_from-requires-clause-start_bound c =
    let a = c.args in
    let q = c.requires in
    let s = starts (lent_page a.page) (lent_edit a.edit) q.page_fits q.in_range q.edited_value c.in-Some.ensures in
    (s.0, (s.1, q.in_range.1.1))

pub returns-in_err-read : goal.returns-in_err-read
returns-in_err-read c =
    let a = c.args in
    let q = c.requires in
    let p = err_from_is_err_and c.from_residual.result c.from_residual.ensures.1 in
    rw (p.1, p.2) (unread-plan (lent_page a.page) (lent_edit a.edit) q.page_fits q.in_range q.edited_value c.in-Some.ensures c.load_state-state.ensures c.reread_from.new.state c.in_err-read.ensures)

pub plan_stop-requires-clause-within : goal.plan_stop-requires-clause-within
plan_stop-requires-clause-within c =
    let a = c.args in
    let q = c.requires in
    let w = within (lent_page a.page) (lent_edit a.edit) q.page_fits q.in_range q.edited_value c.in-Some.ensures in
    let f = stop-fits (lent_page a.page) (lent_edit a.edit) q.page_fits q.in_range q.edited_value c.in-Some.ensures c.load_state-state.ensures c.reread_from.new.state (rw c.in-Stop.is at c.in_ok-read.ensures) in
    (f.0, (w.1, w.2))

pub plan_stop-requires-clause-small : goal.plan_stop-requires-clause-small
plan_stop-requires-clause-small c =
    let a = c.args in
    let q = c.requires in
    let f = stop-fits (lent_page a.page) (lent_edit a.edit) q.page_fits q.in_range q.edited_value c.in-Some.ensures c.load_state-state.ensures c.reread_from.new.state (rw c.in-Stop.is at c.in_ok-read.ensures) in
    rw c.before_line-begin.ensures f.1

pub plan_end-requires-clause-small : goal.plan_end-requires-clause-small
plan_end-requires-clause-small c =
    let a = c.args in
    let q = c.requires in
    rw c.before_line-begin.ensures (end-fits (lent_page a.page) (lent_edit a.edit) q.page_fits q.in_range q.edited_value c.in-Some.ensures c.load_state-state.ensures c.reread_from.new.state (rw c.in-End.is at c.in_ok-read.ensures) c.levels.ensures.value)

pub returns-in-Stop : goal.returns-in-Stop
returns-in-Stop c =
    let a = c.args in
    let q = c.requires in
    rw (c.plan_stop.ensures, c.before_line-begin.ensures) (stop-plan (lent_page a.page) (lent_edit a.edit) q.page_fits q.in_range q.edited_value c.in-Some.ensures c.load_state-state.ensures c.reread_from.new.state (rw c.in-Stop.is at c.in_ok-read.ensures) (omega (arith, c.ranges.page)))

pub returns-in-End : goal.returns-in-End
returns-in-End c =
    let a = c.args in
    let q = c.requires in
    rw (c.plan_end.ensures, c.before_line-begin.ensures) (end-plan (lent_page a.page) (lent_edit a.edit) q.page_fits q.in_range q.edited_value c.in-Some.ensures c.load_state-state.ensures c.reread_from.new.state (rw c.in-End.is at c.in_ok-read.ensures) c.levels.ensures.value (omega (arith, c.ranges.page)))
