-- `editing::edit_text` meets its contract.
use Rattle.std.proofs.Common.{rules}
use Rattle.editing.proofs.Edits.{may-splice, records_fit, may_write, held, planned, form_edit, refused-edit, accept_edit}
use Rattle.editing.proofs.edit_text.Goals as goal

pub splice-requires : goal.splice-requires
splice-requires c = let r = c.requires in may-splice _ _ r.page_fits r.in_range r.size_bound

pub returns-in_err-test_text : goal.returns-in_err-test_text
returns-in_err-test_text c =
    let r = c.requires in
    let e = form_edit _ _ r.page_fits r.in_range r.size_bound c.splice.ensures c.barge_limits.ensures c.test_text.ensures _ c.in_err-test_text.was in
    search (rules, e)

pub plan_edit-requires-clause-edited_value : goal.plan_edit-requires-clause-edited_value
plan_edit-requires-clause-edited_value c = let r = c.requires in held _ _ r.page_fits r.in_range r.size_bound c.splice.ensures

pub returns-in_err-plan : goal.returns-in_err-plan
returns-in_err-plan c =
    let r = c.requires in
    let e = refused-edit _ _ r.page_fits r.in_range r.size_bound c.splice.ensures c.barge_limits.ensures c.test_text.ensures c.in_ok-test_text.was _ c.in_err-plan.ensures in
    search (rules, e)

pub write_edit-done-requires-clause-a_le_size : goal.write_edit-done-requires-clause-a_le_size
write_edit-done-requires-clause-a_le_size c = let r = c.requires in may_write _ _ r.page_fits r.in_range r.size_bound c.splice.ensures c.splice.auto.spare

pub write_edit-done-requires-clause-m_in_bounds : goal.write_edit-done-requires-clause-m_in_bounds
write_edit-done-requires-clause-m_in_bounds c = let r = c.requires in records_fit _ _ r.page_fits r.in_range r.size_bound

pub write_edit-done-requires-clause-planned : goal.write_edit-done-requires-clause-planned
write_edit-done-requires-clause-planned c = let r = c.requires in planned _ _ r.page_fits r.in_range r.size_bound c.splice.ensures c.in_ok-plan.ensures

pub returns : goal.returns
returns c =
    let r = c.requires in
    let w = c.write_edit-done.ensures in
    accept_edit _ _ r.page_fits r.in_range r.size_bound c.splice.ensures c.barge_limits.ensures c.test_text.ensures c.in_ok-test_text.was c.in_ok-plan.ensures w.value w.text_after w.lines_after w.tokens_after
