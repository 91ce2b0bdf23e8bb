-- `scanning::put_scan` meets its contract.
use mathlib.Core.Path.{◌≡◌, sym, ap, subst, ◌∙◌}
use native.Mathlib.Omega.{arith}
use borrow.Author.Rules.{rules}
use Rattle.refusals.specs.Unreads.{refusal_of}
use Rattle.rules.specs.Replies.{numbered}
use Rattle.refusals.specs.declared.Refusal.{Refusal}
use Rattle.refusals.specs.declared.Refusal.TheVariants.{Reading}
use Rattle.refusals.specs.declared.Unread.{Unread}
use Rattle.scanning.specs.Shown.{Shows}
use Rattle.scanning.proofs.Sizes.{refused-room}
use Rattle.scanning.proofs.Scans.{shows, never-refused, page-room, page-scanned}
use Rattle.scanning.proofs.put_scan.Goals as goal

pub put_refused-requires : goal.put_refused-requires
put_refused-requires c = refused-room c.args.out.now _ c.requires (omega arith)

pub put_page-requires : goal.put_page-requires
put_page-requires c =
    let e = c.in-Ok.ensures in
    let met = page-room c.args.text.now _ _ (omega arith) (omega arith) (omega arith) _ _ _ _ e.result_value e.tokens_after c.args.out.now c.requires in
    record { n_bound = met.0; room = met.1 }

pub put_unread-requires-clause-shows : goal.put_unread-requires-clause-shows
put_unread-requires-clause-shows c =
    let u = c.in-Err-Reading in
    subst (Shows c.args.text.now) (sym u.u-is)
    (shows c.args.text.now _ _ (omega arith) (omega arith) (omega arith) u.u (ap (λ (r : Refusal). numbered (refusal_of r)) (sym u.field-0-is) ∙ u.ensures.result_value))

pub put_refused-requires-in-Err : goal.put_refused-requires-in-Err
put_refused-requires-in-Err c = refused-room c.args.out.now _ c.requires (omega arith)

pub returns-in-Ok : goal.returns-in-Ok
returns-in-Ok c =
    let e = c.in-Ok.ensures in
    let met = page-scanned c.args.text.now _ _ (omega arith) (omega arith) (omega arith) _ _ _ _ e.result_value e.tokens_after c.args.out.now c.requires c.put_page.ensures.value c.put_page.ensures.out_after in
    record { value = met.0; out_after = met.1 }

pub returns-in-Err : goal.returns-in-Err
returns-in-Err c =
    let r = c.in-Err.field-0 in
    let other : (u : Unread) → r ≡ Reading u → ⊥ = λ u e. search rules in
    absurd (never-refused c.args.text.now _ _ (omega arith) (omega arith) (omega arith) r other c.in-Err.ensures.result_value)
