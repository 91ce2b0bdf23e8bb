-- `history::apply_edits` meets its contract. The edits so far are applied.
use Prim.Native.Nat.{ℕ, ◌+◌}
use mathlib.Core.Path.{sym, ap, subst, ◌∙◌}
use mathlib.Core.List.{List}
use native.Mathlib.Omega.{arith}
use lib.ListN.{take}
use lib.Seq.{take_all}
use Rattle.rules.specs.Records.{Header, header}
use Rattle.fresh_page.proofs.FreshPages.{fresh_short}
use Rattle.header.specs.Pages.{header_of}
use Rattle.editing.specs.Answers.{edit_numbers, lent}
use Rattle.history.specs.Lists.{edits_of, Happened}
use Rattle.history.specs.declared.Listed.{Listed}
use Rattle.history.proofs.Lists.{SoFar, none_yet, one_more, happened, small-last, fresh_refused, fresh_roomy}
use Rattle.history.proofs.apply_edits.Goals as goal

pub returns-in-Err : goal.returns-in-Err
returns-in-Err c =
    let a = c.args in
    let f = c.in-Err.ensures in
    record {
      happened = λ h. absurd (fresh_refused a.lines.now _ f.result_value h);
      last_value = λ h. (f.result_value, ap (λ (l : List ℕ). lent (header 0 0 0) a.text.now a.spare.now l a.tokens.now) (f.lines_after ∙ sym (fresh_short a.lines.now h).1));
    }

pub loop-e-init : goal.loop-e-init
loop-e-init c = none_yet c.args.text.now c.args.spare.now c.fresh.new.lines c.args.tokens.now c.args.bytes.now

pub header_after-head-requires : goal.header_after-head-requires
header_after-head-requires c =
    let a = c.args in
    let l = c.loop-e in
    let v = one_more a.text.now a.spare.now c.fresh.new.lines a.tokens.now a.bytes.now a.edits.now l.e-index _ c.loop-e-test.true l.invariant _ _ c.edit_listed-last.ensures in
    small-last a.text.now a.spare.now c.fresh.new.lines a.tokens.now a.bytes.now a.lines.now (fresh_roomy a.lines.now _ c.in_default.not-Err c.fresh.ensures.result_value) c.fresh.ensures.lines_after (header_of l.head) _ _ _ _ c.edit_listed-last.result v

pub loop-e-preserved : goal.loop-e-preserved
loop-e-preserved c =
    let a = c.args in
    let l = c.loop-e in
    let d = c.edit_listed-last in
    let v = one_more a.text.now a.spare.now c.fresh.new.lines a.tokens.now a.bytes.now a.edits.now l.e-index _ c.loop-e-test.true l.invariant _ _ d.ensures in
    subst (λ (h : Header). SoFar a.text.now a.spare.now c.fresh.new.lines a.tokens.now a.bytes.now (take (l.e-index + 1) a.edits.now) (edit_numbers d.result) (lent h d.new.text d.new.spare d.new.lines d.new.tokens)) (sym c.header_after-head.ensures) v

pub returns : goal.returns
returns c =
    let a = c.args in
    let l = c.loop-e in
    let all = take_all l.e-index a.edits.now (omega (arith, c.loop-e-test.false)) in
    let room = fresh_roomy a.lines.now _ c.in_default.not-Err c.fresh.ensures.result_value in
    record {
      happened = λ h. subst (λ (es : List Listed). Happened (lent (header 0 0 0) a.text.now a.spare.now a.lines.now a.tokens.now) (edits_of es a.bytes.now) (edit_numbers l.last) (lent (header_of l.head) l.text l.spare l.lines l.tokens)) all
          (happened a.text.now a.spare.now c.fresh.new.lines a.tokens.now a.bytes.now a.lines.now h c.fresh.ensures.lines_after l.invariant);
      last_value = λ h. absurd (omega (arith, h, room));
    }
