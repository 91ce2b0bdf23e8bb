-- `line::read_tokens` meets its contract.
use Rattle.std.proofs.Common.{ℕ, ◌≡◌, sym, ap, ◌∙◌, subst, List, Option, Err}
use Rattle.records.specs.Sinks.{Fits}
use Rattle.std.proofs.lemmas.Result.{err_from_is_err_and}
use Rattle.rules.specs.Failure.{failure, bad_indent}
use Rattle.rules.specs.Line.{Token, State, Levels, levels, unequal, beyond, failed}
use Rattle.levels.specs.Levels.{compared_of, with_widths}
use Rattle.levels.specs.declared.Misfit.{Misfit}
use Rattle.line.specs.LineCuts.{tokens_end, Taken, counted, counted_halts}
use Rattle.line.proofs.Whole.{read-unequal, read-beyond, line-counted, line-failed, line-left, line-tokens}
use Rattle.line.proofs.read_tokens.Goals as goal

depth_kept : (x : Levels) (s z : State) → z ≡ with_widths x s → z.depth ≡ s.depth
depth_kept (levels ts now) s z e = ap (λ (y : State). y.depth) e
depth_kept unequal s z e = ap (λ (y : State). y.depth) e
depth_kept (beyond number) s z e = ap (λ (y : State). y.depth) e

pub cut_after-requires-clause-room : goal.cut_after-requires-clause-room
cut_after-requires-clause-room g c =
    let e = c.in-Ok.ensures in
    subst (λ (ts : Option (List Token)). Fits (g.S.RecordSink.room c.args.tokens.now) (tokens_end c.args.place ts)) (sym (line-tokens _ c.args.state.now c.args.line.now c.in-Ok.lead c.levels_of.new.state (sym e.value) (depth_kept _ _ _ e.after))) c.requires.room

pub returns-in_ok-cut_after-in-Ok-clause-value : goal.returns-in_ok-cut_after-in-Ok-clause-value
returns-in_ok-cut_after-in-Ok-clause-value g c = λ o.
    let e = c.in-Ok.ensures in
    line-counted _ c.args.state.now c.args.line.now c.in-Ok.lead c.levels_of.new.state (sym e.value) (depth_kept _ _ _ e.after) _ _ (c.in_ok-cut_after-in-Ok.ensures.value o)

pub returns-in_ok-cut_after-in-Ok-clause-taken : goal.returns-in_ok-cut_after-in-Ok-clause-taken
returns-in_ok-cut_after-in-Ok-clause-taken g c =
    let e = c.in-Ok.ensures in
    subst (Taken (g.S.RecordSink.takes c.args.tokens.now c.cut_after.new.tokens) c.args.place) (line-tokens _ c.args.state.now c.args.line.now c.in-Ok.lead c.levels_of.new.state (sym e.value) (depth_kept _ _ _ e.after)) c.cut_after.ensures.taken

pub returns-in_err-cut_after-in-Ok-clause-value : goal.returns-in_err-cut_after-in-Ok-clause-value
returns-in_err-cut_after-in-Ok-clause-value g c = λ o.
    let e = c.in-Ok.ensures in
    let p = err_from_is_err_and c.from_residual.result c.from_residual.ensures.1 in
    rw (p.1, p.2) (line-failed _ c.args.state.now c.args.line.now c.in-Ok.lead c.levels_of.new.state (sym e.value) (depth_kept _ _ _ e.after) _ _ (c.in_err-cut_after-in-Ok.ensures.value o))

pub returns-in_err-cut_after-in-Ok-clause-taken : goal.returns-in_err-cut_after-in-Ok-clause-taken
returns-in_err-cut_after-in-Ok-clause-taken g c =
    let e = c.in-Ok.ensures in
    subst (Taken (g.S.RecordSink.takes c.args.tokens.now c.cut_after.new.tokens) c.args.place) (line-tokens _ c.args.state.now c.args.line.now c.in-Ok.lead c.levels_of.new.state (sym e.value) (depth_kept _ _ _ e.after)) c.cut_after.ensures.taken

-- a width that does not fit, by what the levels answer
misfit : {x : Levels} (m n : Misfit) (s : State) → compared_of (Err m) s ≡ x → m ≡ n → x ≡ compared_of (Err n) s
misfit m n s e f = sym e ∙ ap (λ (k : Misfit). compared_of (Err k) s) f

pub returns-in-Err-Unequal-clause-value : goal.returns-in-Err-Unequal-clause-value
returns-in-Err-Unequal-clause-value g c = λ o.
    let u = c.in-Err-Unequal in
    ap (λ (n : ℕ). counted_halts (failed (failure bad_indent 0 0 n))) c.leading_indent_bytes.ensures
    ∙ ap counted (sym (read-unequal _ c.args.state.now c.args.line.now (misfit _ _ c.levels_of.new.state u.ensures.value u.field-0-is)))

pub returns-in-Err-Unequal-clause-taken : goal.returns-in-Err-Unequal-clause-taken
returns-in-Err-Unequal-clause-taken g c =
    let u = c.in-Err-Unequal in
    rw (read-unequal _ c.args.state.now c.args.line.now (misfit _ _ c.levels_of.new.state u.ensures.value u.field-0-is)) tt

pub returns-in-Err-Beyond-clause-value : goal.returns-in-Err-Beyond-clause-value
returns-in-Err-Beyond-clause-value g c = λ o.
    let u = c.in-Err-Beyond in
    rw u.field-0-is (ap counted (sym (read-beyond _ c.args.state.now c.args.line.now _ (misfit _ _ c.levels_of.new.state u.ensures.value u.field-0-is))))

pub returns-in-Err-Beyond-clause-taken : goal.returns-in-Err-Beyond-clause-taken
returns-in-Err-Beyond-clause-taken g c =
    let u = c.in-Err-Beyond in
    rw (read-beyond _ c.args.state.now c.args.line.now _ (misfit _ _ c.levels_of.new.state u.ensures.value u.field-0-is)) tt

pub returns-in_ok-cut_after-in-Ok-clause-left : goal.returns-in_ok-cut_after-in-Ok-clause-left
returns-in_ok-cut_after-in-Ok-clause-left g c = λ o.
    let e = c.in-Ok.ensures in
    line-left _ c.args.state.now c.args.line.now c.in-Ok.lead c.levels_of.new.state (sym e.value) (depth_kept _ _ _ e.after) _ _ (c.in_ok-cut_after-in-Ok.ensures.value o) e.after

pub returns-in_err-cut_after-in-Ok-clause-left : goal.returns-in_err-cut_after-in-Ok-clause-left
returns-in_err-cut_after-in-Ok-clause-left g c = λ o.
    let e = c.in-Ok.ensures in
    line-left _ c.args.state.now c.args.line.now c.in-Ok.lead c.levels_of.new.state (sym e.value) (depth_kept _ _ _ e.after) _ _ (c.in_err-cut_after-in-Ok.ensures.value o) e.after

pub returns-in-Err-Unequal-clause-left : goal.returns-in-Err-Unequal-clause-left
returns-in-Err-Unequal-clause-left g c = λ o.
    let u = c.in-Err-Unequal in
    rw (read-unequal _ c.args.state.now c.args.line.now (misfit _ _ c.levels_of.new.state u.ensures.value u.field-0-is)) u.ensures.after

pub returns-in-Err-Beyond-clause-left : goal.returns-in-Err-Beyond-clause-left
returns-in-Err-Beyond-clause-left g c = λ o.
    let u = c.in-Err-Beyond in
    rw (read-beyond _ c.args.state.now c.args.line.now _ (misfit _ _ c.levels_of.new.state u.ensures.value u.field-0-is)) u.ensures.after
