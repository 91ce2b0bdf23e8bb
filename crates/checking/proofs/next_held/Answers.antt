-- `checking::next_held` meets its contract.
use Rattle.std.proofs.Common.{◌≡◌, sym, ap, ◌∙◌, subst, Bool, true, false, not, ◌&&◌, true≢false, drop, length-drop, arith}
use Rattle.rules.specs.Line.{LineReply}
use Rattle.rules.specs.Reading.{not_lf}
use Rattle.rules.proofs.ListLaws.{and_right, run-le}
use Rattle.records.specs.Sinks.{Compares}
use Rattle.line.specs.LineCuts.{tokens_in, Taken}
use Rattle.lines.proofs.Lines.{line_read, next_start, lent-line}
use Rattle.checking.specs.Held.{line_holds}
use Rattle.checking.proofs.Next.{record-differs, tokens-differ, not-read}
use Rattle.checking.proofs.next_held.Goals as goal

pub slice_bounds-read_line_until_over-end : goal.slice_bounds-read_line_until_over-end
slice_bounds-read_line_until_over-end c =
    let t = c.args.text.now in
    let p = c.args.place.start in
    omega (arith, c.line_end-end.ensures, c.requires.start_in_bounds.0, run-le not_lf (drop p t), length-drop p t)

pub returns-then-not-same : goal.returns-then-not-same
returns-then-not-same c =
    let a = c.args in
    record-differs a.place _ a.lines.now a.tokens.now _ c.put_line.ensures (sym c.same.ensures ∙ c.if-not-same.true)

pub returns-in_default : goal.returns-in_default
returns-in_default c =
    let a = c.args in
    let x = c.in_default.ensures in
    ap (line_holds a.place a.state.now a.lines.now a.tokens.now) (lent-line _ _ _ _ _ c.line_end-end.ensures)
    ∙ not-read a.place _ a.lines.now _ c.read_line_until_over.new.tokens _ c.in_default.field-0 c.read_line_until_over.new.state x.value x.taken

-- of two tests of which the first holds, and not both, the second does not
other : (a b : Bool) → a ≡ true → (a && b) ≡ false → b ≡ false
other true b e f = f
other false b e f = absurd (true≢false (sym e))

pub returns-then-not-both_same : goal.returns-then-not-both_same
returns-then-not-both_same c =
    let a = c.args in
    ap (line_holds a.place a.state.now a.lines.now a.tokens.now) (lent-line _ _ _ _ _ c.line_end-end.ensures)
    ∙ tokens-differ a.place _ a.lines.now _ c.read_line_until_over.new.tokens _ c.in-Ok.ensures.taken
    (other _ _ (sym c.same.ensures ∙ c.if-not-same.false) (sym c.both_same.ensures ∙ c.if-not-both_same.true))

pub returns : goal.returns
returns c =
    let a = c.args in
    let e = lent-line _ _ _ _ _ c.line_end-end.ensures in
    let x = line_read c.read_line_until_over.new.state _ _ (c.in-Ok.ensures.value (ap not (and_right _ _ (sym c.both_same.ensures ∙ c.if-not-both_same.false)))) in (
      (x.0, e ∙ x.1, x.2, c.past_lf.ensures ∙ next_start a.text.now a.place.start _ c.requires.start_in_bounds.0 c.line_end-end.ensures),
      c.put_line.ensures,
      subst (λ (y : LineReply). Taken (Compares a.tokens.now c.read_line_until_over.new.tokens) a.place (tokens_in y)) (sym e) c.in-Ok.ensures.taken,
    )
