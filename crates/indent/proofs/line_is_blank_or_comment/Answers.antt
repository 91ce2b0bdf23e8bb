-- `indent::line_is_blank_or_comment` meets its contract.
use Prim.Native.Nat.{ℕ}
use mathlib.Core.Path.{sym, ap, ◌∙◌}
use native.Mathlib.Omega.{arith}
use lib.ListN.{drop}
use Rattle.rules.specs.Tables.{is_blank}
use Rattle.rules.proofs.ListLaws.{run-le}
use Rattle.indent.specs.Indents.{ends_or_comment}
use Rattle.indent.proofs.Indents.{blank-line}
use Rattle.indent.proofs.line_is_blank_or_comment.Goals as goal

pub ends_at-requires : goal.ends_at-requires
ends_at-requires c = omega (arith, c.blank_end.ensures, run-le is_blank c.args.line.now)

pub returns : goal.returns
returns c =
    let l = c.args.line.now in
    c.ends_at.ensures ∙ ap (λ (n : ℕ). ends_or_comment (drop n l)) c.blank_end.ensures ∙ sym (blank-line l)
