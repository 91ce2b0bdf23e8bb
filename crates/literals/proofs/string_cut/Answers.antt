-- `literals::string_cut` meets its contract.
use Prim.Native.Nat.{ℕ}
use mathlib.Core.Path.{sym, ap, ◌∙◌}
use native.Mathlib.Omega.{arith}
use Rattle.rules.specs.Failure.{failure, unterminated_string}
use Rattle.rules.specs.Cut.{Cut, fails}
use Rattle.rules.proofs.CutLaws.{string_token, string_open}
use Rattle.rules.specs.Cut.{in_string}
use Rattle.literals.proofs.string_cut.Goals as goal

-- a failure of this size
abbrev open-string : ℕ → Cut
open-string n = fails (failure unterminated_string 0 0 n)

pub returns-then-end-line : goal.returns-then-end-line
unfolding in_string
returns-then-end-line c =
    let a = c.args in
    sym (string_token a.line.now a.at c.find_byte-end.result (omega arith) c.find_byte-end.ensures (omega arith))

pub returns-then-at-trimmed : goal.returns-then-at-trimmed
unfolding in_string
returns-then-at-trimmed c =
    let a = c.args in
    sym (string_open a.line.now a.at c.find_byte-end.result (omega arith) c.find_byte-end.ensures (omega arith) ∙ ap open-string (omega (arith, c.trimmed_end-trimmed.ensures)))

pub returns-else-at-trimmed : goal.returns-else-at-trimmed
unfolding in_string
returns-else-at-trimmed c =
    let a = c.args in
    sym (string_open a.line.now a.at c.find_byte-end.result (omega arith) c.find_byte-end.ensures (omega arith) ∙ ap open-string (omega (arith, c.trimmed_end-trimmed.ensures)))
