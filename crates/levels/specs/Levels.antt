-- The levels at a line's start, as the rules have them.
-- Assumes nothing.
use Rattle.std.specs.Prelude.{◌≤◌, List, [], ◌∷◌, Result, Ok, Err}
use Rattle.rules.specs.Kinds.{indent}
use Rattle.rules.specs.Line as RulesLine
use Rattle.rules.specs.Line.{State}
use Rattle.rules.specs.Limits.{max_levels}
use Rattle.levels.specs.declared.Lead.{Lead}
use Rattle.levels.specs.declared.Lead.TheVariants.{Indent, Dedents}
use Rattle.levels.specs.declared.Misfit.{Misfit}
use Rattle.levels.specs.declared.Misfit.TheVariants.{Unequal, Beyond}

-- what stands at a line's start: an Indent, or Dedents
abbrev pub leading : Lead → List RulesLine.Token
leading Indent = RulesLine.token_at indent 0 0 ∷ []
leading (Dedents n) = RulesLine.dedents n

-- the answer, with the state that it leaves
abbrev pub compared_of : Result Lead Misfit → State → RulesLine.Levels
compared_of (Ok lead) s = RulesLine.Levels.levels (leading lead) s.widths
compared_of (Err Unequal) s = RulesLine.Levels.unequal
compared_of (Err (Beyond number)) s = RulesLine.Levels.beyond number

-- a state with the widths open after a line's start; as it was where the line is refused
abbrev pub with_widths : RulesLine.Levels → State → State
with_widths (RulesLine.Levels.levels ts now) s = record { depth = s.depth; arrow = s.arrow; widths = now }
with_widths RulesLine.Levels.unequal s = s
with_widths (RulesLine.Levels.beyond number) s = s

-- at most 16 levels are closed
abbrev pub Within : Result Lead Misfit → Type 0
Within (Ok (Dedents n)) = n ≤ max_levels
Within (Ok Indent) = Unit {0}
Within (Err e) = Unit {0}
