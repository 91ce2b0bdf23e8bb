-- The limits of the code, as the rules have them.
-- Assumes nothing.
use Rattle.rules.specs.Limits as RulesLimits
use Rattle.refusals.specs.declared.bounds.LineLimits.{LineLimits}
use Rattle.refusals.specs.declared.Limits.{Limits}

abbrev pub line_limits_of : LineLimits → RulesLimits.LineLimits
line_limits_of l = record { levels = l.levels; too_deep_number = l.deep }

-- what the lines of a text are held to
abbrev pub line_of : Limits → RulesLimits.LineLimits
line_of l = record { levels = l.levels; too_deep_number = l.deep }

abbrev pub limits_of : Limits → RulesLimits.Limits
limits_of l = record { bytes = l.bytes; too_long_number = l.long; line = line_of l }
