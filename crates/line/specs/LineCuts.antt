-- The cuts of a line as the code answers and writes them.
-- Assumes nothing.
use Rattle.std.specs.Prelude.{ℕ, ◌+◌, ◌*◌, false, List, [], ◌∷◌, ◌++◌, length, Option, Some, None, Result, Ok, Err}
use Rattle.rules.specs.Failure as RulesFailure
use Rattle.rules.specs.Kinds.{newline}
use Rattle.rules.specs.Line as RulesLine
use Rattle.rules.specs.Line.{Token, token_at, Cuts, cuts, stops, depth_after, arrow_after, State, failed, over_limit, LineReply, line_reads, line_halts, levels_of, read_line}
use Rattle.rules.specs.Limits.{LineLimits}
use Rattle.literals.specs.Cuts.{failure_of}
use Rattle.literals.specs.declared.Failure.{Failure}
use Rattle.rules.specs.Records.{token_size, token_words}
use Rattle.records.specs.declared.Place.{Place}
use Rattle.levels.specs.Levels.{leading, with_widths}
use Rattle.levels.specs.declared.Lead.{Lead}
use Rattle.line.specs.declared.Ends.{Ends}
use Rattle.line.specs.declared.Halt.{Halt}
use Rattle.line.specs.declared.Halt.TheVariants.{Fails, OverLimit}

abbrev pub failure_in : RulesFailure.Failure → Failure
failure_in f = record { detail = f.detail; found = f.found; at = f.at; size = f.size }

-- the number of tokens, the depth after them, whether the last one is an arrow; or the first failure
abbrev pub line_cuts_of : (depth : ℕ) → Cuts → Result Ends Failure
line_cuts_of d (cuts ts) = Ok (record { count = length ts; depth = depth_after d ts; arrow = arrow_after false ts })
line_cuts_of d (stops f) = Err (failure_in f)

-- the tokens of a line that reads
abbrev pub tokens_of : Cuts → Option (List Token)
tokens_of (cuts ts) = Some ts
tokens_of (stops f) = None

-- The sink of the tokens.

-- the index behind those from a place on
abbrev pub tokens_end : Place → Option (List Token) → Option ℕ
tokens_end p (Some ts) = Some (token_size * (p.first + length ts))
tokens_end p None = None

-- it takes them
abbrev pub Taken : (takes : ℕ → List ℕ → Type 0) → Place → Option (List Token) → Type 0
Taken takes p (Some ts) = takes (token_size * p.first) (token_words p.start (p.line + 1) ts)
Taken takes p None = Unit {0}

-- The whole line.

-- with what stands at its start, and its Newline
abbrev pub whole_line : Lead → (line : List ℕ) → Cuts → Cuts
whole_line lead line (cuts ts) = cuts (leading lead ++ (ts ++ (token_at newline (length line) 0 ∷ [])))
whole_line lead line (stops f) = stops f

-- the number of its tokens, with the state after it
abbrev pub whole_of : Lead → State → Cuts → Result ℕ Failure × State
whole_of lead s (cuts ts) =
    (Ok (length (leading lead) + length ts + 1), record { depth = depth_after s.depth ts; arrow = arrow_after false ts; widths = s.widths })
whole_of lead s (stops f) = (Err (failure_in f), s)

-- A line's reply.

abbrev pub tokens_in : LineReply → Option (List Token)
tokens_in (line_reads ts s) = Some ts
tokens_in (line_halts h) = None

-- the state that a line leaves: where it does not read, the one after its levels
abbrev pub left_of : LineReply → (after-levels : State) → State
left_of (line_reads ts s) z = s
left_of (line_halts h) z = z

abbrev pub state_left : LineLimits → State → (line : List ℕ) → State
state_left lim s line = left_of (read_line lim s line) (with_widths (levels_of lim s line) s)

-- with its tokens counted
pub data Counted : Type 0 where
  counted_reads : (count : ℕ) → State → Counted
  counted_halts : RulesLine.Halt → Counted

abbrev pub counted : LineReply → Counted
counted (line_reads ts s) = counted_reads (length ts) s
counted (line_halts h) = counted_halts h

-- the code's answer, with the state that it leaves
abbrev pub counted_of : Result ℕ Halt → State → Counted
counted_of (Ok n) s = counted_reads n s
counted_of (Err (Fails f)) s = counted_halts (failed (failure_of f))
counted_of (Err (OverLimit number)) s = counted_halts (over_limit number)
