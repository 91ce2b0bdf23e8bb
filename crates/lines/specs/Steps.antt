-- What the next line gives.
-- Assumes nothing.
use Rattle.std.specs.Prelude.{ℕ, ◌≡◌, List, length, Result, Ok, Err}
use Rattle.rules.specs.Line.{State, Token, Halt, LineReply, line_reads, line_halts}
use Rattle.rules.specs.Records.{halt_refusal}
use Rattle.refusals.specs.Unreads.{unread_in}
use Rattle.refusals.specs.declared.Unread.{Unread}
use Rattle.lines.specs.declared.Next.{Next}

-- a line's reply, for the line with this number that starts at this byte: where the next one starts and the number of tokens, with the state
-- that is left; or why it does not read
abbrev pub StepIs : (left : State) → (start number next : ℕ) → LineReply → Result Next Unread → Type 0
StepIs z p l next x (Ok s) = (ts : List Token) × (x ≡ line_reads ts z) × (s.tokens ≡ length ts) × (s.at ≡ next)
StepIs z p l next x (Err u) = (h : Halt) × (x ≡ line_halts h) × (u ≡ unread_in (halt_refusal p l h))
