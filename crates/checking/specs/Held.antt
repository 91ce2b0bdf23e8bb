-- A line held against the words of a page.
-- Assumes nothing.
use Rattle.std.specs.Prelude.{ℕ, ◌≡◌, ◌+◌, ◌*◌, Bool, false, ◌&&◌, List, drop, Option, Some, None, Ok}
use Rattle.rules.specs.Lists.{begins}
use Rattle.rules.specs.Limits.{LineLimits}
use Rattle.rules.specs.Line.{State, LineReply, line_reads, line_halts, read_line}
use Rattle.rules.specs.Reading.{line_at, size_at}
use Rattle.rules.specs.Records.{line_size, token_size, line_record, token_words}
use Rattle.records.specs.Sinks.{Compares}
use Rattle.records.specs.declared.Place.{Place}
use Rattle.records.specs.declared.sink.Held.{Held}
use Rattle.line.specs.LineCuts.{tokens_in, Taken}
use Rattle.lines.specs.Steps.{StepIs}
use Rattle.lines.specs.declared.Next.{Next}

-- all words were the same so far, and those of the page from an index on are these
abbrev pub holds : Held → ℕ → List ℕ → Bool
holds s at xs = s.same && begins xs (drop at s.words.now)

-- a line reads, and its record and its tokens are the page's
abbrev pub line_holds : Place → State → (lines tokens : Held) → LineReply → Bool
line_holds p z l k (line_reads ts z') = holds l (line_size * p.line) (line_record p.start p.first z) && holds k (token_size * p.first) (token_words p.start (p.line + 1) ts)
line_holds p z l k (line_halts h) = false

-- the line at a place, from the state before it to the state after it, and from the sinks l and k to l' and k': where the next one starts and the
-- number of its tokens; None only where it does not hold
abbrev pub NextHeld : LineLimits → List ℕ → Place → (z z' : State) → (l l' k k' : Held) → Option Next → Type 0
NextHeld lim t p z z' l l' k k' (Some n) =
    StepIs z' p.start (p.line + 1) (p.start + size_at t p.start) (read_line lim z (line_at t p.start)) (Ok n) × Compares l l' (line_size * p.line) (line_record p.start p.first z)
    × Taken (Compares k k') p (tokens_in (read_line lim z (line_at t p.start)))
NextHeld lim t p z z' l l' k k' None = line_holds p z l k (read_line lim z (line_at t p.start)) ≡ false
