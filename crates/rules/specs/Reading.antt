-- A text read line by line.
-- Assumes nothing.
use Rattle.std.specs.Prelude.{ℕ, zero, suc, ◌+◌, Bool, not, List, [], ◌∷◌, eqb, length, take, drop, if◌then◌else◌}
use Prim.Native.Char.{code}
use Rattle.rules.specs.Lists.{run}
use Rattle.rules.specs.Limits.{LineLimits}
use Rattle.rules.specs.Line.{State, Token, Halt, LineReply, line_reads, line_halts, read_line, line_rules}

-- Lines: one ends after each LF, and bytes after the last LF are one too.

-- a line with its LF, where it has one
abbrev pub Line : Type 0
Line = List ℕ

abbrev pub is_lf : ℕ → Bool
is_lf b = eqb b (code "\n")

-- a byte in front of the first line
unfoldable pub onto : ℕ → List Line → List Line
onto b [] = (b ∷ []) ∷ []
onto b (l ∷ ls) = (b ∷ l) ∷ ls

-- the lines of a text
unfoldable pub lines_of : List ℕ → List Line
lines_of [] = []
lines_of (b ∷ t) = if is_lf b then (b ∷ []) ∷ lines_of t else onto b (lines_of t)

-- the LFs of a text
unfoldable pub count_lf : List ℕ → ℕ
count_lf [] = 0
count_lf (b ∷ t) = if is_lf b then suc (count_lf t) else count_lf t

unfoldable pub not_lf : ℕ → Bool
not_lf b = not (is_lf b)

-- a line without its LF
unfoldable pub content : Line → List ℕ
content l = take (run not_lf l) l

-- the size of the first line, with its LF
unfoldable pub first_size : List ℕ → ℕ
first_size [] = 0
first_size (b ∷ t) = if is_lf b then 1 else suc (first_size t)

-- the line at byte p, without its LF, and its size with it
abbrev pub line_at : List ℕ → (p : ℕ) → List ℕ
line_at t p = take (run not_lf (drop p t)) (drop p t)

abbrev pub size_at : List ℕ → (p : ℕ) → ℕ
size_at t p = first_size (drop p t)

-- The reading. What a line gives does not depend on where it stands; its records place it.

-- a line that was read: the state before it, its size with its LF, its tokens
pub record Entry : Type 0 where
  pub before : State
  pub size : ℕ
  pub tokens : List Token

abbrev pub entry : State → ℕ → List Token → Entry
entry s n ts = record { before = s; size = n; tokens = ts }

-- the lines that were read, with the state after them or why the next one does not read
pub data Reading : Type 0 where
  reads : List Entry → State → Reading
  halts : List Entry → Halt → Reading

unfoldable pub with_entry : Entry → Reading → Reading
with_entry e (reads es s) = reads (e ∷ es) s
with_entry e (halts es h) = halts (e ∷ es) h

-- a line's reply, then the reading from the state after it
unfoldable pub line_then : State → Line → LineReply → (State → Reading) → Reading
line_then s l (line_reads ts z) next = with_entry (entry s (length l) ts) (next z)
line_then s l (line_halts h) next = halts [] h

-- lines read from a state
unfoldable pub read_from : LineLimits → State → List Line → Reading
read_from lim s [] = reads [] s
read_from lim s (l ∷ ls) = line_then s l (read_line lim s (content l)) (λ z. read_from lim z ls)

-- the lines read before the end or the halt
unfoldable pub lines_read : Reading → List Entry
lines_read (reads es s) = es
lines_read (halts es h) = es

-- the state before line i; past the last, the state at the end
abbrev pub state_at : List Entry → (end : State) → (i : ℕ) → State
state_at [] s i = s
state_at (e ∷ es) s zero = e.before
state_at (e ∷ es) s (suc i) = state_at es s i

-- bytes and tokens of lines
unfoldable pub byte_sum : List Entry → ℕ
byte_sum [] = 0
byte_sum (e ∷ es) = e.size + byte_sum es

unfoldable pub token_sum : List Entry → ℕ
token_sum [] = 0
token_sum (e ∷ es) = length e.tokens + token_sum es

-- opens the definitions above, and those of the modules below, where a proof says `unfolding reading_rules`
unfoldable pub reading_rules : Unit {0}
unfolding onto lines_of count_lf not_lf content first_size with_entry line_then read_from lines_read byte_sum token_sum line_rules
reading_rules = tt
