-- The edited text, and how many lines are read again.
-- Assumes nothing.
use Rattle.std.specs.Prelude.{ℕ, ◌+◌, ◌-◌, Bool, ◌&&◌, not, List, [], ◌∷◌, ◌++◌, ltb, eqb, length, take, drop}
use Rattle.std.specs.Bool.{beq}
use Rattle.rules.specs.Lists.{any, run, same, list_rules}
use Rattle.rules.specs.Limits.{LineLimits}
use Rattle.rules.specs.Line.{State, initial}
use Rattle.rules.specs.Reading.{lines_of, count_lf, Entry, read_from, lines_read, state_at, byte_sum, reading_rules}

-- bytes a..b become w
pub record Edit : Type 0 where
  pub a : ℕ
  pub b : ℕ
  pub w : List ℕ

-- the first a bytes, w, and the bytes from b on
unfoldable pub edited : List ℕ → Edit → List ℕ
edited t ed = take ed.a t ++ (ed.w ++ drop ed.b t)

-- a + |w|: where the kept tail begins in the edited text
abbrev pub kept_from : Edit → ℕ
kept_from ed = ed.a + length ed.w

-- re-reading begins at the line after as many LFs as the first a bytes hold; the lines of t are `old`, with this state at the end: that line's
-- number, its start and the state before it
abbrev pub from_line : (t : List ℕ) → Edit → ℕ
from_line t ed = count_lf (take ed.a t)

abbrev pub from_byte : (t : List ℕ) (old : List Entry) → Edit → ℕ
from_byte t old ed = byte_sum (take (from_line t ed) old)

abbrev pub from_state : (t : List ℕ) (old : List Entry) (end : State) → Edit → State
from_state t old end ed = state_at old end (from_line t ed)

-- where a line starts, with the state before it
pub record Mark : Type 0 where
  pub start : ℕ
  pub state : State

-- the line starts of a reading, the first at p
unfoldable pub marks_from : (p : ℕ) → List Entry → List Mark
marks_from p [] = []
marks_from p (e ∷ es) = record { start = p; state = e.before } ∷ marks_from (p + e.size) es

-- the line starts of a text, as a fresh reading has them
unfoldable pub marks_of : LineLimits → List ℕ → List Mark
marks_of lim t = marks_from 0 (lines_read (read_from lim initial (lines_of t)))

unfoldable pub same_state : State → State → Bool
same_state s z = eqb s.depth z.depth && (beq s.arrow z.arrow && same s.widths z.widths)

unfoldable pub same_mark : Mark → Mark → Bool
same_mark x y = eqb x.start y.start && same_state x.state y.state

-- the same byte of the kept tail in the old text, with the same state
abbrev pub old_mark : Edit → Mark → Mark
old_mark ed m = record { start = ed.b + (m.start - kept_from ed); state = m.state }

-- re-reading stops at a line start beyond a + |w| whose state equals the old state at the same byte of the kept tail
unfoldable pub is_stop : (old : List Mark) → Edit → Mark → Bool
is_stop old ed m = ltb (kept_from ed) m.start && any (same_mark (old_mark ed m)) old

-- the lines of the edited text from where re-reading begins to the first stop, otherwise to the end
unfoldable pub reread_count : LineLimits → List ℕ → Edit → ℕ
reread_count lim t ed = run (λ m. not (is_stop (marks_of lim t) ed m)) (drop (from_line t ed) (marks_of lim (edited t ed)))

-- opens the definitions above, and those of the modules below, where a proof says `unfolding stop_rules`
unfoldable pub stop_rules : Unit {0}
unfolding edited marks_from marks_of same_state same_mark is_stop reread_count list_rules reading_rules
stop_rules = tt
