-- The state in the words of a line record.
-- Assumes nothing.
use Rattle.std.specs.Prelude.{ℕ, ◌+◌, not, List, eqb, get_or, take, drop}
use Rattle.rules.specs.Line.{State}
use Rattle.rules.specs.Records.{width_words}

-- how many levels are open in the state whose words stand at an index
abbrev pub state_levels : List ℕ → (at : ℕ) → ℕ
state_levels words at = get_or words (at + 2) 0

-- that state
abbrev pub state_at : List ℕ → (at : ℕ) → State
state_at words at =
    record {
      depth = get_or words at 0;
      arrow = not (eqb (get_or words (at + 1) 0) 0);
      widths = take (state_levels words at) (take width_words (drop (at + 3) words));
    }
