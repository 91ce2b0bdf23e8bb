-- Records, by their words.
-- Assumes nothing.
use Rattle.std.specs.Prelude.{ℕ, ◌+◌, ◌*◌, List, [], ◌∷◌, get_or, take, drop}
use Rattle.rules.specs.Line.{State}
use Rattle.rules.specs.Records.{width_words, line_size}
use Rattle.records.specs.States.{state_at}
use Rattle.records.specs.declared.Place.{Place}

-- the record of a token at this offset of the line
abbrev pub words_at : Place → (at kind size : ℕ) → List ℕ
words_at p at kind size = kind ∷ (p.start + at) ∷ size ∷ (p.line + 1) ∷ (at + 1) ∷ []

-- word x of line record i
abbrev pub line_word : List ℕ → (i x : ℕ) → ℕ
line_word lines i x = get_or lines (line_size * i + x) 0

-- the start in record j
abbrev pub start_word : List ℕ → (j : ℕ) → ℕ
start_word lines j = get_or lines (line_size * j) 0

-- the words of the state in record j
abbrev pub state_in : List ℕ → (j : ℕ) → List ℕ
state_in lines j = take (3 + width_words) (drop (line_size * j + 2) lines)

-- the state in record i
abbrev pub state_from : List ℕ → (i : ℕ) → State
state_from lines i = state_at lines (line_size * i + 2)
