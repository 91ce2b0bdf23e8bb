-- The fields of a line, with one space between: what is left of a line is text, or nothing behind its last field.
use Rattle.std.specs.Prelude.{◌≡◌, ◌≤◌, ◌==◌, ℕ, Bool, Option, None, Some, List, [], ◌∷◌, All, if◌then◌else◌, length, take, drop, min}
use Rattle.std.specs.Fmt.{decimal}
use Rattle.std.specs.List.{position_or_len, before_first, after_first}
use Rattle.std.specs.Option.{option_map}
use Rattle.replay.specs.declared.fields.Fields.{Fields}

abbrev pub is_space : ℕ → Bool
is_space b = b == 32

-- what is left
abbrev pub left : Fields → Option (List ℕ)
left f = option_map (λ text. text.now) f.rest

-- the next field of it
abbrev pub next_field : Option (List ℕ) → Option (List ℕ)
next_field rest = option_map (before_first is_space) rest

-- what is left behind that field
abbrev pub after_field : Option (List ℕ) → Option (List ℕ)
after_field None = None
after_field (Some text) = if position_or_len is_space text == length text then None else Some (after_first is_space text)

-- the next fields, one after the other, spell these; `after` is left behind them
abbrev pub SpellsEach : {A : Type 0} → (List ℕ → A → Type 0) → Option (List ℕ) → List A → Option (List ℕ) → Type 0
SpellsEach Spells rest [] after = rest ≡ after
SpellsEach Spells rest (x ∷ xs) after = (field : List ℕ) × (next_field rest ≡ Some field) × Spells field x × SpellsEach Spells (after_field rest) xs after

-- the same of a group, which their count precedes
abbrev pub SpellsGroup : {A : Type 0} → (List ℕ → A → Type 0) → Option (List ℕ) → List A → Option (List ℕ) → Type 0
SpellsGroup Spells rest xs after = (next_field rest ≡ Some (decimal (length xs))) × SpellsEach Spells (after_field rest) xs after

-- the same of the first of a group, at most so many
abbrev pub SpellsGroupTo : {A : Type 0} → (List ℕ → A → Type 0) → (most : ℕ) → Option (List ℕ) → List A → Option (List ℕ) → Type 0
SpellsGroupTo Spells most rest xs after = (count : ℕ) × (next_field rest ≡ Some (decimal count)) × (length xs ≡ min count most)
    × SpellsEach Spells (after_field rest) xs after

-- a field spells this number
abbrev pub SpellsNumber : List ℕ → ℕ → Type 0
SpellsNumber field number = field ≡ decimal number

-- what a word of a reply or of a buffer holds before a call
abbrev pub fill : ℕ
fill = 2_863_311_530

-- the next fields spell the first `count` of these words, whose numbers `value` gives; the others are as they were before a call
abbrev pub SpellsFront : {W : Type 0} → (W → ℕ) → Option (List ℕ) → ℕ → List W → Option (List ℕ) → Type 0
SpellsFront value rest count words after = (count ≤ length words)
    × SpellsEach (λ field word. field ≡ decimal (value word)) rest (take count words) after
    × All (λ word. value word ≡ fill) (drop count words)

-- the next group spells the front of these words: how many, and these
abbrev pub SpellsFrontGroup : Option (List ℕ) → ℕ → List ℕ → Option (List ℕ) → Type 0
SpellsFrontGroup rest count words after = (next_field rest ≡ Some (decimal count)) × SpellsFront (λ word. word) (after_field rest) count words after
