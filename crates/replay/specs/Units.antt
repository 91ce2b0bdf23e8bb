-- How the bytes and words of a buffer are spelled.
use Rattle.std.specs.Prelude.{ℕ, Bool, List, [], ◌∷◌, ◌++◌, ◌≡◌, ◌≢◌, ◌⊎◌, ◌==◌, ◌/◌, ◌%◌, false, length, replicate}
use Rattle.std.specs.List.{flat_map, slice_split}
use Rattle.std.specs.Fmt.{decimal, digit_glyph}
use Rattle.replay.specs.Fnv.{fnv_basis, fnv}

-- a byte as two hex digits, in lower case
abbrev pub hex_pair : ℕ → List ℕ
hex_pair b = digit_glyph false (b / 16) ∷ digit_glyph false (b % 16) ∷ []

-- bytes in hex
abbrev pub SpellsBytes : List ℕ → List ℕ → Type 0
SpellsBytes text bytes = text ≡ flat_map hex_pair bytes

-- the same, or none as one character
abbrev pub RecordsBytes : List ℕ → List ℕ → Type 0
RecordsBytes text bytes = (length text ≡ 1 → bytes ≡ []) × (length text ≢ 1 → SpellsBytes text bytes)

-- one word in decimal
abbrev pub SpellsWord : List ℕ → List ℕ → Type 0
SpellsWord text words = (word : ℕ) × (words ≡ word ∷ []) × (text ≡ decimal word)

abbrev pub dash : List ℕ
dash = 45 ∷ []

-- units as they are spelled, or none as a dash
abbrev pub SpellsAll : {T : Type 0} → (List ℕ → List T → Type 0) → List ℕ → List T → Type 0
SpellsAll Spells text units = (text ≡ dash → units ≡ []) × (text ≢ dash → Spells text units)

-- behind what stood now stand the units that a text spells
abbrev pub PutsSpelled : {T : Type 0} → (List ℕ → List T → Type 0) → List ℕ → List T → List T → Type 0
PutsSpelled {T} Spells text before after = (units : List T) × (after ≡ before ++ units) × Spells text units

-- the one unit that a text spells, so many times
abbrev pub SpellsRepeated : {T : Type 0} → (List ℕ → List T → Type 0) → ℕ → List ℕ → List T → Type 0
SpellsRepeated {T} Spells count text units = (unit : T) × SpellsAll Spells text (unit ∷ []) × (units ≡ replicate count unit)

-- a run: units as they are spelled, or one, `*` and how often it stands
abbrev pub SpellsRun : {T : Type 0} → (List ℕ → List T → Type 0) → List ℕ → List T → Type 0
SpellsRun Spells run units = SpellsAll Spells run units
    ⊎ ((text : List ℕ) × (count : ℕ) × (run ≡ text ++ 42 ∷ decimal count) × SpellsRepeated Spells count text units)

-- runs, one after the other
abbrev pub SpellsRuns : {T : Type 0} → (List ℕ → List T → Type 0) → List (List ℕ) → List T → Type 0
SpellsRuns Spells [] units = units ≡ []
SpellsRuns {T} Spells (run ∷ runs) units =
    (front : List T) × (behind : List T) × (units ≡ front ++ behind) × SpellsRun Spells run front × SpellsRuns Spells runs behind

abbrev pub is_comma : ℕ → Bool
is_comma b = b == 44

-- a buffer: runs with commas between
abbrev pub SpellsBuffer : {T : Type 0} → (List ℕ → List T → Type 0) → List ℕ → List T → Type 0
SpellsBuffer Spells field units = SpellsRuns Spells (slice_split is_comma field) units

-- runs with commas between; one more comma may stand behind them
abbrev pub SpellsSome : {T : Type 0} → (List ℕ → List T → Type 0) → List ℕ → List T → Type 0
SpellsSome Spells field units =
    (runs : List ℕ) × ((field ≡ runs) ⊎ (field ≡ runs ++ 44 ∷ [])) × SpellsRuns Spells (slice_split is_comma runs) units

-- a buffer of a recorded list: such runs, or no characters for no units
abbrev pub RecordsBuffer : {T : Type 0} → (List ℕ → List T → Type 0) → List ℕ → List T → Type 0
RecordsBuffer Spells field units = (field ≡ [] → units ≡ []) × (field ≢ [] → SpellsSome Spells field units)

-- the digest of units, by the bytes of each
abbrev pub SpellsDigest : {T : Type 0} → (T → List ℕ) → List ℕ → List T → Type 0
SpellsDigest bytes field units = field ≡ decimal (fnv fnv_basis (flat_map bytes units))
