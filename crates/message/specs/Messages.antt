-- The parts of a failure's message.
-- Assumes nothing.
use Rattle.std.specs.Prelude.{ℕ, ◌+◌, ◌-◌, ◌≤◌, ◌<◌, List, [], ◌∷◌, length, drop, replicate}
use Prim.Native.Char.{code}
use Rattle.rules.specs.Lists.{ascii}
use Rattle.rules.specs.Failure.{detail_of}
use Rattle.rules.specs.Reading.{content}
use Rattle.refusals.specs.declared.FailureRecord.{FailureRecord}
use Rattle.rules.specs.Report.{digits_in, decimal, detail_text, aligned, message}

-- The fields of each line of the message.

abbrev pub heading_of : (code detail found : ℕ) → List (List ℕ)
heading_of n d c = ascii "error[E" ∷ digits_in 10 4 n [] ∷ ascii "]: " ∷ detail_text (detail_of d) c ∷ []

abbrev pub place_of : (line column : ℕ) → List (List ℕ)
place_of l k = ascii "\n --> <input>:" ∷ decimal l ∷ ascii ":" ∷ decimal k ∷ []

abbrev pub excerpt_of : List ℕ → (line start : ℕ) → List (List ℕ)
excerpt_of t l p = ascii "\n  |\n" ∷ aligned (decimal l) ∷ ascii " | " ∷ content (drop p t) ∷ []

abbrev pub caret_of : (column : ℕ) → List (List ℕ)
caret_of k = ascii "\n  | " ∷ replicate (k - 1) (code " ") ∷ ascii "^" ∷ []

-- the message of a failure with these numbers; its range does not matter
unfoldable pub message_of : List ℕ → (code detail found position line column : ℕ) → List ℕ
message_of t n d c p l k =
    message t (record { code = n; detail = d; found = c; position = p; line = l; column = k; from = 0; to = 0 })

-- a failure's message in a text
abbrev pub message_in : List ℕ → FailureRecord → List ℕ
message_in t f = message_of t f.code f.detail f.found f.position f.line f.column

-- a text with a failure whose message can be written
abbrev pub Printable : List ℕ → FailureRecord → Type 0
Printable t f =
    (1 ≤ f.detail) × (f.detail ≤ 12) × (f.found < 1_114_112) × (length t ≤ 1_048_576) × (f.position ≤ length t) × (1 ≤ f.column) × (f.column ≤ f.position + 1)
