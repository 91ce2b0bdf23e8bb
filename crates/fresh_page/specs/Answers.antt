-- The answer of the fresh page, in the document's values.
-- Assumes nothing.
use Rattle.std.specs.Prelude.{ℕ, List, [], ◌∷◌}

-- its header
abbrev pub fresh_values : Unit {0} → List ℕ
fresh_values fresh = 0 ∷ 0 ∷ 0 ∷ []
