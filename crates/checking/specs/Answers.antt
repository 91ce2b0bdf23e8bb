-- The answer of `check`, in the document's values.
-- Assumes nothing.
use Rattle.std.specs.Prelude.{ℕ, Bool, List, [], ◌∷◌}
use Rattle.rules.specs.Lists.{bit}

-- yes or no
abbrev pub check_values : Bool → List ℕ
check_values same = bit same ∷ []
