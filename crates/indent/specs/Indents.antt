-- What stands at a line's start behind its blanks.
-- Assumes nothing.
use Rattle.std.specs.Prelude.{ℕ, Bool, ◌||◌, List, eqb, length}
use Rattle.rules.specs.Lists.{ascii, begins}

-- the line ends or a comment begins
unfoldable pub ends_or_comment : List ℕ → Bool
ends_or_comment s = eqb (length s) 0 || (begins (ascii "#") s || begins (ascii "//") s)
