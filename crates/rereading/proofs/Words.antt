-- Laws of old line records by their words.
-- Assumes nothing.
use Prim.Native.Nat.{ℕ, ◌≤◌, ◌<◌}
use mathlib.Core.Path.{◌≡◌}
use mathlib.Core.Bool.{false}
use mathlib.Core.List.{List}
use borrow.Author.Tests.{eq-eqb, lt-ltb, le-ltb}
use Rattle.rules.specs.Lists.{same}
use Rattle.rules.specs.Line.{State}
use Rattle.rules.specs.Records.{state_words}
use Rattle.records.specs.Words.{start_word, state_in}
use Rattle.rereading.specs.Words.{old_byte, stops_at}

-- The test for a stop.

module _ (lines : List ℕ) (j b kept p : ℕ) (z : State) where
  pub stop-near : p ≤ kept → stops_at lines j b kept p z ≡ false
  stop-near h = rw (le-ltb kept p h)

  module _ (h : kept < p) where
    pub stop-here : start_word lines j ≡ old_byte b kept p → stops_at lines j b kept p z ≡ same (state_in lines j) (state_words z)
    stop-here e = rw (lt-ltb kept p h, eq-eqb (start_word lines j) (old_byte b kept p) e)
