-- Old line records, by their words.
-- Assumes nothing.
use Rattle.std.specs.Prelude.{ℕ, ◌+◌, ◌-◌, ◌≤◌, ◌<◌, Bool, ◌&&◌, List, ltb, eqb}
use Rattle.rules.specs.Lists.{same}
use Rattle.rules.specs.Line.{State}
use Rattle.rules.specs.Records.{state_words}
use Rattle.records.specs.Words.{start_word, state_in}

-- the byte of the old text that stands at p in the edited one, where p is in the kept tail
abbrev pub old_byte : (b kept p : ℕ) → ℕ
old_byte b kept p = b + (p - kept)

-- from record j on, r is the first of m that starts at the byte `at` or beyond
pub record FirstFrom (lines : List ℕ) (m j at r : ℕ) : Type 0 where
  pub low : j ≤ r
  pub high : r ≤ m
  pub before : (x : ℕ) → j ≤ x → x < r → start_word lines x < at
  pub reached : r < m → at ≤ start_word lines r

-- record j starts at the same byte of the kept tail, with the same state
abbrev pub stops_at : List ℕ → (j b kept p : ℕ) → State → Bool
stops_at lines j b kept p z = ltb kept p && (eqb (start_word lines j) (old_byte b kept p) && same (state_in lines j) (state_words z))
