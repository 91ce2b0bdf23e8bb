-- What passing a part of a text says of its well-formed prefix.
-- Assumes nothing.
use Rattle.std.specs.Prelude.{ℕ, ◌+◌, ◌≤◌, ◌<◌, ◌≡◌, Bool, List, ltb, length, take, drop}
use Rattle.rules.specs.Lists.{every}
use Rattle.rules.specs.Utf8.{well_formed_prefix}

-- the n bytes from `from` on are ASCII
unfoldable pub is_ascii : List ℕ → (from n : ℕ) → Bool
is_ascii t from n = every (λ b. ltb b 128) (take n (drop from t))

-- `i` is reached from `from` by whole scalars
pub record Reached (t : List ℕ) (from i : ℕ) : Type 0 where
  pub within : i ≤ length t
  pub same : i + well_formed_prefix (drop i t) ≡ from + well_formed_prefix (drop from t)

-- `i` is reached from `from`, and is at `end` or past it unless no scalar begins at `i`
pub record Passed (t : List ℕ) (from end i : ℕ) : Type 0 where
  pub reached : Reached t from i
  pub stop : i < end → well_formed_prefix (drop i t) ≡ 0
