-- A token walk: it holds the token words and the next token's number.
-- Assumes nothing.
use Rattle.std.specs.Prelude.{ℕ, suc, ◌+◌, ◌*◌, Bool, List, [], ◌∷◌, ltb, length, take, drop, if◌then◌else◌}
use Rattle.rules.specs.Replies.{Reply, accepted}
use Rattle.rules.specs.Records.{token_size}

-- fewer than five words are left from token i on
unfoldable pub is_walked : List ℕ → (i : ℕ) → Bool
is_walked tokens i = ltb (length tokens) (token_size * i + token_size)

-- a step: 1, the next number and a record; or 0, done, and the number kept
unfoldable pub walk_reply : List ℕ → (i : ℕ) → Reply
walk_reply tokens i =
    if is_walked tokens i then accepted (0 ∷ i ∷ []) else accepted (1 ∷ suc i ∷ take token_size (drop (token_size * i) tokens))
