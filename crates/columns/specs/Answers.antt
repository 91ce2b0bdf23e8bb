-- The column in words, as the reply of the rules has it.
-- Assumes nothing.
use Rattle.std.specs.Prelude.{ℕ, suc, List, [], ◌∷◌, Result, if◌then◌else◌}
use Rattle.rules.specs.Reading.{is_lf}
use Rattle.rules.specs.Replies.{Reply, outside, numbered, accepted, refused_if, first_of, unless}
use Rattle.rules.specs.Column.{is_outside, panel_column}
use Rattle.refusals.specs.Replies.{reply_of}
use Rattle.refusals.specs.declared.Refusal.{Refusal}

abbrev pub column_numbers : Result ℕ Refusal → Reply
column_numbers = reply_of (λ n. n ∷ [])

-- the reply of a text that passes the tests 1 and 2
abbrev pub place_reply : List ℕ → (at : ℕ) → Reply
place_reply t at = unless (first_of (refused_if (is_outside t at) outside ∷ [])) numbered (accepted (panel_column t at ∷ []))

-- the scalars of a line after one more that begins with this byte
abbrev pub count_after : (b count : ℕ) → ℕ
count_after b count = if is_lf b then 0 else suc count
