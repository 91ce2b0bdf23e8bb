-- The panel column of an offset: the scalars before it in its line, plus 1.
-- Assumes nothing.
use Rattle.std.specs.Prelude.{ℕ, suc, ◌+◌, Bool, not, List, [], ◌∷◌, eqb, length, take, if◌then◌else◌}
use Rattle.std.proofs.Math.Option.{Option}
use Rattle.rules.specs.Lists.{elem}
use Rattle.rules.specs.Utf8.{scalars_of}
use Rattle.rules.specs.Reading.{count_lf}
use Rattle.rules.specs.Replies.{Refusal, outside, Reply, numbered, accepted, refused_if, first_of, unless, long_test, form_test}

-- the bytes after the last LF
unfoldable pub last_line : List ℕ → List ℕ
last_line [] = []
last_line (b ∷ s) = if eqb (count_lf (b ∷ s)) 0 then b ∷ s else last_line s

-- where scalars start, the first at p, and where the last one ends
unfoldable pub starts_from : (p : ℕ) → List (List ℕ) → List ℕ
starts_from p [] = p ∷ []
starts_from p (c ∷ cs) = p ∷ starts_from (p + length c) cs

-- past n, or before n and not at a scalar's start
unfoldable pub is_outside : List ℕ → (at : ℕ) → Bool
is_outside t at = not (elem at (starts_from 0 (scalars_of t)))

unfoldable pub panel_column : List ℕ → (at : ℕ) → ℕ
panel_column t at = suc (length (scalars_of (last_line (take at t))))

-- 1, 2, 6
unfoldable pub column_tests : List ℕ → (at : ℕ) → List (Option Refusal)
column_tests t at = long_test t ∷ form_test t ∷ refused_if (is_outside t at) outside ∷ []

unfoldable pub column_reply : List ℕ → (at : ℕ) → Reply
column_reply t at = unless (first_of (column_tests t at)) numbered (accepted (panel_column t at ∷ []))

-- opens the definitions above where a proof says `unfolding column_rules`
unfoldable pub column_rules : Unit {0}
unfolding last_line starts_from is_outside panel_column column_tests column_reply
column_rules = tt
