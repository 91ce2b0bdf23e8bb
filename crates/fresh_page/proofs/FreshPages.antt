-- The fresh page's reply and words.
-- Assumes nothing.
use Prim.Native.Nat.{ℕ, ◌≤◌, ◌<◌}
use mathlib.Core.Path.{◌≡◌, refl}
use mathlib.Core.List.{List, [], ◌∷◌}
use lib.ListN.{length, replicate}
use borrow.Author.Tests.{lt-ltb, le-ltb}
use Rattle.rules.specs.Lists.{overwrite}
use Rattle.rules.specs.Replies.{short, numbered, lines_buffer, refused_if, unless}
use Rattle.rules.specs.Records.{line_size}
use Rattle.rules.specs.Page.{fresh_reply, fresh_lines}

module _ (lines : List ℕ) where
  pub fresh_short : length lines < line_size → (numbered (short lines_buffer line_size) ≡ fresh_reply (length lines)) × (lines ≡ fresh_lines lines)
  unfolding fresh_reply fresh_lines refused_if unless
  fresh_short h = rw (lt-ltb (length lines) line_size h) (refl, refl)

  pub fresh_long : line_size ≤ length lines → (l : List ℕ) → l ≡ overwrite (replicate line_size 0) lines → ((0 ∷ 0 ∷ 0 ∷ 0 ∷ []) ≡ fresh_reply (length lines)) × (l ≡ fresh_lines lines)
  unfolding fresh_reply fresh_lines refused_if unless
  fresh_long h l e = rw (le-ltb (length lines) line_size h) (refl, e)
