-- The header that a reading returns fits, and so do its token records.
-- Assumes nothing.
use Prim.Native.Nat.{ℕ, ◌*◌, ◌≤◌}
use mathlib.Core.Path.{◌≡◌, refl, ap, ◌∙◌}
use mathlib.Core.Bool.{Bool, true, false}
use mathlib.Core.List.{List, [], ◌∷◌}
use native.Mathlib.Omega.{arith}
use lib.Dec.{ltb}
use lib.ListN.{length}
use borrow.Author.Tests.{ltb-false}
use Rattle.rules.specs.Limits.{barge, barge_line}
use Rattle.rules.specs.Replies.{too_long, malformed, lexical, at_line, is_too_long, lines_buffer, tokens_buffer, first_of, unless, refused_if, numbered, numbered_unread, failure_words}
use Rattle.rules.specs.Records.{token_size, line_need, token_need, record_tests, FreshReading, recorded, unread, fresh_reading}
use Rattle.rules.specs.Read.{filled_by, read_into}
use Rattle.rules.proofs.PageLaws.{fresh_inverse}
use Rattle.rules.proofs.BoundLaws.{fresh_small}

module _ (t L T : List ℕ) (n m k : ℕ) where
  abbrev Fits : Type 0
  Fits = (n ≤ 4_294_967_295) × ((m ≤ 4_294_967_295) × ((k ≤ 4_294_967_295) × (token_size * k ≤ length T)))

  abbrev answer : List ℕ
  answer = 0 ∷ n ∷ m ∷ k ∷ []

  by-reading : (x : FreshReading) → fresh_reading t ≡ x → answer ≡ (filled_by L T x).reply → Fits
  unfolding filled_by record_tests first_of unless refused_if numbered numbered_unread failure_words is_too_long
  by-reading (unread (lexical f)) e h = absurd (omega (arith, ap length h))
  by-reading (unread (too_long i v)) e h = absurd (omega (arith, ap length h))
  by-reading (unread (malformed v)) e h = absurd (omega (arith, ap length h))
  by-reading (unread (at_line i l)) e h = absurd (omega (arith, ap length h))
  by-reading (recorded r) e h = go (ltb (length L) (line_need r.head.m)) (ltb (length T) (token_need r.head.k)) refl refl
    where
      go : (x y : Bool) → ltb (length L) (line_need r.head.m) ≡ x → ltb (length T) (token_need r.head.k) ≡ y → Fits
      go true y a b =
          let q : answer ≡ (5 ∷ lines_buffer ∷ line_need r.head.m ∷ []) = h ∙ rw a in
          absurd (omega (arith, ap length q))
      go false true a b =
          let q : answer ≡ (5 ∷ tokens_buffer ∷ token_need r.head.k ∷ []) = h ∙ rw (a, b) in
          absurd (omega (arith, ap length q))
      go false false a b =
          let q : answer ≡ (0 ∷ r.head.n ∷ r.head.m ∷ r.head.k ∷ []) = h ∙ rw (a, b) in
          let i = fresh_inverse t r e in
          let s = fresh_small barge_line (omega arith) t r (ltb-false barge.bytes (length t) i.0) i.2 in
          let en : n ≡ r.head.n = cc in
          let em : m ≡ r.head.m = cc in
          let ek : k ≡ r.head.k = cc in
          let room = ltb-false (length T) (token_need r.head.k) b in
          (omega (arith, s.n-le), (omega (arith, s.n-le, s.m-le), (omega (arith, s.n-le, s.k-le), omega arith)))

  pub answer-fits : answer ≡ (read_into t L T).reply → Fits
  unfolding read_into
  answer-fits h = by-reading (fresh_reading t) refl h
