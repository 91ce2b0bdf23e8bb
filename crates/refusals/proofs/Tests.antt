-- What the tests 1 and 2 say of a fresh reading, and of the replies of calls that begin with them.
-- Assumes nothing.
use Prim.Native.Nat.{ℕ, ◌≤◌}
use mathlib.Core.Path.{◌≡◌, refl, sym, ap, ◌∙◌}
use mathlib.Core.Bool.{Bool, true, false}
use mathlib.Core.List.{List, [], ◌∷◌}
use mathlib.Core.Option.{Option}
use native.Mathlib.Omega.{arith}
use lib.ListN.{length}
use borrow.Author.Tests.{ltb-false}
use Rattle.std.specs.Prelude.{Result, Ok, Err, if◌then◌else◌}
use Rattle.rules.specs.Limits.{Limits, barge}
use Rattle.rules.specs.Replies as RulesReplies
use Rattle.rules.specs.Replies.{too_long, malformed, lexical, at_line, Refusal, Reply, numbered_unread, numbered, refused_if, first_of, unless, is_too_long, too_long_by, is_malformed, malformed_by, long_test, form_test}
use Rattle.rules.specs.Records.{FreshReading, unread, read_lines, fresh_reading_by}
use Rattle.refusals.specs.Unreads.{unread_in, unread_of, test_of}
use Rattle.refusals.specs.declared.Unread.{Unread}
use Rattle.refusals.specs.declared.Unread.TheVariants.{TooLong, Malformed, Fails, AtLine}

pub unread-back : (u : RulesReplies.Unread) → unread_of (unread_in u) ≡ u
unread-back (too_long number n) = refl
unread-back (malformed n) = refl
unread-back (lexical f) = refl
unread-back (at_line number l) = refl

pub unread_there : (u : Unread) → unread_in (unread_of u) ≡ u
unread_there (TooLong number n) = refl
unread_there (Malformed n) = refl
unread_there (Fails f) = refl
unread_there (AtLine number l) = refl

-- a text passes both tests; or it is refused with the first that it does not pass, whatever comes after the two
pub data Tested (lim : Limits) (t : List ℕ) : Result (Unit {0}) Unread → Type 0 where
  passes : is_too_long lim t ≡ false → is_malformed t ≡ false → Tested lim t (Ok tt)
  long : is_too_long lim t ≡ true → Tested lim t (Err (unread_in (too_long_by lim t)))
  ill_formed : is_too_long lim t ≡ false → is_malformed t ≡ true → Tested lim t (Err (unread_in (malformed_by t)))

pub tested : (lim : Limits) (t : List ℕ) → Tested lim t (test_of lim t)
tested lim t = go (is_too_long lim t) refl (is_malformed t) refl
  where
    go : (x : Bool) → is_too_long lim t ≡ x → (y : Bool) → is_malformed t ≡ y
        → Tested lim t (if x then Err (unread_in (too_long_by lim t)) else if y then Err (unread_in (malformed_by t)) else (Ok tt))
    go true e y f = long e
    go false e true f = ill_formed e f
    go false e false f = passes e f

pub test_passes : (lim : Limits) (t : List ℕ) → test_of lim t ≡ (Ok tt) → (is_too_long lim t ≡ false) × (is_malformed t ≡ false)
test_passes lim t h = go (test_of lim t) (tested lim t) h
  where
    go : (r : Result (Unit {0}) Unread) → Tested lim t r → r ≡ (Ok tt) → (is_too_long lim t ≡ false) × (is_malformed t ≡ false)
    go (Ok tt) (passes e f) q = (e, f)
    go (Err u) x q = let b : ◌≡◌ {A = ℕ} 0 1 = cc in absurd (omega arith)

pub passed_short : (lim : Limits) (t : List ℕ) → test_of lim t ≡ (Ok tt) → length t ≤ lim.bytes
unfolding is_too_long
passed_short lim t h = ltb-false lim.bytes (length t) (test_passes lim t h).0

-- the fresh reading of a text, from what the tests give
abbrev pub fresh_after : Limits → List ℕ → Result (Unit {0}) Unread → FreshReading
fresh_after lim t (Ok tt) = read_lines lim.line t
fresh_after lim t (Err u) = unread (unread_of u)

pub fresh_after_lem : (lim : Limits) (t : List ℕ) (r : Result (Unit {0}) Unread) → test_of lim t ≡ r → fresh_reading_by lim t ≡ fresh_after lim t r
unfolding fresh_reading_by
fresh_after_lem lim t r h = go (test_of lim t) (tested lim t) ∙ ap (fresh_after lim t) h
  where
    go : (r : Result (Unit {0}) Unread) → Tested lim t r → fresh_reading_by lim t ≡ fresh_after lim t r
    go (Ok tt) (passes e f) = rw (e, f)
    go (Err u) (long e) = rw e (ap unread (sym (unread-back (too_long_by lim t))))
    go (Err u) (ill_formed e f) = rw (e, f) (ap unread (sym (unread-back (malformed_by t))))

pub fresh_refused : (lim : Limits) (t : List ℕ) (u : Unread) → test_of lim t ≡ Err u → fresh_reading_by lim t ≡ unread (unread_of u)
fresh_refused lim t u h = fresh_after_lem lim t (Err u) h

pub fresh_passed : (lim : Limits) (t : List ℕ) → test_of lim t ≡ (Ok tt) → fresh_reading_by lim t ≡ read_lines lim.line t
fresh_passed lim t h = fresh_after_lem lim t (Ok tt) h

-- a reply whose tests begin with these two, under the barge's limits
-- the answer r to a test under limits that are the barge's
pub barge_test : {lim : Limits} {r : Result (Unit {0}) Unread} (t : List ℕ) → lim ≡ barge → r ≡ test_of lim t → (s : Result (Unit {0}) Unread) → r ≡ s → test_of barge t ≡ s
barge_test t is-barge is-test s e = ap (λ (l : Limits). test_of l t) (sym is-barge) ∙ sym is-test ∙ e

abbrev pub reply_after : Result (Unit {0}) Unread → Reply → Reply
reply_after (Ok tt) reply = reply
reply_after (Err u) reply = numbered_unread (unread_of u)

pub reply-after : (t : List ℕ) (more : List (Option Refusal)) (reply : Reply) (r : Result (Unit {0}) Unread) → test_of barge t ≡ r
    → unless (first_of (long_test t ∷ form_test t ∷ more)) numbered reply ≡ reply_after r (unless (first_of more) numbered reply)
unfolding unless first_of refused_if numbered
reply-after t more reply r h = go (test_of barge t) (tested barge t) ∙ ap (λ (x : Result (Unit {0}) Unread). reply_after x (unless (first_of more) numbered reply)) h
  where
    go : (r : Result (Unit {0}) Unread) → Tested barge t r
        → unless (first_of (long_test t ∷ form_test t ∷ more)) numbered reply ≡ reply_after r (unless (first_of more) numbered reply)
    go (Ok tt) (passes e f) = rw (e, f)
    go (Err u) (long e) = rw e (ap numbered_unread (sym (unread-back (too_long_by barge t))))
    go (Err u) (ill_formed e f) = rw (e, f) (ap numbered_unread (sym (unread-back (malformed_by t))))

-- a call under the barge's limits whose text is refused, and one whose text passes
module _ (t : List ℕ) (more : List (Option Refusal)) (reply : Reply) where
  pub refused_reply : (u : Unread) → test_of barge t ≡ Err u → unless (first_of (long_test t ∷ form_test t ∷ more)) numbered reply ≡ numbered_unread (unread_of u)
  refused_reply u h = reply-after t more reply (Err u) h

  pub refused_call : (u : Unread) → test_of barge t ≡ Err u → unless (first_of (long_test t ∷ form_test t ∷ more)) numbered reply ≡ numbered (RulesReplies.reading (unread_of u))
  unfolding numbered
  refused_call u h = refused_reply u h

  pub passed_reply : test_of barge t ≡ (Ok tt) → unless (first_of (long_test t ∷ form_test t ∷ more)) numbered reply ≡ unless (first_of more) numbered reply
  passed_reply h = reply-after t more reply (Ok tt) h

-- with no other test
pub passed_alone : (t : List ℕ) (reply : Reply) → test_of barge t ≡ (Ok tt) → unless (first_of (long_test t ∷ form_test t ∷ [])) numbered reply ≡ reply
unfolding unless first_of
passed_alone t reply h = passed_reply t [] reply h
