-- Replies: 0 and the values of an acceptance, or the document's number and values of a refusal.
-- Assumes nothing.
use Rattle.std.specs.Prelude.{ℕ, zero, suc, min, Bool, true, false, List, [], ◌∷◌, ltb, length, if◌then◌else◌}
use Rattle.std.proofs.Math.Option.{Option, none, some}
use Rattle.rules.specs.Utf8.{well_formed_prefix}
use Rattle.rules.specs.Failure.{FailureRecord}
use Rattle.rules.specs.Limits.{Limits, barge}

-- Refusals.

-- why a text by itself is refused: 1 with the length, 2 with the longest well-formed prefix, 3 with the failure record, a
-- limit of the lines with the line (4)
pub data Unread : Type 0 where
  too_long : (number size : ℕ) → Unread
  malformed : (size : ℕ) → Unread
  lexical : FailureRecord → Unread
  at_line : (number line : ℕ) → Unread

-- any refusal: these, 5 with the buffer and its least length, 6, 7
pub data Refusal : Type 0 where
  reading : Unread → Refusal
  short : (buffer least : ℕ) → Refusal
  outside : Refusal
  unfit : Refusal

-- a reply in words
abbrev pub Reply : Type 0
Reply = List ℕ

unfoldable pub failure_words : FailureRecord → List ℕ
failure_words f = f.code ∷ f.detail ∷ f.found ∷ f.position ∷ f.line ∷ f.column ∷ f.from ∷ f.to ∷ []

unfoldable pub numbered_unread : Unread → Reply
numbered_unread (too_long number n) = number ∷ n ∷ []
numbered_unread (malformed n) = 2 ∷ n ∷ []
numbered_unread (lexical f) = 3 ∷ failure_words f
numbered_unread (at_line number l) = number ∷ l ∷ []

-- the number and values of a refusal
unfoldable pub numbered : Refusal → Reply
numbered (reading u) = numbered_unread u
numbered (short b n) = 5 ∷ b ∷ n ∷ []
numbered outside = 6 ∷ []
numbered unfit = 7 ∷ []

-- an acceptance with its values
abbrev pub accepted : List ℕ → Reply
accepted vs = 0 ∷ vs

-- a reply refuses if its number is not 0
unfoldable pub is_refused : Reply → Bool
is_refused [] = false
is_refused (zero ∷ vs) = false
is_refused (suc number ∷ vs) = true

-- the buffers' numbers in refusal 5
abbrev pub text_buffer : ℕ
text_buffer = 1

abbrev pub spare_buffer : ℕ
spare_buffer = 2

abbrev pub lines_buffer : ℕ
lines_buffer = 3

abbrev pub tokens_buffer : ℕ
tokens_buffer = 4

abbrev pub out_buffer : ℕ
out_buffer = 5

abbrev pub names_buffer : ℕ
names_buffer = 6

-- Tests made in order.

-- a refusal where a test holds
unfoldable pub refused_if : Bool → Refusal → Option Refusal
refused_if b r = if b then some r else none

-- the first refusal of tests made in order
unfoldable pub first_of : List (Option Refusal) → Option Refusal
first_of [] = none
first_of (none ∷ ts) = first_of ts
first_of (some r ∷ ts) = some r

-- what a refusal gives, or what stands without one
unfoldable pub unless : {A : Type 0} → Option Refusal → (Refusal → A) → A → A
unless none f x = x
unless (some r) f x = f r

-- the length in refusal 1: this also stands for any longer
abbrev pub max_word : ℕ
max_word = 18_446_744_073_709_551_615

unfoldable pub is_too_long : Limits → List ℕ → Bool
is_too_long lim t = ltb lim.bytes (length t)

unfoldable pub too_long_by : Limits → List ℕ → Unread
too_long_by lim t = too_long lim.too_long_number (min (length t) max_word)

unfoldable pub is_malformed : List ℕ → Bool
is_malformed t = ltb (well_formed_prefix t) (length t)

unfoldable pub malformed_by : List ℕ → Unread
malformed_by t = malformed (well_formed_prefix t)

-- 1 and 2, for a text
abbrev pub long_test : List ℕ → Option Refusal
long_test t = refused_if (is_too_long barge t) (reading (too_long_by barge t))

abbrev pub form_test : List ℕ → Option Refusal
form_test t = refused_if (is_malformed t) (reading (malformed_by t))

-- 5, for a buffer of this length
abbrev pub room_test : (buffer has least : ℕ) → Option Refusal
room_test b has least = refused_if (ltb has least) (short b least)

-- opens the definitions above where a proof says `unfolding reply_rules`
unfoldable pub reply_rules : Unit {0}
unfolding failure_words numbered_unread numbered is_refused refused_if first_of unless is_too_long too_long_by is_malformed malformed_by
reply_rules = tt
