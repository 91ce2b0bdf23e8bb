-- Report: the failure's message, as `fmt_mark_error` writes it.
-- Assumes nothing.
use Rattle.std.specs.Prelude.{ℕ, zero, suc, ◌+◌, ◌-◌, ◌/◌, ◌%◌, pred, true, false, List, [], ◌∷◌, ◌++◌, ltb, length, drop, replicate, if◌then◌else◌}
use Prim.Native.Char.{code}
use Rattle.rules.specs.Lists.{ascii, concat, overwrite}
use Rattle.rules.specs.Utf8.{encode}
use Rattle.rules.specs.Failure.{Shows, nothing, scalar, hex_digits, Detail, detail_of, FailureRecord}
use Rattle.rules.specs.Reading.{content}
use Rattle.rules.specs.Replies.{too_long, malformed, lexical, at_line, Refusal, reading, Reply, numbered, accepted, out_buffer, unless, room_test}
use Rattle.rules.specs.Records.{FreshReading, recorded, unread, fresh_reading}

-- Digits.

unfoldable pub digit : ℕ → ℕ
digit d = if ltb d 10 then code "0" + d else code "A" + (d - 10)

-- so many digits of n, in a base
unfoldable pub digits_in : (base places n : ℕ) → List ℕ → List ℕ
digits_in base zero n tail = tail
digits_in base (suc places) n tail = digits_in base places (n / base) (digit (n % base) ∷ tail)

-- how many decimal digits n has; n itself is fuel enough
unfoldable pub places_from : (fuel n : ℕ) → ℕ
places_from zero n = 1
places_from (suc fuel) n = elim (ltb n 10) [ true ↦ 1 | false ↦ suc (places_from fuel (n / 10)) ]

unfoldable pub decimal : ℕ → List ℕ
decimal n = digits_in 10 (places_from n n) n []

-- The message.

-- the scalar found, as a detail shows it
unfoldable pub shown : Shows → (found : ℕ) → List ℕ
shown nothing c = []
shown scalar c = encode c
shown hex_digits c = digits_in 16 4 c []

unfoldable pub detail_text : Detail → (found : ℕ) → List ℕ
detail_text d c = ascii d.front ++ (shown d.shows c ++ ascii d.back)

-- right-aligned, at least 2 wide
unfoldable pub aligned : List ℕ → List ℕ
aligned ds = replicate (2 - length ds) (code " ") ++ ds

-- the line where a failure stands, without its LF; its trailing CRs are kept
unfoldable pub failing_line : List ℕ → FailureRecord → List ℕ
failing_line t f = content (drop (suc f.position - f.column) t)

unfoldable pub message : List ℕ → FailureRecord → List ℕ
message t f =
    concat
    (ascii "error[E" ∷ digits_in 10 4 f.code [] ∷ ascii "]: " ∷ detail_text (detail_of f.detail) f.found
    ∷ ascii "\n --> <input>:" ∷ decimal f.line ∷ ascii ":" ∷ decimal f.column
    ∷ ascii "\n  |\n" ∷ aligned (decimal f.line) ∷ ascii " | " ∷ failing_line t f
    ∷ ascii "\n  | " ∷ replicate (pred f.column) (code " ") ∷ ascii "^" ∷ [])

-- The call: its reply, and what out holds afterwards.

pub record Reported : Type 0 where
  pub reply : Reply
  pub out : List ℕ

-- a refusal leaves out untouched
abbrev pub not_reported : (out : List ℕ) → Refusal → Reported
not_reported out r = record { reply = numbered r; out = out }

-- a message at the front of out, later bytes untouched; 5 (out)
unfoldable pub written : (out message : List ℕ) → Reported
written out msg =
    unless (room_test out_buffer (length out) (length msg)) (not_reported out)
    (record { reply = accepted (length msg ∷ []); out = overwrite msg out })

-- 0 if the text reads; 1, 2, 4; never 3
unfoldable pub report_by : (t out : List ℕ) → FreshReading → Reported
report_by t out (recorded r) = record { reply = accepted (0 ∷ []); out = out }
report_by t out (unread (lexical f)) = written out (message t f)
report_by t out (unread (too_long number n)) = not_reported out (reading (too_long number n))
report_by t out (unread (malformed n)) = not_reported out (reading (malformed n))
report_by t out (unread (at_line number l)) = not_reported out (reading (at_line number l))

unfoldable pub report_into : (t out : List ℕ) → Reported
report_into t out = report_by t out (fresh_reading t)

-- opens the definitions above where a proof says `unfolding report_rules`
unfoldable pub report_rules : Unit {0}
unfolding digit digits_in places_from decimal shown detail_text aligned failing_line message written report_by report_into
report_rules = tt
