-- Laws of cuts: a token has a kind below Indent and at least one byte; a token and a failure's range stay in the line; the cuts of a line, as a
-- loop meets them.
-- Assumes nothing.
use Prim.Native.Nat.{ℕ, zero, suc, ◌+◌, ◌-◌, ◌≤◌, ◌<◌, zero-le, suc-le-suc, pred}
use Prim.Native.Char.{code}
use mathlib.Core.Path.{◌≡◌, refl, ◌∙◌, ap, subst}
use mathlib.Core.Bool.{Bool, true, false, ◌&&◌}
use mathlib.Core.List.{List, [], ◌∷◌}
use native.Mathlib.Omega.{arith}
use lib.Dec.{ltb, eqb}
use lib.ListN.{length, take, drop, length-drop, drop_of_length-le}
use lib.Seq.{drop-cons, drop-drop}
use borrow.Author.Tests.{ltb-true, lt-ltb, le-ltb}
use Rattle.rules.specs.Lists.{within, ascii, every, elem, run, begins, trim_end}
use Rattle.rules.specs.Utf8.{scalar_size}
use Rattle.rules.specs.Kinds.{str, indent}
use Rattle.rules.specs.Tables.{is_blank, is_cr, is_digit, is_letter, is_hex_digit, is_sign, class_of, Spelling, keywords, signs, word_kind, table_rules}
use Rattle.rules.specs.Failure.{Failure, failure, unterminated_string}
use Rattle.rules.specs.Cut.{Cut, blank, comment, ends, token, fails, finding, in_decimal, in_word, in_string, fraction_size, decimal_size, is_hex, digits_size, Suffix, suffix_bytes, suffixes, suffix_of, scan_number, number_cut, string_end, string_cut, closing_cut, low_digit_cut, high_digit_cut, escape_cut, content_cut, byte_cut, word_cut, letter_cut, sign_cut, cut_by, cut}
use Rattle.rules.specs.Line.{token_at, moved_by, cuts, stops, with_token, cut_step, cuts_from}
use Rattle.rules.proofs.Utf8Laws.{size-le}
use Rattle.rules.proofs.ListLaws.{if_by, or_by, or_left, and-true, run-some, run-le, begins-le, trim_end-le, trim_end_drop}
use Rattle.rules.proofs.KindLaws.{every_kind, word-by}

-- A cut by the class of its first byte.

pub record CutCases (P : Cut → Type 0) (b : ℕ) (s : List ℕ) : Type 0 where
  pub blanks : is_blank b ≡ true → P blank
  pub comments : P comment
  pub letters : is_letter b ≡ true → P (letter_cut (b ∷ s))
  pub digits : is_digit b ≡ true → P (number_cut (b ∷ s))
  pub strings : eqb b (code "\"") ≡ true → P (string_cut (b ∷ s))
  pub others : P (finding 1 0 (b ∷ s))
  pub sign : is_sign b ≡ true → begins (ascii "//") (b ∷ s) ≡ false → P (sign_cut signs (b ∷ s))

pub cut-cases : (P : Cut → Type 0) (b : ℕ) (s : List ℕ) → CutCases P b s → P (cut (b ∷ s))
unfolding cut cut_by class_of
cut-cases P b s c =
    if_by (λ x. P (cut_by x (b ∷ s))) (is_blank b) c.blanks
    (λ _. if_by (λ x. P (cut_by x (b ∷ s))) (eqb b (code "#")) (λ _. c.comments)
    (λ _. if_by (λ x. P (cut_by x (b ∷ s))) (is_letter b) c.letters
    (λ _. if_by (λ x. P (cut_by x (b ∷ s))) (is_digit b) c.digits
    (λ _. if_by (λ x. P (cut_by x (b ∷ s))) (eqb b (code "\"")) c.strings
    (λ _. if_by (λ x. P (cut_by x (b ∷ s))) (is_sign b) (λ h. if_by P (begins (ascii "//") (b ∷ s)) (λ _. c.comments) (c.sign h))
    (λ _. c.others))))))

-- What is known of a cut of s.

pub record TokenOk (s : List ℕ) (kind size : ℕ) : Type 0 where
  pub kind-lt : kind < indent
  pub some_bytes : 0 < size
  pub in_line : size ≤ length s

abbrev pub CutOk : List ℕ → Cut → Type 0
CutOk s blank = Unit {0}
CutOk s comment = Unit {0}
CutOk s ends = Unit {0}
CutOk s (token k n) = TokenOk s k n
CutOk s (fails f) = f.at + f.size ≤ length s

-- Numbers.

fraction-le : (s : List ℕ) → fraction_size s ≤ length s
unfolding fraction_size begins
fraction-le [] = zero-le
fraction-le (x ∷ s) =
    if_by (λ n. n ≤ suc (length s)) (begins (ascii ".") (x ∷ s) && ltb 0 (run is_digit s)) (λ _. suc-le-suc (run-le in_decimal s)) (λ _. zero-le)

suffix-le : (xs : List Suffix) (s : List ℕ) → length (suffix_bytes (suffix_of xs s)) ≤ length s
unfolding suffix_of suffix_bytes
suffix-le [] s = zero-le
suffix-le (x ∷ xs) s =
    if_by (λ y. length (suffix_bytes y) ≤ length s) (begins (suffix_bytes x) s) (begins-le (suffix_bytes x) s) (λ _. suffix-le xs s)

decimal-le : (s : List ℕ) → decimal_size s ≤ length s
unfolding decimal_size
decimal-le s = omega (arith, run-le in_decimal s, fraction-le (drop (run in_decimal s) s), length-drop (run in_decimal s) s)

abbrev InLine : List ℕ → ℕ → Type 0
InLine s n = (0 < n) × (n ≤ length s)

-- a run behind two bytes
marked_in : (f : ℕ → Bool) (s : List ℕ) → 2 ≤ length s → InLine s (2 + run f (drop 2 s))
marked_in f s h = (omega arith, omega (arith, run-le f (drop 2 s), length-drop 2 s))

pub hex-room : (s : List ℕ) → is_hex s ≡ true → 2 ≤ length s
unfolding is_hex
hex-room s = or_by (begins (ascii "0x") s) (begins (ascii "0X") s) (begins-le (ascii "0x") s) (begins-le (ascii "0X") s)

pub digits_le : (s : List ℕ) → digits_size s ≤ length s
unfolding digits_size
digits_le s = if_by (λ n. n ≤ length s) (is_hex s) (λ k. (marked_in _ s (hex-room s k)).1) (λ _. decimal-le s)

digits_in_lem : (b : ℕ) (s : List ℕ) → is_digit b ≡ true → InLine (b ∷ s) (digits_size (b ∷ s))
unfolding digits_size decimal_size in_decimal
digits_in_lem b s h =
    if_by (InLine (b ∷ s)) (is_hex (b ∷ s)) (λ k. marked_in _ (b ∷ s) (hex-room (b ∷ s) k))
    (λ _. (omega (arith, run-some in_decimal b s (or_left (is_digit b) (eqb b (code "_")) h)), decimal-le (b ∷ s)))

pub number-le : (s : List ℕ) → (scan_number s).end ≤ length s
unfolding scan_number
number-le s = omega (arith, digits_le s, suffix-le suffixes (drop (digits_size s) s), length-drop (digits_size s) s)

number_ok : (b : ℕ) (s : List ℕ) → is_digit b ≡ true → CutOk (b ∷ s) (number_cut (b ∷ s))
unfolding number_cut scan_number
number_ok b s h = record { kind-lt = omega arith; some_bytes = omega (arith, (digits_in_lem b s h).0); in_line = number-le (b ∷ s) }

-- Strings and byte literals.

string_ok : (s : List ℕ) → CutOk s (string_cut s)
unfolding string_cut
string_ok s =
    if_by (CutOk s) (ltb (string_end s) (length s))
    (λ h. record { kind-lt = omega arith; some_bytes = omega arith; in_line = ltb-true (string_end s) (length s) h }) (λ _. omega (arith, trim_end-le is_cr s))

-- a scalar's bytes are in the text
scalar-le : (s : List ℕ) → scalar_size s ≤ length s
unfolding scalar_size
scalar-le [] = zero-le
scalar-le (b ∷ s) = go (scalar_size (b ∷ s)) refl
  where
    go : (n : ℕ) → scalar_size (b ∷ s) ≡ n → n ≤ suc (length s)
    go zero e = zero-le
    go (suc n) e = suc-le-suc (size-le b s n e)

-- of a literal in s, what is left from offset k on
module _ (s : List ℕ) where
  closing-ok : (k : ℕ) (r : List ℕ) → k + length r ≤ length s → CutOk s (closing_cut k r)
  unfolding closing_cut
  closing-ok k [] h = omega arith
  closing-ok k (c ∷ r) h =
      if_by (CutOk s) (eqb c (code "'")) (λ _. record { kind-lt = omega arith; some_bytes = omega arith; in_line = omega arith }) (λ _. omega (arith, scalar-le (c ∷ r)))

  low_ok : (r : List ℕ) → 5 + length r ≤ length s → CutOk s (low_digit_cut r)
  unfolding low_digit_cut
  low_ok [] h = omega arith
  low_ok (c ∷ r) h = if_by (CutOk s) (is_hex_digit c) (λ _. closing-ok 6 r (omega arith)) (λ _. omega (arith, scalar-le (c ∷ r)))

  high-ok : (r : List ℕ) → 4 + length r ≤ length s → CutOk s (high_digit_cut r)
  unfolding high_digit_cut
  high-ok [] h = omega arith
  high-ok (c ∷ r) h =
      if_by (CutOk s) (within (code "0") (code "7") c) (λ _. low_ok r (omega arith)) (λ _. if_by (CutOk s) (is_hex_digit c) (λ _. omega (arith, scalar-le (c ∷ r))) (λ _. omega (arith, scalar-le (c ∷ r))))

  escape-ok : (r : List ℕ) → 3 + length r ≤ length s → CutOk s (escape_cut r)
  unfolding escape_cut
  escape-ok [] h = omega arith
  escape-ok (c ∷ r) h =
      if_by (CutOk s) (elem c (ascii "0tnr'\\\"")) (λ _. closing-ok 4 r (omega arith))
      (λ _. if_by (CutOk s) (eqb c (code "x")) (λ _. high-ok r (omega arith)) (λ _. omega (arith, scalar-le (c ∷ r))))

  content-ok : (r : List ℕ) → 2 + length r ≤ length s → CutOk s (content_cut r)
  unfolding content_cut
  content-ok [] h = omega arith
  content-ok (c ∷ r) h =
      if_by (CutOk s) (eqb c (code "'")) (λ _. omega (arith, scalar-le (c ∷ r)))
      (λ _. if_by (CutOk s) (eqb c (code "\\")) (λ _. escape-ok r (omega arith))
      (λ _. if_by (CutOk s) (within 0x20 0x7E c) (λ _. closing-ok 3 r (omega arith))
      (λ _. if_by (CutOk s) (ltb c 0x80) (λ _. omega (arith, scalar-le (c ∷ r))) (λ _. omega (arith, scalar-le (c ∷ r))))))

byte-ok : (s : List ℕ) → 2 ≤ length s → CutOk s (byte_cut s)
unfolding byte_cut
byte-ok s h = content-ok s (drop 2 (trim_end is_cr s)) (omega (arith, length-drop 2 (trim_end is_cr s), trim_end-le is_cr s))

-- Words and signs.

-- a kind below Indent
is_below : ℕ → Bool
is_below k = ltb k indent

keywords-below : every_kind is_below keywords ≡ true
unfolding is_below table_rules
keywords-below = refl

word-kind : (w : List ℕ) → word_kind keywords w < indent
unfolding is_below
word-kind w = ltb-true (word_kind keywords w) indent (word-by is_below keywords w refl keywords-below)

-- a sign has a byte too
abbrev spelling_ok : Spelling → Bool
spelling_ok k = ltb k.kind indent && ltb 0 (length k.bytes)

signs-ok : every spelling_ok signs ≡ true
unfolding table_rules
signs-ok = refl

letter-ok : (b : ℕ) (s : List ℕ) → is_letter b ≡ true → CutOk (b ∷ s) (letter_cut (b ∷ s))
unfolding letter_cut word_cut in_word
letter-ok b s h =
    if_by (CutOk (b ∷ s)) (begins (ascii "b'") (b ∷ s)) (λ k. byte-ok (b ∷ s) (begins-le (ascii "b'") (b ∷ s) k))
    (λ _. record {
      kind-lt = word-kind (take (run in_word (b ∷ s)) (b ∷ s));
      some_bytes = run-some in_word b s (or_left (is_letter b) (in_decimal b) h);
      in_line = run-le in_word (b ∷ s);
    })

sign-ok : (ks : List Spelling) (s : List ℕ) → 0 < length s → every spelling_ok ks ≡ true → CutOk s (sign_cut ks s)
unfolding sign_cut every
sign-ok [] s n h = n
sign-ok (k ∷ ks) s n h =
    let a = and-true (spelling_ok k) (every spelling_ok ks) h in
    let b = and-true (ltb k.kind indent) (ltb 0 (length k.bytes)) a.0 in
    if_by (CutOk s) (begins k.bytes s)
    (λ e. record { kind-lt = ltb-true _ _ b.0; some_bytes = ltb-true _ _ b.1; in_line = begins-le k.bytes s e })
    (λ _. sign-ok ks s n a.1)

pub cut_ok : (s : List ℕ) → CutOk s (cut s)
unfolding cut
cut_ok [] = tt
cut_ok (b ∷ s) =
    cut-cases (CutOk (b ∷ s)) b s record {
      blanks = λ _. tt;
      comments = tt;
      letters = letter-ok b s;
      digits = number_ok b s;
      strings = λ _. string_ok (b ∷ s);
      others = omega (arith, scalar-le (b ∷ s));
      sign = λ _ _. sign-ok signs (b ∷ s) (omega arith) signs-ok;
    }

-- The cuts of a line from an offset on.

-- after `skip` bytes they are those of the rest
pub cuts_from_skip : (at skip : ℕ) (s : List ℕ) → cuts_from at skip s ≡ cuts_from (at + skip) 0 (drop skip s)
unfolding cuts_from
cuts_from_skip at zero [] = refl
cuts_from_skip at (suc skip) [] = refl
cuts_from_skip at zero (b ∷ s) = ap (λ (n : ℕ). cuts_from n 0 (b ∷ s)) (omega arith)
cuts_from_skip at (suc skip) (b ∷ s) =
    cuts_from_skip (suc at) skip s ∙ ap (λ (n : ℕ). cuts_from n 0 (drop skip s)) (omega arith)

cuts_from-cons : (at : ℕ) (l : List ℕ) → at < length l → cuts_from at 0 (drop at l) ≡ cut_step at (cut (drop at l)) (λ skip. cuts_from (suc at) skip (drop (suc at) l))
unfolding cuts_from
cuts_from-cons at l h = rw (drop-cons l at 0)

pub cuts-end : (at : ℕ) (l : List ℕ) → length l ≤ at → cuts_from at 0 (drop at l) ≡ cuts []
unfolding cuts_from
cuts-end at l h = rw (drop_of_length-le l h)

-- a step of the loop, by what is cut at offset `at`
module _ (at : ℕ) (l : List ℕ) (h : at < length l) where
  cuts-by : (c : Cut) → cut (drop at l) ≡ c → cuts_from at 0 (drop at l) ≡ cut_step at c (λ skip. cuts_from (suc at) skip (drop (suc at) l))
  cuts-by c e = cuts_from-cons at l h ∙ ap (λ (c : Cut). cut_step at c (λ skip. cuts_from (suc at) skip (drop (suc at) l))) e

  pub cuts-blank : cut (drop at l) ≡ blank → cuts_from at 0 (drop at l) ≡ cuts_from (at + 1) 0 (drop (at + 1) l)
  unfolding cut_step
  cuts-blank e = cuts-by blank e ∙ ap (λ (n : ℕ). cuts_from n 0 (drop n l)) (omega arith)

  pub cuts-comment : cut (drop at l) ≡ comment → cuts_from at 0 (drop at l) ≡ cuts []
  unfolding cut_step
  cuts-comment e = cuts-by comment e

  pub cuts-token : (k n : ℕ) → cut (drop at l) ≡ token k n → cuts_from at 0 (drop at l) ≡ with_token (token_at k at n) (cuts_from (at + n) 0 (drop (at + n) l))
  unfolding cut_step
  cuts-token k n e =
      let s : TokenOk (drop at l) k n = subst (CutOk (drop at l)) e (cut_ok (drop at l)) in
      let m : suc at + pred n ≡ at + n = omega arith in
      cuts-by (token k n) e
      ∙ ap (with_token (token_at k at n))
      (cuts_from_skip (suc at) (pred n) (drop (suc at) l) ∙ ap (cuts_from (suc at + pred n) 0) (drop-drop (pred n) (suc at) l)
      ∙ ap (λ (i : ℕ). cuts_from i 0 (drop i l)) m)

  pub cuts-fails : (f : Failure) → cut (drop at l) ≡ fails f → cuts_from at 0 (drop at l) ≡ stops (moved_by at f)
  unfolding cut_step
  cuts-fails f e = cuts-by (fails f) e

-- A string at an index.

pub string_at : (l : List ℕ) (at : ℕ) → string_end (drop at l) ≡ suc (run in_string (drop (at + 1) l))
unfolding string_end
string_at l at = rw (drop-drop 1 at l)

module _ (l : List ℕ) (at e : ℕ) (inside : at < length l) (run-to : e ≡ at + 1 + run in_string (drop (at + 1) l)) where
  pub string_token : e < length l → string_cut (drop at l) ≡ token str (e + 1 - at)
  unfolding string_cut
  string_token h =
      let n : string_end (drop at l) ≡ e - at = omega (arith, string_at l at) in
      let t : ltb (string_end (drop at l)) (length (drop at l)) ≡ true = lt-ltb (string_end (drop at l)) (length (drop at l)) (omega (arith, length-drop at l)) in
      rw t (ap (token str) (omega arith))

  pub string_open : length l ≤ e → string_cut (drop at l) ≡ fails (failure unterminated_string 0 0 (length (trim_end is_cr l) - at))
  unfolding string_cut
  string_open h =
      let n : string_end (drop at l) ≡ e - at = omega (arith, string_at l at) in
      let t : ltb (string_end (drop at l)) (length (drop at l)) ≡ false = le-ltb (string_end (drop at l)) (length (drop at l)) (omega (arith, length-drop at l)) in
      rw t (ap (λ (k : ℕ). fails (failure unterminated_string 0 0 k)) (ap length (trim_end_drop is_cr at l) ∙ length-drop at (trim_end is_cr l)))
