-- One token cut at the front of the rest of a line (the line without its LF). A cut at offset `at` is `cut (drop at line)`.
-- Assumes nothing.
use Rattle.std.specs.Prelude.{ℕ, suc, ◌+◌, Bool, ◌&&◌, ◌||◌, not, List, [], ◌∷◌, ltb, eqb, length, take, drop, if◌then◌else◌}
use Prim.Native.Char.{code}
use Rattle.rules.specs.Lists.{within, ascii, elem, begins, run, trim_end}
use Rattle.rules.specs.Utf8.{scalar_size, scalar_value}
use Rattle.rules.specs.Kinds.{num, byte_lit, str}
use Rattle.rules.specs.Tables.{is_cr, is_digit, is_letter, is_hex_digit, blank_class, hash_class, letter_class, digit_class, quote_class, sign_class, class_of, Spelling, keywords, signs, word_kind, table_rules}
use Rattle.rules.specs.Failure.{Failure, failure, unexpected_character, expected_and, unterminated_string, unterminated, empty, escape_above, expected_hex_digit, unknown_escape, control_character, non_ascii, expected_quote, failure_rules}

-- a blank byte; a comment, which ends the line; the line's end; a token of this kind and size; a failure, its offset from the cut
pub data Cut : Type 0 where
  blank : Cut
  comment : Cut
  ends : Cut
  token : (kind size : ℕ) → Cut
  fails : Failure → Cut

-- a failure at offset k, where s begins, over the scalar there, without or with that scalar
abbrev pub failing : (detail k : ℕ) → List ℕ → Cut
failing d k s = fails (failure d 0 k (scalar_size s))

abbrev pub finding : (detail k : ℕ) → List ℕ → Cut
finding d k s = fails (failure d (scalar_value s) k (scalar_size s))

-- Numbers: `0x` or `0X`, then any hex digits and `_`; otherwise digits and `_`, then a fraction; then at most one suffix.

unfoldable pub in_decimal : ℕ → Bool
in_decimal b = is_digit b || eqb b (code "_")

unfoldable pub in_hex : ℕ → Bool
in_hex b = is_hex_digit b || eqb b (code "_")

-- a point and a digit, with all digits and `_` that follow
unfoldable pub fraction_size : List ℕ → ℕ
fraction_size s = if begins (ascii ".") s && ltb 0 (run is_digit (drop 1 s)) then suc (run in_decimal (drop 1 s)) else 0

unfoldable pub decimal_size : List ℕ → ℕ
decimal_size s = run in_decimal s + fraction_size (drop (run in_decimal s) s)

-- it begins with `0x` or `0X`
unfoldable pub is_hex : List ℕ → Bool
is_hex s = begins (ascii "0x") s || begins (ascii "0X") s

-- the base (10 or 16)
unfoldable pub base_of : List ℕ → ℕ
base_of s = if is_hex s then 16 else 10

-- where digits, `_` and fraction end; `0x` counts among them
unfoldable pub digits_size : List ℕ → ℕ
digits_size s = if is_hex s then 2 + run in_hex (drop 2 s) else decimal_size s

pub data Suffix : Type 0 where
  no_suffix : Suffix
  fx : Suffix
  i32 : Suffix
  u32 : Suffix
  f64 : Suffix

unfoldable pub suffix_bytes : Suffix → List ℕ
suffix_bytes no_suffix = []
suffix_bytes fx = ascii "fx"
suffix_bytes i32 = ascii "i32"
suffix_bytes u32 = ascii "u32"
suffix_bytes f64 = ascii "f64"

-- at most one of `fx` `i32` `u32` `f64`
unfoldable pub suffixes : List Suffix
suffixes = fx ∷ i32 ∷ u32 ∷ f64 ∷ []

-- which suffix follows, if any: the first of these that s begins with
unfoldable pub suffix_of : List Suffix → List ℕ → Suffix
suffix_of [] s = no_suffix
suffix_of (x ∷ xs) s = if begins (suffix_bytes x) s then x else suffix_of xs s

-- a number's scan, in offsets from its start: the base, where digits, `_` and fraction end, the suffix that follows there, and the end
pub record Number : Type 0 where
  pub base : ℕ
  pub digits : ℕ
  pub suffix : Suffix
  pub end : ℕ

abbrev pub number_with : (base digits : ℕ) → Suffix → Number
number_with b d x = record { base = b; digits = d; suffix = x; end = d + length (suffix_bytes x) }

unfoldable pub scan_number : List ℕ → Number
scan_number s = number_with (base_of s) (digits_size s) (suffix_of suffixes (drop (digits_size s) s))

unfoldable pub number_cut : List ℕ → Cut
number_cut s = token num (scan_number s).end

-- Strings: to the next quote; otherwise a failure up to the line's end less its trailing CRs.

unfoldable pub in_string : ℕ → Bool
in_string b = not (eqb b (code "\""))

-- the offset of the closing quote, or of the line's end
unfoldable pub string_end : List ℕ → ℕ
string_end s = suc (run in_string (drop 1 s))

unfoldable pub string_cut : List ℕ → Cut
string_cut s =
    if ltb (string_end s) (length s) then token str (suc (string_end s))
    else fails (failure unterminated_string 0 0 (length (trim_end is_cr s)))

-- Byte literals, of a line that counts as ended at its trailing CRs. Each step takes what is left from offset k on.

-- the line ends before the literal does: a failure at the `b`, up to that end
abbrev pub line_ends : (k : ℕ) → Cut
line_ends k = fails (failure unterminated 0 0 k)

unfoldable pub closing_cut : (k : ℕ) → List ℕ → Cut
closing_cut k [] = line_ends k
closing_cut k (c ∷ s) = if eqb c (code "'") then token byte_lit (suc k) else finding expected_quote k (c ∷ s)

unfoldable pub low_digit_cut : List ℕ → Cut
low_digit_cut [] = line_ends 5
low_digit_cut (c ∷ s) = if is_hex_digit c then closing_cut 6 s else finding expected_hex_digit 5 (c ∷ s)

unfoldable pub high_digit_cut : List ℕ → Cut
high_digit_cut [] = line_ends 4
high_digit_cut (c ∷ s) =
    if within (code "0") (code "7") c then low_digit_cut s
    else if is_hex_digit c then failing escape_above 4 (c ∷ s)
    else finding expected_hex_digit 4 (c ∷ s)

unfoldable pub escape_cut : List ℕ → Cut
escape_cut [] = line_ends 3
escape_cut (c ∷ s) =
    if elem c (ascii "0tnr'\\\"") then closing_cut 4 s
    else if eqb c (code "x") then high_digit_cut s
    else finding unknown_escape 3 (c ∷ s)

unfoldable pub content_cut : List ℕ → Cut
content_cut [] = line_ends 2
content_cut (c ∷ s) =
    if eqb c (code "'") then failing empty 2 (c ∷ s)
    else if eqb c (code "\\") then escape_cut s
    else if within 0x20 0x7E c then closing_cut 3 s
    else if ltb c 0x80 then finding control_character 2 (c ∷ s)
    else finding non_ascii 2 (c ∷ s)

unfoldable pub byte_cut : List ℕ → Cut
byte_cut s = content_cut (drop 2 (trim_end is_cr s))

-- Words, signs, and what no rule takes.

unfoldable pub in_word : ℕ → Bool
in_word b = is_letter b || in_decimal b

unfoldable pub word_cut : List ℕ → Cut
word_cut s = token (word_kind keywords (take (run in_word s) s)) (run in_word s)

unfoldable pub letter_cut : List ℕ → Cut
letter_cut s = if begins (ascii "b'") s then byte_cut s else word_cut s

-- the first sign that the text begins with; what is left is a lone `&`
unfoldable pub sign_cut : List Spelling → List ℕ → Cut
sign_cut [] s = fails (failure expected_and 0 0 1)
sign_cut (k ∷ ks) s = if begins k.bytes s then token k.kind (length k.bytes) else sign_cut ks s

-- by the class of the first byte
unfoldable pub cut_by : (class : ℕ) → List ℕ → Cut
cut_by c s =
    if eqb c blank_class then blank
    else if eqb c hash_class then comment
    else if eqb c letter_class then letter_cut s
    else if eqb c digit_class then number_cut s
    else if eqb c quote_class then string_cut s
    else if eqb c sign_class then if begins (ascii "//") s then comment else sign_cut signs s
    else finding unexpected_character 0 s

unfoldable pub cut : List ℕ → Cut
cut [] = ends
cut (b ∷ s) = cut_by (class_of b) (b ∷ s)

-- opens the definitions above, and those of the modules below, where a proof says `unfolding cut_rules`
unfoldable pub cut_rules : Unit {0}
unfolding in_decimal in_hex fraction_size decimal_size is_hex base_of digits_size suffix_bytes suffixes suffix_of scan_number number_cut in_string
    string_end string_cut closing_cut low_digit_cut high_digit_cut escape_cut content_cut byte_cut in_word word_cut letter_cut sign_cut cut_by cut failure_rules table_rules
cut_rules = tt
