-- What holds of every entry of a table, computed over the table.
-- Assumes nothing.
use Rattle.std.specs.Prelude.{ℕ, zero, suc, pred, ◌≡◌, refl, Bool, true, false, ◌&&◌, ◌||◌, not, List, [], ◌∷◌, ◌++◌, map, leb, ltb, eqb, length, get_or, if◌then◌else◌}
use Prim.Native.String.{String}
use Prim.Native.Char.{code}
use Rattle.std.specs.Bool.{beq}
use Rattle.std.proofs.Math.Option.{Option, none, some}
use Rattle.rules.specs.Lists.{within, ascii, any, every, elem, same}
use Rattle.rules.specs.Utf8.{Range, Row, table, following, scalar_value, leading_ones}
use Rattle.rules.specs.Kinds.{kind_names, kind_named, ident, num, byte_lit, str, implies, l_paren, r_paren, indent, dedent, newline}
use Rattle.rules.specs.Tables.{Spelling, keywords, signs, is_sign, class_of, word_kind, table_rules}
use Rattle.rules.specs.Cut.{Cut, blank, comment, ends, token, fails, no_suffix, suffix_bytes, suffixes, number_with, scan_number, cut, cut_rules}
use Rattle.rules.specs.Numbers.{suffix_number, number_rules}
use Rattle.rules.specs.TokenText.{indent_name, dedent_name, newline_name, names, names_size, part_by, part_bytes}

-- n, n + 1 and so on, `count` numbers
pub from : (count n : ℕ) → List ℕ
from zero n = []
from (suc k) n = n ∷ from k (suc n)

pub all_bytes : List ℕ
all_bytes = from 256 0

-- how many elements pass a test
pub count_of : {A : Type 0} → (A → Bool) → List A → ℕ
count_of f [] = 0
count_of f (x ∷ xs) = if f x then suc (count_of f xs) else count_of f xs

-- the elements of a list, each once
pub distinct : List ℕ → List ℕ
distinct [] = []
distinct (x ∷ xs) = if elem x xs then distinct xs else x ∷ distinct xs

-- Kinds.

pub record Named : Type 0 where
  pub number : ℕ
  pub name : String

named : ℕ → String → Named
named k s = record { number = k; name = s }

-- the numbers that the rules use are those of their names; 93 names, Newline the last
pub kinds : List Named
kinds =
    named ident "Ident" ∷ named num "Num" ∷ named byte_lit "ByteLit" ∷ named str "String" ∷ named implies "Implies" ∷ named l_paren "LParen"
    ∷ named r_paren "RParen" ∷ named indent "Indent" ∷ named dedent "Dedent" ∷ named newline "Newline" ∷ []

pub kinds-named : map (λ (k : Named). k.number) kinds ≡ map (λ (k : Named). kind_named k.name) kinds
unfolding kinds named table_rules
kinds-named = refl

pub kind-count : length kind_names ≡ suc newline
unfolding kind_names
kind-count = refl

-- Spellings.

is_cut : (kind size : ℕ) → Cut → Bool
is_cut k n blank = false
is_cut k n comment = false
is_cut k n ends = false
is_cut k n (token kind size) = eqb k kind && eqb n size
is_cut k n (fails f) = false

-- alone, it is cut as one token of its kind
pub cuts_itself : Spelling → Bool
cuts_itself k = is_cut k.kind (length k.bytes) (cut k.bytes)

pub spellings_cut : every cuts_itself (keywords ++ signs) ≡ true
unfolding is_cut cuts_itself cut_rules
spellings_cut = refl

pub kinds_of : List Spelling → List ℕ
kinds_of ks = map (λ (k : Spelling). k.kind) ks

-- 46 spellings of 45 kinds, which are the first 45; 41 signs of 40 kinds
pub spelling_counts : map length (keywords ∷ signs ∷ []) ≡ 46 ∷ 41 ∷ []
unfolding keywords signs
spelling_counts = refl

pub kind-counts : map (λ ks. length (distinct (kinds_of ks))) (keywords ∷ signs ∷ []) ≡ 45 ∷ 40 ∷ []
unfolding distinct kinds_of table_rules
kind-counts = refl

-- a keyword's kind is below Ident, a sign's between the literals and Indent, and none is Arrow
pub is_keyword_kind : ℕ → Bool
is_keyword_kind k = ltb k ident

pub is_sign_kind : ℕ → Bool
is_sign_kind k = within (suc str) (pred indent) k && not (eqb k (kind_named "Arrow"))

pub kinds_in_order : (every is_keyword_kind (kinds_of keywords) && every is_sign_kind (kinds_of signs)) ≡ true
unfolding kinds_of is_keyword_kind is_sign_kind table_rules
kinds_in_order = refl

-- the two spellings that share a kind, in each table
pub shared-kinds : (eqb (word_kind keywords (ascii "when")) (word_kind keywords (ascii "When")) && eqb (word_kind signs (ascii ":=")) (word_kind signs (ascii "="))) ≡ true
unfolding table_rules
shared-kinds = refl

-- a byte is a sign byte exactly if some sign begins with it
pub begins_with : ℕ → Spelling → Bool
begins_with b k = eqb (get_or k.bytes 0 0) b

pub sign-bytes : every (λ b. beq (is_sign b) (any (begins_with b) signs)) all_bytes ≡ true
unfolding all_bytes from begins_with table_rules
sign-bytes = refl

-- and is a sign by itself, but for `&`
pub is_alone : ℕ → Bool
is_alone b = not (is_sign b) || (any (λ (k : Spelling). same k.bytes (b ∷ [])) signs || eqb b (get_or (ascii "&") 0 0))

pub signs-alone : every is_alone all_bytes ≡ true
unfolding all_bytes from is_alone table_rules
signs-alone = refl

-- Suffixes.

-- they are the spellings of the number types
pub suffix-kinds : map (λ x. word_kind keywords (suffix_bytes x)) suffixes ≡ map kind_named ("TyFx" ∷ "TyI32" ∷ "TyU32" ∷ "TyF64" ∷ [])
unfolding suffixes table_rules cut_rules
suffix-kinds = refl

-- a digit and a suffix are scanned as that suffix
pub suffixes-found : map (λ d. map (λ x. scan_number (d ∷ suffix_bytes x)) suffixes) (from 10 (code "0")) ≡ map (λ d. map (number_with 10 1) suffixes) (from 10 (code "0"))
unfolding from cut_rules
suffixes-found = refl

-- their numbers in a reply are their places in the table, from 1
pub suffixes-numbered : map suffix_number (no_suffix ∷ suffixes) ≡ from 5 0
unfolding from number_rules
suffixes-numbered = refl

-- Classes.

-- the class of each byte
pub class_numbers : List ℕ
class_numbers = map class_of all_bytes

-- how many bytes each class has: 3 blanks, `#`, 52 letters, 10 digits, `"`, 22 sign bytes, 167 others
pub class_sizes : map (λ c. count_of (eqb c) class_numbers) (from 7 0) ≡ 3 ∷ 1 ∷ 52 ∷ 10 ∷ 1 ∷ 22 ∷ 167 ∷ []
unfolding class_numbers all_bytes from count_of table_rules
class_sizes = refl

-- UTF-8.

-- a scalar's length by the leading one bits of its first byte: 0 (one byte), 2, 3 or 4
length_by_ones : ℕ → ℕ
length_by_ones b = if eqb (leading_ones b) 0 then 1 else leading_ones b

pub agrees : ℕ → Option (List Range) → Bool
agrees b none = not (eqb (leading_ones b) 0)
agrees b (some rs) = eqb (suc (length rs)) (length_by_ones b) && (not (eqb (leading_ones b) 1) && leb (leading_ones b) 4)

pub lengths_agree : every (λ b. agrees b (following table b)) all_bytes ≡ true
unfolding all_bytes from length_by_ones agrees table_rules
lengths_agree = refl

-- the first and the last scalar of a row
pub lowest : Row → List ℕ
lowest r = r.first.lo ∷ map (λ (x : Range). x.lo) r.later

pub highest : Row → List ℕ
highest r = r.first.hi ∷ map (λ (x : Range). x.hi) r.later

-- the values of the rows follow one another, but for the surrogates D800 to DFFF, from 0 to 10FFFF
pub rows_follow : map (λ (r : Row). scalar_value (lowest r) ∷ scalar_value (highest r) ∷ []) table
    ≡ (0 ∷ 0x7F ∷ []) ∷ (0x80 ∷ 0x7FF ∷ []) ∷ (0x800 ∷ 0xFFF ∷ []) ∷ (0x1000 ∷ 0xCFFF ∷ []) ∷ (0xD000 ∷ 0xD7FF ∷ []) ∷ (0xE000 ∷ 0xFFFF ∷ [])
    ∷ (0x10000 ∷ 0x3FFFF ∷ []) ∷ (0x40000 ∷ 0xFFFFF ∷ []) ∷ (0x100000 ∷ 0x10FFFF ∷ []) ∷ []
unfolding lowest highest table_rules
rows_follow = refl

-- Names.

pub names-size : length names ≡ names_size
unfolding names
names-size = refl

-- the parts of the names are the three names
pub name-parts : map (λ k. part_bytes [] names (part_by k 0 0)) (indent ∷ dedent ∷ newline ∷ []) ≡ indent_name ∷ dedent_name ∷ newline_name ∷ []
unfolding names part_bytes part_by
name-parts = refl
