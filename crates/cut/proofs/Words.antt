-- Words at an index of a line, and the cuts that hold no word: those are the same with the kinds of words or without.
-- Assumes nothing.
use Prim.Native.Nat.{ℕ, ◌+◌, ◌-◌, ◌/◌, ◌%◌, ◌<◌}
use mathlib.Core.Path.{◌≡◌, refl, sym, ap, ◌∙◌}
use mathlib.Core.Bool.{Bool, true, false}
use mathlib.Core.List.{List}
use native.Mathlib.Omega.{arith}
use native.Mathlib.Numerals.{add-one}
use lib.Dec.{ltb, leb}
use lib.ListN.{length, get_or, drop, take}
use lib.Seq.{drop-cons}
use borrow.Author.Tests.{leb-true, le-ltb, ltb-false, ne_eqb}
use Rattle.rules.specs.Lists.{ascii, begins, run}
use Rattle.rules.specs.Kinds.{ident, num}
use Rattle.rules.specs.Tables.{blank_class, hash_class, letter_class, digit_class, sign_class, class_of, keywords, signs, word_kind, table_rules}
use Rattle.rules.specs.Cut.{Cut, blank, comment, ends, token, fails, in_word, word_cut, letter_cut, Number, scan_number, number_cut, string_cut, byte_cut, sign_cut, cut_by, cut}
use Rattle.rules.proofs.ListLaws.{if_by}
use Rattle.rules.proofs.KindLaws.{OfKind, every_kind, word-by, sign-by, string_by, byte-by}
use Rattle.tables.specs.Bytes.{reaches}
use Rattle.tables.specs.Signs.{sign_code}
use Rattle.signs.specs.Codes.{code_cut}
use Rattle.runs.proofs.ReachLaws.{run-word}
use Rattle.signs.proofs.SignLaws.{code-cut}
use Rattle.cut.specs.Cuts.{plain_kind, plain_cut, kind_asked, cut_named, comment_or}

-- Words.

-- a keyword's kind is below that of an identifier
is_low : ℕ → Bool
is_low k = leb k ident

keywords-low : every_kind is_low keywords ≡ true
unfolding is_low table_rules
keywords-low = refl

low-plain : (k : ℕ) → is_low k ≡ true → plain_kind k ≡ ident
unfolding is_low plain_kind
low-plain k h = if_by (λ n. n ≡ ident) (ltb k ident) (λ _. refl) (λ e. omega (arith, leb-true k ident h, ltb-false k ident e))

pub word_below : (w : List ℕ) → plain_kind (word_kind keywords w) ≡ ident
unfolding is_low
word_below w = low-plain (word_kind keywords w) (word-by is_low keywords w refl keywords-low)

pub named-below : (write : Bool) (w : List ℕ) → plain_kind (kind_asked write (word_kind keywords w)) ≡ ident
unfolding plain_kind
named-below true w = word_below w
named-below false w = ap plain_kind (word_below w)

module _ (line : List ℕ) (at end : ℕ) (e : end ≡ at + run (reaches 0) (drop at line)) where
  pub word_size : end - at ≡ run in_word (drop at line)
  word_size = omega (arith, run-word (drop at line))

  word-named : token (word_kind keywords (take (end - at) (drop at line))) (end - at) ≡ word_cut (drop at line)
  unfolding word_cut
  word-named = ap (λ (n : ℕ). token (word_kind keywords (take n (drop at line))) n) word_size

  word_asked : (w : Bool) → token (kind_asked w (word_kind keywords (take (end - at) (drop at line)))) (end - at) ≡ cut_named w (word_cut (drop at line))
  word_asked true = word-named
  word_asked false = ap plain_cut word-named

  pub word-is : (w : Bool) (k : ℕ) → k ≡ kind_asked w (word_kind keywords (take (end - at) (drop at line))) → token k (end - at) ≡ cut_named w (word_cut (drop at line))
  word-is w k is = ap (λ (n : ℕ). token n (end - at)) is ∙ word_asked w

-- Cuts that hold no word.

abbrev Plain : Cut → Type 0
Plain c = plain_cut c ≡ c

of_kind-plain : (c : Cut) → OfKind (leb ident) c → Plain c
unfolding plain_kind
of_kind-plain blank h = refl
of_kind-plain comment h = refl
of_kind-plain ends h = refl
of_kind-plain (token k n) h = rw (le-ltb k ident (leb-true ident k h))
of_kind-plain (fails f) h = refl

pub byte-plain : (s : List ℕ) → Plain (byte_cut s)
byte-plain s = of_kind-plain (byte_cut s) (byte-by (leb ident) refl s)

pub number-plain : (s : List ℕ) → Plain (number_cut s)
unfolding number_cut
number-plain s = of_kind-plain (number_cut s) refl

pub string_plain : (s : List ℕ) → Plain (string_cut s)
string_plain s = of_kind-plain (string_cut s) (string_by (leb ident) s refl)

-- no sign's kind is below that of an identifier
signs-above : every_kind (leb ident) signs ≡ true
unfolding table_rules
signs-above = refl

any-sign-plain : (s : List ℕ) → Plain (sign_cut signs s)
any-sign-plain s = of_kind-plain (sign_cut signs s) (sign-by (leb ident) signs s signs-above)

pub sign_or_plain : (s : List ℕ) → Plain (comment_or s)
sign_or_plain s = if_by Plain (begins (ascii "//") s) (λ _. refl) (λ _. any-sign-plain s)

pub named-plain : (w : Bool) (c : Cut) → plain_cut c ≡ c → c ≡ cut_named w c
named-plain true c e = refl
named-plain false c e = sym e

-- what a sign's code cuts
pub code-token : (c : ℕ) → 1 < c → token (c % 128) (c / 128 + 1) ≡ code_cut c
unfolding code_cut
code-token c h = sym (rw (ne_eqb c 0 (λ e. omega arith), ne_eqb c 1 (λ e. omega arith), sym (add-one (c / 128))) refl)

-- A cut by the class of its first byte.

module _ (w : Bool) (line : List ℕ) (at : ℕ) (h : at < length line) where
  by_first_lem : cut (drop at line) ≡ cut_by (class_of (get_or line at 0)) (drop at line)
  unfolding cut
  by_first_lem = rw (drop-cons line at 0 h)

  pub in_class : (k : ℕ) → class_of (get_or line at 0) ≡ k → cut_named w (cut_by k (drop at line)) ≡ cut_named w (cut (drop at line))
  in_class k e = ap (cut_named w) (sym (by_first_lem ∙ ap (λ (n : ℕ). cut_by n (drop at line)) e))

  pub plain_class : (k : ℕ) → class_of (get_or line at 0) ≡ k → Plain (cut_by k (drop at line)) → cut_by k (drop at line) ≡ cut_named w (cut (drop at line))
  plain_class k e p = named-plain w (cut_by k (drop at line)) p ∙ in_class k e

  -- a letter that does not begin `b'` begins a word
  pub word-token : class_of (get_or line at 0) ≡ letter_class → begins (ascii "b'") (drop at line) ≡ false → (end : ℕ) → end ≡ at + run (reaches 0) (drop at line)
      → cut_named w (cut (drop at line)) ≡ token (kind_asked w (word_kind keywords (take (end - at) (drop at line)))) (end - at)
  unfolding cut_by letter_cut
  word-token e b end is =
      let letter : cut_by letter_class (drop at line) ≡ word_cut (drop at line) = rw b in
      sym (in_class letter_class e) ∙ ap (cut_named w) letter ∙ sym (word_asked line at end is w)

  pub number-token : class_of (get_or line at 0) ≡ digit_class → (n : Number) → n ≡ scan_number (drop at line) → cut_named w (cut (drop at line)) ≡ token num n.end
  unfolding cut_by number_cut
  number-token e n is = sym (plain_class digit_class e (number-plain (drop at line))) ∙ ap (λ (x : Number). token num x.end) (sym is)

  pub sign-token : class_of (get_or line at 0) ≡ sign_class → (c : ℕ) → c ≡ sign_code (drop at line) → 1 < c → cut_named w (cut (drop at line)) ≡ token (c % 128) (c / 128 + 1)
  unfolding cut_by
  sign-token e c is h =
      sym (plain_class sign_class e (sign_or_plain (drop at line))) ∙ code-cut (drop at line) ∙ ap code_cut (sym is) ∙ sym (code-token c h)

pub blank_cut : (line : List ℕ) (at : ℕ) → at < length line → class_of (get_or line at 0) ≡ blank_class → cut (drop at line) ≡ blank
unfolding cut_by
blank_cut line at h e = sym (in_class true line at h blank_class e)

pub hash_cut : (line : List ℕ) (at : ℕ) → at < length line → class_of (get_or line at 0) ≡ hash_class → cut (drop at line) ≡ comment
unfolding cut_by
hash_cut line at h e = sym (in_class true line at h hash_class e)
