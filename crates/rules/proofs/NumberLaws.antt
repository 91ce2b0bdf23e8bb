-- Laws of numbers: which suffixes base 16 has, and which cuts are numbers.
-- Assumes nothing.
use Prim.Native.Nat.{ℕ, ◌+◌, ◌-◌}
use Prim.Native.Char.{code}
use mathlib.Core.Path.{◌≡◌, refl, sym, ap, ◌∙◌}
use mathlib.Core.Bool.{Bool, true, false, ◌&&◌, not, false≢true}
use mathlib.Core.List.{List, [], ◌∷◌}
use mathlib.Core.Logic.{◌⊎◌, inl, inr}
use native.Mathlib.Omega.{arith}
use lib.Dec.{leb, eqb, eqb→eq}
use lib.ListN.{drop}
use lib.Seq.{drop-drop}
use borrow.Author.Tests.{leb-true, eqb-true}
use Rattle.laws.proofs.Below.{at}
use Rattle.std.specs.Prelude.{if◌then◌else◌}
use Rattle.rules.specs.Lists.{ascii, run, begins}
use Rattle.rules.specs.Kinds.{num}
use Rattle.rules.specs.Tables.{is_digit, digit_class, class_of, keywords, signs, table_rules}
use Rattle.rules.specs.Cut.{Cut, blank, comment, token, in_hex, is_hex, base_of, digits_size, Suffix, no_suffix, i32, u32, suffix_bytes, suffixes, suffix_of, scan_number, number_cut, finding, word_cut, letter_cut, sign_cut, string_cut, cut_by, cut, cut_rules}
use Rattle.rules.specs.Numbers.{begins_with_digit}
use Rattle.rules.proofs.ListLaws.{if_by, and-true, run_true, run_false}
use Rattle.rules.proofs.CutLaws.{cut-cases}
use Rattle.rules.proofs.KindLaws.{OfKind, every_kind, word-by, sign-by, string_by, byte-by}

-- Suffixes in base 16.

-- what stands behind a run does not begin with an element that the run would take
behind-run : (f : ℕ → Bool) (x : ℕ) (p : List ℕ) → f x ≡ true → (t : List ℕ) → begins (x ∷ p) (drop (run f t) t) ≡ false
unfolding begins run
behind-run f x p h [] = refl
behind-run f x p h (y ∷ t) = go (behind-run f x p h t) (f y) refl
  where
    other : f y ≡ false → (b : Bool) → eqb x y ≡ b → (b && begins p t) ≡ false
    other e true q = absurd (false≢true (sym e ∙ ap f (sym (eqb-true x y q)) ∙ h))
    other e false q = refl

    go : begins (x ∷ p) (drop (run f t) t) ≡ false → (b : Bool) → f y ≡ b → begins (x ∷ p) (drop (run f (y ∷ t)) (y ∷ t)) ≡ false
    go later true e = rw (run_true f y t e) later
    go later false e = rw (run_false f y t e) (other e (eqb x y) refl)

abbrev pub HexSuffix : Suffix → Type 0
HexSuffix x = (x ≡ no_suffix) ⊎ ((x ≡ i32) ⊎ (x ≡ u32))

-- without `fx` and `f64`
others-left : (r : List ℕ) → begins (ascii "fx") r ≡ false → begins (ascii "f64") r ≡ false → HexSuffix (suffix_of suffixes r)
unfolding suffix_of suffixes suffix_bytes
others-left r a d =
    rw a
    (if_by HexSuffix (begins (ascii "i32") r) (λ _. inr (inl refl))
    (λ _. if_by HexSuffix (begins (ascii "u32") r) (λ _. inr (inr refl)) (λ _. rw d (inl refl))))

behind-hex : (s : List ℕ) → is_hex s ≡ true → (x : ℕ) (p : List ℕ) → in_hex x ≡ true → begins (x ∷ p) (drop (digits_size s) s) ≡ false
unfolding digits_size
behind-hex s e x p h = rw (e, ← drop-drop (run in_hex (drop 2 s)) 2 s) (behind-run in_hex x p h (drop 2 s))

f_in_hex : in_hex (code "f") ≡ true
unfolding cut_rules
f_in_hex = refl

-- hex digits run first, so that base 16 has no suffix but `i32` and `u32`
pub hex-suffix : (s : List ℕ) → (scan_number s).base ≡ 16 → HexSuffix (scan_number s).suffix
unfolding scan_number base_of
hex-suffix s h = go (is_hex s) refl h
  where
    go : (b : Bool) → is_hex s ≡ b → ◌≡◌ {A = ℕ} (if b then 16 else 10) 16 → HexSuffix (suffix_of suffixes (drop (digits_size s) s))
    go true e q = others-left (drop (digits_size s) s) (behind-hex s e (code "f") (ascii "x") f_in_hex) (behind-hex s e (code "f") (ascii "64") f_in_hex)
    go false e q = absurd (omega arith)

-- Cuts that are numbers.

-- the class of the ten digits, computed
pub digit_class_lem : (b : ℕ) → is_digit b ≡ true → class_of b ≡ digit_class
unfolding table_rules
digit_class_lem b h =
    let w = and-true (leb 48 b) (leb b 57) h in
    let lo = leb-true 48 b w.0 in
    let hi = leb-true b 57 w.1 in
    let e : 48 + (b - 48) ≡ b = omega arith in
    rw (← e) (eqb→eq (class_of (48 + (b - 48))) digit_class (at (λ k. eqb (class_of (48 + k)) digit_class) 10 tt (b - 48) (omega arith)))

-- no other cutter gives the kind of a number
is_other : ℕ → Bool
is_other k = not (eqb k num)

words-other : every_kind is_other keywords ≡ true
unfolding is_other table_rules
words-other = refl

signs-other : every_kind is_other signs ≡ true
unfolding is_other table_rules
signs-other = refl

letter-other : (s : List ℕ) → OfKind is_other (letter_cut s)
unfolding letter_cut word_cut is_other
letter-other s =
    if_by (OfKind is_other) (begins (ascii "b'") s) (λ _. byte-by is_other refl s) (λ _. word-by is_other keywords _ refl words-other)

not_num : (c : Cut) (n : ℕ) → OfKind is_other c → c ≡ token num n → ⊥
unfolding is_other
not_num c n h e = false≢true (rw e at h)

pub record IsNum (s : List ℕ) (size : ℕ) : Type 0 where
  pub begins-so : begins_with_digit s ≡ true
  pub size_is : size ≡ (scan_number s).end

-- a cut is a Num token exactly if the rest begins with a digit, and its size is the end of the scan
pub num_is-scanned : (s : List ℕ) (size : ℕ) → cut s ≡ token num size → IsNum s size
unfolding cut begins_with_digit number_cut is_other
num_is-scanned [] size e = let z : ◌≡◌ {A = ℕ} 0 1 = cc in absurd (omega arith)
num_is-scanned (b ∷ s) size e =
    cut-cases (λ c. c ≡ token num size → IsNum (b ∷ s) size) b s record {
      blanks = λ _ q. absurd (not_num blank size tt q);
      comments = λ q. absurd (not_num comment size tt q);
      letters = λ _ q. absurd (not_num (letter_cut (b ∷ s)) size (letter-other (b ∷ s)) q);
      digits = λ d q. record { begins-so = d; size_is = cc };
      strings = λ _ q. absurd (not_num (string_cut (b ∷ s)) size (string_by is_other (b ∷ s) refl) q);
      others = λ q. absurd (not_num (finding 1 0 (b ∷ s)) size tt q);
      sign = λ _ _ q. absurd (not_num (sign_cut signs (b ∷ s)) size (sign-by is_other signs (b ∷ s) signs-other) q);
    } e

pub scanned-is_num : (s : List ℕ) → begins_with_digit s ≡ true → cut s ≡ token num (scan_number s).end
unfolding cut begins_with_digit cut_by number_cut
scanned-is_num [] h = absurd (false≢true h)
scanned-is_num (b ∷ s) h = rw (digit_class_lem b h)
