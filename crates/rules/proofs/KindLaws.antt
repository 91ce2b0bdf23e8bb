-- The kinds of cuts: what holds of every kind in a table holds of what is cut by it.
-- Assumes nothing.
use Prim.Native.Nat.{ℕ}
use Prim.Native.Char.{code}
use mathlib.Core.Path.{◌≡◌}
use mathlib.Core.Bool.{Bool, true}
use mathlib.Core.List.{List, [], ◌∷◌}
use lib.Dec.{ltb, eqb}
use lib.ListN.{length, drop}
use Rattle.rules.specs.Lists.{within, ascii, every, elem, same, begins, trim_end}
use Rattle.rules.specs.Kinds.{ident, byte_lit, str}
use Rattle.rules.specs.Tables.{is_cr, is_hex_digit, Spelling, word_kind}
use Rattle.rules.specs.Cut.{Cut, blank, comment, ends, token, fails, string_end, string_cut, closing_cut, low_digit_cut, high_digit_cut, escape_cut, content_cut, byte_cut, sign_cut}
use Rattle.rules.proofs.ListLaws.{if_by, and-true}

-- a token's kind passes the test; what is no token passes it too
abbrev pub OfKind : (ℕ → Bool) → Cut → Type 0
OfKind q blank = Unit {0}
OfKind q comment = Unit {0}
OfKind q ends = Unit {0}
OfKind q (token k n) = q k ≡ true
OfKind q (fails f) = Unit {0}

abbrev pub every_kind : (ℕ → Bool) → List Spelling → Bool
every_kind q ks = every (λ (k : Spelling). q k.kind) ks

module _ (q : ℕ → Bool) where
  pub word-by : (ks : List Spelling) (w : List ℕ) → q ident ≡ true → every_kind q ks ≡ true → q (word_kind ks w) ≡ true
  unfolding word_kind every
  word-by [] w i h = i
  word-by (k ∷ ks) w i h =
      let a = and-true (q k.kind) (every_kind q ks) h in
      if_by (λ n. q n ≡ true) (same k.bytes w) (λ _. a.0) (λ _. word-by ks w i a.1)

  pub sign-by : (ks : List Spelling) (s : List ℕ) → every_kind q ks ≡ true → OfKind q (sign_cut ks s)
  unfolding sign_cut every
  sign-by [] s h = tt
  sign-by (k ∷ ks) s h =
      let a = and-true (q k.kind) (every_kind q ks) h in
      if_by (OfKind q) (begins k.bytes s) (λ _. a.0) (λ _. sign-by ks s a.1)

  pub string_by : (s : List ℕ) → q str ≡ true → OfKind q (string_cut s)
  unfolding string_cut
  string_by s h = if_by (OfKind q) (ltb (string_end s) (length s)) (λ _. h) (λ _. tt)

  module _ (h : q byte_lit ≡ true) where
    closing-by : (k : ℕ) (s : List ℕ) → OfKind q (closing_cut k s)
    unfolding closing_cut
    closing-by k [] = tt
    closing-by k (c ∷ s) = if_by (OfKind q) (eqb c (code "'")) (λ _. h) (λ _. tt)

    low_by : (s : List ℕ) → OfKind q (low_digit_cut s)
    unfolding low_digit_cut
    low_by [] = tt
    low_by (c ∷ s) = if_by (OfKind q) (is_hex_digit c) (λ _. closing-by 6 s) (λ _. tt)

    high-by : (s : List ℕ) → OfKind q (high_digit_cut s)
    unfolding high_digit_cut
    high-by [] = tt
    high-by (c ∷ s) =
        if_by (OfKind q) (within (code "0") (code "7") c) (λ _. low_by s) (λ _. if_by (OfKind q) (is_hex_digit c) (λ _. tt) (λ _. tt))

    escape-by : (s : List ℕ) → OfKind q (escape_cut s)
    unfolding escape_cut
    escape-by [] = tt
    escape-by (c ∷ s) =
        if_by (OfKind q) (elem c (ascii "0tnr'\\\"")) (λ _. closing-by 4 s) (λ _. if_by (OfKind q) (eqb c (code "x")) (λ _. high-by s) (λ _. tt))

    content-by : (s : List ℕ) → OfKind q (content_cut s)
    unfolding content_cut
    content-by [] = tt
    content-by (c ∷ s) =
        if_by (OfKind q) (eqb c (code "'")) (λ _. tt)
        (λ _. if_by (OfKind q) (eqb c (code "\\")) (λ _. escape-by s)
        (λ _. if_by (OfKind q) (within 0x20 0x7E c) (λ _. closing-by 3 s)
        (λ _. if_by (OfKind q) (ltb c 0x80) (λ _. tt) (λ _. tt))))

    pub byte-by : (s : List ℕ) → OfKind q (byte_cut s)
    unfolding byte_cut
    byte-by s = content-by (drop 2 (trim_end is_cr s))
