-- The code of a sign depends on its first byte, on the column of the second, and on whether the third is `=`; so it can be looked up.
-- Assumes nothing.
use Prim.Native.Nat.{ℕ, suc, pred, ◌+◌, ◌-◌, ◌*◌, ◌/◌, ◌%◌, ◌≤◌, ◌<◌}
use mathlib.Core.Path.{◌≡◌, refl, sym, ap, ◌∙◌}
use mathlib.Core.Bool.{Bool, true, false, ◌&&◌, ◌||◌, not, false≢true}
use mathlib.Core.List.{List, [], ◌∷◌}
use native.Mathlib.Omega.{arith}
use native.Mathlib.Numerals.{add-one}
use lib.Dec.{leb, leb→le, eqb}
use lib.ListN.{length, get_or, drop, drop_of_length-le}
use lib.Seq.{drop-cons, drop-drop}
use borrow.Author.Tests.{eqb-true, ne_eqb, leb-true}
use Rattle.laws.proofs.Below.{at}
use Rattle.std.specs.Prelude.{if◌then◌else◌}
use Rattle.rules.specs.Lists.{within, ascii, any, every, elem, begins, run, same}
use Rattle.rules.specs.Tables.{Spelling, signs, table_rules}
use Rattle.rules.specs.Cut.{comment, token, sign_cut}
use Rattle.rules.proofs.ListLaws.{and-true, or_by, run-le}
use Rattle.rules.proofs.StateLaws.{same_true}
use Rattle.tables.specs.Signs.{code_of, code_in, sign_code, first_bytes, second_bytes, place_of, pair_code, sign_index, code_rules}
use Rattle.signs.specs.Codes.{code_cut, column_of, longer, longer_by}
use Rattle.tables.proofs.Entries.{by-table}

-- A byte in a list.

-- what stands at its place
at_place : (c : ℕ) (xs : List ℕ) → get_or xs (place_of c xs) 0 ≡ (if elem c xs then c else 0)
unfolding place_of run elem any
at_place c [] = refl
at_place c (x ∷ xs) = go (eqb c x) refl (at_place c xs)
  where
    go : (b : Bool) → eqb c x ≡ b → get_or xs (place_of c xs) 0 ≡ (if elem c xs then c else 0)
        → get_or (x ∷ xs) (elim (not b) [ true ↦ suc (place_of c xs) | false ↦ 0 ]) 0 ≡ (if b || elem c xs then c else 0)
    go true e r = sym (eqb-true c x e)
    go false e r = r

-- one that is there is not one that is not
other : (x b : ℕ) (xs : List ℕ) → elem x xs ≡ true → elem b xs ≡ false → eqb x b ≡ false
other x b xs h n = ne_eqb x b (λ e. false≢true (sym n ∙ ap (λ k. elem k xs) (sym e) ∙ h))

zero_other : elem 0 second_bytes ≡ false
unfolding second_bytes elem any
zero_other = refl

-- the second byte by its column
second : (y c : ℕ) → elem y second_bytes ≡ true → eqb y (get_or second_bytes (place_of c second_bytes) 0) ≡ eqb y c
second y c h = ap (eqb y) (at_place c second_bytes) ∙ go (elem c second_bytes) refl
  where
    go : (b : Bool) → elem c second_bytes ≡ b → eqb y (if b then c else 0) ≡ eqb y c
    go true e = refl
    go false e = other y 0 second_bytes h zero_other ∙ sym (other y c second_bytes h e)

-- Spellings of at most three bytes: a first and a second byte of the table, then perhaps `=`.

short : List ℕ → Bool
short q = same q [] || same q (ascii "=")

fits : List ℕ → Bool
fits [] = false
fits (x ∷ []) = true
fits (x ∷ y ∷ q) = elem x first_bytes && (elem y second_bytes && short q)

-- the third byte, where it is `=`
third : List ℕ → List ℕ
third s = if begins (ascii "=") s then ascii "=" else []

by-third : (q s : List ℕ) → short q ≡ true → begins q (third s) ≡ begins q s
unfolding short third begins
by-third q s h = or_by (same q []) (same q (ascii "=")) (λ e. rw (same_true q [] e) refl) (λ e. rw (same_true q (ascii "=") e) (go (begins (ascii "=") s))) h
  where
    go : (b : Bool) → begins (ascii "=") (if b then ascii "=" else []) ≡ b
    go true = refl
    go false = refl

by_shape : (b : ℕ) (s p : List ℕ) → fits p ≡ true → begins p (b ∷ get_or second_bytes (column_of s) 0 ∷ third (drop 1 s)) ≡ begins p (b ∷ s)
unfolding fits begins
by_shape b s [] h = refl
by_shape b s (x ∷ []) h = refl
by_shape b s (x ∷ y ∷ q) h =
    let p = and-true (elem y second_bytes) (short q) (and-true (elem x first_bytes) _ h).1 in
    ap (λ t. eqb x b && t) (go s p.0 p.1)
  where
    go : (s : List ℕ) → elem y second_bytes ≡ true → short q ≡ true
        → (eqb y (get_or second_bytes (column_of s) 0) && begins q (third (drop 1 s))) ≡ begins (y ∷ q) s
    go [] e k = rw (second y 0 e, other y 0 second_bytes e zero_other)
    go (c ∷ s) e k = rw (second y c e, by-third q s k)

-- a first byte that no longer sign begins with
by_first_lem : (b : ℕ) (s p : List ℕ) → elem b first_bytes ≡ false → fits p ≡ true → begins p (b ∷ []) ≡ begins p (b ∷ s)
unfolding fits begins
by_first_lem b s [] n h = refl
by_first_lem b s (x ∷ []) n h = refl
by_first_lem b s (x ∷ y ∷ q) n h = rw (other x b first_bytes (and-true (elem x first_bytes) _ h).0 n)

-- the signs, and the comment
signs-fit : every (λ (k : Spelling). fits k.bytes) signs ≡ true
unfolding fits short code_rules table_rules
signs-fit = refl

comment-fits : fits (ascii "//") ≡ true
unfolding fits short code_rules table_rules
comment-fits = refl

-- Texts that every such spelling takes alike have one code.
module _ (s t : List ℕ) (alike : (p : List ℕ) → fits p ≡ true → begins p s ≡ begins p t) where
  code_in_lem : (ks : List Spelling) → every (λ (k : Spelling). fits k.bytes) ks ≡ true → code_in ks s ≡ code_in ks t
  unfolding code_in every
  code_in_lem [] h = refl
  code_in_lem (k ∷ ks) h =
      let p = and-true (fits k.bytes) (every (λ (k : Spelling). fits k.bytes) ks) h in
      rw (alike k.bytes p.0, code_in_lem ks p.1)

  same_code : sign_code s ≡ sign_code t
  unfolding sign_code
  same_code = rw (alike (ascii "//") comment-fits, code_in_lem signs signs-fit)

-- The code by the first byte.

index_small : (b : ℕ) → b < 256 → sign_index b < 232
unfolding code_rules table_rules
index_small b h = leb→le _ _ (at (λ m. leb (suc (sign_index m)) 232) 256 tt b h)

alone-small : (b : ℕ) → b < 256 → sign_code (b ∷ []) < 128
unfolding code_rules table_rules
alone-small b h = leb→le _ _ (at (λ m. leb (suc (sign_code (m ∷ []))) 128) 256 tt b h)

-- no longer sign begins with it
alone : (b : ℕ) (s : List ℕ) → sign_index b < 128 → sign_index b ≡ sign_code (b ∷ s)
unfolding sign_index
alone b s = go (elem b first_bytes) refl
  where
    go : (t : Bool) → elem b first_bytes ≡ t → (if t then 128 + 8 * place_of b first_bytes else sign_code (b ∷ [])) < 128
        → (if t then 128 + 8 * place_of b first_bytes else sign_code (b ∷ [])) ≡ sign_code (b ∷ s)
    go true e h = absurd (omega arith)
    go false e h = same_code (b ∷ []) (b ∷ s) (λ p. by_first_lem b s p e)

-- it has a row
in_row : (b : ℕ) → b < 256 → 128 ≤ sign_index b → (sign_index b ≡ 128 + 8 * place_of b first_bytes) × (get_or first_bytes (place_of b first_bytes) 0 ≡ b)
unfolding sign_index
in_row b k = go (elem b first_bytes) refl
  where
    go : (t : Bool) → elem b first_bytes ≡ t → 128 ≤ (if t then 128 + 8 * place_of b first_bytes else sign_code (b ∷ []))
        → ((if t then 128 + 8 * place_of b first_bytes else sign_code (b ∷ [])) ≡ 128 + 8 * place_of b first_bytes) × (get_or first_bytes (place_of b first_bytes) 0 ≡ b)
    go true e h = (refl, at_place b first_bytes ∙ rw e)
    go false e h = absurd (omega (arith, alone-small b k))

-- The code by row and column.

third-code : (i : ℕ) → i < 104 → sign_code (get_or first_bytes (i / 8) 0 ∷ get_or second_bytes (i % 8) 0 ∷ ascii "=") ≡ longer (pair_code i)
unfolding code_rules table_rules longer
third-code i h =
    by-table (λ m. sign_code (get_or first_bytes (m / 8) 0 ∷ get_or second_bytes (m % 8) 0 ∷ ascii "=")) (λ m. longer (pair_code m)) 104 0 refl i h

by-pair : (i : ℕ) (s : List ℕ) → i < 104
    → sign_code (get_or first_bytes (i / 8) 0 ∷ get_or second_bytes (i % 8) 0 ∷ third s) ≡ longer_by (begins (ascii "=") s) (pair_code i)
unfolding third longer_by pair_code
by-pair i s h = go (begins (ascii "=") s)
  where
    go : (t : Bool) → sign_code (get_or first_bytes (i / 8) 0 ∷ get_or second_bytes (i % 8) 0 ∷ (if t then ascii "=" else [])) ≡ longer_by t (pair_code i)
    go true = third-code i h
    go false = refl

pub column-small : (c : ℕ) {column : ℕ} → column ≡ place_of c second_bytes → column < 8
unfolding place_of second_bytes
column-small c e = omega (arith, e, run-le (λ x. not (eqb c x)) second_bytes)

-- where the code of a text stands, of which b is the first byte
abbrev pair_at : (b : ℕ) → List ℕ → ℕ
pair_at b s = 8 * place_of b first_bytes + column_of s

module _ (b : ℕ) (s : List ℕ) (byte : b < 256) (row : 128 ≤ sign_index b) where
  pair_small : pair_at b s < 104
  pair_small = omega (arith, (in_row b byte row).0, index_small b byte, column-small (get_or s 0 0) refl)

  by_rows : sign_code (b ∷ s) ≡ longer_by (begins (ascii "=") (drop 1 s)) (pair_code (pair_at b s))
  by_rows =
      let c = column-small (get_or s 0 0) refl in
      let q : pair_at b s / 8 ≡ place_of b first_bytes = omega arith in
      let r : pair_at b s % 8 ≡ column_of s = omega arith in
      let f = rw (q, r, (in_row b byte row).1) at (by-pair (pair_at b s) (drop 1 s) pair_small) in
      sym (same_code _ (b ∷ s) (by_shape b s)) ∙ f

-- Of the line from `at` on.

pub no_column : (line : List ℕ) (at : ℕ) → length line ≤ at → 7 ≡ column_of (drop at line)
unfolding place_of second_bytes run
no_column line at h = rw (drop_of_length-le line h)

-- whether the byte after the next is `=`
pub no_third : (line : List ℕ) (at : ℕ) → length line - at < 2 → begins (ascii "=") (drop 1 (drop at line)) ≡ false
unfolding begins
no_third line at h =
    let short : length line ≤ at + 1 = omega arith in
    let past : drop (at + 1) line ≡ [] = drop_of_length-le line short in
    rw (drop-drop 1 at line, past)

pub third-is : (line : List ℕ) (at : ℕ) → at + 1 < length line → begins (ascii "=") (drop 1 (drop at line)) ≡ (eqb 61 (get_or line (at + 1) 0) && true)
unfolding begins
third-is line at h = rw (drop-drop 1 at line, drop-cons line (at + 1) 0 h)

-- a code of one byte is no longer before `=`
short-same : (t : Bool) (c : ℕ) → c < 128 → longer_by t c ≡ c
unfolding code_rules table_rules longer longer_by
short-same true c h = rw (ne_eqb c 201 (λ e. omega arith), ne_eqb c 177 (λ e. omega arith), ne_eqb c 178 (λ e. omega arith))
short-same false c h = refl

-- the sign at `at`, by what is looked up by its first byte
module _ (line : List ℕ) (at : ℕ) (inside : at < length line) (byte : get_or line at 0 < 256) {found : ℕ} (is : found ≡ sign_index (get_or line at 0)) where
  abbrev b : ℕ
  b = get_or line at 0

  abbrev rest : List ℕ
  rest = drop (at + 1) line

  parts : drop at line ≡ b ∷ rest
  parts = drop-cons line at 0 inside ∙ rw add-one

  pub row_small : found < 232
  row_small = omega (arith, is, index_small b byte)

  pub by_byte : found < 128 → found ≡ sign_code (drop at line)
  by_byte h = is ∙ alone b rest (omega (arith, is)) ∙ ap sign_code (sym parts)

  module _ (some : 128 ≤ found) where
    row : 128 ≤ sign_index b
    row = omega (arith, is)

    pub pair_inside : {column : ℕ} → column ≡ column_of rest → found - 128 + column < 104
    pair_inside at_column = omega (arith, is, (in_row b byte row).0, row_small, column-small (get_or rest 0 0) at_column)

    code_is : {column : ℕ} → column ≡ column_of rest → pair_code (found - 128 + column) ≡ pair_code (pair_at b rest)
    code_is at_column = ap pair_code (omega (arith, is, (in_row b byte row).0, at_column))

    pub by_pairs : {column code : ℕ} → column ≡ column_of rest → code ≡ pair_code (found - 128 + column)
        → longer_by (begins (ascii "=") (drop 1 rest)) code ≡ sign_code (drop at line)
    by_pairs at_column e = rw (e, code_is at_column, parts) (sym (by_rows b rest byte row))

    pub by_two : {column code : ℕ} → column ≡ column_of rest → code ≡ pair_code (found - 128 + column) → code < 128 → code ≡ sign_code (drop at line)
    by_two at_column e h = sym (short-same (begins (ascii "=") (drop 1 rest)) _ h) ∙ by_pairs at_column e

-- The cut of a sign, by its code.

-- a spelling whose code is neither 0 nor 1 and gives back kind and length
coded : Spelling → Bool
coded k = within 2 127 k.kind && leb 1 (length k.bytes)

signs-coded : every coded signs ≡ true
unfolding coded code_rules table_rules
signs-coded = refl

token-cut : (k : Spelling) → 2 ≤ k.kind → k.kind ≤ 127 → 1 ≤ length k.bytes → token k.kind (length k.bytes) ≡ code_cut (code_of k)
unfolding code_cut code_of
token-cut k lo hi some =
    let m : (k.kind + 128 * pred (length k.bytes)) % 128 ≡ k.kind = omega arith in
    let d : suc ((k.kind + 128 * pred (length k.bytes)) / 128) ≡ length k.bytes = omega arith in
    rw (ne_eqb (k.kind + 128 * pred (length k.bytes)) 0 (λ e. omega arith), ne_eqb (k.kind + 128 * pred (length k.bytes)) 1 (λ e. omega arith), m, d)

cut_in : (s : List ℕ) (ks : List Spelling) → every coded ks ≡ true → sign_cut ks s ≡ code_cut (code_in ks s)
unfolding sign_cut code_in code_cut every coded
cut_in s [] h = refl
cut_in s (k ∷ ks) h = go (begins k.bytes s) (cut_in s ks (and-true (coded k) (every coded ks) h).1)
  where
    go : (b : Bool) → sign_cut ks s ≡ code_cut (code_in ks s)
        → (if b then token k.kind (length k.bytes) else sign_cut ks s) ≡ code_cut (if b then code_of k else code_in ks s)
    go true r =
        let p = and-true (within 2 127 k.kind) (leb 1 (length k.bytes)) (and-true (coded k) (every coded ks) h).0 in
        let q = and-true (leb 2 k.kind) (leb k.kind 127) p.0 in
        token-cut k (leb-true _ _ q.0) (leb-true _ _ q.1) (leb-true _ _ p.1)
    go false r = r

pub code-cut : (s : List ℕ) → (if begins (ascii "//") s then comment else sign_cut signs s) ≡ code_cut (sign_code s)
unfolding sign_code code_cut
code-cut s = go (begins (ascii "//") s)
  where
    go : (b : Bool) → (if b then comment else sign_cut signs s) ≡ code_cut (if b then 1 else code_in signs s)
    go true = refl
    go false = cut_in s signs signs-coded
