-- Scalars one after the other: those of two well-formed texts in a row, and the bytes of one.
-- Assumes nothing.
use Prim.Native.Nat.{ℕ, suc, ◌≤◌}
use mathlib.Core.Path.{◌≡◌, refl, sym, ap, ◌∙◌}
use mathlib.Core.Bool.{Bool, true, false}
use mathlib.Core.List.{List, [], ◌∷◌, ◌++◌, append-nil, append_assoc}
use mathlib.Core.Option.{some}
use native.Mathlib.Omega.{arith}
use lib.Dec.{leb, ltb}
use lib.ListN.{length, take, drop, take-append-drop, drop_of_length-le}
use lib.Seq.{drop-append-le, take-append-le, length-take-le}
use borrow.Author.Tests.{leb-true, ltb-true, ne_eqb}
use Rattle.std.specs.Prelude.{if◌then◌else◌}
use Rattle.rules.specs.Lists.{within, every}
use Rattle.rules.specs.Utf8.{Range, Row, table, following, in_ranges, size_by, scalar_size, WellFormed, nil, scalar, scalars_from, scalars_of}
use Rattle.rules.specs.Reading.{count_lf}
use Rattle.rules.proofs.ListLaws.{and_left, and_right}
use Rattle.rules.proofs.Utf8Laws.{later, size-le, size_take, scalars_cons}

-- a scalar with more text after it
size_append : (b : ℕ) (s u : List ℕ) (n : ℕ) → scalar_size (b ∷ s) ≡ suc n → scalar_size (b ∷ (s ++ u)) ≡ suc n
size_append b s u n e =
    let split : take n s ++ (drop n s ++ u) ≡ s ++ u = sym (append_assoc (take n s) (drop n s) u) ∙ ap (λ (r : List ℕ). r ++ u) (take-append-drop n s) in
    ap (λ (r : List ℕ). scalar_size (b ∷ r)) (sym split) ∙ size_take b s (drop n s ++ u) n e

-- and with none
alone : (b : ℕ) (s : List ℕ) (n : ℕ) → scalar_size (b ∷ s) ≡ suc n → scalar_size (b ∷ take n s) ≡ suc n
alone b s n e = rw append-nil at (size_take b s [] n e)

pub well_formed_append : {s u : List ℕ} → WellFormed s → WellFormed u → WellFormed (s ++ u)
well_formed_append nil v = v
well_formed_append {u = u} (scalar {b = b} {s = s} n e w) v =
    scalar n (size_append b s u n e) (rw (drop-append-le n s u (size-le b s n e)) (well_formed_append w v))

pub scalars_append : {s : List ℕ} (u : List ℕ) → WellFormed s → scalars_of (s ++ u) ≡ scalars_of s ++ scalars_of u
unfolding scalars_of scalars_from
scalars_append u nil = refl
scalars_append u (scalar {b = b} {s = s} n e w) =
    let le : n ≤ length s = size-le b s n e in
    let i : scalars_of (drop n s ++ u) ≡ scalars_of (drop n s) ++ scalars_of u = scalars_append u w in
    scalars_cons b (s ++ u) n (size_append b s u n e)
    ∙ rw (drop-append-le n s u le, take-append-le n s u le, i, scalars_cons b s n e)

-- A scalar whose first byte is no LF has none: its later bytes are above it.

-- its bytes are above LF
high_range : Range → Bool
high_range r = ltb 10 r.lo

-- the later bytes of its scalars are
high_row : Row → Bool
high_row w = every high_range w.later

high-rows : (ws : List Row) (b : ℕ) (rs : List Range) → every high_row ws ≡ true → following ws b ≡ some rs → every high_range rs ≡ true
unfolding following every high_row
high-rows [] b rs h e = let z : ◌≡◌ {A = ℕ} 0 1 = cc in absurd (omega arith)
high-rows (w ∷ ws) b rs h e =
    go (within w.first.lo w.first.hi b) e (high-rows ws b rs (and_right (high_row w) (every high_row ws) h))
  where
    go : (x : Bool) → (if x then some w.later else following ws b) ≡ some rs → (following ws b ≡ some rs → every high_range rs ≡ true) → every high_range rs ≡ true
    go true q i = let r : w.later ≡ rs = cc in rw r at (and_left (high_row w) (every high_row ws) h)
    go false q i = i q

high-table : every high_row table ≡ true
unfolding every high_row high_range table
high-table = refl

no_lf : (b : ℕ) (s : List ℕ) → (b ≡ 10 → ⊥) → count_lf (b ∷ s) ≡ count_lf s
unfolding count_lf
no_lf b s h = rw (ne_eqb b 10 h)

high-bytes : (rs : List Range) (s : List ℕ) → every high_range rs ≡ true → in_ranges rs s ≡ true → count_lf (take (length rs) s) ≡ 0
unfolding every high_range in_ranges count_lf
high-bytes [] s h e = refl
high-bytes (r ∷ rs) [] h e = refl
high-bytes (r ∷ rs) (b ∷ s) h e =
    let lo = ltb-true 10 r.lo (and_left (high_range r) (every high_range rs) h) in
    let above = leb-true r.lo b (and_left (leb r.lo b) (leb b r.hi) (and_left (within r.lo r.hi b) (in_ranges rs s) e)) in
    no_lf b (take (length rs) s) (λ q. omega arith)
    ∙ high-bytes rs s (and_right (high_range r) (every high_range rs) h) (and_right (within r.lo r.hi b) (in_ranges rs s) e)

pub scalar_no_lf : (b : ℕ) (s : List ℕ) (n : ℕ) → scalar_size (b ∷ s) ≡ suc n → (b ≡ 10 → ⊥) → count_lf (take (suc n) (b ∷ s)) ≡ 0
scalar_no_lf b s n e h =
    let l = later b s n e in
    no_lf b (take n s) h
    ∙ ap (λ (k : ℕ). count_lf (take k s)) (sym l.count)
    ∙ high-bytes l.ranges s (high-rows table b l.ranges high-table l.row) l.fit

-- an LF is a scalar by itself
pub lf_size : (s : List ℕ) → scalar_size (10 ∷ s) ≡ 1
unfolding scalar_size size_by following table in_ranges
lf_size s = refl

-- A scalar by itself is a well-formed text, with one scalar.

none_left : (b : ℕ) (s : List ℕ) (n : ℕ) → scalar_size (b ∷ s) ≡ suc n → drop n (take n s) ≡ []
none_left b s n e = drop_of_length-le (take n s) {i = n} (omega (arith, length-take-le n s (size-le b s n e)))

pub one_well_formed : (b : ℕ) (s : List ℕ) (n : ℕ) → scalar_size (b ∷ s) ≡ suc n → WellFormed (take (suc n) (b ∷ s))
one_well_formed b s n e = scalar n (alone b s n e) (rw (none_left b s n e) nil)

pub one-scalar : (b : ℕ) (s : List ℕ) (n : ℕ) → scalar_size (b ∷ s) ≡ suc n → length (scalars_of (take (suc n) (b ∷ s))) ≡ 1
unfolding scalars_of scalars_from
one-scalar b s n e = ap length (scalars_cons b (take n s) n (alone b s n e)) ∙ rw (none_left b s n e)
