-- Decoding and encoding: a scalar's bytes are those that its value is encoded in.
-- Assumes nothing.
use Prim.Native.Nat.{ℕ, zero, suc, ◌+◌, ◌-◌, ◌*◌, ◌/◌, ◌%◌, ◌≤◌, ◌<◌, pred}
use mathlib.Core.Path.{◌≡◌, refl, ◌∙◌, ap}
use mathlib.Core.Bool.{Bool, true, false, false≢true}
use mathlib.Core.List.{List, [], ◌∷◌}
use mathlib.Core.Option.{some}
use native.Mathlib.Omega.{arith}
use lib.Dec.{leb}
use lib.ListN.{length, take}
use borrow.Author.Tests.{leb-true, lt-ltb, le-ltb}
use Rattle.std.specs.Prelude.{if◌then◌else◌}
use Rattle.rules.specs.Lists.{within}
use Rattle.rules.specs.Utf8.{Range, Row, table, following, in_ranges, scalar_size, six_bits, first_bits, scalar_value, later_byte, encode}
use Rattle.rules.proofs.ListLaws.{and_left, and_right}
use Rattle.rules.proofs.Utf8Laws.{later}

-- One law for each length.

pub encode_1 : (v : ℕ) → v < 0x80 → encode v ≡ v ∷ []
unfolding encode
encode_1 v h = rw (lt-ltb v 0x80 h)

-- six bits more, and less
six_over : (x c : ℕ) → 0x80 ≤ c → c ≤ 0xBF → (x * 64 + (c - 0x80)) / 64 ≡ x
six_over x c h k = omega arith

six_last : (x c : ℕ) → 0x80 ≤ c → c ≤ 0xBF → 0x80 + (x * 64 + (c - 0x80)) % 64 ≡ c
six_last x c h k = omega arith

pub encode_2 : (b c : ℕ) → 0xC2 ≤ b → b ≤ 0xDF → 0x80 ≤ c → c ≤ 0xBF → encode ((b - 0xC0) * 64 + (c - 0x80)) ≡ b ∷ c ∷ []
unfolding encode later_byte
encode_2 b c hb hb' hc hc' =
    let v : ℕ = (b - 0xC0) * 64 + (c - 0x80) in
    let e0 : 0xC0 + v / 64 ≡ b = ap (λ (n : ℕ). 0xC0 + n) (six_over (b - 0xC0) c hc hc') ∙ omega arith in
    rw (le-ltb v 0x80 (omega arith), lt-ltb v 0x800 (omega arith)) (λ i. e0 i ∷ six_last (b - 0xC0) c hc hc' i ∷ [])

pub encode_3 : (b c d : ℕ) → 0xE0 ≤ b → b ≤ 0xEF → 0x80 ≤ c → c ≤ 0xBF → 0x80 ≤ d → d ≤ 0xBF → 0x20 ≤ (b - 0xE0) * 64 + (c - 0x80)
    → encode (((b - 0xE0) * 64 + (c - 0x80)) * 64 + (d - 0x80)) ≡ b ∷ c ∷ d ∷ []
unfolding encode later_byte
encode_3 b c d hb hb' hc hc' hd hd' h =
    let x : ℕ = (b - 0xE0) * 64 + (c - 0x80) in
    let v : ℕ = x * 64 + (d - 0x80) in
    let q : v / 64 ≡ x = six_over x d hd hd' in
    let e0 : 0xE0 + v / 64 / 64 ≡ b = ap (λ (n : ℕ). 0xE0 + n / 64) q ∙ ap (λ (n : ℕ). 0xE0 + n) (six_over (b - 0xE0) c hc hc') ∙ omega arith in
    let e1 : 0x80 + v / 64 % 64 ≡ c = ap (λ (n : ℕ). 0x80 + n % 64) q ∙ six_last (b - 0xE0) c hc hc' in
    rw (le-ltb v 0x80 (omega arith), le-ltb v 0x800 (omega arith), lt-ltb v 0x10000 (omega arith)) (λ i. e0 i ∷ e1 i ∷ six_last x d hd hd' i ∷ [])

pub encode_4 : (b c d e : ℕ) → 0xF0 ≤ b → 0x80 ≤ c → c ≤ 0xBF → 0x80 ≤ d → d ≤ 0xBF → 0x80 ≤ e → e ≤ 0xBF → 0x10 ≤ (b - 0xF0) * 64 + (c - 0x80)
    → encode ((((b - 0xF0) * 64 + (c - 0x80)) * 64 + (d - 0x80)) * 64 + (e - 0x80)) ≡ b ∷ c ∷ d ∷ e ∷ []
unfolding encode later_byte
encode_4 b c d e hb hc hc' hd hd' he he' h =
    let x : ℕ = (b - 0xF0) * 64 + (c - 0x80) in
    let y : ℕ = x * 64 + (d - 0x80) in
    let v : ℕ = y * 64 + (e - 0x80) in
    let q : v / 64 ≡ y = six_over y e he he' in
    let r : v / 64 / 64 ≡ x = ap (λ (n : ℕ). n / 64) q ∙ six_over x d hd hd' in
    let e0 : 0xF0 + v / 64 / 64 / 64 ≡ b = ap (λ (n : ℕ). 0xF0 + n / 64) r ∙ ap (λ (n : ℕ). 0xF0 + n) (six_over (b - 0xF0) c hc hc') ∙ omega arith in
    let e1 : 0x80 + v / 64 / 64 % 64 ≡ c = ap (λ (n : ℕ). 0x80 + n % 64) r ∙ six_last (b - 0xF0) c hc hc' in
    let e2 : 0x80 + v / 64 % 64 ≡ d = ap (λ (n : ℕ). 0x80 + n % 64) q ∙ six_last x d hd hd' in
    rw (le-ltb v 0x80 (omega arith), le-ltb v 0x800 (omega arith), le-ltb v 0x10000 (omega arith)) (λ i. e0 i ∷ e1 i ∷ e2 i ∷ six_last y e he he' i ∷ [])

-- A fact of each row is a fact of the row of a first byte.

abbrev EachRow : (List Range → Type 0) → ℕ → List Row → Type 0
EachRow P b [] = Unit {0}
EachRow P b (r ∷ rows) = (r.first.lo ≤ b → b ≤ r.first.hi → P r.later) × EachRow P b rows

by_row : (P : List Range → Type 0) (rows : List Row) (b : ℕ) (rs : List Range) → following rows b ≡ some rs → EachRow P b rows → P rs
unfolding following
by_row P [] b rs h f = let z : ◌≡◌ {A = ℕ} 0 1 = cc in absurd (omega arith)
by_row P (r ∷ rows) b rs h f = go (within r.first.lo r.first.hi b) refl h (λ k. by_row P rows b rs k f.1)
  where
    go : (x : Bool) → within r.first.lo r.first.hi b ≡ x → (if x then some r.later else following rows b) ≡ some rs
        → (following rows b ≡ some rs → P rs) → P rs
    go true x k ih =
        let e : r.later ≡ rs = cc in
        rw e at (f.0 (leb-true _ _ (and_left (leb r.first.lo b) (leb b r.first.hi) x)) (leb-true _ _ (and_right (leb r.first.lo b) (leb b r.first.hi) x)))
    go false x k ih = ih k

-- the bytes that stand in ranges
pub record Ranged (r : Range) (b : ℕ) : Type 0 where
  pub low : r.lo ≤ b
  pub high : b ≤ r.hi

ranged : (r : Range) (rs : List Range) (b : ℕ) (s : List ℕ) → in_ranges (r ∷ rs) (b ∷ s) ≡ true → Ranged r b × (in_ranges rs s ≡ true)
unfolding in_ranges
ranged r rs b s h =
    let w : within r.lo r.hi b ≡ true = and_left (within r.lo r.hi b) (in_ranges rs s) h in (
      record { low = leb-true _ _ (and_left (leb r.lo b) (leb b r.hi) w); high = leb-true _ _ (and_right (leb r.lo b) (leb b r.hi) w) },
      and_right (within r.lo r.hi b) (in_ranges rs s) h,
    )

-- the value of a first byte with these later bytes is encoded in them
abbrev Decodes : ℕ → List ℕ → List Range → Type 0
Decodes b s rs = in_ranges rs s ≡ true → encode (six_bits (first_bits (suc (length rs)) b) (take (length rs) s)) ≡ b ∷ take (length rs) s

module _ (b : ℕ) where
  decodes_1 : (s : List ℕ) → b ≤ 0x7F → Decodes b s []
  unfolding six_bits first_bits
  decodes_1 s hb h = encode_1 b (omega arith)

  decodes_2 : (s : List ℕ) (r : Range) → 0xC2 ≤ b → b ≤ 0xDF → 0x80 ≤ r.lo → r.hi ≤ 0xBF → Decodes b s (r ∷ [])
  unfolding six_bits first_bits in_ranges
  decodes_2 [] r hb hb' hl hh h = absurd (false≢true h)
  decodes_2 (c ∷ s) r hb hb' hl hh h =
      let x = (ranged r [] c s h).0 in
      encode_2 b c hb hb' (omega arith) (omega arith)

  decodes_3 : (s : List ℕ) (r q : Range) → 0xE0 ≤ b → b ≤ 0xEF → 0x80 ≤ r.lo → r.hi ≤ 0xBF → 0x80 ≤ q.lo → q.hi ≤ 0xBF
      → 0x20 ≤ (b - 0xE0) * 64 + (r.lo - 0x80) → Decodes b s (r ∷ q ∷ [])
  unfolding six_bits first_bits in_ranges
  decodes_3 [] r q hb hb' hl hh kl kh v h = absurd (false≢true h)
  decodes_3 (c ∷ []) r q hb hb' hl hh kl kh v h = absurd (false≢true (and_right (within r.lo r.hi c) false h))
  decodes_3 (c ∷ d ∷ s) r q hb hb' hl hh kl kh v h =
      let x = ranged r (q ∷ []) c (d ∷ s) h in
      let y = ranged q [] d s x.1 in
      encode_3 b c d hb hb' (omega arith) (omega arith) (omega arith) (omega arith) (omega arith)

  decodes_4 : (s : List ℕ) (r q p : Range) → 0xF0 ≤ b → 0x80 ≤ r.lo → r.hi ≤ 0xBF → 0x80 ≤ q.lo → q.hi ≤ 0xBF → 0x80 ≤ p.lo → p.hi ≤ 0xBF
      → 0x10 ≤ (b - 0xF0) * 64 + (r.lo - 0x80) → Decodes b s (r ∷ q ∷ p ∷ [])
  unfolding six_bits first_bits in_ranges
  decodes_4 [] r q p hb hl hh kl kh ml mh v h = absurd (false≢true h)
  decodes_4 (c ∷ []) r q p hb hl hh kl kh ml mh v h = absurd (false≢true (and_right (within r.lo r.hi c) false h))
  decodes_4 (c ∷ d ∷ []) r q p hb hl hh kl kh ml mh v h =
      absurd (false≢true (and_right (within q.lo q.hi d) false (and_right (within r.lo r.hi c) _ h)))
  decodes_4 (c ∷ d ∷ e ∷ s) r q p hb hl hh kl kh ml mh v h =
      let x = ranged r (q ∷ p ∷ []) c (d ∷ e ∷ s) h in
      let y = ranged q (p ∷ []) d (e ∷ s) x.1 in
      let z = ranged p [] e s y.1 in
      encode_4 b c d e hb (omega arith) (omega arith) (omega arith) (omega arith) (omega arith) (omega arith) (omega arith)

-- the scalar at the front of a text is its value's encoding
pub encode-value : (s : List ℕ) (n : ℕ) → scalar_size s ≡ suc n → encode (scalar_value s) ≡ take (suc n) s
unfolding scalar_value scalar_size table
encode-value [] n e = absurd (omega arith)
encode-value (b ∷ s) n e =
    let l = later b s n e in
    let d : Decodes b s l.ranges = by_row (Decodes b s) table b l.ranges l.row (
      λ h k. decodes_1 b s k,
      (
        λ h k. decodes_2 b s _ h k (omega arith) (omega arith),
        (
          λ h k. decodes_3 b s _ _ (omega arith) (omega arith) (omega arith) (omega arith) (omega arith) (omega arith) (omega arith),
          (
            λ h k. decodes_3 b s _ _ (omega arith) (omega arith) (omega arith) (omega arith) (omega arith) (omega arith) (omega arith),
            (
              λ h k. decodes_3 b s _ _ (omega arith) (omega arith) (omega arith) (omega arith) (omega arith) (omega arith) (omega arith),
              (
                λ h k. decodes_3 b s _ _ (omega arith) (omega arith) (omega arith) (omega arith) (omega arith) (omega arith) (omega arith),
                (
                  λ h k. decodes_4 b s _ _ _ (omega arith) (omega arith) (omega arith) (omega arith) (omega arith) (omega arith) (omega arith) (omega arith),
                  (
                    λ h k. decodes_4 b s _ _ _ (omega arith) (omega arith) (omega arith) (omega arith) (omega arith) (omega arith) (omega arith) (omega arith),
                    (
                      λ h k. decodes_4 b s _ _ _ (omega arith) (omega arith) (omega arith) (omega arith) (omega arith) (omega arith) (omega arith) (omega arith),
                      tt,
                    ),
                  ),
                ),
              ),
            ),
          ),
        ),
      ),
    ) in
    let v : encode (six_bits (first_bits (suc n) b) (take n s)) ≡ b ∷ take n s = rw l.count at (d l.fit) in
    rw e v

-- Values are below 0x110000, where the bytes are bytes.

-- each is a byte
abbrev pub Bytes : List ℕ → Type 0
Bytes [] = Unit {0}
Bytes (b ∷ s) = (b < 256) × Bytes s

abbrev SmallBy : ℕ → List ℕ → List Range → Type 0
SmallBy b s rs = in_ranges rs s ≡ true → six_bits (first_bits (suc (length rs)) b) (take (length rs) s) < 1_114_112

module _ (b : ℕ) where
  small_1 : (s : List ℕ) → b ≤ 0x7F → SmallBy b s []
  unfolding six_bits first_bits
  small_1 s hb h = omega arith

  small_2 : (s : List ℕ) (r : Range) → b ≤ 0xDF → r.hi ≤ 0xBF → SmallBy b s (r ∷ [])
  unfolding six_bits first_bits in_ranges
  small_2 [] r hb hh h = absurd (false≢true h)
  small_2 (c ∷ s) r hb hh h = let x = (ranged r [] c s h).0 in omega (arith, x.high)

  small_3 : (s : List ℕ) (r q : Range) → b ≤ 0xEF → r.hi ≤ 0xBF → q.hi ≤ 0xBF → SmallBy b s (r ∷ q ∷ [])
  unfolding six_bits first_bits in_ranges
  small_3 [] r q hb hh kh h = absurd (false≢true h)
  small_3 (c ∷ []) r q hb hh kh h = absurd (false≢true (and_right (within r.lo r.hi c) false h))
  small_3 (c ∷ d ∷ s) r q hb hh kh h =
      let x = ranged r (q ∷ []) c (d ∷ s) h in
      let y = ranged q [] d s x.1 in
      omega (arith, x.0.high, y.0.high)

  small_4 : (s : List ℕ) (r q p : Range) → (b - 0xF0) * 64 + (r.hi - 0x80) < 0x110 → q.hi ≤ 0xBF → p.hi ≤ 0xBF → SmallBy b s (r ∷ q ∷ p ∷ [])
  unfolding six_bits first_bits in_ranges
  small_4 [] r q p v kh mh h = absurd (false≢true h)
  small_4 (c ∷ []) r q p v kh mh h = absurd (false≢true (and_right (within r.lo r.hi c) false h))
  small_4 (c ∷ d ∷ []) r q p v kh mh h =
      absurd (false≢true (and_right (within q.lo q.hi d) false (and_right (within r.lo r.hi c) _ h)))
  small_4 (c ∷ d ∷ e ∷ s) r q p v kh mh h =
      let x = ranged r (q ∷ p ∷ []) c (d ∷ e ∷ s) h in
      let y = ranged q (p ∷ []) d (e ∷ s) x.1 in
      let z = ranged p [] e s y.1 in
      omega (arith, x.0.high, y.0.high, z.0.high)

row_small : (b : ℕ) (s : List ℕ) (n : ℕ) → scalar_size (b ∷ s) ≡ suc n → six_bits (first_bits (suc n) b) (take n s) < 1_114_112
unfolding table
row_small b s n e =
    let l = later b s n e in
    let d : SmallBy b s l.ranges = by_row (SmallBy b s) table b l.ranges l.row (
      λ h k. small_1 b s k,
      (
        λ h k. small_2 b s _ k (omega arith),
        (
          λ h k. small_3 b s _ _ (omega arith) (omega arith) (omega arith),
          (
            λ h k. small_3 b s _ _ (omega arith) (omega arith) (omega arith),
            (
              λ h k. small_3 b s _ _ (omega arith) (omega arith) (omega arith),
              (
                λ h k. small_3 b s _ _ (omega arith) (omega arith) (omega arith),
                (
                  λ h k. small_4 b s _ _ _ (omega arith) (omega arith) (omega arith),
                  (λ h k. small_4 b s _ _ _ (omega arith) (omega arith) (omega arith), (λ h k. small_4 b s _ _ _ (omega arith) (omega arith) (omega arith), tt)),
                ),
              ),
            ),
          ),
        ),
      ),
    ) in
    rw l.count at (d l.fit)

pub value-small : (b : ℕ) (s : List ℕ) → b < 256 → scalar_value (b ∷ s) < 1_114_112
unfolding scalar_value six_bits first_bits
value-small b s h = go (scalar_size (b ∷ s)) refl
  where
    go : (n : ℕ) → scalar_size (b ∷ s) ≡ n → six_bits (first_bits n b) (take (pred n) s) < 1_114_112
    go zero e = omega arith
    go (suc n) e = row_small b s n e

-- A scalar's bytes are bytes.

abbrev RangesLow : List Range → Type 0
RangesLow [] = Unit {0}
RangesLow (r ∷ rs) = (r.hi < 256) × RangesLow rs

ranges-bytes : (rs : List Range) (s : List ℕ) → RangesLow rs → in_ranges rs s ≡ true → Bytes (take (length rs) s)
ranges-bytes [] [] l h = tt
ranges-bytes [] (b ∷ s) l h = tt
ranges-bytes (r ∷ rs) [] l h = tt
ranges-bytes (r ∷ rs) (b ∷ s) l h =
    let x = ranged r rs b s h in
    (omega (arith, x.0.high, l.0), ranges-bytes rs s l.1 x.1)

pub scalar-bytes : (b : ℕ) (s : List ℕ) (n : ℕ) → scalar_size (b ∷ s) ≡ suc n → (b < 256) × Bytes (take n s)
unfolding table
scalar-bytes b s n e =
    let l = later b s n e in
    let one : (0xBF < 256) = omega arith in
    let d : (b < 256) × RangesLow l.ranges = by_row (λ rs. (b < 256) × RangesLow rs) table b l.ranges l.row (
      λ h k. (omega arith, tt),
      (
        λ h k. (omega arith, (one, tt)),
        (
          λ h k. (omega arith, (one, (one, tt))),
          (
            λ h k. (omega arith, (one, (one, tt))),
            (
              λ h k. (omega arith, (omega arith, (one, tt))),
              (
                λ h k. (omega arith, (one, (one, tt))),
                (
                  λ h k. (omega arith, (one, (one, (one, tt)))),
                  (λ h k. (omega arith, (one, (one, (one, tt)))), (λ h k. (omega arith, (omega arith, (one, (one, tt)))), tt)),
                ),
              ),
            ),
          ),
        ),
      ),
    ) in
    let v : Bytes (take n s) = rw l.count at (ranges-bytes l.ranges s d.1 l.fit) in
    (d.0, v)
