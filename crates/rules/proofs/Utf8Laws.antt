-- The scalars of a text: `well_formed_prefix` is the length of the longest well-formed prefix.
-- Assumes nothing.
use Prim.Native.Nat.{ℕ, zero, suc, ◌+◌, ◌≤◌, zero-le, suc-le-suc}
use mathlib.Core.Path.{◌≡◌, refl, sym, ◌∙◌, ap, subst}
use mathlib.Core.Bool.{Bool, true, false, false≢true}
use mathlib.Core.List.{List, [], ◌∷◌, ◌++◌, append-nil, append_assoc}
use mathlib.Core.Logic.{◌↔◌}
use mathlib.Core.Option.{Option, none, some}
use native.Mathlib.Omega.{arith}
use native.Mathlib.Nat.{suc_inj, le_of_suc-le-suc}
use lib.ListN.{length, take, drop, length-append, length-drop, take-append-drop}
use lib.Seq.{drop-append-le, drop_at, drop-drop, length-take-le, take-add, take_all}
use Rattle.std.specs.Prelude.{if◌then◌else◌}
use Rattle.rules.specs.Lists.{within, concat}
use Rattle.rules.specs.Utf8.{Range, table, following, in_ranges, size_by, scalar_size, WellFormed, nil, scalar, scalar_step, scalars_from, scalars_of, well_formed_prefix}
use Rattle.rules.proofs.ListLaws.{and_left, and_right}

-- A scalar's size, and that its bytes are there: the ranges of its later bytes.
pub record Later (b : ℕ) (s : List ℕ) (n : ℕ) : Type 0 where
  pub ranges : List Range
  pub row : following table b ≡ some ranges
  pub count : length ranges ≡ n
  pub fit : in_ranges ranges s ≡ true

pub later : (b : ℕ) (s : List ℕ) (n : ℕ) → scalar_size (b ∷ s) ≡ suc n → Later b s n
unfolding scalar_size size_by
later b s n e = go (following table b) refl e
  where
    if_suc : (t : Bool) (m : ℕ) → (if t then suc m else 0) ≡ suc n → (t ≡ true) × (m ≡ n)
    if_suc true m h = (refl, suc_inj h)
    if_suc false m h = absurd (omega arith)

    go : (o : Option (List Range)) → following table b ≡ o → size_by o s ≡ suc n → Later b s n
    go none r h = absurd (omega arith)
    go (some rs) r h =
        let f : (in_ranges rs s ≡ true) × (length rs ≡ n) = if_suc (in_ranges rs s) (length rs) h in
        record { ranges = rs; row = r; count = f.1; fit = f.0 }

ranges-le : (rs : List Range) (s : List ℕ) → in_ranges rs s ≡ true → length rs ≤ length s
unfolding in_ranges
ranges-le [] s h = zero-le
ranges-le (r ∷ rs) [] h = absurd (false≢true h)
ranges-le (r ∷ rs) (b ∷ s) h = suc-le-suc (ranges-le rs s (and_right (within r.lo r.hi b) (in_ranges rs s) h))

-- only the scalar's own bytes count
ranges_take : (rs : List Range) (s t : List ℕ) → in_ranges rs s ≡ true → in_ranges rs (take (length rs) s ++ t) ≡ true
unfolding in_ranges
ranges_take [] s t h = refl
ranges_take (r ∷ rs) [] t h = absurd (false≢true h)
ranges_take (r ∷ rs) (b ∷ s) t h =
    rw (and_left (within r.lo r.hi b) (in_ranges rs s) h) (ranges_take rs s t (and_right (within r.lo r.hi b) (in_ranges rs s) h))

size_of : (b : ℕ) (s : List ℕ) (n : ℕ) (l : List Range) → following table b ≡ some l → length l ≡ n → in_ranges l s ≡ true → scalar_size (b ∷ s) ≡ suc n
unfolding scalar_size size_by
size_of b s n l r c f = rw (r, scalar_size) (rw f (ap suc c))

-- a scalar's bytes are in the text
pub size-le : (b : ℕ) (s : List ℕ) (n : ℕ) → scalar_size (b ∷ s) ≡ suc n → n ≤ length s
size-le b s n e = let l = later b s n e in subst (λ (m : ℕ). m ≤ length s) l.count (ranges-le l.ranges s l.fit)

-- whatever follows them
pub size_take : (b : ℕ) (s t : List ℕ) (n : ℕ) → scalar_size (b ∷ s) ≡ suc n → scalar_size (b ∷ (take n s ++ t)) ≡ suc n
size_take b s t n e =
    let l = later b s n e in
    size_of b (take n s ++ t) n l.ranges l.row l.count
    (subst (λ (m : ℕ). in_ranges l.ranges (take m s ++ t) ≡ true) l.count (ranges_take l.ranges s t l.fit))

-- The scalars of a text, one by one.

pub scalars_skip : (skip : ℕ) (s : List ℕ) → scalars_from skip s ≡ scalars_of (drop skip s)
unfolding scalars_from scalars_of
scalars_skip zero [] = refl
scalars_skip zero (b ∷ s) = refl
scalars_skip (suc skip) [] = refl
scalars_skip (suc skip) (b ∷ s) = scalars_skip skip s

step-some : (m n : ℕ) (s : List ℕ) (next : ℕ → List (List ℕ)) → m ≡ suc n → scalar_step m s next ≡ take (suc n) s ∷ next n
unfolding scalar_step
step-some zero n s next e = absurd (omega arith)
step-some (suc m) n s next e = let h : m ≡ n = suc_inj e in rw h

step-none : (m : ℕ) (s : List ℕ) (next : ℕ → List (List ℕ)) → m ≡ 0 → scalar_step m s next ≡ []
unfolding scalar_step
step-none zero s next e = refl
step-none (suc m) s next e = absurd (omega arith)

pub scalars_cons : (b : ℕ) (s : List ℕ) (n : ℕ) → scalar_size (b ∷ s) ≡ suc n → scalars_of (b ∷ s) ≡ take (suc n) (b ∷ s) ∷ scalars_of (drop n s)
unfolding scalars_of scalars_from
scalars_cons b s n e =
    step-some (scalar_size (b ∷ s)) n (b ∷ s) (λ skip. scalars_from skip s) e
    ∙ ap (λ (r : List (List ℕ)). take (suc n) (b ∷ s) ∷ r) (scalars_skip n s)

pub scalars_none : (s : List ℕ) → scalar_size s ≡ 0 → scalars_of s ≡ []
unfolding scalars_of scalars_from
scalars_none [] e = refl
scalars_none (b ∷ s) e = step-none (scalar_size (b ∷ s)) (b ∷ s) (λ skip. scalars_from skip s) e

-- in order they are a prefix of the text
abbrev Joined : List (List ℕ) → (skip : ℕ) → List ℕ → Type 0
Joined xs skip t = (length (concat xs) + skip ≤ length t) × (concat xs ≡ take (length (concat xs)) (drop skip t))

joined : (skip : ℕ) (s : List ℕ) → skip ≤ length s → Joined (scalars_from skip s) skip s
unfolding scalars_from scalar_step concat
joined zero [] h = (omega arith, refl)
joined (suc skip) [] h = absurd (omega arith)
joined (suc skip) (b ∷ s) h = let i = joined skip s (le_of_suc-le-suc h) in (omega (arith, i.0), i.1)
joined zero (b ∷ s) h = go (scalar_size (b ∷ s)) refl (λ n k. joined n s k)
  where
    go : (m : ℕ) → scalar_size (b ∷ s) ≡ m → ((n : ℕ) → n ≤ length s → Joined (scalars_from n s) n s)
        → Joined (scalar_step m (b ∷ s) (λ skip. scalars_from skip s)) 0 (b ∷ s)
    go zero e r = (zero-le, refl)
    go (suc n) e r =
        let le : n ≤ length s = size-le b s n e in
        let i = r n le in
        let front : length (take (suc n) (b ∷ s)) ≡ suc n = length-take-le (suc n) (b ∷ s) (suc-le-suc le) in
        let more : List ℕ = concat (scalars_from n s) in
        let size : length (take (suc n) (b ∷ s) ++ more) ≡ suc n + length more = length-append (take (suc n) (b ∷ s)) more ∙ ap (λ (k : ℕ). k + length more) front in (
          omega (arith, i.0),
          ap (λ (r : List ℕ). take (suc n) (b ∷ s) ++ r) i.1 ∙ sym (ap (λ (k : ℕ). take k (b ∷ s)) size ∙ take-add (suc n) (length more) (b ∷ s)),
        )

pub prefix_le : (t : List ℕ) → well_formed_prefix t ≤ length t
unfolding well_formed_prefix scalars_of
prefix_le t = omega (arith, (joined 0 t zero-le).0)

-- the scalars in order are the longest well-formed prefix
pub scalars_join : (t : List ℕ) → concat (scalars_of t) ≡ take (well_formed_prefix t) t
unfolding well_formed_prefix scalars_of
scalars_join t = (joined 0 t zero-le).1

-- The prefix.

pub prefix_scalar : (b : ℕ) (s : List ℕ) (n : ℕ) → scalar_size (b ∷ s) ≡ suc n → well_formed_prefix (b ∷ s) ≡ suc n + well_formed_prefix (drop n s)
unfolding well_formed_prefix concat
prefix_scalar b s n e =
    ap (λ (xs : List (List ℕ)). length (concat xs)) (scalars_cons b s n e)
    ∙ length-append (take (suc n) (b ∷ s)) (concat (scalars_of (drop n s)))
    ∙ ap (λ (k : ℕ). k + length (concat (scalars_of (drop n s)))) (length-take-le (suc n) (b ∷ s) (suc-le-suc (size-le b s n e)))

pub prefix_none : (s : List ℕ) → scalar_size s ≡ 0 → well_formed_prefix s ≡ 0
unfolding well_formed_prefix concat
prefix_none s e = ap (λ (xs : List (List ℕ)). length (concat xs)) (scalars_none s e)

-- no well-formed prefix is longer
pub longest : {u : List ℕ} (v : List ℕ) → WellFormed u → length u ≤ well_formed_prefix (u ++ v)
longest v nil = zero-le
longest v (scalar {b = b} {s = s} n e h) =
    let le : n ≤ length s = size-le b s n e in
    let split : take n s ++ (drop n s ++ v) ≡ s ++ v = sym (append_assoc (take n s) (drop n s) v) ∙ ap (λ (r : List ℕ). r ++ v) (take-append-drop n s) in
    let e2 : scalar_size (b ∷ (s ++ v)) ≡ suc n = ap (λ (r : List ℕ). scalar_size (b ∷ r)) (sym split) ∙ size_take b s (drop n s ++ v) n e in
    let i : length (drop n s) ≤ well_formed_prefix (drop n s ++ v) = longest v h in
    let j : length (drop n s) ≤ well_formed_prefix (drop n (s ++ v)) = rw drop-append-le i in
    omega (arith, prefix_scalar b (s ++ v) n e2, length-drop n s)

-- what the scalars pass is well-formed
kept : (skip : ℕ) (s : List ℕ) → skip ≤ length s → WellFormed (concat (scalars_from skip s))
unfolding scalars_from scalar_step concat
kept skip [] l = nil
kept (suc skip) (b ∷ s) l = kept skip s (le_of_suc-le-suc l)
kept zero (b ∷ s) l = go (scalar_size (b ∷ s)) refl (λ n g. kept n s g)
  where
    go : (m : ℕ) → scalar_size (b ∷ s) ≡ m → ((n : ℕ) → n ≤ length s → WellFormed (concat (scalars_from n s)))
        → WellFormed (concat (scalar_step m (b ∷ s) (λ skip. scalars_from skip s)))
    go zero e r = nil
    go (suc n) e r =
        let le : n ≤ length s = size-le b s n e in
        let more : List ℕ = concat (scalars_from n s) in
        scalar n (size_take b s more n e) (rw (drop_at (take n s) more n (length-take-le n s le)) (r n le))

pub prefix_well_formed : (t : List ℕ) → WellFormed (take (well_formed_prefix t) t)
unfolding scalars_of
prefix_well_formed t = rw (← scalars_join t) (kept 0 t zero-le)

-- a text is well-formed exactly if the prefix is all of it
pub whole_iff : (t : List ℕ) → (well_formed_prefix t ≡ length t) ↔ WellFormed t
whole_iff t = (
  λ h. let e : take (well_formed_prefix t) t ≡ t = take_all (well_formed_prefix t) t (omega arith) in rw e at (prefix_well_formed t),
  λ w. let l : length t ≤ well_formed_prefix t = rw append-nil at (longest [] w) in omega (arith, prefix_le t),
)

-- The prefix at an index, as a loop meets it.

prefix_some : (s : List ℕ) (n : ℕ) → scalar_size s ≡ suc n → well_formed_prefix s ≡ suc n + well_formed_prefix (drop (suc n) s)
unfolding scalar_size
prefix_some [] n e = absurd (omega arith)
prefix_some (b ∷ s) n e = prefix_scalar b s n e

pub prefix_pass : (t : List ℕ) (i n : ℕ) → scalar_size (drop i t) ≡ suc n → well_formed_prefix (drop i t) ≡ suc n + well_formed_prefix (drop (i + suc n) t)
prefix_pass t i n e = rw (← drop-drop (suc n) i t) (prefix_some (drop i t) n e)

pub prefix_stop : (t : List ℕ) (i : ℕ) → scalar_size (drop i t) ≡ 0 → well_formed_prefix (drop i t) ≡ 0
prefix_stop t i e = prefix_none (drop i t) e
