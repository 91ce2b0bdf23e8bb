-- Laws of tests, runs, trimming and overwriting.
-- Assumes nothing.
use Prim.Native.Nat.{ℕ, zero, suc, ◌+◌, ◌≤◌, ◌<◌, zero-le, suc-le-suc}
use mathlib.Core.Path.{◌≡◌, refl, sym, ◌∙◌, ap}
use mathlib.Core.Bool.{Bool, true, false, ◌&&◌, ◌||◌, false≢true}
use mathlib.Core.List.{List, [], ◌∷◌, ◌++◌}
use native.Mathlib.Omega.{arith}
use native.Mathlib.Nat.{le_of_suc-le-suc}
use native.Mathlib.Numerals.{add-one}
use lib.Dec.{eqb}
use lib.ListN.{length, get_or, take, drop, drop_of_length-le}
use lib.Seq.{drop-nil, drop-cons, take-suc}
use Rattle.std.specs.Prelude.{if◌then◌else◌}
use Rattle.rules.specs.Lists.{run, begins, trimmed, trim_end}

-- a property of both branches, each under its test
pub if_by : {A : Type 0} (P : A → Type 0) (b : Bool) {x y : A} → (b ≡ true → P x) → (b ≡ false → P y) → P (if b then x else y)
if_by P true f g = f refl
if_by P false f g = g refl

pub run_true : {A : Type 0} (f : A → Bool) (x : A) (s : List A) → f x ≡ true → run f (x ∷ s) ≡ suc (run f s)
unfolding run
run_true f x s e = rw (e, run)

pub run_false : {A : Type 0} (f : A → Bool) (x : A) (s : List A) → f x ≡ false → run f (x ∷ s) ≡ 0
unfolding run
run_false f x s e = rw (e, run)

-- one step of `run`, as a test that does not stop the recursion
pub run-cons : {A : Type 0} (f : A → Bool) (x : A) (s : List A) → run f (x ∷ s) ≡ (if f x then suc (run f s) else 0)
run-cons f x s = go (f x) refl
  where
    go : (b : Bool) → f x ≡ b → run f (x ∷ s) ≡ (if b then suc (run f s) else 0)
    go true e = run_true f x s e
    go false e = run_false f x s e

-- a run at an index of a list, as a loop meets it
pub run-pass : (f : ℕ → Bool) (l : List ℕ) (i : ℕ) → i < length l → f (get_or l i 0) ≡ true → run f (drop i l) ≡ suc (run f (drop (i + 1) l))
run-pass f l i h e = rw (drop-cons l i 0, add-one) (run_true f (get_or l i 0) (drop (suc i) l) e)

pub run-stop : (f : ℕ → Bool) (l : List ℕ) (i : ℕ) → i < length l → f (get_or l i 0) ≡ false → run f (drop i l) ≡ 0
run-stop f l i h e = rw (drop-cons l i 0) (run_false f (get_or l i 0) (drop (suc i) l) e)

pub run_end : (f : ℕ → Bool) (l : List ℕ) (i : ℕ) → length l ≤ i → run f (drop i l) ≡ 0
unfolding run
run_end f l i h = rw (drop_of_length-le l h)

pub run-le : {A : Type 0} (f : A → Bool) (s : List A) → run f s ≤ length s
unfolding run
run-le f [] = zero-le
run-le f (x ∷ s) =
    rw run-cons (if_by (λ n. n ≤ suc (length s)) (f x) (λ _. suc-le-suc (run-le f s)) (λ _. zero-le))

pub and_right : (a b : Bool) → (a && b) ≡ true → b ≡ true
and_right true b h = h
and_right false b h = absurd (false≢true h)

pub begins-le : (p s : List ℕ) → begins p s ≡ true → length p ≤ length s
unfolding begins
begins-le [] s h = zero-le
begins-le (x ∷ p) [] h = absurd (false≢true h)
begins-le (x ∷ p) (y ∷ s) h = suc-le-suc (begins-le p s (and_right (eqb x y) (begins p s) h))

pub or_by : {P : Type 0} (a b : Bool) → (a ≡ true → P) → (b ≡ true → P) → (a || b) ≡ true → P
or_by true b f g h = f refl
or_by false b f g h = g h

-- a byte other than 0 stands in the list
pub get_or_lt : (t : List ℕ) (k c : ℕ) → get_or t k 0 ≡ suc c → k < length t
get_or_lt [] k c h = omega arith
get_or_lt (x ∷ t) zero c h = omega arith
get_or_lt (x ∷ t) (suc k) c h = suc-le-suc (get_or_lt t k c h)

trimmed-le : (b : Bool) (x : ℕ) (s : List ℕ) → length (trimmed b x s) ≤ suc (length s)
unfolding trimmed
trimmed-le true x [] = zero-le
trimmed-le false x [] = omega arith
trimmed-le b x (y ∷ s) = omega arith

pub trim_end-le : (f : ℕ → Bool) (s : List ℕ) → length (trim_end f s) ≤ length s
unfolding trim_end
trim_end-le f [] = zero-le
trim_end-le f (x ∷ s) = omega (arith, trimmed-le (f x) x (trim_end f s), trim_end-le f s)

pub and_left : (a b : Bool) → (a && b) ≡ true → a ≡ true
and_left true b h = refl
and_left false b h = absurd (false≢true h)

trimmed_snoc : (t : Bool) (x y : ℕ) (ys : List ℕ) → trimmed t x (ys ++ (y ∷ [])) ≡ x ∷ (ys ++ (y ∷ []))
unfolding trimmed
trimmed_snoc t x y [] = refl
trimmed_snoc t x y (z ∷ ys) = refl

pub trim_end_snoc : (f : ℕ → Bool) (xs : List ℕ) (x : ℕ) → trim_end f (xs ++ (x ∷ [])) ≡ (if f x then trim_end f xs else xs ++ (x ∷ []))
unfolding trim_end trimmed
trim_end_snoc f [] x = refl
trim_end_snoc f (y ∷ ys) x = ap (trimmed (f y) y) (trim_end_snoc f ys x) ∙ go (f x)
  where
    go : (t : Bool) → trimmed (f y) y (if t then trim_end f ys else ys ++ (x ∷ [])) ≡ (if t then trimmed (f y) y (trim_end f ys) else y ∷ (ys ++ (x ∷ [])))
    go true = refl
    go false = trimmed_snoc (f y) y x ys

pub trim-pass : (f : ℕ → Bool) (l : List ℕ) (e : ℕ) → e < length l → f (get_or l e 0) ≡ true → trim_end f (take (e + 1) l) ≡ trim_end f (take e l)
trim-pass f l e h t =
    ap (λ (n : ℕ). trim_end f (take n l)) (add-one e) ∙ ap (trim_end f) (take-suc l e 0 h) ∙ trim_end_snoc f (take e l) (get_or l e 0) ∙ rw t

pub trim-stop : (f : ℕ → Bool) (l : List ℕ) (e : ℕ) → e < length l → f (get_or l e 0) ≡ false → trim_end f (take (e + 1) l) ≡ take (e + 1) l
trim-stop f l e h t =
    ap (λ (n : ℕ). trim_end f (take n l)) (add-one e) ∙ ap (trim_end f) (take-suc l e 0 h) ∙ trim_end_snoc f (take e l) (get_or l e 0)
    ∙ rw t (sym (ap (λ (n : ℕ). take n l) (add-one e) ∙ take-suc l e 0 h))

drop_trimmed : (t : Bool) (x : ℕ) (ys : List ℕ) (k : ℕ) → drop (suc k) (trimmed t x ys) ≡ drop k ys
unfolding trimmed
drop_trimmed true x [] k = sym (drop-nil k)
drop_trimmed false x [] k = refl
drop_trimmed t x (y ∷ ys) k = refl

-- the rest of a trimmed line is the trimmed rest
pub trim_end_drop : (f : ℕ → Bool) (at : ℕ) (l : List ℕ) → trim_end f (drop at l) ≡ drop at (trim_end f l)
unfolding trim_end
trim_end_drop f zero l = refl
trim_end_drop f (suc at) [] = refl
trim_end_drop f (suc at) (x ∷ l) = trim_end_drop f at l ∙ sym (drop_trimmed (f x) x (trim_end f l) at)

trimmed-some : (t : Bool) (x : ℕ) (ys : List ℕ) → t ≡ false → 0 < length (trimmed t x ys)
unfolding trimmed
trimmed-some true x ys h = absurd (false≢true (sym h))
trimmed-some false x [] h = suc-le-suc zero-le
trimmed-some false x (y ∷ ys) h = suc-le-suc zero-le

trimmed-past : (t : Bool) (x k : ℕ) (ys : List ℕ) → k < length ys → suc k < length (trimmed t x ys)
unfolding trimmed
trimmed-past t x k [] h = absurd (omega arith)
trimmed-past t x k (y ∷ ys) h = suc-le-suc h

-- an element that does not pass the test is kept, and so is all before it
pub trim_end-keeps : (f : ℕ → Bool) (l : List ℕ) (at : ℕ) → at < length l → f (get_or l at 0) ≡ false → at < length (trim_end f l)
unfolding trim_end
trim_end-keeps f [] at h e = absurd (omega arith)
trim_end-keeps f (x ∷ l) zero h e = trimmed-some (f x) x (trim_end f l) e
trim_end-keeps f (x ∷ l) (suc at) h e = trimmed-past (f x) x at (trim_end f l) (trim_end-keeps f l at (le_of_suc-le-suc h) e)

pub or_left : (x y : Bool) → x ≡ true → (x || y) ≡ true
or_left true y h = refl
or_left false y h = absurd (false≢true h)

pub or_right : (x y : Bool) → y ≡ true → (x || y) ≡ true
or_right true y h = refl
or_right false y h = h

pub or_none : (x y : Bool) → x ≡ false → y ≡ false → (x || y) ≡ false
or_none true y h k = h
or_none false y h k = k

pub and-true : (x y : Bool) → (x && y) ≡ true → (x ≡ true) × (y ≡ true)
and-true true y h = (refl, h)
and-true false y h = absurd (false≢true h)

-- a run whose first element passes
pub run-some : {A : Type 0} (f : A → Bool) (x : A) (s : List A) → f x ≡ true → 0 < run f (x ∷ s)
run-some f x s h = omega (arith, run_true f x s h)
