-- Laws of the lines of a text.
-- Assumes nothing.
use Prim.Native.Nat.{ℕ, zero, suc, ◌+◌, ◌≤◌, ◌<◌, zero-le, suc-le-suc}
use mathlib.Core.Path.{◌≡◌, refl, sym, ap, ◌∙◌}
use mathlib.Core.Bool.{Bool, true, false, not}
use mathlib.Core.List.{List, [], ◌∷◌, ◌++◌}
use native.Mathlib.Omega.{arith}
use native.Mathlib.Nat.{suc-add, zero-add}
use lib.ListN.{length, get_or, take, drop, length-append, length-drop}
use lib.Seq.{drop-drop, take-nil, get_or-drop, split_at, take_at, length-take-le}
use borrow.Author.Tests.{eqb-true, eq-eqb, ne_eqb}
use Rattle.std.specs.Prelude.{if◌then◌else◌}
use Rattle.rules.specs.Lists.{run}
use Rattle.rules.specs.Reading.{Line, is_lf, onto, lines_of, count_lf, not_lf, content, first_size}
use Rattle.rules.proofs.ListLaws.{if_by, run_true, run_false}

-- the bytes of lines
abbrev pub total : List Line → ℕ
total [] = 0
total (l ∷ ls) = length l + total ls

-- a byte in front of lines_of, and of a count of LFs
abbrev pub next : Bool → ℕ → List Line → List Line
next q b ls = if q then (b ∷ []) ∷ ls else onto b ls

abbrev pub count1 : Bool → ℕ → ℕ
count1 q n = if q then suc n else n

pub total_append : (xs ys : List Line) → total (xs ++ ys) ≡ total xs + total ys
total_append [] ys = omega arith
total_append (l ∷ xs) ys = omega (arith, total_append xs ys)

total-onto : (b : ℕ) (ls : List Line) → total (onto b ls) ≡ suc (total ls)
unfolding onto
total-onto b [] = refl
total-onto b (l ∷ ls) = suc-add (length l) (total ls)

total-next : (q : Bool) (b : ℕ) (ls : List Line) → total (next q b ls) ≡ suc (total ls)
total-next true b ls = suc-add 0 (total ls) ∙ ap suc (zero-add (total ls))
total-next false b ls = total-onto b ls

pub total-lines : (t : List ℕ) → total (lines_of t) ≡ length t
unfolding lines_of
total-lines [] = refl
total-lines (b ∷ bs) = total-next (is_lf b) b (lines_of bs) ∙ ap suc (total-lines bs)

-- what follows the first line
pub next-line : (t : List ℕ) (l : Line) (ls : List Line) → lines_of t ≡ l ∷ ls → lines_of (drop (length l) t) ≡ ls
unfolding lines_of onto
next-line [] l ls e = let z : ◌≡◌ {A = ℕ} 0 1 = cc in absurd (omega arith)
next-line (b ∷ bs) l ls e = go (next-line bs) (is_lf b) (lines_of bs) refl e
  where
    go : ((l : Line) (ls : List Line) → lines_of bs ≡ l ∷ ls → lines_of (drop (length l) bs) ≡ ls)
        → (q : Bool) (rest : List Line) → lines_of bs ≡ rest → next q b rest ≡ l ∷ ls → lines_of (drop (length l) (b ∷ bs)) ≡ ls
    go ih true rest r f =
        let h : l ≡ b ∷ [] = cc in
        rw h (cc)
    go ih false [] r f =
        let h : l ≡ b ∷ [] = cc in
        rw h (cc)
    go ih false (m ∷ ms) r f =
        let h : l ≡ b ∷ m = cc in
        rw h (ih m ms r ∙ (cc))

-- the lines_of after the first i are those of the bytes after these
pub drop_lines : (i : ℕ) (t : List ℕ) → drop i (lines_of t) ≡ lines_of (drop (total (take i (lines_of t))) t)
drop_lines zero t = refl
drop_lines (suc i) t = go (drop_lines i) (lines_of t) refl
  where
    go : ((t : List ℕ) → drop i (lines_of t) ≡ lines_of (drop (total (take i (lines_of t))) t))
        → (ls : List Line) → lines_of t ≡ ls → drop (suc i) ls ≡ lines_of (drop (total (take (suc i) ls)) t)
    go ih [] e = sym e
    go ih (l ∷ ls) e =
        let h : drop i ls ≡ lines_of (drop (total (take i ls)) (drop (length l) t)) = rw (next-line t l ls e) at (ih (drop (length l) t)) in
        h ∙ ap lines_of (drop-drop (total (take i ls)) (length l) t)

onto_take : (k : ℕ) (b : ℕ) (ls : List Line) → take (suc k) (onto b ls) ≡ onto b (take (suc k) ls)
unfolding onto
onto_take k b [] = ap (λ (r : List Line). (b ∷ []) ∷ r) (take-nil k)
onto_take k b (l ∷ ls) = refl

take_next : (k : ℕ) (q : Bool) (b : ℕ) (X Y : List Line) → take k X ≡ take k Y → take (count1 q k) (next q b X) ≡ take (count1 q k) (next q b Y)
take_next k true b X Y e = ap (λ (r : List Line). (b ∷ []) ∷ r) e
take_next zero false b X Y e = refl
take_next (suc k) false b X Y e = onto_take k b X ∙ ap (onto b) e ∙ sym (onto_take k b Y)

-- the lines_of that end within the bytes u are the same whatever follows u
pub take_lines : (u v z : List ℕ) → take (count_lf u) (lines_of (u ++ v)) ≡ take (count_lf u) (lines_of (u ++ z))
unfolding lines_of count_lf
take_lines [] v z = refl
take_lines (b ∷ u) v z = take_next (count_lf u) (is_lf b) b (lines_of (u ++ v)) (lines_of (u ++ z)) (take_lines u v z)

within-next : (k : ℕ) (q : Bool) (b : ℕ) (X : List Line) (n : ℕ) → total (take k X) ≤ n → total (take (count1 q k) (next q b X)) ≤ suc n
within-next k true b X n h = omega arith
within-next zero false b X n h = omega arith
within-next (suc k) false b X n h = rw (onto_take, total-onto) (omega arith)

-- they end within u
pub total_take_lines : (u v : List ℕ) → total (take (count_lf u) (lines_of (u ++ v))) ≤ length u
unfolding lines_of count_lf
total_take_lines [] v = omega arith
total_take_lines (b ∷ u) v = within-next (count_lf u) (is_lf b) b (lines_of (u ++ v)) (length u) (total_take_lines u v)

some_next : (k : ℕ) (q : Bool) (b : ℕ) (X : List Line) → k ≤ length X → count1 q k ≤ length (next q b X)
unfolding onto
some_next k true b X h = omega arith
some_next k false b [] h = omega arith
some_next k false b (l ∷ X) h = h

-- and there are as many as u has LFs
pub lfs_lines : (u v : List ℕ) → count_lf u ≤ length (lines_of (u ++ v))
unfolding lines_of count_lf
lfs_lines [] v = omega arith
lfs_lines (b ∷ u) v = some_next (count_lf u) (is_lf b) b (lines_of (u ++ v)) (lfs_lines u v)

-- A text cut after an LF

onto_append : (b : ℕ) (X Y : List Line) → 0 < length X → onto b (X ++ Y) ≡ onto b X ++ Y
unfolding onto
onto_append b [] Y h = absurd (omega arith)
onto_append b (l ∷ X) Y h = refl

next_append : (q : Bool) (b : ℕ) (X Y : List Line) → 0 < length X → next q b (X ++ Y) ≡ next q b X ++ Y
next_append true b X Y h = refl
next_append false b X Y h = onto_append b X Y h

next-some : (q : Bool) (b : ℕ) (X : List Line) → 0 < length (next q b X)
unfolding onto
next-some true b X = omega arith
next-some false b [] = omega arith
next-some false b (l ∷ X) = omega arith

lines-some : (u : List ℕ) → 0 < length (lines_of (u ++ 10 ∷ []))
unfolding lines_of
lines-some [] = omega arith
lines-some (b ∷ u) = next-some (is_lf b) b (lines_of (u ++ 10 ∷ []))

pub lines_append : (u v : List ℕ) → lines_of (u ++ 10 ∷ v) ≡ lines_of (u ++ 10 ∷ []) ++ lines_of v
unfolding lines_of
lines_append [] v = refl
lines_append (b ∷ u) v =
    ap (next (is_lf b) b) (lines_append u v) ∙ next_append (is_lf b) b (lines_of (u ++ 10 ∷ [])) (lines_of v) (lines-some u)

-- Line starts: after each LF

-- no line is empty
pub first_some : (t : List ℕ) (l : Line) (ls : List Line) → lines_of t ≡ l ∷ ls → 0 < length l
unfolding lines_of onto
first_some [] l ls e = let z : ◌≡◌ {A = ℕ} 0 1 = cc in absurd (omega arith)
first_some (b ∷ bs) l ls e = go (is_lf b) (lines_of bs) e
  where
    go : (q : Bool) (rest : List Line) → next q b rest ≡ l ∷ ls → 0 < length l
    go true rest f = let hl : l ≡ b ∷ [] = cc in omega (arith, ap length hl)
    go false [] f = let hl : l ≡ b ∷ [] = cc in omega (arith, ap length hl)
    go false (m ∷ ms) f = let hl : l ≡ b ∷ m = cc in omega (arith, ap length hl)

first_step : (b : ℕ) (bs : List ℕ) (l : Line) (ls : List Line) (k : ℕ)
    → ((m : Line) (ms : List Line) (i : ℕ) → lines_of bs ≡ m ∷ ms → length m < length bs → suc i ≡ length m → get_or bs i 0 ≡ 10)
    → (q : Bool) (rest : List Line) → is_lf b ≡ q → lines_of bs ≡ rest → next q b rest ≡ l ∷ ls → length l < suc (length bs) → suc k ≡ length l
    → get_or (b ∷ bs) k 0 ≡ 10
unfolding onto
first_step b bs l ls k ih true rest e r f h hk =
    let hl : l ≡ b ∷ [] = cc in
    let h0 : k ≡ 0 = omega (arith, ap length hl) in
    rw h0 (eqb-true b 10 e)
first_step b bs l ls k ih false [] e r f h hk =
    let hl : l ≡ b ∷ [] = cc in
    absurd (omega (arith, ap length hl, total-lines bs, ap total r))
first_step b bs l ls zero ih false (m ∷ ms) e r f h hk =
    let hl : l ≡ b ∷ m = cc in
    absurd (omega (arith, ap length hl, first_some bs m ms r))
first_step b bs l ls (suc k) ih false (m ∷ ms) e r f h hk =
    let hl : l ≡ b ∷ m = cc in
    ih m ms k r (omega (arith, ap length hl)) (omega (arith, ap length hl))

-- a first line that is not the whole text ends with LF
first_lf : (t : List ℕ) (l : Line) (ls : List Line) (k : ℕ) → lines_of t ≡ l ∷ ls → length l < length t → suc k ≡ length l → get_or t k 0 ≡ 10
unfolding lines_of
first_lf [] l ls k e h hk = absurd (omega arith)
first_lf (b ∷ bs) l ls k e h hk = first_step b bs l ls k (first_lf bs) (is_lf b) (lines_of bs) refl refl e h hk

-- the byte before a line start is an LF
pub start_lf : (j : ℕ) (t : List ℕ) (k : ℕ) → suc k ≡ total (take j (lines_of t)) → suc k < length t → get_or t k 0 ≡ 10
start_lf zero t k e h = absurd (omega arith)
start_lf (suc j) t k e h = go (λ u i. start_lf j u i) (lines_of t) refl e
  where
    last : (l : Line) (ls : List Line) → lines_of t ≡ l ∷ ls
        → ((u : List ℕ) (i : ℕ) → suc i ≡ total (take j (lines_of u)) → suc i < length u → get_or u i 0 ≡ 10)
        → (x : ℕ) → total (take j ls) ≡ x → suc k ≡ length l + x → get_or t k 0 ≡ 10
    last l ls hl ih zero hx e = first_lf t l ls k hl (omega arith) (omega arith)
    last l ls hl ih (suc x) hx e =
        let hd : suc x ≡ total (take j (lines_of (drop (length l) t))) = rw (next-line t l ls hl) (sym hx) in
        let hk : length l + x ≡ k = omega arith in
        (rw hk at (sym (get_or-drop (length l) t x 0))) ∙ ih (drop (length l) t) x hd (omega (arith, length-drop (length l) t))

    go : ((u : List ℕ) (i : ℕ) → suc i ≡ total (take j (lines_of u)) → suc i < length u → get_or u i 0 ≡ 10)
        → (ls : List Line) → lines_of t ≡ ls → suc k ≡ total (take (suc j) ls) → get_or t k 0 ≡ 10
    go ih [] hl e = absurd (omega arith)
    go ih (l ∷ ls) hl e = last l ls hl ih (total (take j ls)) refl e

-- and behind every LF is a line start, or the end
pub lf_start : (t : List ℕ) (k : ℕ) → k < length t → get_or t k 0 ≡ 10 → (i : ℕ) × (total (take i (lines_of t)) ≡ suc k)
lf_start t k h e =
    let u : List ℕ = take k t in
    let ht : t ≡ u ++ 10 ∷ drop (suc k) t = rw e at (split_at t k 0 h) in
    let hs : lines_of t ≡ lines_of (u ++ 10 ∷ []) ++ lines_of (drop (suc k) t) = ap lines_of ht ∙ lines_append u (drop (suc k) t) in (
      length (lines_of (u ++ 10 ∷ [])),
      ap (λ (ls : List Line). total (take (length (lines_of (u ++ 10 ∷ []))) ls)) hs
          ∙ ap total (take_at (lines_of (u ++ 10 ∷ [])) (lines_of (drop (suc k) t)) (length (lines_of (u ++ 10 ∷ []))) refl)
          ∙ total-lines (u ++ 10 ∷ []) ∙ length-append u (10 ∷ []) ∙ omega (arith, length-take-le k t (omega arith)),
    )

-- For a loop that goes forward

-- the first line, where the first LF is at x
pub first-line : (t : List ℕ) (x : ℕ) → x < length t → ((k : ℕ) → k < x → get_or t k 0 ≡ 10 → ⊥) → get_or t x 0 ≡ 10
    → lines_of t ≡ take (suc x) t ∷ lines_of (drop (suc x) t)
unfolding lines_of onto
first-line [] x h no_lf e = absurd (omega arith)
first-line (b ∷ bs) zero h no_lf e = rw (eq-eqb b 10 e)
first-line (b ∷ bs) (suc x) h no_lf e =
    rw (ne_eqb b 10 (no_lf 0 (omega arith)), first-line bs x (omega arith) (λ k hk. no_lf (suc k) (omega arith)) e)

-- and where there is none
pub only-line : (b : ℕ) (bs : List ℕ) → ((k : ℕ) → k < suc (length bs) → get_or (b ∷ bs) k 0 ≡ 10 → ⊥) → lines_of (b ∷ bs) ≡ (b ∷ bs) ∷ []
unfolding lines_of onto
only-line b [] no_lf = rw (ne_eqb b 10 (no_lf 0 (omega arith)))
only-line b (c ∷ bs) no_lf = ap (next (is_lf b) b) (only-line c bs (λ k hk. no_lf (suc k) (omega arith))) ∙ rw (ne_eqb b 10 (no_lf 0 (omega arith)))

-- The line at an index of a text, as a loop meets it.

pub lines_of_first : (b : ℕ) (t : List ℕ) → lines_of (b ∷ t) ≡ take (first_size (b ∷ t)) (b ∷ t) ∷ lines_of (drop (first_size (b ∷ t)) (b ∷ t))
unfolding first_size lines_of onto
lines_of_first b [] = go (is_lf b)
  where
    go : (x : Bool)
        → (if x then (b ∷ []) ∷ [] else (b ∷ []) ∷ [])
        ≡ take (if x then 1 else 1) (b ∷ []) ∷ lines_of (drop (if x then 1 else 1) (b ∷ []))
    go true = refl
    go false = refl
lines_of_first b (c ∷ t) = go (is_lf b) (lines_of_first c t)
  where
    go : (x : Bool) → lines_of (c ∷ t) ≡ take (first_size (c ∷ t)) (c ∷ t) ∷ lines_of (drop (first_size (c ∷ t)) (c ∷ t))
        → (if x then (b ∷ []) ∷ lines_of (c ∷ t) else onto b (lines_of (c ∷ t)))
        ≡ take (if x then 1 else suc (first_size (c ∷ t))) (b ∷ c ∷ t) ∷ lines_of (drop (if x then 1 else suc (first_size (c ∷ t))) (b ∷ c ∷ t))
    go true h = refl
    go false h = ap (onto b) h

data FirstByte (b : ℕ) (t : List ℕ) : Type 0 where
  is_end : run not_lf (b ∷ t) ≡ 0 → first_size (b ∷ t) ≡ 1 → FirstByte b t
  goes_on : run not_lf (b ∷ t) ≡ suc (run not_lf t) → first_size (b ∷ t) ≡ suc (first_size t) → FirstByte b t

first_byte : (b : ℕ) (t : List ℕ) → FirstByte b t
unfolding first_size not_lf
first_byte b t = go (is_lf b) refl
  where
    go : (x : Bool) → is_lf b ≡ x → FirstByte b t
    go true e = is_end (run_false not_lf b t (ap not e)) (rw (e, first_size))
    go false e = goes_on (run_true not_lf b t (ap not e)) (rw (e, first_size))

-- it ends after an LF that is there
pub first_size_lf : (t : List ℕ) → run not_lf t < length t → first_size t ≡ suc (run not_lf t)
first_size_lf [] h = absurd (omega arith)
first_size_lf (b ∷ t) h = go (first_byte b t) (first_size_lf t)
  where
    go : FirstByte b t → (run not_lf t < length t → first_size t ≡ suc (run not_lf t)) → first_size (b ∷ t) ≡ suc (run not_lf (b ∷ t))
    go (is_end r l) ih = omega arith
    go (goes_on r l) ih = omega (arith, ih (omega arith))

pub first_size-end : (t : List ℕ) → length t ≤ run not_lf t → first_size t ≡ run not_lf t
unfolding first_size run
first_size-end [] h = refl
first_size-end (b ∷ t) h = go (first_byte b t) (first_size-end t)
  where
    go : FirstByte b t → (length t ≤ run not_lf t → first_size t ≡ run not_lf t) → first_size (b ∷ t) ≡ run not_lf (b ∷ t)
    go (is_end r l) ih = absurd (omega arith)
    go (goes_on r l) ih = omega (arith, ih (omega arith))

pub lines_at : (t : List ℕ) (i : ℕ) → i < length t
    → lines_of (drop i t) ≡ take (first_size (drop i t)) (drop i t) ∷ lines_of (drop (i + first_size (drop i t)) t)
lines_at t i h = rw (← drop-drop (first_size (drop i t)) i t) (go (drop i t) (omega (arith, length-drop i t)))
  where
    go : (s : List ℕ) → 0 < length s → lines_of s ≡ take (first_size s) s ∷ lines_of (drop (first_size s) s)
    go [] k = absurd (omega arith)
    go (b ∷ s) k = lines_of_first b s

run-one : (b : ℕ) (t : List ℕ) → run not_lf (b ∷ t) ≡ 0 → run not_lf (b ∷ []) ≡ 0
run-one b t h = go (not_lf b) refl
  where
    go : (x : Bool) → not_lf b ≡ x → run not_lf (b ∷ []) ≡ 0
    go true e = absurd (omega (arith, run_true not_lf b t e))
    go false e = run_false not_lf b [] e

run_more : (b : ℕ) (t u : List ℕ) → run not_lf (b ∷ t) ≡ suc (run not_lf t) → run not_lf (b ∷ u) ≡ suc (run not_lf u)
run_more b t u h = go (not_lf b) refl
  where
    go : (x : Bool) → not_lf b ≡ x → run not_lf (b ∷ u) ≡ suc (run not_lf u)
    go true e = run_true not_lf b u e
    go false e = absurd (omega (arith, run_false not_lf b t e))

-- the line without its LF is the text up to the LF
pub content-first : (s : List ℕ) → content (take (first_size s) s) ≡ take (run not_lf s) s
unfolding content first_size
content-first [] = refl
content-first (b ∷ t) = go (first_byte b t) (content-first t)
  where
    go : FirstByte b t → content (take (first_size t) t) ≡ take (run not_lf t) t → content (take (first_size (b ∷ t)) (b ∷ t)) ≡ take (run not_lf (b ∷ t)) (b ∷ t)
    go (is_end r l) ih =
        ap (λ (n : ℕ). content (take n (b ∷ t))) l ∙ ap (λ (n : ℕ). take n (b ∷ [])) (run-one b t r) ∙ sym (ap (λ (n : ℕ). take n (b ∷ t)) r)
    go (goes_on r l) ih =
        ap (λ (n : ℕ). content (take n (b ∷ t))) l ∙ ap (λ (n : ℕ). take n (b ∷ take (first_size t) t)) (run_more b t (take (first_size t) t) r)
        ∙ ap (λ (u : List ℕ). b ∷ u) ih ∙ sym (ap (λ (n : ℕ). take n (b ∷ t)) r)

pub first_size-le : (t : List ℕ) → first_size t ≤ length t
unfolding first_size
first_size-le [] = zero-le
first_size-le (b ∷ t) = if_by (λ n. n ≤ suc (length t)) (is_lf b) (λ _. suc-le-suc zero-le) (λ _. suc-le-suc (first_size-le t))

pub first_size-some : (t : List ℕ) → 0 < length t → 0 < first_size t
unfolding first_size
first_size-some [] h = absurd (omega arith)
first_size-some (b ∷ t) h = if_by (λ n. 0 < n) (is_lf b) (λ _. suc-le-suc zero-le) (λ _. suc-le-suc zero-le)
