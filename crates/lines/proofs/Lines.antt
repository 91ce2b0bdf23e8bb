-- One line of a text at its place, and a reading that has come so far.
-- Assumes nothing.
use Prim.Native.Nat.{ℕ, suc, ◌+◌, ◌-◌, ◌*◌, ◌≤◌, ◌<◌}
use mathlib.Core.Path.{◌≡◌, refl, sym, ap, subst}
use mathlib.Core.Bool.{Bool, true, false}
use mathlib.Core.List.{List, [], ◌∷◌, ◌++◌}
use native.Mathlib.Omega.{arith}
use lib.Dec.{ltb}
use lib.ListN.{length, take, drop, length-append, length-drop}
use borrow.Author.Tests.{ltb-true, ltb-false}
use Rattle.std.specs.Prelude.{if◌then◌else◌}
use Rattle.rules.specs.Lists.{run}
use Rattle.rules.specs.Limits.{max_levels, LineLimits}
use Rattle.rules.specs.Line.{State, initial, Token, Halt, failed, over_limit, LineReply, line_reads, line_halts, read_line}
use Rattle.rules.specs.Reading.{not_lf, Entry, entry, token_sum, line_at, size_at}
use Rattle.rules.proofs.LineLaws.{first_size-le, first_size_lf, first_size-end, first_size-some}
use Rattle.rules.proofs.ReadingLaws.{token_sum_append}
use Rattle.rules.proofs.LoopLaws.{ReadTo, read-start, read-line}
use Rattle.rules.proofs.BoundLaws.{GrownTo, read-grown, read_small}
use Rattle.std.specs.Prelude.{Ok, Err}
use Rattle.line.specs.LineCuts.{counted_reads, counted_halts, counted, counted_of}
use Rattle.line.specs.declared.Halt.TheVariants.{Fails, OverLimit}
use Rattle.literals.specs.declared.Failure as cut-failure
use Rattle.literals.specs.Cuts.{failure_of}

-- A line's answer.

counted-reads : (x : LineReply) (n : ℕ) (z : State) → counted_reads n z ≡ counted x → (ts : List Token) × (x ≡ line_reads ts z) × (n ≡ length ts)
counted-reads (line_reads ts y) n z e =
    let q : z ≡ y = cc in
    (ts, ap (line_reads ts) (sym q), cc)
counted-reads (line_halts h) n z e = let b : ◌≡◌ {A = ℕ} 0 1 = cc in absurd (omega arith)

counted-halts : (x : LineReply) (h : Halt) → counted_halts h ≡ counted x → x ≡ line_halts h
counted-halts (line_reads ts y) h e = let b : ◌≡◌ {A = ℕ} 0 1 = cc in absurd (omega arith)
counted-halts (line_halts g) h e = let q : g ≡ h = cc in ap line_halts q

module _ (z : State) (x : LineReply) where
  pub line_read : (n : ℕ) → counted_of (Ok n) z ≡ counted x → (ts : List Token) × (x ≡ line_reads ts z) × (n ≡ length ts)
  line_read n e = counted-reads x n z e

  pub line-fails : (f : cut-failure.Failure) → counted_of (Err (Fails f)) z ≡ counted x → x ≡ line_halts (failed (failure_of f))
  line-fails f e = counted-halts x (failed (failure_of f)) e

  pub line-over : (number : ℕ) → counted_of (Err (OverLimit number)) z ≡ counted x → x ≡ line_halts (over_limit number)
  line-over number e = counted-halts x (over_limit number) e

-- the next line's start
pub next_start : (t : List ℕ) (p end : ℕ) → p < length t → end ≡ p + run not_lf (drop p t) → (if ltb end (length t) then suc end else end) ≡ p + size_at t p
next_start t p end h e = go (ltb end (length t)) refl
  where
    go : (b : Bool) → ltb end (length t) ≡ b → (if b then suc end else end) ≡ p + size_at t p
    go true q = omega (arith, first_size_lf (drop p t) (omega (arith, ltb-true end (length t) q, length-drop p t)))
    go false q = omega (arith, first_size-end (drop p t) (omega (arith, ltb-false end (length t) q, length-drop p t)))

pub slice_is : (t : List ℕ) (p end : ℕ) → end ≡ p + run not_lf (drop p t) → take (end - p) (drop p t) ≡ line_at t p
slice_is t p end e = let n : end - p ≡ run not_lf (drop p t) = omega arith in ap (λ (i : ℕ). take i (drop p t)) n

-- the line at hand, as the part that is lent
pub lent-line : (lim : LineLimits) (z : State) (t : List ℕ) (p end : ℕ) → end ≡ p + run not_lf (drop p t) → read_line lim z (line_at t p) ≡ read_line lim z (take (end - p) (drop p t))
lent-line lim z t p end e = ap (read_line lim z) (sym (slice_is t p end e))

-- Reading t from the state z₀ has come to byte p, past m lines es and k tokens, in the state z.
pub record PassTo (lim : LineLimits) (t : List ℕ) (z₀ : State) (es : List Entry) (p m k : ℕ) (z : State) : Type 0 where
  pub to : ReadTo lim z₀ t p es z
  pub inside : p ≤ length t
  pub count : length es ≡ m
  pub sum : token_sum es ≡ k

pub pass-start : (lim : LineLimits) (t : List ℕ) (z : State) → PassTo lim t z [] 0 0 0 z
unfolding token_sum
pass-start lim t z = record { to = read-start lim z t; inside = omega arith; count = refl; sum = refl }

module _ {lim : LineLimits} {t : List ℕ} {z₀ : State} {es : List Entry} {p m k : ℕ} {z : State} (v : PassTo lim t z₀ es p m k z) where
  pub grown : GrownTo z₀ p es z
  grown = read-grown lim z₀ t p es z v.to

  module _ (h : p < length t) where
    pub size-inside : (0 < size_at t p) × (p + size_at t p ≤ length t)
    size-inside = (first_size-some (drop p t) (omega (arith, length-drop p t)), omega (arith, first_size-le (drop p t), length-drop p t))

    -- the next line is read
    pub next-pass : (ts : List Token) (z' : State) (n q : ℕ) → read_line lim z (line_at t p) ≡ line_reads ts z' → n ≡ length ts → q ≡ p + size_at t p
        → PassTo lim t z₀ (es ++ (entry z (size_at t p) ts ∷ [])) q (m + 1) (k + n) z'
    unfolding token_sum
    next-pass ts z' n q e hn hq =
        let x : Entry = entry z (size_at t p) ts in
        record {
          to = subst (λ (y : ℕ). ReadTo lim z₀ t y (es ++ (x ∷ [])) z') (sym hq) (read-line lim z₀ t p es z v.to ts z' h e);
          inside = omega (arith, size-inside.1);
          count = omega (arith, length-append es (x ∷ []), v.count);
          sum = omega (arith, token_sum_append es (x ∷ []), v.sum);
        }

-- how far a reading from the first state has come
pub small : {lim : LineLimits} {t : List ℕ} {es : List Entry} {p m k : ℕ} {z : State} → PassTo lim t initial es p m k z → lim.levels ≤ max_levels → length t ≤ 1_048_576
    → (m ≤ p) × (k + length z.widths ≤ 2 * p) × (z.depth ≤ 4_194_304)
small {lim} {t} {es} {p} {m} {k} {z} v room h =
    let b = read_small lim room t p es z h v.inside v.to in
    (omega (arith, b.lines, v.count), omega (arith, b.tokens, v.sum), b.state.depth)
