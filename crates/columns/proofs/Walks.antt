-- A walk over the scalars of a text to an offset, with the scalars of the line counted.
-- Assumes nothing.
use Prim.Native.Nat.{ℕ, zero, suc, ◌+◌, ◌≤◌, ◌<◌, zero-le}
use mathlib.Core.Path.{◌≡◌, refl, sym, ap, ◌∙◌}
use mathlib.Core.Bool.{Bool, true, false}
use mathlib.Core.List.{List, [], ◌∷◌, ◌++◌}
use native.Mathlib.Omega.{arith}
use lib.ListN.{length, get_or, take, drop, length-append, length-drop}
use lib.Seq.{drop-cons, drop-drop, take-add, length-take-le}
use borrow.Author.Tests.{eq-eqb, ne_eqb, eqb-true, eqb-false}
use Rattle.std.specs.Prelude.{if◌then◌else◌}
use Rattle.rules.specs.Lists.{any, elem}
use Rattle.rules.specs.Utf8.{scalar_size, WellFormed, nil, scalars_from, scalars_of}
use Rattle.rules.specs.Reading.{is_lf}
use Rattle.rules.specs.Replies.{numbered, outside, refused_if, first_of, unless}
use Rattle.rules.specs.Column.{last_line, starts_from, is_outside, panel_column}
use Rattle.rules.proofs.Utf8Laws.{scalars_cons, scalars_none}
use Rattle.utf8.proofs.SizeLaws.{size_in}
use Rattle.columns.specs.Answers.{place_reply, count_after}
use Rattle.columns.proofs.LastLine.{line_grows, line-ends}
use Rattle.columns.proofs.Scalars.{well_formed_append, scalars_append, scalar_no_lf, lf_size, one_well_formed, one-scalar}

-- Where scalars start: the first at p, and none before it.

pub starts-here : (p : ℕ) (cs : List (List ℕ)) → elem p (starts_from p cs) ≡ true
unfolding elem any starts_from
starts-here p [] = rw (eq-eqb p p refl)
starts-here p (c ∷ cs) = rw (eq-eqb p p refl)

pub starts-later : (p : ℕ) (cs : List (List ℕ)) (at : ℕ) → at < p → elem at (starts_from p cs) ≡ false
unfolding elem any starts_from
starts-later p [] at h = rw (ne_eqb at p (λ q. omega arith))
starts-later p (c ∷ cs) at h = rw (ne_eqb at p (λ q. omega arith)) (starts-later (p + length c) cs at (omega arith))

-- A scalar of n + 1 bytes stands at i: its bytes are in the text, and the rest begins after it.

pub record Next (t : List ℕ) (i n : ℕ) : Type 0 where
  pub inside : i + suc n ≤ length t
  pub size : scalar_size (get_or t i 0 ∷ drop (suc i) t) ≡ suc n
  pub front : drop i t ≡ get_or t i 0 ∷ drop (suc i) t
  pub rest : drop n (drop (suc i) t) ≡ drop (i + suc n) t

next : (t : List ℕ) (i n : ℕ) → i ≤ length t → suc n ≡ scalar_size (drop i t) → Next t i n
next t i n h e =
    let in_text : i + suc n ≤ length t = size_in t i (suc n) h e in
    let f : drop i t ≡ get_or t i 0 ∷ drop (suc i) t = drop-cons t i 0 (omega arith) in
    let k : suc i + n ≡ i + suc n = omega arith in
    record {
      inside = in_text;
      size = ap scalar_size (sym f) ∙ sym e;
      front = f;
      rest = drop-drop n (suc i) t ∙ ap (λ (j : ℕ). drop j t) k;
    }

module _ {t : List ℕ} {i n : ℕ} (x : Next t i n) where
  abbrev first : ℕ
  first = get_or t i 0

  -- the scalar
  abbrev bytes : List ℕ
  bytes = take (suc n) (first ∷ drop (suc i) t)

  scalars_front : scalars_of (drop i t) ≡ bytes ∷ scalars_of (drop (i + suc n) t)
  scalars_front =
      ap scalars_of x.front ∙ scalars_cons first (drop (suc i) t) n x.size
      ∙ ap (λ (s : List ℕ). bytes ∷ scalars_of s) x.rest

  bytes_length : length bytes ≡ suc n
  bytes_length = ap (λ (s : List ℕ). length (take (suc n) s)) (sym x.front) ∙ length-take-le (suc n) (drop i t) (omega (arith, length-drop i t, x.inside))

  starts-next : (at : ℕ) → i < at → elem at (starts_from i (scalars_of (drop i t))) ≡ elem at (starts_from (i + suc n) (scalars_of (drop (i + suc n) t)))
  unfolding elem any starts_from
  starts-next at h = rw (scalars_front, ne_eqb at i (λ q. omega arith), bytes_length)

  -- the text up to the scalar's end, and the last line of that: empty after an LF, else longer by the scalar
  grown : take (i + suc n) t ≡ take i t ++ bytes
  grown = take-add i (suc n) t ∙ ap (λ (s : List ℕ). take i t ++ take (suc n) s) x.front

  line-next : first ≡ 10 → last_line (take (i + suc n) t) ≡ []
  line-next e =
      let z : n ≡ 0 = omega (arith, lf_size (drop (suc i) t), rw e at x.size) in
      ap last_line grown ∙ rw (e, z) (line-ends (take i t))

  line-more : (first ≡ 10 → ⊥) → last_line (take (i + suc n) t) ≡ last_line (take i t) ++ bytes
  line-more e = ap last_line grown ∙ line_grows (take i t) bytes (scalar_no_lf first (drop (suc i) t) n x.size e)

  -- a well-formed line has one scalar more with it
  one_more : (s : List ℕ) → WellFormed s → length (scalars_of (s ++ bytes)) ≡ suc (length (scalars_of s))
  one_more s v =
      omega (
        arith,
        ap length (scalars_append bytes v),
        length-append (scalars_of s) (scalars_of bytes),
        one-scalar first (drop (suc i) t) n x.size,
      )

-- The walk: it has come to `i`, with `count` scalars before it in its line, and `at` is a scalar's start exactly if it is one from `i` on.

pub record Walked (t : List ℕ) (at i count : ℕ) : Type 0 where
  pub inside : i ≤ length t
  pub few : count ≤ i
  pub starts : elem at (starts_from i (scalars_of (drop i t))) ≡ elem at (starts_from 0 (scalars_of t))
  pub whole : WellFormed (last_line (take i t))
  pub counted : count ≡ length (scalars_of (last_line (take i t)))

pub not_yet : (t : List ℕ) (at : ℕ) → Walked t at 0 0
unfolding last_line scalars_of scalars_from
not_yet t at = record { inside = zero-le; few = zero-le; starts = refl; whole = nil; counted = refl }

module _ {t : List ℕ} {at i count : ℕ} (w : Walked t at i count) where
  -- one scalar more
  pub walk_more : (m n : ℕ) → i < at → m ≡ scalar_size (drop i t) → (m ≡ 0 → ⊥) → n ≡ count_after (get_or t i 0) count → Walked t at (i + m) n
  unfolding scalars_of scalars_from
  walk_more zero n h e z q = absurd (z refl)
  walk_more (suc k) n h e z q = go (is_lf (get_or t i 0)) refl q
    where
      x : Next t i k
      x = next t i k w.inside e

      go : (b : Bool) → is_lf (get_or t i 0) ≡ b → n ≡ (if b then 0 else suc count) → Walked t at (i + suc k) n
      go true f r = record {
        inside = x.inside;
        few = omega arith;
        starts = sym (starts-next x at h) ∙ w.starts;
        whole = rw (line-next x (eqb-true (get_or t i 0) 10 f)) nil;
        counted = r ∙ ap (λ (s : List ℕ). length (scalars_of s)) (sym (line-next x (eqb-true (get_or t i 0) 10 f)));
      }
      go false f r = record {
        inside = x.inside;
        few = omega (arith, w.few);
        starts = sym (starts-next x at h) ∙ w.starts;
        whole = rw (line-more x (eqb-false (get_or t i 0) 10 f)) (well_formed_append w.whole (one_well_formed (get_or t i 0) (drop (suc i) t) k x.size));
        counted = r ∙ ap suc w.counted ∙ sym (ap (λ (s : List ℕ). length (scalars_of s)) (line-more x (eqb-false (get_or t i 0) 10 f)) ∙ one_more x (last_line (take i t)) w.whole);
      }

  -- the next scalar is in the text
  pub in_text : (m : ℕ) → m ≡ scalar_size (drop i t) → i + m ≤ length t
  in_text m e = size_in t i m w.inside e

  -- the reply where no scalar starts at `at`: none begins at `i` before it, or the walk has passed it
  is-outside : elem at (starts_from i (scalars_of (drop i t))) ≡ false → numbered outside ≡ place_reply t at
  unfolding is_outside refused_if first_of unless
  is-outside e = let f : elem at (starts_from 0 (scalars_of t)) ≡ false = sym w.starts ∙ e in rw f

  pub walk_stops : i < at → scalar_size (drop i t) ≡ 0 → numbered outside ≡ place_reply t at
  unfolding elem any starts_from
  walk_stops h e = is-outside (ap (λ (cs : List (List ℕ)). elem at (starts_from i cs)) (scalars_none (drop i t) e) ∙ rw (ne_eqb at i (λ q. omega arith)))

  pub walk_passes : at < i → numbered outside ≡ place_reply t at
  walk_passes h = is-outside (starts-later i (scalars_of (drop i t)) at h)

  -- the reply where the walk has come to `at`
  pub walk_comes : i ≡ at → (0 ∷ (count + 1) ∷ []) ≡ place_reply t at
  unfolding is_outside refused_if first_of unless panel_column
  walk_comes e =
      let f : elem at (starts_from 0 (scalars_of t)) ≡ true = sym w.starts ∙ rw e (starts-here at (scalars_of (drop at t))) in
      let m : count ≡ length (scalars_of (last_line (take at t))) = rw e at w.counted in
      let k : count + 1 ≡ suc (length (scalars_of (last_line (take at t)))) = omega arith in
      rw (f, k)
