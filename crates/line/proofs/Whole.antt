-- A whole line: what stands at its start, its cuts, its Newline.
-- Assumes nothing.
use Prim.Native.Nat.{ℕ, ◌+◌, ◌*◌, ◌≤◌}
use mathlib.Core.Path.{◌≡◌, refl, sym, ap, ◌∙◌}
use mathlib.Core.Bool.{Bool, true, false}
use mathlib.Core.List.{List, [], ◌∷◌, ◌++◌, append_assoc}
use native.Mathlib.Omega.{arith}
use native.Mathlib.Numerals.{add-one}
use lib.ListN.{length, length-append}
use Rattle.rules.specs.Kinds.{newline}
use Rattle.rules.specs.Failure.{failure, bad_indent}
use Rattle.rules.specs.Limits.{LineLimits}
use Rattle.rules.specs.Line.{Token, token_at, Cuts, cuts, stops, cuts_from, depth_after, arrow_after, State, levels, unequal, beyond, indent_size, levels_of, failed, over_limit, LineReply, line_halts, with_cuts, with_levels, read_line}
use Rattle.rules.specs.Records.{token_size, token_words}
use Rattle.rules.proofs.RecordLaws.{length_token_words}
use Rattle.rules.proofs.BoundLaws.{cuts-ok}
use Rattle.records.specs.Sinks.{Fits, RecordSinkLaws}
use Rattle.records.specs.Words.{words_at}
use Rattle.records.specs.declared.Place.{Place}
use Rattle.records.proofs.RecordTakes.{then-takes, fits_after, fits-less}
use Rattle.std.specs.Prelude.{Option, Some, None, Result, Ok, Err}
use Rattle.literals.specs.declared.Failure as code
use Rattle.levels.specs.Levels.{leading, with_widths}
use Rattle.levels.specs.declared.Lead.{Lead}
use Rattle.line.specs.LineCuts.{failure_in, line_cuts_of, tokens_of, tokens_end, Taken, whole_line, whole_of, tokens_in, left_of, state_left, counted_reads, counted, counted_of}
use Rattle.line.specs.declared.Ends.{Ends}
use Rattle.line.specs.declared.Halt.TheVariants.{Fails}

pub words_append : (p l : ℕ) (xs ys : List Token) → token_words p l (xs ++ ys) ≡ token_words p l xs ++ token_words p l ys
unfolding token_words
words_append p l [] ys = refl
words_append p l (x ∷ xs) ys = rw (words_append p l xs ys)

-- The answers of the cuts.

pub line-ends : (d : ℕ) (x : Cuts) (e : Ends) → Ok e ≡ line_cuts_of d x → (ts : List Token) × (x ≡ cuts ts) × (length ts ≡ e.count)
line-ends d (cuts ts) e q = let c : e.count ≡ length ts = cc in (ts, refl, sym c)
line-ends d (stops f) e q = let z : ◌≡◌ {A = ℕ} 0 1 = cc in absurd (omega arith)

pub few-tokens : (line : List ℕ) (ts : List Token) → cuts_from 0 0 line ≡ cuts ts → length ts ≤ length line
few-tokens line ts e = (cuts-ok 0 0 line ts e).0

-- The room and the words of the three parts, one behind the other.
module _ {S : Type 0} {room : S → Option ℕ} {takes : S → S → ℕ → List ℕ → Type 0} {named : Bool} (laws : RecordSinkLaws room takes named) (lead : Lead) (line : List ℕ) (place : Place) where
  abbrev all : Cuts → Option (List Token)
  all x = tokens_of (whole_line lead line x)

  abbrev nl : List Token
  nl = token_at newline (length line) 0 ∷ []

  -- where the cuts go, behind m tokens
  abbrev inner : ℕ → Place
  inner m = record { line = place.line; first = place.first + m; start = place.start }

  -- the words of what stands at the line's start and of these tokens
  abbrev two : List Token → List ℕ
  two ts = token_words place.start (place.line + 1) (leading lead ++ ts)

  module _ {m : ℕ} {t₀ t₁ : S} (many : m ≡ length (leading lead)) (e₁ : takes t₀ t₁ (token_size * place.first) (token_words place.start (place.line + 1) (leading lead))) where
    pub room-inside : (x : Cuts) → Fits (room t₀) (tokens_end place (all x)) → Fits (room t₁) (tokens_end (inner m) (tokens_of x))
    room-inside (cuts ts) h = fits_after laws _ e₁ (fits-less _ (omega (arith, many, length-append (leading lead) (ts ++ nl), length-append ts nl)) h)
    room-inside (stops f) h = fits_after laws None e₁ h

    module _ {n : ℕ} (ts : List Token) (count : length ts ≡ n) where
      long : token_size * (place.first + (m + n)) ≡ token_size * place.first + length (two ts)
      long = omega (arith, length_token_words place.start (place.line + 1) (leading lead ++ ts), length-append (leading lead) ts, many, count)

      joined : {t₂ : S} → takes t₁ t₂ (token_size * (place.first + m)) (token_words place.start (place.line + 1) ts) → takes t₀ t₂ (token_size * place.first) (two ts)
      joined e₂ =
          then-takes laws e₁ (omega (arith, many, length_token_words place.start (place.line + 1) (leading lead))) e₂ (sym (words_append place.start (place.line + 1) (leading lead) ts))

      pub room-end : (t₂ : S) (x : Cuts) → x ≡ cuts ts → Fits (room t₀) (tokens_end place (all x)) → Taken (takes t₁ t₂) (inner m) (tokens_of x)
          → Fits (room t₂) (Some (token_size * (place.first + (m + n)) + token_size))
      room-end t₂ x e h e₂ =
          fits_after laws _ (joined (rw e at e₂)) (fits-less _ (omega (arith, many, count, length-append (leading lead) (ts ++ nl), length-append ts nl)) (rw e at h))

      pub whole-ends : {t₂ t₃ : S} (x : Cuts) → x ≡ cuts ts → Taken (takes t₁ t₂) (inner m) (tokens_of x) → takes t₂ t₃ (token_size * (place.first + (m + n))) (words_at place (length line) newline 0)
          → Taken (takes t₀ t₃) place (all x)
      unfolding token_words
      whole-ends x e e₂ e₃ =
          rw e
          (then-takes laws (joined (rw e at e₂)) long e₃
          (ap (λ (i : ℕ). two ts ++ (newline ∷ (place.start + length line) ∷ 0 ∷ (place.line + 1) ∷ i ∷ [])) (add-one (length line)) ∙ sym (words_append place.start (place.line + 1) (leading lead ++ ts) nl)
          ∙ ap (token_words place.start (place.line + 1)) (append_assoc (leading lead) ts nl)))

    -- a sink that takes any words takes those of the rest, and the Newline
    pub whole-over : {t₂ : S} (x : Cuts) → Taken (takes t₁ t₂) (inner m) (tokens_of x) → ((at : ℕ) (xs : List ℕ) → takes t₂ t₂ at xs) → Taken (takes t₀ t₂) place (all x)
    whole-over (cuts ts) e₂ o = whole-ends ts refl (cuts ts) refl e₂ (o _ _)
    whole-over (stops f) e₂ o = tt

    -- where the cuts answer a failure, they fail, or the sink is over
    pub whole-fails : {t₂ : S} (over : Bool) (d : ℕ) (f : code.Failure) (x : Cuts) → (over ≡ false → Err f ≡ line_cuts_of d x) → (over ≡ true → (at : ℕ) (xs : List ℕ) → takes t₂ t₂ at xs)
        → Taken (takes t₁ t₂) (inner m) (tokens_of x) → Taken (takes t₀ t₂) place (all x)
    whole-fails true d f x v o e₂ = whole-over x e₂ (o refl)
    whole-fails false d f (stops g) v o e₂ = tt
    whole-fails false d f (cuts ts) v o e₂ = let q : Err f ≡ line_cuts_of d (cuts ts) = v refl in let z : ◌≡◌ {A = ℕ} 0 1 = cc in absurd (omega arith)

-- The reply of a line whose levels are known.

module _ (lim : LineLimits) (st : State) (line : List ℕ) where
  pub read-unequal : levels_of lim st line ≡ unequal → read_line lim st line ≡ line_halts (failed (failure bad_indent 0 0 (indent_size line)))
  unfolding read_line with_levels
  read-unequal e = rw e

  pub read-beyond : (number : ℕ) → levels_of lim st line ≡ beyond number → read_line lim st line ≡ line_halts (over_limit number)
  unfolding read_line with_levels
  read-beyond number e = rw e

  module _ (lead : Lead) (s : State) (e : levels_of lim st line ≡ levels (leading lead) s.widths) (d : s.depth ≡ st.depth) where
    abbrev reply : Cuts → LineReply
    reply x = with_cuts st line (leading lead) s.widths x

    known : read_line lim st line ≡ reply (cuts_from 0 0 line)
    unfolding read_line with_levels
    known = rw e

    reply-counted : (x : Cuts) (n : ℕ) (z : State) → (Ok n, z) ≡ whole_of lead s x → counted_of (Ok n) z ≡ counted (reply x)
    unfolding with_cuts
    reply-counted (cuts ts) n z q =
        let o : Ok n ≡ Ok (length (leading lead) + length ts + 1) = ap (λ (p : Result ℕ code.Failure × State). p.0) q in
        let m : n ≡ length (leading lead) + length ts + 1 = cc in
        let w : z ≡ record { depth = depth_after s.depth ts; arrow = arrow_after false ts; widths = s.widths } = ap (λ (p : Result ℕ code.Failure × State). p.1) q in
        let after : ℕ → State = λ k. record { depth = depth_after k ts; arrow = arrow_after false ts; widths = s.widths } in
        (λ i. counted_reads (m i) (w i)) ∙ ap (λ (k : ℕ). counted_reads (length (leading lead) + length ts + 1) (after k)) d
        ∙ ap (λ (k : ℕ). counted_reads k (after st.depth))
        (omega (arith, length-append (leading lead) (ts ++ (token_at newline (length line) 0 ∷ [])), length-append ts (token_at newline (length line) 0 ∷ [])))
    reply-counted (stops f) n z q =
        let o : Ok n ≡ Err (failure_in f) = ap (λ (p : Result ℕ code.Failure × State). p.0) q in
        let b : ◌≡◌ {A = ℕ} 0 1 = cc in absurd (omega arith)

    reply-failed : (x : Cuts) (f : code.Failure) (z : State) → (Err f, z) ≡ whole_of lead s x → counted_of (Err (Fails f)) z ≡ counted (reply x)
    unfolding with_cuts
    reply-failed (cuts ts) f z q =
        let o : Err f ≡ Ok (length (leading lead) + length ts + 1) = ap (λ (p : Result ℕ code.Failure × State). p.0) q in
        let b : ◌≡◌ {A = ℕ} 0 1 = cc in absurd (omega arith)
    reply-failed (stops g) f z q =
        let o : Err f ≡ Err (failure_in g) = ap (λ (p : Result ℕ code.Failure × State). p.0) q in
        let m : f ≡ failure_in g = cc in
        ap (λ (h : code.Failure). counted_of (Err (Fails h)) z) m

    reply-left : (x : Cuts) (r : Result ℕ code.Failure) (z : State) → (r, z) ≡ whole_of lead s x → z ≡ left_of (reply x) s
    unfolding with_cuts
    reply-left (cuts ts) r z q =
        let after : ℕ → State = λ k. record { depth = depth_after k ts; arrow = arrow_after false ts; widths = s.widths } in
        ap (λ (p : Result ℕ code.Failure × State). p.1) q ∙ ap after d
    reply-left (stops f) r z q = ap (λ (p : Result ℕ code.Failure × State). p.1) q

    reply-tokens : (x : Cuts) → tokens_of (whole_line lead line x) ≡ tokens_in (reply x)
    unfolding with_cuts
    reply-tokens (cuts ts) = refl
    reply-tokens (stops f) = refl

    pub line-counted : (n : ℕ) (z : State) → (Ok n, z) ≡ whole_of lead s (cuts_from 0 0 line) → counted_of (Ok n) z ≡ counted (read_line lim st line)
    line-counted n z q = reply-counted (cuts_from 0 0 line) n z q ∙ ap counted (sym known)

    pub line-failed : (f : code.Failure) (z : State) → (Err f, z) ≡ whole_of lead s (cuts_from 0 0 line) → counted_of (Err (Fails f)) z ≡ counted (read_line lim st line)
    line-failed f z q = reply-failed (cuts_from 0 0 line) f z q ∙ ap counted (sym known)

    pub line-left : (r : Result ℕ code.Failure) (z : State) → (r, z) ≡ whole_of lead s (cuts_from 0 0 line) → s ≡ with_widths (levels_of lim st line) st → z ≡ state_left lim st line
    line-left r z q e = reply-left (cuts_from 0 0 line) r z q ∙ (λ i. left_of (sym known i) (e i))

    pub line-tokens : tokens_of (whole_line lead line (cuts_from 0 0 line)) ≡ tokens_in (read_line lim st line)
    line-tokens = reply-tokens (cuts_from 0 0 line) ∙ ap tokens_in (sym known)
