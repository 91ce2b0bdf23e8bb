-- The cuts of a line as a loop makes them: what was cut so far, and what is left.
-- Assumes nothing.
use Prim.Native.Nat.{ℕ, suc, ◌+◌, ◌-◌, ◌*◌, ◌≤◌, ◌<◌, pred}
use mathlib.Core.Path.{◌≡◌, refl, sym, ap, subst, ◌∙◌}
use mathlib.Core.Bool.{Bool, true, false}
use mathlib.Core.List.{List, [], ◌∷◌, ◌++◌, append_assoc, append-nil}
use native.Mathlib.Omega.{arith}
use native.Mathlib.Numerals.{add-one}
use lib.Dec.{eqb}
use lib.ListN.{length, drop, length-append, length-drop}
use Rattle.std.specs.Prelude.{Option, Some, Result, Ok, Err, if◌then◌else◌}
use Rattle.rules.specs.Lists.{run}
use Rattle.rules.specs.Kinds.{ident, implies, l_paren, r_paren}
use Rattle.rules.specs.Failure.{Failure}
use Rattle.rules.specs.Cut.{blank, comment, token, fails, cut}
use Rattle.rules.specs.Line.{Token, token_at, Cuts, cuts, stops, with_token, moved_by, cuts_from, is_space, depth_after, arrow_after}
use Rattle.rules.specs.Records.{token_size, token_words}
use Rattle.rules.proofs.CutLaws.{TokenOk, cut_ok, cuts-end, cuts-blank, cuts-comment, cuts-token, cuts-fails}
use Rattle.rules.proofs.RecordLaws.{length_token_words}
use Rattle.cut.specs.Cuts.{cut_named}
use Rattle.cut.proofs.Plain.{Named, named-token, plain_eqb}
use Rattle.records.specs.Words.{words_at}
use Rattle.records.specs.declared.Place.{Place}
use Rattle.indent.proofs.Spaces.{spaces_le, cuts-behind}
use Rattle.cursor.specs.Cursors.{depth_by, cursor_at, blank_past, token_past}
use Rattle.cursor.specs.declared.Cursor.{Cursor}
use Rattle.cursor.proofs.Depths.{depth-by-le}
use Rattle.records.specs.Sinks.{Fits, RecordSinkLaws}
use Rattle.records.proofs.RecordTakes.{then-takes, fits_after, fits-less, fits-endless}
use Rattle.line.specs.LineCuts.{failure_in, line_cuts_of, tokens_of, tokens_end, Taken}
use Rattle.literals.specs.declared.Failure as code
use Rattle.line.specs.declared.Ends.{Ends}
use Rattle.line.proofs.Whole.{words_append}

-- tokens in front of cuts
unfoldable pub with_tokens : List Token → Cuts → Cuts
with_tokens ts (cuts us) = cuts (ts ++ us)
with_tokens ts (stops f) = stops f

with_tokens-none : (x : Cuts) → with_tokens [] x ≡ x
unfolding with_tokens
with_tokens-none (cuts us) = refl
with_tokens-none (stops f) = refl

with_tokens-more : (ts : List Token) (t : Token) (x : Cuts) → with_tokens ts (with_token t x) ≡ with_tokens (ts ++ (t ∷ [])) x
unfolding with_tokens with_token
with_tokens-more ts t (cuts us) = ap cuts (sym (append_assoc ts (t ∷ []) us))
with_tokens-more ts t (stops f) = refl

-- one more token at the end
depth_snoc : (d : ℕ) (ts : List Token) (t : Token)
    → depth_after d (ts ++ (t ∷ [])) ≡ (if eqb t.kind l_paren then suc (depth_after d ts) else if eqb t.kind r_paren then pred (depth_after d ts) else depth_after d ts)
unfolding depth_after
depth_snoc d [] t = refl
depth_snoc d (x ∷ ts) t = depth_snoc (if eqb x.kind l_paren then suc d else if eqb x.kind r_paren then pred d else d) ts t

arrow_snoc : (a : Bool) (ts : List Token) (t : Token) → arrow_after a (ts ++ (t ∷ [])) ≡ eqb t.kind implies
unfolding arrow_after
arrow_snoc a [] t = refl
arrow_snoc a (x ∷ ts) t = arrow_snoc (eqb x.kind implies) ts t

words_snoc : (p l : ℕ) (ts : List Token) (t : Token) → token_words p l (ts ++ (t ∷ [])) ≡ token_words p l ts ++ (t.kind ∷ (p + t.at) ∷ t.size ∷ l ∷ suc t.at ∷ [])
unfolding token_words
words_snoc p l [] t = refl
words_snoc p l (x ∷ ts) t = rw (words_snoc p l ts t)

-- a token that a pass is given at an offset: its real kind, and its bytes in the line
pub record TokenAt (w : Bool) (l : List ℕ) (at kind size : ℕ) : Type 0 where
  pub real : ℕ
  pub is : cut (drop at l) ≡ token real size
  pub named : Named w real kind
  pub some_bytes : 0 < size
  pub in_line : at + size ≤ length l

pub token-at : (w : Bool) (l : List ℕ) (at kind size : ℕ) → at < length l → cut_named w (cut (drop at l)) ≡ token kind size → TokenAt w l at kind size
token-at w l at kind size h e =
    let t = named-token w (cut (drop at l)) kind size e in
    let ok : TokenOk (drop at l) t.0 size = rw t.1 at (cut_ok (drop at l)) in
    record { real = t.0; is = t.1; named = t.2; some_bytes = ok.some_bytes; in_line = omega (arith, ok.in_line, length-drop at l) }

-- a failure at an offset stands in the line
pub failure-at : (l : List ℕ) (at : ℕ) (f : Failure) → at < length l → cut (drop at l) ≡ fails f → at + f.at ≤ length l
failure-at l at f h e =
    let ok : f.at + f.size ≤ length (drop at l) = rw e at (cut_ok (drop at l)) in
    omega (arith, ok, length-drop at l)

-- Of a line, with the depth before it and the place of its tokens: what is done where the cursor stands.
pub record Progress {S : Type 0} (takes : S → S → ℕ → List ℕ → Type 0) (l : List ℕ) (d₀ : ℕ) (place : Place) (tokens₀ tokens : S) (t : Cursor) : Type 0 where
  pub done : List Token
  pub inside : t.at ≤ length l
  pub rest : cuts_from 0 0 l ≡ with_tokens done (cuts_from t.at 0 (drop t.at l))
  pub count : length done ≡ t.n
  pub few : t.n ≤ t.at
  pub depth_is : depth_after d₀ done ≡ t.depth
  pub shallow : t.depth ≤ d₀ + t.at
  pub arrow-is : arrow_after false done ≡ t.arrow
  pub words : takes tokens₀ tokens (token_size * place.first) (token_words place.start (place.line + 1) done)

-- The line is done: all that was cut is taken, where it reads.
pub record Done {S : Type 0} (takes : S → S → ℕ → List ℕ → Type 0) (l : List ℕ) (d₀ : ℕ) (place : Place) (tokens₀ tokens : S) (r : Result Ends code.Failure) : Type 0 where
  pub value : r ≡ line_cuts_of d₀ (cuts_from 0 0 l)
  pub taken : Taken (takes tokens₀ tokens) place (tokens_of (cuts_from 0 0 l))

module _ {S : Type 0} {room : S → Option ℕ} {takes : S → S → ℕ → List ℕ → Type 0} {named : Bool} (laws : RecordSinkLaws room takes named) where
  pub start : (l : List ℕ) (d₀ : ℕ) (place : Place) (tokens₀ : S) (spaces : ℕ) → spaces ≡ run is_space l → (t : Cursor) → t ≡ cursor_at spaces d₀ → Progress takes l d₀ place tokens₀ tokens₀ t
  unfolding depth_after arrow_after token_words
  start l d₀ place tokens₀ spaces is t e =
      subst (Progress takes l d₀ place tokens₀ tokens₀) (sym e)
      (record {
        done = [];
        inside = spaces_le l spaces is;
        rest = cuts-behind l spaces is ∙ sym (with_tokens-none (cuts_from spaces 0 (drop spaces l)));
        count = refl;
        few = omega arith;
        depth_is = refl;
        shallow = omega arith;
        arrow-is = refl;
        words = laws.taken-nothing tokens₀ (token_size * place.first);
      })

  module _ {l : List ℕ} {d₀ : ℕ} {place : Place} {tokens₀ tokens : S} {t : Cursor} (v : Progress takes l d₀ place tokens₀ tokens t) where
    pub at-end : length l ≤ t.at → cuts_from 0 0 l ≡ cuts v.done
    unfolding with_tokens
    at-end h = v.rest ∙ ap (with_tokens v.done) (cuts-end t.at l h) ∙ ap cuts (append-nil v.done)

    -- a sink that takes any words takes those of the rest
    pub over : ((at : ℕ) (xs : List ℕ) → takes tokens tokens at xs) → Taken (takes tokens₀ tokens) place (tokens_of (cuts_from 0 0 l))
    unfolding with_tokens
    over o = go (cuts_from t.at 0 (drop t.at l)) v.rest
      where
        go : (y : Cuts) → cuts_from 0 0 l ≡ with_tokens v.done y → Taken (takes tokens₀ tokens) place (tokens_of (cuts_from 0 0 l))
        go (cuts us) e = rw e (then-takes laws v.words refl (o _ _) (sym (words_append place.start (place.line + 1) v.done us)))
        go (stops f) e = rw e tt

    module _ (h : t.at < length l) where
      pub at-comment : cut (drop t.at l) ≡ comment → cuts_from 0 0 l ≡ cuts v.done
      unfolding with_tokens
      at-comment e = v.rest ∙ ap (with_tokens v.done) (cuts-comment t.at l h e) ∙ ap cuts (append-nil v.done)

      pub at-failure : (f : Failure) → cut (drop t.at l) ≡ fails f → cuts_from 0 0 l ≡ stops (moved_by t.at f)
      unfolding with_tokens
      at-failure f e = v.rest ∙ ap (with_tokens v.done) (cuts-fails t.at l h f e)

      pub past-blank : cut (drop t.at l) ≡ blank → (t' : Cursor) → t' ≡ blank_past t → Progress takes l d₀ place tokens₀ tokens t'
      past-blank e t' is =
          subst (Progress takes l d₀ place tokens₀ tokens) (sym is)
          (record {
            done = v.done;
            inside = omega arith;
            rest = v.rest ∙ ap (with_tokens v.done) (cuts-blank t.at l h e);
            count = v.count;
            few = omega (arith, v.few);
            depth_is = v.depth_is;
            shallow = omega (arith, v.shallow);
            arrow-is = v.arrow-is;
            words = v.words;
          })

      -- A token, of the kind that the sink is given: that kind serves the depth and the arrow.
      module _ {kind size : ℕ} (x : TokenAt named l t.at kind size) where
        abbrev one : Token
        one = token_at x.real t.at size

        abbrev before : List ℕ
        before = token_words place.start (place.line + 1) v.done

        given : (j : ℕ) → ident < j → eqb x.real j ≡ eqb kind j
        given j h = plain_eqb j x.real kind h x.named.plain

        depth_then : depth_after d₀ (v.done ++ (one ∷ [])) ≡ depth_by t.depth kind
        unfolding depth_by
        depth_then = depth_snoc d₀ v.done one ∙ rw (v.depth_is, given l_paren (omega arith), given r_paren (omega arith)) refl

        -- its record has its real kind, or goes to a sink that takes any
        really : (b : Bool) → named ≡ b → {s s' : S} (at : ℕ) → takes s s' at (words_at place t.at kind size) → takes s s' at (words_at place t.at x.real size)
        really true e {s} {s'} at m = subst (λ (k : ℕ). takes s s' at (words_at place t.at k size)) (sym (x.named.real e)) m
        really false e {s} {s'} at m = laws.taken-unnamed e s s' at (words_at place t.at kind size) (words_at place t.at x.real size) refl m

        taken_then : {tokens' : S} → takes tokens tokens' (token_size * (place.first + t.n)) (words_at place t.at kind size)
            → takes tokens₀ tokens' (token_size * place.first) (token_words place.start (place.line + 1) (v.done ++ (one ∷ [])))
        taken_then m =
            then-takes laws v.words (omega (arith, length_token_words place.start (place.line + 1) v.done, v.count)) (really named refl _ m)
            (ap (λ (c : ℕ). before ++ (x.real ∷ (place.start + t.at) ∷ size ∷ (place.line + 1) ∷ c ∷ [])) (add-one t.at) ∙ sym (words_snoc place.start (place.line + 1) v.done one))

        pub past-token : (t' : Cursor) → t' ≡ token_past t kind size → {tokens' : S} → takes tokens tokens' (token_size * (place.first + t.n)) (words_at place t.at kind size)
            → Progress takes l d₀ place tokens₀ tokens' t'
        past-token t' is {tokens'} m =
            subst (Progress takes l d₀ place tokens₀ tokens') (sym is)
            (record {
              done = v.done ++ (one ∷ []);
              inside = x.in_line;
              rest = v.rest ∙ ap (with_tokens v.done) (cuts-token t.at l h x.real size x.is) ∙ with_tokens-more v.done one (cuts_from (t.at + size) 0 (drop (t.at + size) l));
              count = omega (arith, length-append v.done (one ∷ []), v.count);
              few = omega (arith, v.few, x.some_bytes);
              depth_is = depth_then;
              shallow = omega (arith, v.shallow, depth-by-le t.depth kind, x.some_bytes);
              arrow-is = arrow_snoc false v.done one ∙ given implies (omega arith);
              words = taken_then m;
            })

        -- it has room where all tokens of the line have
        room_for : (ts : List Token) → cuts_from 0 0 l ≡ cuts ts → t.n < length ts
        unfolding with_tokens with_token
        room_for ts all =
            go (cuts_from (t.at + size) 0 (drop (t.at + size) l)) (v.rest ∙ ap (with_tokens v.done) (cuts-token t.at l h x.real size x.is))
          where
            go : (y : Cuts) → cuts_from 0 0 l ≡ with_tokens v.done (with_token one y) → t.n < length ts
            go (cuts us) q =
                let same : ts ≡ v.done ++ (one ∷ us) = cc in
                omega (arith, ap length same, length-append v.done (one ∷ us), v.count)
            go (stops f) q = let z : ◌≡◌ {A = ℕ} 0 1 = cc in absurd (omega arith)

        -- The cursor may pass it, it has room, and the cursor goes on.
        pub may_pass : (place.start + length l ≤ 1_048_576) × ((place.line ≤ 4_194_304) × (d₀ ≤ 4_194_304))
            → (place.start + (t.at + size) ≤ 1_048_576) × ((place.line ≤ 4_194_304) × ((t.n ≤ 8_388_608) × (t.depth ≤ 8_388_608)))
        may_pass small =
            (omega (arith, small.0, x.in_line), (small.1.0, (omega (arith, small.0, h, v.few), omega (arith, small.0, small.1.1, h, v.shallow))))

        pub has_room : Fits (room tokens₀) (tokens_end place (tokens_of (cuts_from 0 0 l))) → Fits (room tokens) (Some (token_size * (place.first + t.n) + token_size))
        has_room fits = fits_after laws _ v.words (go (cuts_from 0 0 l) refl fits)
          where
            go : (y : Cuts) → cuts_from 0 0 l ≡ y → Fits (room tokens₀) (tokens_end place (tokens_of y)) → Fits (room tokens₀) (Some (token_size * (place.first + t.n) + token_size))
            go (cuts ts) e f = fits-less _ (omega (arith, room_for ts e)) f
            go (stops f) e r = fits-endless _ _ r

        pub goes_on : (t' : Cursor) → t' ≡ token_past t kind size → length l - t'.at < length l - t.at
        goes_on t' e = omega (arith, ap (λ (y : Cursor). y.at) e, x.some_bytes, h)

    pub ended : cuts_from 0 0 l ≡ cuts v.done → (e : Ends) → (e.count ≡ t.n) × (e.depth ≡ t.depth) × (e.arrow ≡ t.arrow) → Done takes l d₀ place tokens₀ tokens (Ok e)
    ended x e (n, d, a) = record {
      value = (λ i. Ok (record { count = (n ∙ sym v.count) i; depth = (d ∙ sym v.depth_is) i; arrow = (a ∙ sym v.arrow-is) i })) ∙ ap (line_cuts_of d₀) (sym x);
      taken = rw x v.words;
    }

    pub stopped : (f : Failure) → cuts_from 0 0 l ≡ stops f → Done takes l d₀ place tokens₀ tokens (Err (failure_in f))
    stopped f e = record { value = ap (line_cuts_of d₀) (sym e); taken = rw e tt }
