-- What words that were held against those of a page say of it.
-- Assumes nothing.
use Rattle.std.proofs.Common.{ℕ, ◌≡◌, ◌+◌, refl, sym, ap, ◌∙◌, Bool, true, false, ◌&&◌, List, ◌∷◌, [], ◌++◌, append_assoc, length, drop, eqb, arith}
use mathlib.Core.Bool.{and-false}
use borrow.Author.Tests.{eq-eqb, eqb-true}
use Rattle.rules.specs.Lists.{begins}
use Rattle.rules.specs.Line.{State, initial, Halt}
use Rattle.rules.specs.Reading.{lines_of, Entry, Reading, reads, halts, read_from, byte_sum, token_sum}
use Rattle.rules.specs.Limits.{LineLimits}
use Rattle.rules.specs.Records.{line_need, token_need, line_records, token_records, end_entry, with_end, header, Records, records_of, recorded_by, read_lines}
use Rattle.rules.specs.Page.{same_records, is_recorded}
use Rattle.rules.proofs.ListLaws.{and-true}
use Rattle.rules.proofs.StateLaws.{same_true, same_refl}
use Rattle.rules.proofs.ReadingLaws.{with_entries, with_entries-reads, with_entries-halts}
use Rattle.rules.proofs.RecordLaws.{fresh_sizes, line_records_append, token_records_append}
use Rattle.rules.proofs.LoopLaws.{ReadTo, read-rest}
use Rattle.rules.proofs.PageLaws.{same_records_true, same_records-refl}
use Rattle.rules.proofs.BeginsLaws.{same_whole, begins-parts}
use Rattle.records.specs.Sinks.{Compares}
use Rattle.records.specs.declared.sink.Held.{Held}

-- two tests of which each follows from the other
both_ways : (a b : Bool) → (a ≡ true → b ≡ true) → (b ≡ true → a ≡ true) → a ≡ b
both_ways true b f g = sym (f refl)
both_ways false true f g = g refl
both_ways false false f g = refl

shuffle : (a b c d : Bool) → (a && b && (c && d)) ≡ (a && c && (b && d))
shuffle true true c d = refl
shuffle true false true d = refl
shuffle true false false d = refl
shuffle false b c d = refl

-- words that a list of the same length begins with are that list
begins-whole : (xs ys : List ℕ) → length xs ≡ length ys → begins xs ys ≡ true → xs ≡ ys
begins-whole xs ys n e = same_true xs ys (same_whole xs ys n ∙ e)

begins_itself : (xs ys : List ℕ) → xs ≡ ys → begins xs ys ≡ true
begins_itself xs ys e = rw e (sym (same_whole ys ys refl) ∙ same_refl ys)

-- A page with these words.
module _ (lines tokens : List ℕ) where
  -- its words begin with those of these lines
  abbrev pub agree : List Entry → Bool
  agree es = begins (line_records 0 0 es) lines && begins (token_records 0 1 es) tokens

  -- what two sinks say that took them: l and k before, l' and k' after
  pub sinks-agree : (es : List Entry) {l l' k k' : Held} → (l.words.now ≡ lines) × (l.same ≡ true) → (k.words.now ≡ tokens) × (k.same ≡ true)
      → Compares l l' 0 (line_records 0 0 es) → Compares k k' 0 (token_records 0 1 es) → (l'.same && k'.same) ≡ agree es
  sinks-agree es a b m n = λ i. (m.same ∙ (λ j. a.1 j && begins (line_records 0 0 es) (a.0 j))) i && (n.same ∙ (λ j. b.1 j && begins (token_records 0 1 es) (b.0 j))) i

  -- lines and others
  agree-front : (es fs : List Entry) → agree es ≡ false → agree (es ++ fs) ≡ false
  agree-front es fs h =
      let l : List ℕ = line_records (0 + byte_sum es) (0 + token_sum es) fs in
      let k : List ℕ = token_records (0 + byte_sum es) (1 + length es) fs in
      let el : begins (line_records 0 0 (es ++ fs)) lines ≡ (begins (line_records 0 0 es) lines && begins l (drop (0 + length (line_records 0 0 es)) lines)) =
      ap (λ (x : List ℕ). begins x lines) (line_records_append 0 0 es fs) ∙ begins-parts (line_records 0 0 es) l lines 0 (0 + length (line_records 0 0 es)) refl in
      let ek : begins (token_records 0 1 (es ++ fs)) tokens ≡ (begins (token_records 0 1 es) tokens && begins k (drop (0 + length (token_records 0 1 es)) tokens)) =
      ap (λ (x : List ℕ). begins x tokens) (token_records_append 0 1 es fs) ∙ begins-parts (token_records 0 1 es) k tokens 0 (0 + length (token_records 0 1 es)) refl in
      let more : Bool = begins l (drop (0 + length (line_records 0 0 es)) lines) && begins k (drop (0 + length (token_records 0 1 es)) tokens) in
      (λ i. el i && ek i) ∙ shuffle (begins (line_records 0 0 es) lines) _ (begins (token_records 0 1 es) tokens) _ ∙ ap (λ (b : Bool). b && more) h

  -- As many words as its header needs, and its text t.
  module _ (lim : LineLimits) (t : List ℕ) (count total : ℕ) (sizes : (length lines ≡ line_need count) × (length tokens ≡ token_need total)) where
    abbrev pub given : Records
    given = record { head = header (length t) count total; lines = lines; tokens = tokens }

    abbrev pub answer : Bool
    answer = is_recorded given (read_lines lim t)

    -- the counts are these, and the words begin with those read
    abbrev pub found : List Entry → State → Bool
    found es z = eqb (length es) count && (eqb (token_sum (with_end es z)) total && agree (with_end es z))

    same-found : (es : List Entry) (z : State) → read_from lim initial (lines_of t) ≡ reads es z → same_records (records_of es z) given ≡ found es z
    unfolding read_lines recorded_by records_of
    same-found es z e = both_ways _ _ there back
      where
        words : (byte_sum es ≡ length t) × (length (records_of es z).lines ≡ line_need (length es)) × (length (records_of es z).tokens ≡ token_need (token_sum (with_end es z)))
        words = fresh_sizes lim t (records_of es z) (ap recorded_by e)

        there : same_records (records_of es z) given ≡ true → found es z ≡ true
        there h =
            let r : records_of es z ≡ given = same_records_true (records_of es z) given h in
            rw (
              eq-eqb (length es) count (ap (λ (x : Records). x.head.m) r),
              eq-eqb (token_sum (with_end es z)) total (ap (λ (x : Records). x.head.k) r),
              begins_itself (records_of es z).lines lines (ap (λ (x : Records). x.lines) r),
              begins_itself (records_of es z).tokens tokens (ap (λ (x : Records). x.tokens) r),
            )

        back : found es z ≡ true → same_records (records_of es z) given ≡ true
        back h =
            let a = and-true (eqb (length es) count) _ h in
            let b = and-true (eqb (token_sum (with_end es z)) total) _ a.1 in
            let d = and-true (begins (records_of es z).lines lines) _ b.1 in
            let em : length es ≡ count = eqb-true (length es) count a.0 in
            let ek : token_sum (with_end es z) ≡ total = eqb-true (token_sum (with_end es z)) total b.0 in
            let el : (records_of es z).lines ≡ lines = begins-whole (records_of es z).lines lines (omega (arith, words.1, sizes.0)) d.0 in
            let et : (records_of es z).tokens ≡ tokens = begins-whole (records_of es z).tokens tokens (omega (arith, words.2, sizes.1)) d.1 in
            let r : records_of es z ≡ given = λ i. record { head = record { n = words.0 i; m = em i; k = ek i }; lines = el i; tokens = et i } in
            ap (λ (x : Records). same_records x given) r ∙ same_records-refl given

    -- the text reads
    pub read_lem : (es : List Entry) (z : State) → read_from lim initial (lines_of t) ≡ reads es z → found es z ≡ answer
    unfolding read_lines recorded_by is_recorded
    read_lem es z e = sym (same-found es z e) ∙ ap (λ (x : Reading). is_recorded given (recorded_by x)) (sym e)

    -- it does not read
    pub unread_lem : (es : List Entry) (h : Halt) → read_from lim initial (lines_of t) ≡ halts es h → false ≡ answer
    unfolding read_lines recorded_by is_recorded
    unread_lem es h e = ap (λ (x : Reading). is_recorded given (recorded_by x)) (sym e)

    -- the words of its first lines are others
    module _ (p : ℕ) (es : List Entry) (z : State) (to : ReadTo lim initial t p es z) (h : agree es ≡ false) where
      found-not : (fs : List Entry) (y : State) → found (es ++ fs) y ≡ false
      found-not fs y =
          let n : agree (with_end (es ++ fs) y) ≡ false = ap agree (append_assoc es fs (end_entry y ∷ [])) ∙ agree-front es (with_end fs y) h in
          ap (λ (b : Bool). eqb (length (es ++ fs)) count && (eqb (token_sum (with_end (es ++ fs) y)) total && b)) n
          ∙ ap (λ (b : Bool). eqb (length (es ++ fs)) count && b) (and-false (eqb (token_sum (with_end (es ++ fs) y)) total)) ∙ and-false (eqb (length (es ++ fs)) count)

      pub differs_lem : false ≡ answer
      differs_lem = go (read_from lim z (lines_of (drop p t))) (read-rest lim initial t p es z to)
        where
          go : (x : Reading) → read_from lim initial (lines_of t) ≡ with_entries es x → false ≡ answer
          go (reads fs y) e = sym (found-not fs y) ∙ read_lem (es ++ fs) y (e ∙ with_entries-reads es fs y)
          go (halts fs x) e = unread_lem (es ++ fs) x (e ∙ with_entries-halts es fs x)
