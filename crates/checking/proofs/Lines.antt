-- A page held against the reading of its text line by line, as a loop goes: so far, one line more, and each end.
-- Assumes nothing.
use Rattle.std.proofs.Common.{ℕ, ◌≡◌, ◌≢◌, ◌+◌, ◌*◌, ◌≤◌, ◌<◌, refl, sym, ap, ◌∙◌, Bool, true, false, ◌&&◌, List, ◌∷◌, [], ◌++◌, length, eqb, Result, Ok, arith}
use Rattle.std.proofs.lemmas.List.{length-replicate}
use mathlib.Core.Bool.{and-false}
use borrow.Author.Tests.{eq-eqb, ne_eqb}
use Rattle.rules.specs.Kinds.{dedent}
use Rattle.rules.specs.Line.{State, initial, token_at, dedents, read_line}
use Rattle.rules.specs.Reading.{Entry, entry, byte_sum, token_sum, line_at, size_at}
use Rattle.rules.specs.Limits.{max_levels, LineLimits}
use Rattle.rules.specs.Records.{line_size, token_size, line_need, token_need, line_record, line_records, token_words, token_records, end_entry, with_end}
use Rattle.rules.proofs.ReadingLaws.{token_sum_append}
use Rattle.rules.proofs.LoopLaws.{read-end}
use Rattle.records.specs.Sinks.{Compares}
use Rattle.records.specs.SinkLaws.{held-record-laws}
use Rattle.records.specs.declared.Place.{Place}
use Rattle.records.specs.declared.sink.Held.{Held}
use Rattle.records.proofs.RecordTakes.{takes_as, then-takes}
use Rattle.refusals.specs.declared.Unread.{Unread}
use Rattle.line.specs.LineCuts.{tokens_in, Taken}
use Rattle.lines.specs.Steps.{StepIs}
use Rattle.lines.specs.declared.Next.{Next}
use Rattle.lines.proofs.Lines.{PassTo, pass-start, next-pass, size-inside, small}
use Rattle.rereading.proofs.Rooms.{line_place, line_then, token_place, token_then}
use Rattle.checking.proofs.Held.{sinks-agree, answer, found, read_lem, differs_lem}

-- The lines up to this place are read, to the state z, and two sinks took their words: l₀ and k₀ at first, l and k now.
pub record HeldTo (lim : LineLimits) (t : List ℕ) (l₀ k₀ : Held) (p : Place) (z : State) (l k : Held) : Type 0 where
  pub es : List Entry
  pub pass : PassTo lim t initial es p.start p.line p.first z
  pub line-words : Compares l₀ l 0 (line_records 0 0 es)
  pub token-words : Compares k₀ k 0 (token_records 0 1 es)

abbrev pub NextIs : LineLimits → List ℕ → Place → (z z' : State) → Result Next Unread → Type 0
NextIs lim t p z z' = StepIs z' p.start (p.line + 1) (p.start + size_at t p.start) (read_line lim z (line_at t p.start))

pub held-start : (lim : LineLimits) (t : List ℕ) (l k : Held) {z : State} → z ≡ initial → HeldTo lim t l k (record { line = 0; first = 0; start = 0 }) z l k
unfolding line_records token_records
held-start lim t l k e = rw e (record { es = []; pass = pass-start lim t initial; line-words = held-record-laws.taken-nothing l 0; token-words = held-record-laws.taken-nothing k 0 })

module _ {lim : LineLimits} {t : List ℕ} {l₀ k₀ : Held} {p : Place} {z : State} {l k : Held} (v : HeldTo lim t l₀ k₀ p z l k) where
  -- the words of one line more, which may be the end
  more : (e : Entry) {l' k' : Held} → Compares l l' (line_size * p.line) (line_record p.start p.first e.before) → Compares k k' (token_size * p.first) (token_words p.start (p.line + 1) e.tokens)
      → Compares l₀ l' 0 (line_records 0 0 (v.es ++ (e ∷ []))) × Compares k₀ k' 0 (token_records 0 1 (v.es ++ (e ∷ [])))
  more e ml mk =
      let n : p.line ≡ 0 + p.line = omega arith in
      let b : 0 + byte_sum v.es ≡ p.start = omega (arith, v.pass.to.bytes) in
      let s : 0 + token_sum v.es ≡ p.first = omega (arith, v.pass.sum) in (
        then-takes held-record-laws v.line-words (line_place 0 0 0 v.es e p.line p.start p.first v.pass.count b s) (takes_as held-record-laws (ap (λ (i : ℕ). line_size * i) n) refl ml)
            (line_then 0 0 0 v.es e p.line p.start p.first v.pass.count b s),
        then-takes held-record-laws v.token-words (token_place 0 0 0 v.es e p.line p.start p.first v.pass.count b s) (takes_as held-record-laws refl (ap (λ (i : ℕ). token_words p.start (i + 1) e.tokens) n) mk)
            (token_then 0 0 0 v.es e p.line p.start p.first v.pass.count b s),
      )

  pub far : lim.levels ≤ max_levels → length t ≤ 1_048_576 → (p.start ≤ 1_048_576) × (p.line ≤ 1_048_576) × (p.first + length z.widths ≤ 2_097_152) × (z.depth ≤ 4_194_304)
  far few short =
      let b = small v.pass few short in
      (omega (arith, v.pass.inside), omega (arith, b.0, v.pass.inside), omega (arith, b.1, v.pass.inside), b.2)

  -- A line is left.
  module _ (h : p.start < length t) where
    pub goes-on : (n : Next) {z' : State} {l' k' : Held} → NextIs lim t p z z' (Ok n) → Compares l l' (line_size * p.line) (line_record p.start p.first z)
        → Taken (Compares k k') p (tokens_in (read_line lim z (line_at t p.start))) → HeldTo lim t l₀ k₀ (record { line = p.line + 1; first = p.first + n.tokens; start = n.at }) z' l' k'
    goes-on n {z'} x ml mk =
        let w = more (entry z (size_at t p.start) x.0) ml (rw x.1 at mk) in
        record { es = v.es ++ (entry z (size_at t p.start) x.0 ∷ []); pass = next-pass v.pass h x.0 z' n.tokens n.at x.1 x.2 x.3; line-words = w.0; token-words = w.1 }

    pub smaller : (n : Next) {z' : State} → NextIs lim t p z z' (Ok n) → p.start < n.at
    smaller n x = omega (arith, x.3, (size-inside v.pass h).0)

  -- The page, whose words the sinks had at first.
  module _ {lines tokens : List ℕ} (count total : ℕ) (sizes : (length lines ≡ line_need count) × (length tokens ≡ token_need total))
      (over_lines : (l₀.words.now ≡ lines) × (l₀.same ≡ true)) (over_tokens : (k₀.words.now ≡ tokens) × (k₀.same ≡ true)) where
    abbrev goal : Bool
    goal = answer lines tokens lim t count total sizes

    -- a word is another
    pub differs : (l.same && k.same) ≡ false → false ≡ goal
    differs e = differs_lem lines tokens lim t count total sizes p.start v.es z v.pass.to (sym (sinks-agree lines tokens v.es over_lines over_tokens v.line-words v.token-words) ∙ e)

    -- No line is left.
    module _ (h : length t ≤ p.start) where
      found_is : found lines tokens lim t count total sizes v.es z ≡ goal
      found_is = read_lem lines tokens lim t count total sizes v.es z (read-end lim initial t p.start v.es z v.pass.to h)

      all-tokens : token_sum (with_end v.es z) ≡ p.first + length z.widths
      unfolding token_sum
      all-tokens = omega (arith, token_sum_append v.es (end_entry z ∷ []), length-replicate (length z.widths) (token_at dedent 0 0), v.pass.sum)

      pub other-count : p.line ≢ count → false ≡ goal
      other-count n = rw (v.pass.count, ne_eqb p.line count n) at found_is

      module _ {levels : ℕ} (few : levels ≡ length z.widths) where
        total-is : token_sum (with_end v.es z) ≡ p.first + levels
        total-is = omega (arith, all-tokens, few)

        pub other-total : p.first + levels ≢ total → false ≡ goal
        other-total n = sym (and-false (eqb (length v.es) count)) ∙ rw (total-is, ne_eqb (p.first + levels) total n) at found_is

        pub end_is : p.line ≡ count → p.first + levels ≡ total → {l' k' : Held} → Compares l l' (line_size * p.line) (line_record p.start p.first z)
            → Compares k k' (token_size * p.first) (token_words p.start (p.line + 1) (dedents (length z.widths))) → (l'.same && k'.same) ≡ goal
        end_is m n ml mk =
            let w = more (end_entry z) ml mk in
            sinks-agree lines tokens (with_end v.es z) over_lines over_tokens w.0 w.1 ∙ rw (v.pass.count, eq-eqb p.line count m, total-is, eq-eqb (p.first + levels) total n) at found_is
