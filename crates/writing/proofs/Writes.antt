-- What the writes of a plan come to.
-- Assumes nothing.
use Rattle.std.proofs.Common.{ℕ, zero, suc, ◌≡◌, ◌+◌, ◌-◌, ◌*◌, ◌≤◌, refl, sym, ap, ◌∙◌, Bool, true, false, List, [], ◌∷◌, ◌++◌, is_some, Some, Result, Ok, Err, length, take, drop, inr, arith}
use lib.Seq.{sets, take-nil}
use Rattle.laws.proofs.Sets.{sets_before}
use Rattle.rules.specs.Lists.{bit}
use Rattle.rules.specs.Line.{State, dedents}
use Rattle.rules.specs.Reading.{Entry, Line, is_lf, onto, lines_of, Reading, reads, halts, read_from, byte_sum, token_sum}
use Rattle.rules.specs.Limits.{barge, barge_line, LineLimits}
use Rattle.rules.specs.Records.{line_size, token_size, line_record, line_records, token_words, token_records, end_entry}
use Rattle.rules.proofs.LineLaws.{total, next}
use Rattle.rules.proofs.ReadingLaws.{read-sizes}
use Rattle.rules.proofs.RecordLaws.{length_line_records, length_token_records}
use Rattle.records.specs.Sinks.{Fits, Writes}
use Rattle.records.specs.SinkLaws.{written-record-laws}
use Rattle.records.specs.declared.sink.Written.{Written}
use Rattle.records.specs.Words.{state_from}
use Rattle.records.specs.declared.Counts.{Counts}
use Rattle.records.specs.declared.Place.{Place}
use Rattle.records.proofs.RecordTakes.{then-takes, fits_after}
use Rattle.refusals.specs.Limits.{line_of, limits_of}
use Rattle.refusals.specs.declared.Limits.{Limits}
use Rattle.refusals.specs.declared.Unread.{Unread}
use Rattle.refusals.proofs.Barge.{barge-line}
use Rattle.rereading.specs.Sinks.{line_records_end, token_records_end, Few, AllTaken, EndIs}
use Rattle.rereading.proofs.Rooms.{line_place, line_then, token_place, token_then}
use Rattle.plans.specs.Plans.{before_end, end_lines, end_tokens, moved_to, new_lines, reread, planned_lines, ReadsAs, Planned}
use Rattle.plans.specs.declared.Plan.{Plan}
use Rattle.plans.proofs.NewLines.{new_sizes, levels_are}
use Rattle.moving.specs.Moved.{moved_lines, moved_tokens}
use Rattle.writing.specs.Writes.{written, line_tail, token_tail}

-- The first lines of a text are the lines of its first bytes.

first_next : (q : Bool) (b : ℕ) (bs : List ℕ) (ls : List Line) (c : ℕ) → ((c : ℕ) → lines_of (take (total (take c ls)) bs) ≡ take c ls)
    → (n : ℕ) × (total (take (suc c) (next q b ls)) ≡ suc n) × (next q b (lines_of (take n bs)) ≡ take (suc c) (next q b ls))
unfolding lines_of onto
first_next true b bs ls c ih = (total (take c ls), omega arith, ap (λ (x : List Line). (b ∷ []) ∷ x) (ih c))
first_next false b bs [] c ih = (0, omega (arith, ap total (take-nil c)), ap (λ (x : List Line). (b ∷ []) ∷ x) (sym (take-nil c)))
first_next false b bs (l ∷ ls) c ih = (length l + total (take c ls), omega arith, ap (onto b) (ih (suc c)))

first-lines : (t : List ℕ) (c : ℕ) → lines_of (take (total (take c (lines_of t))) t) ≡ take c (lines_of t)
unfolding lines_of
first-lines [] c = ap lines_of (take-nil (total (take c []))) ∙ sym (take-nil c)
first-lines (b ∷ bs) zero = refl
first-lines (b ∷ bs) (suc c) = let x = first_next (is_lf b) b bs (lines_of bs) c (first-lines bs) in ap (λ (n : ℕ). lines_of (take n (b ∷ bs))) x.1 ∙ x.2

-- What a plan reads, from the state z.

module _ (u : List ℕ) (z : State) {p : Plan} (r : ReadsAs p (reread u z p)) where
  abbrev R : Reading
  R = reread u z p

  abbrev at : Counts
  at = before_end p

  abbrev to : Counts
  to = moved_to p

  abbrev place : Place
  place = record { line = p.begin.lines; first = p.begin.tokens; start = p.begin.bytes }

  -- the lines read again are those of the bytes up to the kept tail
  part-lines : lines_of (take (to.bytes - p.begin.bytes) (drop p.begin.bytes u)) ≡ take p.read.lines (lines_of (drop p.begin.bytes u))
  part-lines =
      let rest : List ℕ = drop p.begin.bytes u in
      let s = read-sizes barge_line z (take p.read.lines (lines_of rest)) r.entries r.last r.reads-are in
      let n : to.bytes - p.begin.bytes ≡ total (take p.read.lines (lines_of rest)) = omega (arith, r.bytes, s.1) in
      ap (λ (n : ℕ). lines_of (take n rest)) n ∙ first-lines rest p.read.lines

  -- read under these limits, as the code has them
  module _ {lim : LineLimits} {limits : Limits} (lines_limits : lim ≡ line_of limits) (is-barge : limits_of limits ≡ barge) where
    abbrev part : List ℕ
    part = take (to.bytes - p.begin.bytes) (drop p.begin.bytes u)

    abbrev read : Reading
    read = read_from lim z (lines_of part)

    read-is : read ≡ reads r.entries r.last
    read-is = (λ x. read_from ((lines_limits ∙ barge-line limits is-barge) x) z (part-lines x)) ∙ r.reads-are

    pub few-tokens : to.tokens ≤ 3_000_000 → Few read p.begin.tokens
    few-tokens h = rw read-is (inr (omega (arith, h, r.tokens)))

    -- the state that is left
    reached : {left : State} (a : Result Counts Unread) → EndIs lim part z p.begin.bytes p.begin.lines left a → left ≡ r.last
    reached {left} (Ok c) v = let w : reads v.0 left ≡ reads r.entries r.last = sym v.1 ∙ read-is in cc
    reached (Err u) v =
        let w : halts v.es v.halt ≡ reads r.entries r.last = sym v.halts-are ∙ read-is in
        let b : ◌≡◌ {A = ℕ} 0 1 = cc in
        absurd (omega arith)

    -- where the lines end: their counts are those of the plan
    module _ (l₀ t₀ : Written) (room : (line_size * to.lines ≤ length l₀.words.now) × (token_size * to.tokens ≤ length t₀.words.now)) where
      pub line-room-from : Fits (Some (length l₀.words.now)) (line_records_end place read)
      line-room-from = rw read-is (omega (arith, r.lines, room.0))

      pub token-room-from : Fits (Some (length t₀.words.now)) (token_records_end place read)
      token-room-from = rw read-is (omega (arith, r.tokens, room.1))

      module _ (l₁ t₁ : Written) (m : AllTaken (Writes l₀ l₁) (Writes t₀ t₁) place read) {some : Bool} (end_is : some ≡ is_some p.end) where
        taken : Writes l₀ l₁ (line_size * p.begin.lines) (line_records p.begin.bytes p.begin.tokens r.entries) × Writes t₀ t₁ (token_size * p.begin.tokens) (token_records p.begin.bytes (p.begin.lines + 1) r.entries)
        taken = rw read-is at m

        -- the plan does not write the end
        pub no-end : some ≡ false → Writes l₀ l₁ (line_size * p.begin.lines) (line_records p.begin.bytes p.begin.tokens (new_lines p.end R))
            × Writes t₀ t₁ (token_size * p.begin.tokens) (token_records p.begin.bytes (p.begin.lines + 1) (new_lines p.end R))
        no-end n = rw (r.reads-are, sym end_is ∙ n) taken

        module _ (yes : some ≡ true) (left : State) (a : Result Counts Unread) (ends : EndIs lim part z p.begin.bytes p.begin.lines left a) where
          pub end-room : (line_size * at.lines + line_size ≤ length l₁.words.now) × (token_size * (at.tokens + length left.widths) ≤ length t₁.words.now)
          end-room = (
            fits_after written-record-laws (Some (line_size * at.lines + line_size)) taken.0 (omega (arith, ap bit (sym end_is ∙ yes), room.0)),
            fits_after written-record-laws (Some (token_size * (at.tokens + length left.widths))) taken.1
                (omega (arith, levels_are p R r (sym end_is ∙ yes), ap (λ (w : State). length w.widths) (reached a ends), room.1)),
          )

          pub with-end-taken : {l₂ t₂ : Written} → Writes l₁ l₂ (line_size * at.lines) (line_record at.bytes at.tokens left) → Writes t₁ t₂ (token_size * at.tokens) (token_words at.bytes (at.lines + 1) (dedents (length left.widths)))
              → Writes l₀ l₂ (line_size * p.begin.lines) (line_records p.begin.bytes p.begin.tokens (new_lines p.end R))
              × Writes t₀ t₂ (token_size * p.begin.tokens) (token_records p.begin.bytes (p.begin.lines + 1) (new_lines p.end R))
          with-end-taken ml mt =
              let b : p.begin.bytes + byte_sum r.entries ≡ at.bytes = omega (arith, r.bytes) in
              let k : p.begin.tokens + token_sum r.entries ≡ at.tokens = omega (arith, r.tokens) in
              rw (r.reads-are, sym end_is ∙ yes) (
                then-takes written-record-laws taken.0 (line_place p.begin.bytes p.begin.lines p.begin.tokens r.entries (end_entry r.last) p.read.lines at.bytes at.tokens r.lines b k) (rw (reached a ends) at ml)
                    (line_then p.begin.bytes p.begin.lines p.begin.tokens r.entries (end_entry r.last) p.read.lines at.bytes at.tokens r.lines b k),
                then-takes written-record-laws taken.1 (token_place p.begin.bytes p.begin.lines p.begin.tokens r.entries (end_entry r.last) p.read.lines at.bytes at.tokens r.lines b k) (rw (reached a ends) at mt)
                    (token_then p.begin.bytes p.begin.lines p.begin.tokens r.entries (end_entry r.last) p.read.lines at.bytes at.tokens r.lines b k),
              )

-- The words: the kept tail is moved, then what a plan writes stands before it.

module _ {u lines : List ℕ} {m k : ℕ} {p : Plan} (pl : Planned u lines m k p) where
  abbrev new : List Entry
  new = written u lines p

  pub written-sizes : (byte_sum new ≡ p.read.bytes) × (length new ≡ p.read.lines + end_lines p.end) × (token_sum new ≡ p.read.tokens + end_tokens p.end)
  written-sizes = new_sizes p (planned_lines u lines p) pl.reads_as

  joined : (l moved words : List ℕ) (at tail : ℕ) {l₁ l₂ : List ℕ} → tail ≡ at + length words → l₁ ≡ sets l tail moved → l₂ ≡ sets l₁ at words → l₂ ≡ sets l at (words ++ moved)
  joined l moved words at tail size e f = f ∙ ap (λ (y : List ℕ). sets y at words) (e ∙ ap (λ (i : ℕ). sets l i moved) size) ∙ sets_before words moved l at

  -- by the code's moves and writes: a buffer is l₁ after the move, l₂ under the sink and l₃ in the end; the lines are read from the state z
  module _ {to : Counts} {z : State} (to-is : to ≡ moved_to p) (from : z ≡ state_from lines p.begin.lines) where
    pub lines-written : {l₁ l₂ l₃ : List ℕ} → l₁ ≡ sets lines (line_size * to.lines) (moved_lines p.kept.bytes to.bytes p.kept.tokens to.tokens lines p.kept.lines (m + 1 - p.kept.lines))
        → l₂ ≡ l₁ → l₃ ≡ sets l₂ (line_size * p.begin.lines) (line_records p.begin.bytes p.begin.tokens (new_lines p.end (reread u z p)))
        → l₃ ≡ sets lines (line_size * p.begin.lines) (line_tail u lines m p)
    lines-written e whole f =
        let words : List ℕ = line_records p.begin.bytes p.begin.tokens new in
        let size : line_size * (moved_to p).lines ≡ line_size * p.begin.lines + length words = omega (arith, length_line_records p.begin.bytes p.begin.tokens new, written-sizes.1) in
        joined lines _ words (line_size * p.begin.lines) (line_size * (moved_to p).lines) size (rw to-is at e) (rw (whole, from) at f)

    pub tokens-written : (tokens : List ℕ) {l₁ l₂ l₃ : List ℕ} → l₁ ≡ sets tokens (token_size * to.tokens) (moved_tokens p.kept.bytes to.bytes (p.kept.lines + 1) (to.lines + 1) tokens p.kept.tokens (k - p.kept.tokens))
        → l₂ ≡ l₁ → l₃ ≡ sets l₂ (token_size * p.begin.tokens) (token_records p.begin.bytes (p.begin.lines + 1) (new_lines p.end (reread u z p)))
        → l₃ ≡ sets tokens (token_size * p.begin.tokens) (token_tail u lines tokens k p)
    tokens-written tokens e whole f =
        let words : List ℕ = token_records p.begin.bytes (p.begin.lines + 1) new in
        let size : token_size * (moved_to p).tokens ≡ token_size * p.begin.tokens + length words = omega (arith, length_token_records p.begin.bytes (p.begin.lines + 1) new, written-sizes.2) in
        joined tokens _ words (token_size * p.begin.tokens) (token_size * (moved_to p).tokens) size (rw to-is at e) (rw (whole, from) at f)
