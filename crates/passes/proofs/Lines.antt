-- A pass over all lines of a text: what reading on may do, and the end.
-- Assumes nothing.
use Rattle.std.proofs.Common.{ℕ, ◌≡◌, ◌+◌, ◌*◌, ◌≤◌, Bool, List, [], ◌∷◌, ◌++◌, Option, Some, Ok, Err, refl, sym, ap, subst, ◌∙◌, append-nil, length, drop, drop_of_length-le, arith}
use Rattle.std.proofs.lemmas.List.{length-replicate}
use Rattle.rules.specs.Kinds.{dedent}
use Rattle.rules.specs.Limits.{max_levels, LineLimits}
use Rattle.rules.specs.Line.{State, initial, token_at, dedents}
use Rattle.rules.specs.Reading.{Line, lines_of, Entry, Reading, reads, halts, read_from, byte_sum, token_sum}
use Rattle.rules.specs.Records.{line_size, token_size, line_record, line_records, token_words, token_records, end_entry, with_end, records_of, recorded_by, read_lines}
use Rattle.rules.proofs.LineLaws.{total-lines}
use Rattle.rules.proofs.ReadingLaws.{read-sizes, token_sum_append}
use Rattle.rules.proofs.LoopLaws.{ReadTo}
use Rattle.rules.proofs.BoundLaws.{SmallAt, read_small}
use Rattle.records.specs.Sinks.{Fits, RecordSinkLaws}
use Rattle.records.specs.declared.Place.{Place}
use Rattle.records.proofs.RecordTakes.{takes_as, then-takes, fits_after, fits-less}
use Rattle.records.specs.declared.Counts.{Counts}
use Rattle.refusals.specs.declared.Unread.{Unread}
use Rattle.rereading.specs.Rereads.{HaltsIn}
use Rattle.rereading.specs.Sinks.{line_records_end, token_records_end, AllTaken, EndIs}
use Rattle.rereading.proofs.Rereads.{halts-as, halts-whole}
use Rattle.rereading.proofs.Rooms.{line_place, line_then, token_place, token_then}
use Rattle.passes.specs.Passes.{pass_of, line_need_of, token_need_of, TakenIn}

end-tokens : (es : List Entry) (z : State) → token_sum (with_end es z) ≡ token_sum es + length z.widths
unfolding token_sum
end-tokens es z = omega (arith, token_sum_append es (end_entry z ∷ []), length-replicate (length z.widths) (token_at dedent 0 0))

abbrev reading : LineLimits → List ℕ → State → Reading
reading lim t z = read_from lim z (lines_of t)

abbrev whole : LineLimits → List ℕ → Reading
whole lim t = reading lim t initial

-- The text t, read from the first state.
module _ (lim : LineLimits) (fit : lim.levels ≤ max_levels) (t : List ℕ) (short : length t ≤ 1_048_576) {z₀ : State} (begun : z₀ ≡ initial) where
  first : reading lim t z₀ ≡ whole lim t
  first = ap (reading lim t) begun

  -- a text that reads has few lines and tokens
  few : (es : List Entry) (z : State) → whole lim t ≡ reads es z → SmallAt (length t) es z × (byte_sum es ≡ length t)
  unfolding lines_of
  few es z e =
      let bytes : byte_sum es ≡ length t = (read-sizes lim initial (lines_of t) es z e).1 ∙ total-lines t in
      let none : lines_of (drop (length t) t) ≡ [] = ap lines_of (drop_of_length-le t {i = length t} (omega arith)) in
      let to : ReadTo lim initial t (length t) es z = record {
        lines = lines_of t;
        split = sym (ap (λ (x : List Line). lines_of t ++ x) none ∙ append-nil (lines_of t));
        reads-are = e;
        bytes = bytes;
      } in
      (read_small lim fit t (length t) es z short (omega arith) to, bytes)

  -- the words of all lines are taken from the first record on
  abbrev start : Place
  start = record { line = 0; first = 0; start = 0 }

  -- it does not read
  pub halted_pass : {left : State} {u : Unread} → HaltsIn lim t z₀ 0 0 left u → Err u ≡ pass_of (read_lines lim t)
  unfolding read_lines recorded_by
  halted_pass x = let y = halts-whole (halts-as x) in ap Err y.3 ∙ ap (λ (r : Reading). pass_of (recorded_by r)) (sym y.2 ∙ first)

  -- it is read to its end, so many bytes, lines and tokens, in the state z; the end's record and Dedents are written after those of the lines
  module _ {c : Counts} {z : State} (v : EndIs lim t z₀ 0 0 z (Ok c)) where
    ended : whole lim t ≡ reads v.0 z
    ended = sym first ∙ v.1

    all-tokens : token_sum (with_end v.0 z) ≡ c.tokens + length z.widths
    all-tokens = omega (arith, end-tokens v.0 z, v.2.tokens)

    pub end_small : (c.lines ≤ 1_048_576) × (c.tokens + length z.widths ≤ 2_097_152)
    end_small = let b = (few v.0 z ended).0 in (omega (arith, b.lines, v.2.lines), omega (arith, b.tokens, v.2.tokens))

    pub end_counts : {n : ℕ} → n ≡ length z.widths → Ok (record { bytes = c.bytes; lines = c.lines; tokens = c.tokens + n }) ≡ pass_of (read_lines lim t)
    unfolding read_lines recorded_by records_of
    end_counts {n} e =
        let k : c.tokens + n ≡ token_sum (with_end v.0 z) = omega (arith, e, all-tokens) in
        (λ a. Ok (record { bytes = sym v.2.bytes a; lines = sym v.2.lines a; tokens = k a })) ∙ ap (λ (r : Reading). pass_of (recorded_by r)) (sym ended)

    bytes : 0 + byte_sum v.0 ≡ length t
    bytes = omega (arith, (few v.0 z ended).1)

    tokens-are : 0 + token_sum v.0 ≡ c.tokens
    tokens-are = omega (arith, v.2.tokens)

  module _ {S : Type 0} {room : S → Option ℕ} {takes : S → S → ℕ → List ℕ → Type 0} {named : Bool} (laws : RecordSinkLaws room takes named) (l₀ t₀ : S) where
    pub line_room_first : Fits (room l₀) (line_need_of (whole lim t)) → Fits (room l₀) (line_records_end start (reading lim t z₀))
    line_room_first f = rw first (go (whole lim t) f)
      where
        go : (x : Reading) → Fits (room l₀) (line_need_of x) → Fits (room l₀) (line_records_end start x)
        go (reads es z) f = fits-less _ (omega arith) f
        go (halts es x) f = f

    pub token_room_first : Fits (room t₀) (token_need_of (whole lim t)) → Fits (room t₀) (token_records_end start (reading lim t z₀))
    token_room_first f = rw first (go (whole lim t) f)
      where
        go : (x : Reading) → Fits (room t₀) (token_need_of x) → Fits (room t₀) (token_records_end start x)
        go (reads es z) f = fits-less _ (omega (arith, end-tokens es z)) f
        go (halts es x) f = f

    module _ {c : Counts} {z : State} (v : EndIs lim t z₀ 0 0 z (Ok c)) (l₁ t₁ : S) (m : AllTaken (takes l₀ l₁) (takes t₀ t₁) start (reading lim t z₀)) where
      lines-taken : takes l₀ l₁ 0 (line_records 0 0 v.0)
      lines-taken = (subst (AllTaken (takes l₀ l₁) (takes t₀ t₁) start) v.1 m).0

      tokens-taken : takes t₀ t₁ 0 (token_records 0 1 v.0)
      tokens-taken = (subst (AllTaken (takes l₀ l₁) (takes t₀ t₁) start) v.1 m).1

      pub end_line_room : Fits (room l₀) (line_need_of (whole lim t)) → Fits (room l₁) (Some (line_size * c.lines + line_size))
      end_line_room f = fits_after laws _ lines-taken (fits-less _ (omega (arith, v.2.lines)) (subst (λ (x : Reading). Fits (room l₀) (line_need_of x)) (ended v) f))

      pub end_token_room : Fits (room t₀) (token_need_of (whole lim t)) → Fits (room t₁) (Some (token_size * (c.tokens + length z.widths)))
      end_token_room f = fits_after laws _ tokens-taken (fits-less _ (omega (arith, all-tokens v)) (subst (λ (x : Reading). Fits (room t₀) (token_need_of x)) (ended v) f))

      pub end_taken : {l₂ t₂ : S} → takes l₁ l₂ (line_size * c.lines) (line_record (length t) c.tokens z) → takes t₁ t₂ (token_size * c.tokens) (token_words (length t) (c.lines + 1) (dedents (length z.widths)))
          → TakenIn (takes l₀ l₂) (takes t₀ t₂) (whole lim t)
      unfolding records_of
      end_taken ml mt =
          let n : c.lines ≡ 0 + c.lines = omega arith in
          rw (ended v) (
            then-takes laws lines-taken (line_place 0 0 0 v.0 (end_entry z) c.lines (length t) c.tokens v.2.lines (bytes v) (tokens-are v)) (takes_as laws (ap (λ (i : ℕ). line_size * i) n) refl ml)
                (line_then 0 0 0 v.0 (end_entry z) c.lines (length t) c.tokens v.2.lines (bytes v) (tokens-are v)),
            then-takes laws tokens-taken (token_place 0 0 0 v.0 (end_entry z) c.lines (length t) c.tokens v.2.lines (bytes v) (tokens-are v))
                (takes_as laws refl (ap (λ (i : ℕ). token_words (length t) (i + 1) (dedents (length z.widths))) n) mt)
                (token_then 0 0 0 v.0 (end_entry z) c.lines (length t) c.tokens v.2.lines (bytes v) (tokens-are v)),
          )
