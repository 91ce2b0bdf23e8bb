-- The records of lines, one line after another, and the room that they find.
-- Assumes nothing.
use Prim.Native.Nat.{ℕ, ◌+◌, ◌*◌, ◌≤◌, ◌<◌}
use mathlib.Core.Path.{◌≡◌, refl, sym, ap, ◌∙◌}
use mathlib.Core.Bool.{Bool}
use mathlib.Core.List.{List, [], ◌∷◌, ◌++◌, append-nil}
use mathlib.Core.Logic.{⊎_elim, inl}
use Rattle.std.specs.Prelude.{Option, Some}
use native.Mathlib.Omega.{arith}
use lib.ListN.{length, drop, length-append}
use Rattle.rules.specs.Limits.{LineLimits}
use Rattle.rules.specs.Line.{State, Token, Halt, LineReply, line_reads, line_halts, read_line}
use Rattle.rules.specs.Reading.{lines_of, Entry, entry, Reading, reads, halts, read_from, byte_sum, token_sum, line_at, size_at}
use Rattle.rules.specs.Records.{line_size, token_size, line_record, line_records, token_words, token_records}
use Rattle.rules.proofs.ReadingLaws.{with_entries, with_entries-reads, with_entries-halts, token_sum_append}
use Rattle.rules.proofs.RecordLaws.{line_records_append, length_line_records, token_records_append, length_token_records}
use Rattle.rules.proofs.LoopLaws.{ReadTo, read-line, read-stuck, read-rest}
use Rattle.records.specs.Sinks.{Fits, RecordSinkLaws}
use Rattle.records.specs.declared.Place.{Place}
use Rattle.records.proofs.RecordTakes.{fits_after, fits-less, fits-endless}
use Rattle.line.specs.LineCuts.{tokens_end, tokens_in}
use Rattle.lines.proofs.Lines.{PassTo}
use Rattle.rereading.specs.Sinks.{line_records_end, token_records_end, Few}

-- The records of one line more.

module _ (base i first : ℕ) (es : List Entry) (e : Entry) (c p k : ℕ) (hc : length es ≡ c) (hp : base + byte_sum es ≡ p) (hk : first + token_sum es ≡ k) where
  pub line_place : line_size * (i + c) ≡ line_size * i + length (line_records base first es)
  line_place = omega (arith, length_line_records base first es, hc)

  pub line_then : line_records base first es ++ line_record p k e.before ≡ line_records base first (es ++ (e ∷ []))
  unfolding line_records
  line_then =
      ap (λ (x : List ℕ). line_records base first es ++ x)
      ((λ a. line_record (sym hp a) (sym hk a) e.before) ∙ sym (append-nil (line_record (base + byte_sum es) (first + token_sum es) e.before)))
      ∙ sym (line_records_append base first es (e ∷ []))

  pub token_place : token_size * k ≡ token_size * first + length (token_records base (i + 1) es)
  token_place = omega (arith, length_token_records base (i + 1) es, hk)

  pub token_then : token_records base (i + 1) es ++ token_words p (i + c + 1) e.tokens ≡ token_records base (i + 1) (es ++ (e ∷ []))
  unfolding token_records
  token_then =
      let number : i + c + 1 ≡ i + 1 + length es = omega (arith, hc) in
      ap (λ (x : List ℕ). token_records base (i + 1) es ++ x)
      ((λ a. token_words (sym hp a) (number a) e.tokens) ∙ sym (append-nil (token_words (base + byte_sum es) (i + 1 + length es) e.tokens)))
      ∙ sym (token_records_append base (i + 1) es (e ∷ []))

-- Where the whole text reads, what was read is the front of all.
front : (lim : LineLimits) (t : List ℕ) (z₀ : State) (p : ℕ) (es : List Entry) (z : State) → ReadTo lim z₀ t p es z
    → (all : List Entry) (end : State) → read_from lim z₀ (lines_of t) ≡ reads all end → (ys : List Entry) × (all ≡ es ++ ys)
front lim t z₀ p es z r all end e = go (read_from lim z (lines_of (drop p t))) (sym e ∙ read-rest lim z₀ t p es z r)
  where
    go : (x : Reading) → reads all end ≡ with_entries es x → (ys : List Entry) × (all ≡ es ++ ys)
    go (reads ys y) q = let w : reads all end ≡ reads (es ++ ys) y = q ∙ with_entries-reads es ys y in (ys, cc)
    go (halts ys h) q =
        let w : reads all end ≡ halts (es ++ ys) h = q ∙ with_entries-halts es ys h in
        let b : ◌≡◌ {A = ℕ} 0 1 = cc in
        absurd (omega arith)

not_both : {x : Reading} {es all : List Entry} {z : State} {h : Halt} → x ≡ reads all z → x ≡ halts es h → ⊥
not_both e f = let b : ◌≡◌ {A = ℕ} 0 1 = cc in omega arith

module _ {lim : LineLimits} {t : List ℕ} {z₀ z : State} {es : List Entry} {q c k : ℕ} (v : PassTo lim t z₀ es q c k z) (h : q < length t) where
  -- where all lines read, the next one does, with what follows it
  next_of : (all : List Entry) (end : State) → read_from lim z₀ (lines_of t) ≡ reads all end
      → (ts : List Token) × (y : State) × (read_line lim z (line_at t q) ≡ line_reads ts y) × (c + 1 ≤ length all) × (k + length ts ≤ token_sum all)
  unfolding token_sum
  next_of all end e = go (read_line lim z (line_at t q)) refl
    where
      go : (x : LineReply) → read_line lim z (line_at t q) ≡ x
          → (ts : List Token) × (y : State) × (read_line lim z (line_at t q) ≡ line_reads ts y) × (c + 1 ≤ length all) × (k + length ts ≤ token_sum all)
      go (line_reads ts y) l =
          let x : Entry = entry z (size_at t q) ts in
          let f = front lim t z₀ (q + size_at t q) (es ++ (x ∷ [])) y (read-line lim z₀ t q es z v.to ts y h l) all end e in (
            ts,
            y,
            l,
            omega (arith, ap length f.1, length-append (es ++ (x ∷ [])) f.0, length-append es (x ∷ []), v.count),
            omega (arith, ap token_sum f.1, token_sum_append (es ++ (x ∷ [])) f.0, token_sum_append es (x ∷ []), v.sum),
          )
      go (line_halts x) l = absurd (not_both e (read-stuck lim z₀ t q es z v.to x h l))

  next-few : (x : Reading) → read_from lim z₀ (lines_of t) ≡ x → (first : ℕ) → Few x first → k ≤ 3_000_000 → first + k ≤ 3_000_000
  next-few (reads all end) e first f h = ⊎_elim (λ (q : first ≡ 0). omega (arith, q)) (λ (q : first + token_sum all ≤ 3_000_000). omega (arith, q, (next_of all end e).4)) f
  next-few (halts all x) e first f h = omega (arith, f)

  pub few-next : (first : ℕ) → Few (read_from lim z₀ (lines_of t)) first → k ≤ 3_000_000 → first + k ≤ 3_000_000
  few-next = next-few (read_from lim z₀ (lines_of t)) refl

  -- the room that the next line finds
  module _ {S : Type 0} {room : S → Option ℕ} {takes : S → S → ℕ → List ℕ → Type 0} {named : Bool} (laws : RecordSinkLaws room takes named) (p : Place) {before after : S} {i : ℕ} {xs : List ℕ}
      (m : takes before after i xs) where
    line-room : (x : Reading) → read_from lim z₀ (lines_of t) ≡ x → Fits (room before) (line_records_end p x) → Fits (room before) (Some (line_size * (p.line + c) + line_size))
    line-room (reads all end) e f = fits-less _ (omega (arith, (next_of all end e).3)) f
    line-room (halts all x) e f = fits-endless _ _ f

    pub line-room-next : Fits (room before) (line_records_end p (read_from lim z₀ (lines_of t))) → Fits (room after) (Some (line_size * (p.line + c) + line_size))
    line-room-next f = fits_after laws _ m (line-room (read_from lim z₀ (lines_of t)) refl f)

    abbrev next_place : Place
    next_place = record { line = p.line + c; first = p.first + k; start = p.start + q }

    token-room : (x : Reading) → read_from lim z₀ (lines_of t) ≡ x → Fits (room before) (token_records_end p x) → Fits (room before) (tokens_end next_place (tokens_in (read_line lim z (line_at t q))))
    token-room (reads all end) e f = let n = next_of all end e in rw n.2 (fits-less _ (omega (arith, n.4)) f)
    token-room (halts all x) e f = fits-endless _ _ f

    pub token-room-next : Fits (room before) (token_records_end p (read_from lim z₀ (lines_of t))) → Fits (room after) (tokens_end next_place (tokens_in (read_line lim z (line_at t q))))
    token-room-next f = fits_after laws _ m (token-room (read_from lim z₀ (lines_of t)) refl f)

-- Where the first token has number 0, all have small numbers.
pub few-zero : (x : Reading) → Few x 0
few-zero (reads es z) = inl refl
few-zero (halts es h) = refl
