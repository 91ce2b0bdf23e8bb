-- The line records of a faithful page, word by word, and the old line that stands at the same byte of the kept tail.
-- Assumes nothing.
use Prim.Native.Nat.{ℕ, zero, suc, ◌+◌, ◌-◌, ◌*◌, ◌≤◌, ◌<◌}
use mathlib.Core.Path.{◌≡◌, refl, sym, ap, ◌∙◌}
use mathlib.Core.Bool.{Bool, true, false, false≢true}
use mathlib.Core.List.{List, [], ◌∷◌, ◌++◌}
use mathlib.Core.Logic.{⊎_elim}
use native.Mathlib.Omega.{arith}
use native.Mathlib.Nat.{eq-zero-or-pos, zero-add, add-zero}
use lib.ListN.{length, get_or, take, drop, length-append, length-drop, take-append-drop}
use lib.Seq.{drop-drop, get_or-take, get_or-drop, take-append-le, drop-append-le}
use Rattle.rules.specs.Lists.{same}
use Rattle.rules.specs.Line.{State, initial}
use Rattle.rules.specs.Reading.{lines_of, Entry, reads, read_from, byte_sum, token_sum, state_at}
use Rattle.rules.specs.Limits.{max_levels, LineLimits}
use Rattle.rules.specs.Records.{line_size, line_need, state_words, line_record, line_records, end_entry, with_end}
use Rattle.rules.specs.StopRule.{Edit, kept_from}
use Rattle.rules.proofs.LineLaws.{total}
use Rattle.rules.proofs.ReadingLaws.{parts}
use Rattle.rules.proofs.RecordLaws.{length_line_records, record_at}
use Rattle.rules.proofs.StateLaws.{same_true, same_refl}
use Rattle.rules.proofs.StopLaws.{Positive, read-positive, line-at-byte}
use Rattle.rules.proofs.MendLaws.{kept_lines}
use Rattle.rules.proofs.BoundLaws.{entries-ok}
use Rattle.records.specs.Words.{start_word, state_in}
use Rattle.rereading.specs.Words.{FirstFrom}

-- Records of lines by their words.

-- a record's words from the third on
after_two : (l : List ℕ) → drop 2 (take line_size l) ≡ take 19 (drop 2 l)
after_two [] = refl
after_two (a ∷ []) = refl
after_two (a ∷ b ∷ l) = refl

module _ (lines : List ℕ) (m : ℕ) (es : List Entry) (end : State) (hm : m ≡ length es) (hl : take (line_need m) lines ≡ line_records 0 0 (with_end es end)) where
  abbrev whole : List ℕ
  whole = line_records 0 0 (with_end es end)

  long : length whole ≡ line_size * (m + 1)
  long = length_line_records 0 0 (with_end es end) ∙ omega (arith, length-append es (end_entry end ∷ []))

  -- line record x, that of the end included
  pub record_in_lem : (x : ℕ) → x ≤ m → take line_size (drop (line_size * x) lines) ≡ line_record (byte_sum (take x es)) (token_sum (take x es)) (state_at es end x)
  record_in_lem x h =
      let e : lines ≡ whole ++ drop (line_need m) lines = sym (take-append-drop (line_need m) lines) ∙ ap (λ (l : List ℕ). l ++ drop (line_need m) lines) hl in
      ap (λ (l : List ℕ). take line_size (drop (line_size * x) l)) e
      ∙ ap (take line_size) (drop-append-le (line_size * x) whole (drop (line_need m) lines) (omega (arith, long)))
      ∙ take-append-le line_size (drop (line_size * x) whole) (drop (line_need m) lines) (omega (arith, long, length-drop (line_size * x) whole))
      ∙ record_at es end x (omega arith)

  pub start_is : (x : ℕ) → x ≤ m → start_word lines x ≡ byte_sum (take x es)
  unfolding line_record
  start_is x h =
      ap (λ (n : ℕ). get_or lines n 0) (sym (add-zero (line_size * x))) ∙ sym (get_or-drop (line_size * x) lines 0 0) ∙ sym (get_or-take line_size (drop (line_size * x) lines) 0 0 (omega arith))
      ∙ ap (λ (l : List ℕ). get_or l 0 0) (record_in_lem x h)

  pub first-is : (x : ℕ) → x ≤ m → get_or lines (line_size * x + 1) 0 ≡ token_sum (take x es)
  unfolding line_record
  first-is x h =
      sym (get_or-drop (line_size * x) lines 1 0) ∙ sym (get_or-take line_size (drop (line_size * x) lines) 1 0 (omega arith))
      ∙ ap (λ (l : List ℕ). get_or l 1 0) (record_in_lem x h)

  pub state-is : (x : ℕ) → x ≤ m → state_in lines x ≡ state_words (state_at es end x)
  unfolding line_record
  state-is x h =
      ap (take 19) (sym (drop-drop 2 (line_size * x) lines)) ∙ sym (after_two (drop (line_size * x) lines)) ∙ ap (drop 2) (record_in_lem x h)

-- Lines have bytes, so their starts rise.

pub starts_rise : (es : List Entry) (i j : ℕ) → Positive es → i < j → j ≤ length es → byte_sum (take i es) < byte_sum (take j es)
unfolding byte_sum
starts_rise [] i j h l k = absurd (omega arith)
starts_rise (e ∷ es) i zero h l k = absurd (omega arith)
starts_rise (e ∷ es) zero (suc j) h l k = omega (arith, h.0)
starts_rise (e ∷ es) (suc i) (suc j) h l k = omega (arith, starts_rise es i j h.1 (omega arith) (omega arith))

-- The old lines behind the records.

module _ (lim : LineLimits) (t : List ℕ) (es : List Entry) (end : State) (h : read_from lim initial (lines_of t) ≡ reads es end) where
  rising : Positive es
  rising = read-positive lim (lines_of t) t initial es end refl h

  -- no more levels than a record holds
  pub levels-at : lim.levels ≤ max_levels → (x : ℕ) → length (state_at es end x).widths ≤ max_levels
  levels-at room x =
      let p = parts lim x initial (lines_of t) es end h in
      (entries-ok lim max_levels (4 * total (take x (lines_of t))) room initial (take x (lines_of t)) (take x es) (state_at es end x) p.front (omega arith) tt (omega arith)).1.limited

  -- the record found from j on is that of the line that starts there
  pub found : (lines : List ℕ) (m : ℕ) → m ≡ length es → take (line_need m) lines ≡ line_records 0 0 (with_end es end) → (i j r at : ℕ)
      → i < length es → byte_sum (take i es) ≡ at → byte_sum (take j es) ≤ at → j ≤ m → FirstFrom lines m j at r → r ≡ i
  found lines m hm hl i j r at hi ei hj jm f =
      let si : start_word lines i ≡ at = start_is lines m es end hm hl i (omega arith) ∙ ei in
      let low : i - r ≡ 0 = ⊎_elim (λ (x : i - r ≡ 0). x) (λ (x : 0 < i - r). absurd (under x)) (eq-zero-or-pos (i - r)) in
      let high : r - i ≡ 0 = ⊎_elim (λ (x : r - i ≡ 0). x) (λ (x : 0 < r - i). absurd (over si x)) (eq-zero-or-pos (r - i)) in
      omega arith
    where
      under : 0 < i - r → ⊥
      under x =
          omega (arith, f.reached (omega arith), start_is lines m es end hm hl r (omega arith), starts_rise es r i rising (omega arith) (omega arith))

      from : j ≤ i
      from = ⊎_elim (λ (x : j - i ≡ 0). omega arith) (λ (x : 0 < j - i). absurd (omega (arith, starts_rise es i j rising (omega arith) (omega arith)))) (eq-zero-or-pos (j - i))

      over : start_word lines i ≡ at → 0 < r - i → ⊥
      over si x = omega (arith, f.before i from (omega arith))

  -- the old lines kept from a byte on where line i starts
  pub kept_from_lem : (ed : Edit) (p i : ℕ) → i < length es → byte_sum (take i es) ≡ ed.b + (p - kept_from ed) → kept_lines es ed p ≡ drop i es
  unfolding kept_lines
  kept_from_lem ed p i hi e =
      let q : ed.b + (p - kept_from ed) ≡ 0 + byte_sum (take i es) = sym (zero-add (byte_sum (take i es)) ∙ e) in
      rw (q, line-at-byte 0 es i rising hi)

pub same_sym : (xs ys : List ℕ) → same xs ys ≡ same ys xs
same_sym xs ys = go (same xs ys) (same ys xs) refl refl
  where
    go : (a b : Bool) → same xs ys ≡ a → same ys xs ≡ b → a ≡ b
    go true true ea eb = refl
    go true false ea eb = absurd (false≢true (sym eb ∙ (rw (same_true xs ys ea) (same_refl ys))))
    go false true ea eb = absurd (false≢true (sym ea ∙ (rw (same_true ys xs eb) (same_refl xs))))
    go false false ea eb = refl
