-- Reading on: what was read so far, one line more, and how it ends.
-- Assumes nothing.
use Prim.Native.Nat.{ℕ, suc, ◌+◌, ◌-◌, ◌≤◌, ◌<◌}
use Rattle.std.specs.Prelude.{Ok, Err}
use mathlib.Core.Path.{◌≡◌, refl, sym, ap, subst, ◌∙◌}
use mathlib.Core.Bool.{true, false, ◌&&◌}
use mathlib.Core.List.{List, [], ◌∷◌, ◌++◌}
use mathlib.Core.Logic.{⊎_elim}
use native.Mathlib.Omega.{arith}
use native.Mathlib.Nat.{eq-zero-or-pos}
use lib.Dec.{ltb, eqb}
use lib.ListN.{length, take, drop, length-append, length-drop}
use lib.Seq.{take_at}
use borrow.Author.Tests.{ltb-true, eqb-true}
use Rattle.rules.specs.Lists.{same}
use Rattle.rules.specs.Line.{Token, Halt, State, initial, line_reads, line_halts, read_line}
use Rattle.rules.specs.Reading.{lines_of, Entry, entry, Reading, reads, halts, read_from, byte_sum, state_at, line_at, size_at}
use Rattle.rules.specs.Limits.{max_levels, LineLimits}
use Rattle.rules.specs.Records.{state_words, halt_refusal}
use Rattle.rules.specs.StopRule.{edited, marks_from, same_state, is_stop, from_byte}
use Rattle.rules.proofs.ListLaws.{and-true}
use Rattle.rules.proofs.ReadingLaws.{read-sizes, byte_sum_append}
use Rattle.rules.proofs.StateLaws.{same_state-words}
use Rattle.rules.proofs.StopLaws.{mark}
use Rattle.rules.proofs.MendLaws.{no_stop, kept-size, kept_length}
use Rattle.rules.proofs.BoundLaws.{line_ok}
use Rattle.rules.proofs.LoopLaws.{ReadTo, read-end, read-stuck, RereadTo, reread-start, reread_test, reread-line, reread-stop, reread-end, reread-stuck}
use Rattle.refusals.specs.Unreads.{unread_in}
use Rattle.records.specs.declared.Counts.{Counts}
use Rattle.lines.proofs.Lines.{PassTo, pass-start, next-pass}
use Rattle.refusals.specs.declared.Unread.{Unread}
use Rattle.records.specs.Words.{start_word, state_in}
use Rattle.line.specs.LineCuts.{state_left}
use Rattle.rereading.specs.Words.{old_byte, FirstFrom, stops_at}
use Rattle.rereading.specs.Rereads.{Old, Counted, Lines, HaltsAs, HaltsIn, RereadIs}
use Rattle.rereading.specs.declared.Reached.TheVariants.{Stop, End}
use Rattle.rereading.proofs.Words.{stop-near, stop-here}
use Rattle.rereading.proofs.OldLines.{start_is, state-is, levels-at, found, kept_from_lem, same_sym}

pub first-lines : (lim : LineLimits) (t : List ℕ) (z₀ : State) (q c : ℕ) (es : List Entry) (z : State) → ReadTo lim z₀ t q es z → length es ≡ c
    → read_from lim z₀ (take c (lines_of t)) ≡ reads es z
first-lines lim t z₀ q c es z r hc =
    let n : length r.lines ≡ c = sym (read-sizes lim z₀ r.lines es z r.reads-are).0 ∙ hc in
    ap (λ (x : List (List ℕ)). read_from lim z₀ (take c x)) r.split ∙ ap (read_from lim z₀) (take_at r.lines (lines_of (drop q t)) c n) ∙ r.reads-are

-- the lines read so far are the first of the text, so many
abbrev counted : {lim : LineLimits} {t : List ℕ} {z₀ z : State} {es : List Entry} {c : Counts} → PassTo lim t z₀ es c.bytes c.lines c.tokens z → Counted c es
counted v = record { bytes = v.to.bytes; lines = v.count; tokens = v.sum }

abbrev lines-read : {lim : LineLimits} {t : List ℕ} {z₀ z : State} {es : List Entry} {c : Counts} → PassTo lim t z₀ es c.bytes c.lines c.tokens z → Lines lim t z₀ c
lines-read {lim} {t} {z₀} {z} {es} {c} v =
    record { es = es; after = z; reads-are = first-lines lim t z₀ c.bytes c.lines es z v.to v.count; counted = counted v }

module _ (lim : LineLimits) (rest lines : List ℕ) (base i m from b kept : ℕ) (z₀ : State) where
  -- on a faithful page: no line so far is a stop, and record j starts no later than the byte to compare with
  pub record Known (o : Old lim rest lines base i m from b kept z₀) (q : ℕ) (es : List Entry) (z : State) (j : ℕ) : Type 0 where
    pub again : RereadTo lim o.text o.entries o.end o.reads-are o.ed o.begins q es z
    pub low : byte_sum (take j o.entries) ≤ old_byte b kept (base + q)

  -- come so many bytes, lines and tokens on, past the lines es, to the state z; record j is the last one compared with
  pub record ComeTo (es : List Entry) (c : Counts) (j : ℕ) (z : State) : Type 0 where
    pub pass : PassTo lim rest z₀ es c.bytes c.lines c.tokens z
    pub few : length z.widths ≤ max_levels
    pub old : j ≤ m
    pub known : (o : Old lim rest lines base i m from b kept z₀) → Known o c.bytes es z j

  -- what the record to compare with must be
  abbrev pub ComparedWith : (q j r : ℕ) → Type 0
  ComparedWith q j r = (base + q ≤ kept → r ≡ j) × (kept < base + q → FirstFrom lines m j (old_byte b kept (base + q)) r)

  -- on a faithful page its words decide as the stop rule does
  pub record Compared (o : Old lim rest lines base i m from b kept z₀) (q r : ℕ) (z : State) : Type 0 where
    pub stop_is : is_stop (marks_from 0 o.entries) o.ed (mark (from_byte o.text o.entries o.ed + q) z) ≡ stops_at lines r b kept (base + q) z
    pub low : byte_sum (take r o.entries) ≤ old_byte b kept (base + q)
    pub here : kept < base + q → (byte_sum (take r o.entries) ≡ old_byte b kept (base + q)) × (r < length o.entries)

pub come_start : {lim : LineLimits} {rest lines : List ℕ} {base i m from b kept : ℕ} (z : State) → length z.widths ≤ max_levels → from ≤ m
    → ComeTo lim rest lines base i m from b kept z [] (record { bytes = 0; lines = 0; tokens = 0 }) from z
come_start {lim} {rest} {b = b} z few h =
    record {
      pass = pass-start lim rest z;
      few = few;
      old = h;
      known = λ o. record {
        again = subst (RereadTo lim o.text o.entries o.end o.reads-are o.ed o.begins 0 []) (sym o.state-is) (reread-start lim o.text o.entries o.end o.reads-are o.ed o.begins);
        low = omega (arith, ap (λ (n : ℕ). byte_sum (take n o.entries)) (o.from_is ∙ o.i-is), kept-size lim o.text o.entries o.end o.reads-are o.ed o.begins, o.order, o.b-is);
      };
    }

module _ {lim : LineLimits} {rest lines : List ℕ} {base i m from b kept : ℕ} {z₀ : State} {es : List Entry} {at : Counts} {j : ℕ} {z : State} (v : ComeTo lim rest lines base i m from b kept z₀ es at j z) (room : lim.levels ≤ max_levels) where
  abbrev q : ℕ
  q = at.bytes

  module _ (h : q < length rest) (r : ℕ) (hr : ComparedWith lim rest lines base i m from b kept z₀ q j r) (o : Old lim rest lines base i m from b kept z₀) where
    compared-near : base + q ≤ kept → Compared lim rest lines base i m from b kept z₀ o q r z
    compared-near x =
        record {
          stop_is = no_stop lim o.entries o.end o.ed (from_byte o.text o.entries o.ed + q) z (omega (arith, o.base-is, o.kept-is))
              ∙ sym (stop-near lines r b kept (base + q) z x);
          low = subst (λ (n : ℕ). byte_sum (take n o.entries) ≤ old_byte b kept (base + q)) (sym (hr.0 x)) (v.known o).low;
          here = λ y. absurd (omega arith);
        }

    compared-far : kept < base + q → Compared lim rest lines base i m from b kept z₀ o q r z
    compared-far x =
        let p : ℕ = from_byte o.text o.entries o.ed + q in
        let long : length rest ≡ length (edited o.text o.ed) - from_byte o.text o.entries o.ed =
        ap length o.rest-is ∙ length-drop (from_byte o.text o.entries o.ed) (edited o.text o.ed) in
        let w = reread_test lim o.text o.entries o.end o.reads-are o.ed o.begins q es z (v.known o).again o.order o.inside
        (omega (arith, o.base-is, o.kept-is)) (omega (arith, o.base-is)) in
        let start : byte_sum (take w.0 o.entries) ≡ old_byte b kept (base + q) = w.2 ∙ omega (arith, o.base-is, o.kept-is, o.b-is) in
        let e : r ≡ w.0 = found lim o.text o.entries o.end o.reads-are lines m o.m-is o.lines_are w.0 j r (old_byte b kept (base + q)) w.1 start (v.known o).low v.old (hr.1 x) in
        let le : r ≤ m = omega (arith, w.1, o.m-is) in
        let sr : byte_sum (take r o.entries) ≡ old_byte b kept (base + q) = ap (λ (n : ℕ). byte_sum (take n o.entries)) e ∙ start in
        record {
          stop_is = w.3 ∙ ap (λ (n : ℕ). same_state z (state_at o.entries o.end n)) (sym e)
              ∙ same_state-words z (state_at o.entries o.end r) v.few (levels-at lim o.text o.entries o.end o.reads-are room r)
              ∙ same_sym (state_words z) (state_words (state_at o.entries o.end r))
              ∙ ap (λ (x : List ℕ). same x (state_words z)) (sym (state-is lines m o.entries o.end o.m-is o.lines_are r le))
              ∙ sym (stop-here lines r b kept (base + q) z x (start_is lines m o.entries o.end o.m-is o.lines_are r le ∙ sr));
          low = omega (arith, sr);
          here = λ y. (sr, omega (arith, w.1));
        }

    pub compared : Compared lim rest lines base i m from b kept z₀ o q r z
    compared =
        ⊎_elim (λ (x : base + q - kept ≡ 0). compared-near (omega arith)) (λ (x : 0 < base + q - kept). compared-far (omega arith)) (eq-zero-or-pos (base + q - kept))

  module _ (h : q < length rest) (r : ℕ) (hr : ComparedWith lim rest lines base i m from b kept z₀ q j r) (hm : r ≤ m) where
    -- it stops here
    pub stopped : stops_at lines r b kept (base + q) z ≡ true → RereadIs lim rest lines base i m from b kept z₀ z (Ok (Stop at r))
    stopped e =
        let x = and-true (ltb kept (base + q)) (eqb (start_word lines r) (old_byte b kept (base + q)) && same (state_in lines r) (state_words z)) e in
        let y = and-true (eqb (start_word lines r) (old_byte b kept (base + q))) (same (state_in lines r) (state_words z)) x.1 in
        let far : kept < base + q = ltb-true kept (base + q) x.0 in (
          lines-read v.pass,
          (h, (hm, (far, eqb-true (start_word lines r) (old_byte b kept (base + q)) y.0))),
          λ o.
              let d = compared h r hr o in
              let g = reread-stop lim o.text o.entries o.end o.reads-are o.ed o.begins q es z (v.known o).again (d.stop_is ∙ e) in
              let n = d.here far in
              let kept-are = kept_from_lem lim o.text o.entries o.end o.reads-are o.ed (from_byte o.text o.entries o.ed + q) r n.1 (n.0 ∙ omega (arith, o.base-is, o.kept-is, o.b-is)) in (
                g.0 ∙ (λ a. reads (take (sym o.i-is a) o.entries ++ (es ++ kept-are a)) o.end),
                g.1 ∙ v.pass.count,
                n.0,
                n.1,
              ),
          refl,
        )

    -- the next line is read
    pub next_come : stops_at lines r b kept (base + q) z ≡ false → (p n : ℕ) (z' : State) (ts : List Token)
        → read_line lim z (line_at rest q) ≡ line_reads ts z' → n ≡ length ts → p ≡ q + size_at rest q
        → ComeTo lim rest lines base i m from b kept z₀ (es ++ (entry z (size_at rest q) ts ∷ [])) (record { bytes = p; lines = at.lines + 1; tokens = at.tokens + n }) r z'
    next_come e p n z' ts l hn hp =
        let x : Entry = entry z (size_at rest q) ts in
        record {
          pass = next-pass v.pass h ts z' n p l hn hp;
          few = (line_ok lim z (line_at rest q) ts z' l).limited max_levels room v.few;
          old = hm;
          known = λ o.
              let d = compared h r hr o in
              let u : List ℕ = drop (from_byte o.text o.entries o.ed) (edited o.text o.ed) in
              let next = reread-line lim o.text o.entries o.end o.reads-are o.ed o.begins q es z (v.known o).again ts z'
              (subst (λ (y : List ℕ). q < length y) o.rest-is h) (d.stop_is ∙ e) (ap (λ (y : List ℕ). read_line lim z (line_at y q)) (sym o.rest-is) ∙ l) in
              let size : size_at u q ≡ size_at rest q = ap (λ (y : List ℕ). size_at y q) (sym o.rest-is) in
              let moved = subst (λ (n : ℕ). RereadTo lim o.text o.entries o.end o.reads-are o.ed o.begins (q + n) (es ++ (entry z n ts ∷ [])) z') size next in
              record {
                again = subst (λ (n : ℕ). RereadTo lim o.text o.entries o.end o.reads-are o.ed o.begins n (es ++ (x ∷ [])) z') (sym hp) moved;
                low = omega (arith, d.low);
              };
        }

  -- The next line does not read.
  module _ (h : q < length rest) (x : Halt) (l : read_line lim z (line_at rest q) ≡ line_halts x) where
    pub stuck : read_from lim z₀ (lines_of rest) ≡ halts es x
    stuck = read-stuck lim z₀ rest q es z v.pass.to x h l

    stuck-old : (o : Old lim rest lines base i m from b kept z₀)
        → (read_from lim initial (lines_of (edited o.text o.ed)) ≡ halts (take i o.entries ++ es) x)
        × (0 + byte_sum (take i o.entries ++ es) ≡ base + q) × (0 + length (take i o.entries ++ es) + 1 ≡ i + at.lines + 1)
    stuck-old o =
        let n = kept_length lim o.text o.entries o.end o.reads-are o.ed o.begins in (
          reread-stuck lim o.text o.entries o.end o.reads-are o.ed o.begins q es z (v.known o).again x
              (subst (λ (y : List ℕ). q < length y) o.rest-is h) (ap (λ (y : List ℕ). read_line lim z (line_at y q)) (sym o.rest-is) ∙ l)
              ∙ ap (λ (n : ℕ). halts (take n o.entries ++ es) x) (sym o.i-is),
          omega (arith, byte_sum_append (take i o.entries) es, v.pass.to.bytes, o.base-is, ap (λ (n : ℕ). byte_sum (take n o.entries)) o.i-is),
          omega (arith, length-append (take i o.entries) es, v.pass.count, n, o.i-is, ap (λ (n : ℕ). length (take n o.entries)) o.i-is),
        )

    pub halted : (u : Unread) → u ≡ unread_in (halt_refusal (base + q) (i + at.lines + 1) x) → (left : State) → left ≡ state_left lim z (line_at rest q) → RereadIs lim rest lines base i m from b kept z₀ left (Err u)
    halted u e left l =
        let here : base + byte_sum es ≡ base + q = omega (arith, v.pass.to.bytes) in
        let number : i + length es + 1 ≡ i + at.lines + 1 = omega (arith, v.pass.count) in (
          record {
            es = es;
            halt = x;
            before = z;
            halts-are = stuck;
            why = e ∙ (λ a. unread_in (halt_refusal (sym here a) (sym number a) x));
            read-before = first-lines lim rest z₀ q (length es) es z v.pass.to refl;
            left-is = l ∙ ap (λ (n : ℕ). state_left lim z (line_at rest n)) (sym v.pass.to.bytes);
          },
          λ o.
              let y = stuck-old o in
              (take i o.entries ++ es, x, y.0, e ∙ (λ a. unread_in (halt_refusal (sym y.1 a) (sym y.2 a) x))),
        )

  -- it comes to the end
  pub ended : length rest ≤ q → RereadIs lim rest lines base i m from b kept z₀ z (Ok (End at))
  ended h = (
    es,
    counted v.pass,
    read-end lim z₀ rest q es z v.pass.to h,
    omega (arith, v.pass.inside),
    λ o.
        let g = reread-end lim o.text o.entries o.end o.reads-are o.ed o.begins q es z (v.known o).again (subst (λ (y : List ℕ). length y ≤ q) o.rest-is h) in
        (g.0 ∙ ap (λ (n : ℕ). reads (take n o.entries ++ es) z) (sym o.i-is), g.1 ∙ v.pass.count),
  )

-- A reading of the whole text.

pub halts-as : {lim : LineLimits} {t : List ℕ} {z left : State} {base i : ℕ} {u : Unread} → HaltsIn lim t z base i left u → HaltsAs (read_from lim z (lines_of t)) base i u
halts-as x = (x.es, x.halt, x.halts-are, x.why)

pub halts-whole : {x : Reading} {u : Unread} → HaltsAs x 0 0 u
    → (es : List Entry) × (h : Halt) × (x ≡ halts es h) × (u ≡ unread_in (halt_refusal (byte_sum es) (suc (length es)) h))
halts-whole (es, h, e, w) =
    let p : 0 + byte_sum es ≡ byte_sum es = omega arith in
    let n : 0 + length es + 1 ≡ suc (length es) = omega arith in
    (es, h, e, w ∙ (λ a. unread_in (halt_refusal (p a) (n a) h)))
