-- The edited text read again only where it must be: that is its fresh reading, with as many lines re-read as the stop rule says.
-- Assumes nothing.
use Prim.Native.Nat.{ℕ, suc, ◌+◌, ◌-◌, ◌≤◌, ◌<◌}
use mathlib.Core.Path.{◌≡◌, refl, sym, ap, ◌∙◌}
use mathlib.Core.Bool.{Bool, true, false, not}
use mathlib.Core.List.{List, [], ◌∷◌}
use native.Mathlib.Omega.{arith}
use native.Mathlib.Nat.{zero-add}
use lib.ListN.{length, take, drop, take-append-drop}
use lib.Seq.{drop_at, drop-drop, length-take-le}
use lib.Dec.{ltb}
use borrow.Author.Tests.{ltb-true, le-ltb}
use Rattle.std.specs.Prelude.{if◌then◌else◌}
use Rattle.rules.specs.Lists.{any, run}
use Rattle.rules.specs.Line.{State, initial, LineReply, line_reads, line_halts, read_line}
use Rattle.rules.specs.Reading.{Line, lines_of, count_lf, content, Entry, entry, Reading, reads, halts, with_entry, line_then, read_from, lines_read, byte_sum, state_at}
use Rattle.rules.specs.Limits.{LineLimits, barge_line}
use Rattle.rules.specs.Records.{recorded_by, read_lines}
use Rattle.rules.specs.Page.{Sizes}
use Rattle.rules.specs.StopRule.{Edit, edited, kept_from, Mark, marks_from, marks_of, same_mark, old_mark, is_stop, reread_count}
use Rattle.rules.specs.Edit.{gate, stored, through, outcome}
use Rattle.rules.proofs.ListLaws.{and-true, run-cons}
use Rattle.rules.proofs.LineLaws.{total, next-line, drop_lines, total_take_lines, lfs_lines}
use Rattle.rules.proofs.ReadingLaws.{with_entries, and_then, lines_read_with_entries, read_from_append, parts, read-sizes}
use Rattle.rules.proofs.StopLaws.{mark, marks_append, length_marks, mark-find, Positive, read-positive, line_at_byte, line-at-byte}
use Rattle.rules.proofs.EditedLaws.{drop_edited, same-front}

-- Re-reading, as a loop does it.

-- the lines read again, and the reading from there
pub record Reread : Type 0 where
  pub count : ℕ
  pub reading : Reading

-- a line read again, then the rest
unfoldable pub again : State → Line → LineReply → (State → Reread) → Reread
again s l (line_reads ts z) next = record { count = suc (next z).count; reading = with_entry (entry s (length l) ts) (next z).reading }
again s l (line_halts h) next = record { count = 0; reading = halts [] h }

-- the old lines from the byte on that stands at p in the edited text
unfoldable pub kept_lines : List Entry → Edit → (p : ℕ) → List Entry
kept_lines old ed p = drop (line_at_byte (ed.b + (p - kept_from ed)) (marks_from 0 old)) old

-- lines read again from the state s, the first at p, up to the stop; from there the old lines, which end with the state `end`
unfoldable pub reread : LineLimits → List Entry → (end : State) → Edit → (p : ℕ) → State → List Line → Reread
reread lim old end ed p s [] = record { count = 0; reading = reads [] s }
reread lim old end ed p s (l ∷ ls) =
    if is_stop (marks_from 0 old) ed (mark p s) then record { count = 0; reading = reads (kept_lines old ed p) end }
    else again s l (read_line lim s (content l)) (λ z. reread lim old end ed (p + length l) z ls)

-- the lines before the first to be read again, then these
unfoldable pub mend : LineLimits → List Entry → (end : State) → List ℕ → Edit → Reread
mend lim old end t ed =
    let i : ℕ = count_lf (take ed.a t) in
    let p : ℕ = byte_sum (take i old) in
    let r : Reread = reread lim old end ed p (state_at old end i) (lines_of (drop p (edited t ed))) in
    record { count = r.count; reading = with_entries (take i old) r.reading }

-- the lines from a line start on, once its line is passed
pub pass : (t : List ℕ) (p : ℕ) (l : Line) (ls : List Line) → lines_of (drop p t) ≡ l ∷ ls → lines_of (drop (p + length l) t) ≡ ls
pass t p l ls h = ap lines_of (sym (drop-drop (length l) p t)) ∙ next-line (drop p t) l ls h

-- The count.

-- lines, the first at p, that are passed before the stop
abbrev pub lines_to : (old : List Mark) → Edit → (p : ℕ) → List Entry → ℕ
lines_to old ed p es = run (λ m. not (is_stop old ed m)) (marks_from p es)

if_not : {A : Type 0} (b : Bool) (x y : A) → (if not b then x else y) ≡ (if b then y else x)
if_not true x y = refl
if_not false x y = refl

module _ (old : List Mark) (ed : Edit) where
  pub lines_to-cons : (p : ℕ) (e : Entry) (es : List Entry)
      → lines_to old ed p (e ∷ es) ≡ (if is_stop old ed (mark p e.before) then 0 else suc (lines_to old ed (p + e.size) es))
  unfolding marks_from
  lines_to-cons p e es =
      run-cons (λ m. not (is_stop old ed m)) (mark p e.before) (marks_from (p + e.size) es)
      ∙ if_not (is_stop old ed (mark p e.before)) (suc (lines_to old ed (p + e.size) es)) 0

  lines_to-with_entry : (p : ℕ) (e : Entry) (x : Reading)
      → lines_to old ed p (lines_read (with_entry e x)) ≡ (if is_stop old ed (mark p e.before) then 0 else suc (lines_to old ed (p + e.size) (lines_read x)))
  unfolding lines_read with_entry
  lines_to-with_entry p e (reads es z) = lines_to-cons p e es
  lines_to-with_entry p e (halts es h) = lines_to-cons p e es

module _ (lim : LineLimits) (old : List Entry) (end : State) (ed : Edit) where
  count-step : (p : ℕ) (s : State) (l : Line) (y : LineReply) (f : State → Reread) (next : State → Reading) (v : Reading) (x : Bool)
      → is_stop (marks_from 0 old) ed (mark p s) ≡ x → ((z : State) → (f z).count ≡ lines_to (marks_from 0 old) ed (p + length l) (lines_read (next z)))
      → (if x then record { count = 0; reading = v } else again s l y f).count ≡ lines_to (marks_from 0 old) ed p (lines_read (line_then s l y next))
  unfolding again line_then lines_read marks_from run
  count-step p s l (line_reads ts z) f next v true q h =
      sym (lines_to-with_entry (marks_from 0 old) ed p (entry s (length l) ts) (next z) ∙ rw q)
  count-step p s l (line_reads ts z) f next v false q h =
      ap suc (h z) ∙ sym (lines_to-with_entry (marks_from 0 old) ed p (entry s (length l) ts) (next z) ∙ rw q)
  count-step p s l (line_halts r) f next v true q h = refl
  count-step p s l (line_halts r) f next v false q h = refl

  -- the lines read again are those that the stop rule counts
  pub reread-count : (p : ℕ) (s : State) (ls : List Line) → (reread lim old end ed p s ls).count ≡ lines_to (marks_from 0 old) ed p (lines_read (read_from lim s ls))
  unfolding reread read_from lines_read marks_from run
  reread-count p s [] = refl
  reread-count p s (l ∷ ls) =
      count-step p s l (read_line lim s (content l)) (λ z. reread lim old end ed (p + length l) z ls) (λ z. read_from lim z ls) (reads (kept_lines old ed p) end)
      (is_stop (marks_from 0 old) ed (mark p s)) refl (λ z. reread-count (p + length l) z ls)

  -- at a stop no more lines count
  pub stop-count : (p : ℕ) (s : State) (ls : List Line) → is_stop (marks_from 0 old) ed (mark p s) ≡ true → lines_to (marks_from 0 old) ed p (lines_read (read_from lim s ls)) ≡ 0
  unfolding reread read_from lines_read marks_from run
  stop-count p s [] q = refl
  stop-count p s (l ∷ ls) q = sym (reread-count p s (l ∷ ls)) ∙ rw q

  -- no line start up to a + |w| is a stop
  pub no_stop : (p : ℕ) (s : State) → p ≤ kept_from ed → is_stop (marks_from 0 old) ed (mark p s) ≡ false
  unfolding is_stop
  no_stop p s h = rw (le-ltb (kept_from ed) p h)

-- The reading.

again-reading : (s : State) (l : Line) (y : LineReply) (f : State → Reread) (next : State → Reading)
    → ((z : State) → (f z).reading ≡ next z) → (again s l y f).reading ≡ line_then s l y next
unfolding again line_then
again-reading s l (line_reads ts z) f next h = ap (with_entry (entry s (length l) ts)) (h z)
again-reading s l (line_halts r) f next h = refl

-- The old text t and its reading; an edit that begins in it.
module _ (lim : LineLimits) (t : List ℕ) (old : List Entry) (end : State) (h : read_from lim initial (lines_of t) ≡ reads old end) (ed : Edit) (ha : ed.a ≤ length t) where
  old-positive : Positive old
  old-positive = read-positive lim (lines_of t) t initial old end refl h

  -- at a stop, the old line that starts at the same byte of the kept tail, with the same state
  pub record Kept (p : ℕ) (s : State) : Type 0 where
    pub line : ℕ
    pub inside : line < length old
    pub start : byte_sum (take line old) ≡ ed.b + (p - kept_from ed)
    pub state : s ≡ state_at old end line
    pub lines : kept_lines old ed p ≡ drop line old

  pub stop-kept : (p : ℕ) (s : State) → is_stop (marks_from 0 old) ed (mark p s) ≡ true → (kept_from ed < p) × Kept p s
  unfolding is_stop kept_lines
  stop-kept p s q =
      let b = and-true (ltb (kept_from ed) p) (any (same_mark (old_mark ed (mark p s))) (marks_from 0 old)) q in
      let m = mark-find 0 old end (old_mark ed (mark p s)) b.1 in
      let at : line_at_byte (ed.b + (p - kept_from ed)) (marks_from 0 old) ≡ m.0 =
      ap (λ (x : ℕ). line_at_byte x (marks_from 0 old)) (sym m.2) ∙ line-at-byte 0 old m.0 old-positive m.1 in (
        ltb-true (kept_from ed) p b.0,
        record { line = m.0; inside = m.1; start = sym (zero-add (byte_sum (take m.0 old))) ∙ m.2; state = m.3; lines = ap (λ (n : ℕ). drop n old) at },
      )

  -- from an old line on, the old text reads as its old lines
  old-tail : (i : ℕ) → read_from lim (state_at old end i) (lines_of (drop (byte_sum (take i old)) t)) ≡ reads (drop i old) end
  old-tail i =
      let p = parts lim i initial (lines_of t) old end h in
      ap (λ (n : ℕ). read_from lim (state_at old end i) (lines_of (drop n t))) (sym p.sizes)
      ∙ ap (read_from lim (state_at old end i)) (sym (drop_lines i t)) ∙ p.back

  -- at a stop the rest of the edited text reads as the old lines from there
  pub stop-run : (p : ℕ) (s : State) → is_stop (marks_from 0 old) ed (mark p s) ≡ true → read_from lim s (lines_of (drop p (edited t ed))) ≡ reads (kept_lines old ed p) end
  stop-run p s q =
      let b = stop-kept p s q in
      let k = b.1 in
      ap (λ (x : List ℕ). read_from lim s (lines_of x)) (drop_edited t ed ha p (omega (arith, b.0)) ∙ ap (λ (n : ℕ). drop n t) (sym k.start))
      ∙ ap (λ (z : State). read_from lim z (lines_of (drop (byte_sum (take k.line old)) t))) k.state
      ∙ old-tail k.line ∙ ap (λ (es : List Entry). reads es end) (sym k.lines)

  reading_step : (p : ℕ) (s : State) (l : Line) (ls : List Line) (f : State → Reread) → lines_of (drop p (edited t ed)) ≡ l ∷ ls
      → ((z : State) → (f z).reading ≡ read_from lim z ls) → (x : Bool) → is_stop (marks_from 0 old) ed (mark p s) ≡ x
      → (if x then record { count = 0; reading = reads (kept_lines old ed p) end } else again s l (read_line lim s (content l)) f).reading ≡ read_from lim s (l ∷ ls)
  unfolding read_from
  reading_step p s l ls f hl ih true q = sym (stop-run p s q) ∙ ap (read_from lim s) hl
  reading_step p s l ls f hl ih false q = again-reading s l (read_line lim s (content l)) f (λ z. read_from lim z ls) ih

  -- reading again is reading
  pub reread-reading : (p : ℕ) (s : State) (ls : List Line) → lines_of (drop p (edited t ed)) ≡ ls → (reread lim old end ed p s ls).reading ≡ read_from lim s ls
  unfolding reread read_from
  reread-reading p s [] hl = refl
  reread-reading p s (l ∷ ls) hl =
      reading_step p s l ls (λ z. reread lim old end ed (p + length l) z ls) hl
      (λ z. reread-reading (p + length l) z ls (pass (edited t ed) p l ls hl)) (is_stop (marks_from 0 old) ed (mark p s)) refl

  -- the lines before the first to be read again end within the first a bytes
  pub kept-size : byte_sum (take (count_lf (take ed.a t)) old) ≤ ed.a
  kept-size =
      let h1 : total (take (count_lf (take ed.a t)) (lines_of t)) ≡ byte_sum (take (count_lf (take ed.a t)) old) =
      (parts lim (count_lf (take ed.a t)) initial (lines_of t) old end h).sizes in
      let h2 : total (take (count_lf (take ed.a t)) (lines_of t)) ≤ length (take ed.a t) =
      rw (take-append-drop ed.a t) at (total_take_lines (take ed.a t) (drop ed.a t)) in
      omega (arith, length-take-le ed.a t ha)

  pub kept_length : length (take (count_lf (take ed.a t)) old) ≡ count_lf (take ed.a t)
  kept_length =
      let h1 : count_lf (take ed.a t) ≤ length (lines_of t) = rw (take-append-drop ed.a t) at (lfs_lines (take ed.a t) (drop ed.a t)) in
      length-take-le (count_lf (take ed.a t)) old (omega (arith, (read-sizes lim initial (lines_of t) old end h).0))

  -- they read as before, and end at the same byte
  pub front_reads : read_from lim initial (take (count_lf (take ed.a t)) (lines_of (edited t ed)))
      ≡ reads (take (count_lf (take ed.a t)) old) (state_at old end (count_lf (take ed.a t)))
  front_reads = ap (read_from lim initial) (same-front t ed ha) ∙ (parts lim (count_lf (take ed.a t)) initial (lines_of t) old end h).front

  pub front-size : total (take (count_lf (take ed.a t)) (lines_of (edited t ed))) ≡ byte_sum (take (count_lf (take ed.a t)) old)
  front-size = ap total (same-front t ed ha) ∙ (parts lim (count_lf (take ed.a t)) initial (lines_of t) old end h).sizes

  -- the edited text's reading: the kept lines, then a reading from the old state
  pub fresh_parts : read_from lim initial (lines_of (edited t ed))
      ≡ with_entries (take (count_lf (take ed.a t)) old)
      (read_from lim (state_at old end (count_lf (take ed.a t))) (lines_of (drop (byte_sum (take (count_lf (take ed.a t)) old)) (edited t ed))))
  fresh_parts =
      let i : ℕ = count_lf (take ed.a t) in
      let rest : drop i (lines_of (edited t ed)) ≡ lines_of (drop (byte_sum (take i old)) (edited t ed)) =
      drop_lines i (edited t ed) ∙ ap (λ (n : ℕ). lines_of (drop n (edited t ed))) front-size in
      ap (read_from lim initial) (sym (take-append-drop i (lines_of (edited t ed))))
      ∙ read_from_append lim initial (take i (lines_of (edited t ed))) (drop i (lines_of (edited t ed)))
      ∙ ap (λ r. and_then r (λ z. read_from lim z (drop i (lines_of (edited t ed))))) front_reads
      ∙ ap (λ (ls : List Line). with_entries (take i old) (read_from lim (state_at old end i) ls)) rest

  -- THE MENDED READING is the fresh reading of the edited text, with the same refusal
  pub mend-reading : (mend lim old end t ed).reading ≡ read_from lim initial (lines_of (edited t ed))
  unfolding mend
  mend-reading =
      ap (with_entries (take (count_lf (take ed.a t)) old))
      (reread-reading (byte_sum (take (count_lf (take ed.a t)) old)) (state_at old end (count_lf (take ed.a t)))
      (lines_of (drop (byte_sum (take (count_lf (take ed.a t)) old)) (edited t ed))) refl)
      ∙ sym fresh_parts

  -- the line starts of the edited text from the first line to be read again on
  pub marks-from : drop (count_lf (take ed.a t)) (marks_from 0 (lines_read (read_from lim initial (lines_of (edited t ed)))))
      ≡ marks_from (byte_sum (take (count_lf (take ed.a t)) old))
      (lines_read (read_from lim (state_at old end (count_lf (take ed.a t))) (lines_of (drop (byte_sum (take (count_lf (take ed.a t)) old)) (edited t ed)))))
  marks-from =
      let i : ℕ = count_lf (take ed.a t) in
      let p : ℕ = byte_sum (take i old) in
      let tail : Reading = read_from lim (state_at old end i) (lines_of (drop p (edited t ed))) in
      let n : length (marks_from 0 (take i old)) ≡ i = length_marks 0 (take i old) ∙ kept_length in
      ap (λ (x : Reading). drop i (marks_from 0 (lines_read x))) fresh_parts
      ∙ ap (λ (x : List Entry). drop i (marks_from 0 x)) (lines_read_with_entries (take i old) tail)
      ∙ ap (drop i) (marks_append 0 (take i old) (lines_read tail))
      ∙ drop_at (marks_from 0 (take i old)) (marks_from (0 + p) (lines_read tail)) i n
      ∙ ap (λ (x : ℕ). marks_from x (lines_read tail)) (zero-add p)

-- the stop rule's count, from the first line to be read again on
pub count-from : (lim : LineLimits) (t : List ℕ) (old : List Entry) (end : State) → read_from lim initial (lines_of t) ≡ reads old end → (ed : Edit) → ed.a ≤ length t
    → reread_count lim t ed
    ≡ lines_to (marks_from 0 old) ed (byte_sum (take (count_lf (take ed.a t)) old))
    (lines_read (read_from lim (state_at old end (count_lf (take ed.a t))) (lines_of (drop (byte_sum (take (count_lf (take ed.a t)) old)) (edited t ed)))))
unfolding reread_count marks_of lines_read
count-from lim t old end h ed ha =
    ap (λ (x : Reading). run (λ m. not (is_stop (marks_from 0 (lines_read x)) ed m)) (drop (count_lf (take ed.a t)) (marks_of lim (edited t ed)))) h
    ∙ ap (run (λ m. not (is_stop (marks_from 0 old) ed m))) (marks-from lim t old end h ed ha)

-- THE MENDED COUNT is the stop rule's
pub mend-count : (lim : LineLimits) (t : List ℕ) (old : List Entry) (end : State) → read_from lim initial (lines_of t) ≡ reads old end
    → (ed : Edit) → ed.a ≤ length t → (mend lim old end t ed).count ≡ reread_count lim t ed
unfolding mend
mend-count lim t old end h ed ha =
    let i : ℕ = count_lf (take ed.a t) in
    let p : ℕ = byte_sum (take i old) in
    reread-count lim old end ed p (state_at old end i) (lines_of (drop p (edited t ed))) ∙ sym (count-from lim t old end h ed ha)

-- The outcome, from the mended reading.
pub outcome-mend : (z : Sizes) (t : List ℕ) (ed : Edit) (old : List Entry) (end : State) → read_from barge_line initial (lines_of t) ≡ reads old end → ed.a ≤ length t
    → outcome z t ed ≡ through (gate z t ed) (stored z (mend barge_line old end t ed).count (recorded_by (mend barge_line old end t ed).reading))
unfolding outcome read_lines
outcome-mend z t ed old end h ha =
    rw (mend-count barge_line t old end h ed ha, mend-reading barge_line t old end h ed ha)
