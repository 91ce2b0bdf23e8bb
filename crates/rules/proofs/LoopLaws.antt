-- A reading one line at a time, by byte positions, as a loop goes: a whole text, and an edited text from the first line to be read again.
-- Assumes nothing.
use Prim.Native.Nat.{ℕ, zero, suc, ◌+◌, ◌-◌, ◌*◌, ◌≤◌, ◌<◌, suc-le-suc}
use mathlib.Core.Path.{◌≡◌, refl, sym, ap, ◌∙◌}
use mathlib.Core.Bool.{Bool, true, false}
use mathlib.Core.List.{List, [], ◌∷◌, ◌++◌, append_assoc, append-nil}
use native.Mathlib.Omega.{arith}
use native.Mathlib.Nat.{add-zero, zero-add, add_assoc}
use lib.ListN.{length, take, drop, length-append, take-append-drop, drop_of_length-le}
use lib.Seq.{take_at, take-nil, drop-drop, length-take-le, take-append-le, drop-append-le}
use borrow.Author.Tests.{lt-ltb}
use Rattle.std.specs.Prelude.{if◌then◌else◌}
use Rattle.rules.specs.Lists.{any, run}
use Rattle.rules.specs.Line.{State, initial, Token, Halt, line_reads, line_halts, read_line}
use Rattle.rules.specs.Reading.{Line, lines_of, content, Entry, entry, Reading, reads, halts, read_from, lines_read, byte_sum, token_sum, state_at, line_at, size_at}
use Rattle.rules.specs.Limits.{LineLimits}
use Rattle.rules.specs.Records.{line_size, token_size, line_records, token_records, end_entry, with_end, records_of}
use Rattle.rules.specs.StopRule.{Edit, edited, kept_from, marks_from, same_state, same_mark, is_stop, reread_count, from_line, from_byte, from_state}
use Rattle.rules.proofs.LineLaws.{total, total-lines, drop_lines, first_size-le, lines_at, content-first}
use Rattle.rules.proofs.ReadingLaws.{with_entries, and_then, with_entries-reads, with_entries-halts, lines_read_with_entries, read_from_append, read_more, read-halts, parts, read-sizes, byte_sum_append}
use Rattle.rules.proofs.StopLaws.{mark, read-positive, mark-at}
use Rattle.rules.proofs.EditedLaws.{length_edited, old-start}
use Rattle.rules.proofs.MendLaws.{kept_lines, lines_to, lines_to-cons, fresh_parts, front_reads, front-size, stop-run, stop-count, count-from}
use Rattle.rules.proofs.MovedLaws.{move_lines, move_tokens, mended-lines, mended-tokens}

-- Reading t from the state s has come to byte p with the lines es and the state z.
pub record ReadTo (lim : LineLimits) (s : State) (t : List ℕ) (p : ℕ) (es : List Entry) (z : State) : Type 0 where
  pub lines : List Line
  pub split : lines_of t ≡ lines ++ lines_of (drop p t)
  pub reads-are : read_from lim s lines ≡ reads es z
  pub bytes : byte_sum es ≡ p

module _ (lim : LineLimits) (s : State) (t : List ℕ) where
  pub read-start : ReadTo lim s t 0 [] s
  unfolding read_from byte_sum
  read-start = record { lines = []; split = refl; reads-are = refl; bytes = refl }

  module _ (p : ℕ) (es : List Entry) (z : State) (r : ReadTo lim s t p es z) where
    pub read-end : length t ≤ p → read_from lim s (lines_of t) ≡ reads es z
    unfolding lines_of
    read-end h =
        let e : lines_of t ≡ r.lines = r.split ∙ ap (λ (x : List ℕ). r.lines ++ lines_of x) (drop_of_length-le t h) ∙ append-nil r.lines in
        ap (read_from lim s) e ∙ r.reads-are

    split-more : p < length t → lines_of t ≡ r.lines ++ (take (size_at t p) (drop p t) ∷ lines_of (drop (p + size_at t p) t))
    split-more h = r.split ∙ ap (λ (x : List Line). r.lines ++ x) (lines_at t p h)

    size_of : length (take (size_at t p) (drop p t)) ≡ size_at t p
    size_of = length-take-le (size_at t p) (drop p t) (first_size-le (drop p t))

    pub read-line : (ts : List Token) (z' : State) → p < length t → read_line lim z (line_at t p) ≡ line_reads ts z'
        → ReadTo lim s t (p + size_at t p) (es ++ (entry z (size_at t p) ts ∷ [])) z'
    unfolding byte_sum
    read-line ts z' h e =
        let l : Line = take (size_at t p) (drop p t) in
        let e2 : read_line lim z (content l) ≡ line_reads ts z' = ap (read_line lim z) (content-first (drop p t)) ∙ e in
        record {
          lines = r.lines ++ (l ∷ []);
          split = split-more h ∙ sym (append_assoc r.lines (l ∷ []) (lines_of (drop (p + size_at t p) t)));
          reads-are = read_more lim s r.lines es z l ts z' r.reads-are e2
              ∙ ap (λ (n : ℕ). reads (es ++ (entry z n ts ∷ [])) z') size_of;
          bytes = byte_sum_append es (entry z (size_at t p) ts ∷ []) ∙ omega (arith, r.bytes);
        }

    pub read-stuck : (h : Halt) → p < length t → read_line lim z (line_at t p) ≡ line_halts h → read_from lim s (lines_of t) ≡ halts es h
    read-stuck x h e =
        let l : Line = take (size_at t p) (drop p t) in
        let e2 : read_line lim z (content l) ≡ line_halts x = ap (read_line lim z) (content-first (drop p t)) ∙ e in
        ap (read_from lim s) (split-more h) ∙ read-halts lim s r.lines es z l (lines_of (drop (p + size_at t p) t)) x r.reads-are e2

    -- p is where the next line starts
    pub read-position : total (take (length es) (lines_of t)) ≡ p
    read-position =
        let n = read-sizes lim s r.lines es z r.reads-are in
        ap (λ (x : List Line). total (take (length es) x)) r.split ∙ ap total (take_at r.lines (lines_of (drop p t)) (length es) (sym n.0)) ∙ sym n.1 ∙ r.bytes

    -- what is left reads from z
    pub read-rest : read_from lim s (lines_of t) ≡ with_entries es (read_from lim z (lines_of (drop p t)))
    read-rest =
        ap (read_from lim s) r.split ∙ read_from_append lim s r.lines (lines_of (drop p t))
        ∙ ap (λ (x : Reading). and_then x (λ y. read_from lim y (lines_of (drop p t)))) r.reads-are

-- Re-reading: the old text t with its reading, and the edited text from the first line to be read again on.
module _ (lim : LineLimits) (t : List ℕ) (old : List Entry) (end : State) (h : read_from lim initial (lines_of t) ≡ reads old end) (ed : Edit) (ha : ed.a ≤ length t) where
  -- where it begins
  abbrev line : ℕ
  line = from_line t ed

  abbrev byte : ℕ
  byte = from_byte t old ed

  abbrev state : State
  state = from_state t old end ed

  -- re-reading has come q bytes on, past lines es at none of which it stops, to the state z
  pub record RereadTo (q : ℕ) (es : List Entry) (z : State) : Type 0 where
    pub to : ReadTo lim state (drop byte (edited t ed)) q es z
    pub counted : (ys : List Entry) → lines_to (marks_from 0 old) ed byte (es ++ ys) ≡ length es + lines_to (marks_from 0 old) ed (byte + q) ys

  pub reread-start : RereadTo 0 [] state
  reread-start =
      record {
        to = read-start lim state (drop byte (edited t ed));
        counted = λ ys. ap (λ (n : ℕ). lines_to (marks_from 0 old) ed n ys) (sym (add-zero byte)) ∙ omega arith;
      }

  -- the whole reading, at a position of the re-reading
  module _ (q : ℕ) (es : List Entry) (z : State) (r : RereadTo q es z) where
    abbrev rest : Reading
    rest = read_from lim z (lines_of (drop q (drop byte (edited t ed))))

    whole_is : read_from lim initial (lines_of (edited t ed)) ≡ with_entries (take line old) (with_entries es rest)
    whole_is =
        fresh_parts lim t old end h ed ha
        ∙ ap (with_entries (take line old)) (read-rest lim state (drop byte (edited t ed)) q es z r.to)

    count-is : reread_count lim t ed ≡ length es + lines_to (marks_from 0 old) ed (byte + q) (lines_read rest)
    count-is =
        count-from lim t old end h ed ha
        ∙ ap (λ (x : Reading). lines_to (marks_from 0 old) ed byte (lines_read x)) (read-rest lim state (drop byte (edited t ed)) q es z r.to)
        ∙ ap (lines_to (marks_from 0 old) ed byte) (lines_read_with_entries es rest) ∙ r.counted (lines_read rest)

    -- it is a reading of the edited text from its start
    pub reread-whole : ReadTo lim initial (edited t ed) (byte + q) (take line old ++ es) z
    reread-whole =
        let u : List ℕ = edited t ed in
        let i : ℕ = line in
        let tail : drop i (lines_of u) ≡ r.to.lines ++ lines_of (drop (byte + q) u) =
        drop_lines i u ∙ ap (λ (n : ℕ). lines_of (drop n u)) (front-size lim t old end h ed ha)
        ∙ r.to.split ∙ ap (λ (x : List ℕ). r.to.lines ++ lines_of x) (drop-drop q byte u) in
        record {
          lines = take i (lines_of u) ++ r.to.lines;
          split = sym (take-append-drop i (lines_of u)) ∙ ap (λ (x : List Line). take i (lines_of u) ++ x) tail
              ∙ sym (append_assoc (take i (lines_of u)) r.to.lines (lines_of (drop (byte + q) u)));
          reads-are = read_from_append lim initial (take i (lines_of u)) r.to.lines
              ∙ ap (λ (x : Reading). and_then x (λ y. read_from lim y r.to.lines)) (front_reads lim t old end h ed ha)
              ∙ ap (with_entries (take i old)) r.to.reads-are ∙ with_entries-reads (take i old) es z;
          bytes = byte_sum_append (take i old) es ∙ ap (λ (n : ℕ). byte + n) r.to.bytes;
        }

    -- beyond the inserted bytes and before the end, the stop rule compares with the state of the old line that starts at the same byte
    pub reread_test : ed.a ≤ ed.b → ed.b ≤ length t → kept_from ed < byte + q → byte + q < length (edited t ed)
        → (i : ℕ) × (i < length old) × (byte_sum (take i old) ≡ ed.b + (byte + q - kept_from ed))
        × (is_stop (marks_from 0 old) ed (mark (byte + q) z) ≡ same_state z (state_at old end i))
    unfolding is_stop byte_sum
    reread_test hab hb hf hp =
        let w : ReadTo lim initial (edited t ed) (byte + q) (take line old ++ es) z = reread-whole in
        let s = old-start t ed hab hb (length (take line old ++ es)) (byte + q)
        (read-position lim initial (edited t ed) (byte + q) (take line old ++ es) z w) hf hp in
        let start : byte_sum (take s.0 old) ≡ ed.b + (byte + q - kept_from ed) = sym (parts lim s.0 initial (lines_of t) old end h).sizes ∙ s.1 in
        let n : byte_sum old ≡ length t = (read-sizes lim initial (lines_of t) old end h).1 ∙ total-lines t in
        let lt : s.0 < length old = inside old s.0 (omega (arith, length_edited t ed ha)) in
        let old-start-is : 0 + byte_sum (take s.0 old) ≡ ed.b + (byte + q - kept_from ed) = zero-add (byte_sum (take s.0 old)) ∙ start in (
          s.0,
          lt,
          start,
          rw (lt-ltb (kept_from ed) (byte + q) hf)
              (ap (λ (x : ℕ). any (same_mark (mark x z)) (marks_from 0 old)) (sym old-start-is)
              ∙ mark-at 0 old end s.0 z (read-positive lim (lines_of t) t initial old end refl h) lt),
        )
      where
        inside : (es : List Entry) (i : ℕ) → byte_sum (take i es) < byte_sum es → i < length es
        inside [] i x = absurd (omega (arith, ap byte_sum (take-nil i)))
        inside (e ∷ es) zero x = omega arith
        inside (e ∷ es) (suc i) x = suc-le-suc (inside es i (omega arith))

    -- the next line is read
    pub reread-line : (ts : List Token) (z' : State) → q < length (drop byte (edited t ed)) → is_stop (marks_from 0 old) ed (mark (byte + q) z) ≡ false
        → read_line lim z (line_at (drop byte (edited t ed)) q) ≡ line_reads ts z'
        → RereadTo (q + size_at (drop byte (edited t ed)) q) (es ++ (entry z (size_at (drop byte (edited t ed)) q) ts ∷ [])) z'
    reread-line ts z' hq no_stop e =
        let u : List ℕ = drop byte (edited t ed) in
        let n : ℕ = size_at u q in
        record {
          to = read-line lim state u q es z r.to ts z' hq e;
          counted = λ ys.
              ap (lines_to (marks_from 0 old) ed byte) (append_assoc es (entry z n ts ∷ []) ys) ∙ r.counted (entry z n ts ∷ ys)
              ∙ ap (λ (x : ℕ). length es + x) (lines_to-cons (marks_from 0 old) ed (byte + q) (entry z n ts) ys)
              ∙ ap (λ (x : Bool). length es + (if x then 0 else suc (lines_to (marks_from 0 old) ed (byte + q + n) ys))) no_stop
              ∙ ap (λ (x : ℕ). length es + suc (lines_to (marks_from 0 old) ed x ys)) (add_assoc byte q n)
              ∙ omega (arith, length-append es (entry z n ts ∷ []));
        }

    -- it stops here: from here on the old lines
    pub reread-stop : is_stop (marks_from 0 old) ed (mark (byte + q) z) ≡ true
        → (read_from lim initial (lines_of (edited t ed)) ≡ reads (take line old ++ (es ++ kept_lines old ed (byte + q))) end) × (reread_count lim t ed ≡ length es)
    reread-stop x =
        let d : drop q (drop byte (edited t ed)) ≡ drop (byte + q) (edited t ed) = drop-drop q byte (edited t ed) in
        let k : rest ≡ reads (kept_lines old ed (byte + q)) end =
        ap (λ (y : List ℕ). read_from lim z (lines_of y)) d ∙ stop-run lim t old end h ed ha (byte + q) z x in (
          whole_is ∙ ap (λ (y : Reading). with_entries (take line old) (with_entries es y)) k
              ∙ ap (with_entries (take line old)) (with_entries-reads es (kept_lines old ed (byte + q)) end)
              ∙ with_entries-reads (take line old) (es ++ kept_lines old ed (byte + q)) end,
          count-is
              ∙ ap (λ (n : ℕ). length es + n) (stop-count lim old end ed (byte + q) z (lines_of (drop q (drop byte (edited t ed)))) x)
              ∙ add-zero (length es),
        )

    -- it comes to the end
    pub reread-end : length (drop byte (edited t ed)) ≤ q
        → (read_from lim initial (lines_of (edited t ed)) ≡ reads (take line old ++ es) z) × (reread_count lim t ed ≡ length es)
    unfolding read_from lines_of run marks_from lines_read
    reread-end x =
        let k : rest ≡ reads [] z = ap (λ (y : List ℕ). read_from lim z (lines_of y)) (drop_of_length-le (drop byte (edited t ed)) x) in (
          whole_is ∙ ap (λ (y : Reading). with_entries (take line old) (with_entries es y)) k
              ∙ ap (with_entries (take line old)) (with_entries-reads es [] z ∙ ap (λ (y : List Entry). reads y z) (append-nil es))
              ∙ with_entries-reads (take line old) es z,
          count-is ∙ ap (λ (y : Reading). length es + lines_to (marks_from 0 old) ed (byte + q) (lines_read y)) k ∙ add-zero (length es),
        )

    -- the next line does not read
    pub reread-stuck : (x : Halt) → q < length (drop byte (edited t ed)) → read_line lim z (line_at (drop byte (edited t ed)) q) ≡ line_halts x
        → read_from lim initial (lines_of (edited t ed)) ≡ halts (take line old ++ es) x
    reread-stuck x hq e =
        fresh_parts lim t old end h ed ha
        ∙ ap (with_entries (take line old)) (read-stuck lim state (drop byte (edited t ed)) q es z r.to x hq e)
        ∙ with_entries-halts (take line old) es x

-- The records at a stop: those of the old lines before line i, those of the new lines, and those of the old lines from j on, moved.

pub with_end_lem : (old new : List Entry) (end : State) (i j : ℕ) → j ≤ length old
    → with_end (take i old ++ (new ++ drop j old)) end ≡ take i old ++ (new ++ drop j (with_end old end))
with_end_lem old new end i j hj =
    append_assoc (take i old) (new ++ drop j old) (end_entry end ∷ [])
    ∙ ap (λ (x : List Entry). take i old ++ x) (append_assoc new (drop j old) (end_entry end ∷ []))
    ∙ rw (drop-append-le j old (end_entry end ∷ []) hj)

module _ (old new : List Entry) (end : State) (i j : ℕ) (hi : i ≤ length old) (hj : j ≤ length old) where
  within_end : length old ≤ length (with_end old end)
  within_end = omega (arith, length-append old (end_entry end ∷ []))

  take_end : take i (with_end old end) ≡ take i old
  take_end = take-append-le i old (end_entry end ∷ []) hi

  take_end' : take j (with_end old end) ≡ take j old
  take_end' = take-append-le j old (end_entry end ∷ []) hj

  pub mended-line-records : (records_of (take i old ++ (new ++ drop j old)) end).lines
      ≡ take (line_size * i) (records_of old end).lines
      ++ (line_records (byte_sum (take i old)) (token_sum (take i old)) new
      ++ move_lines (byte_sum (take j old)) (byte_sum (take i old) + byte_sum new) (token_sum (take j old)) (token_sum (take i old) + token_sum new) (length (drop j (with_end old end)))
      (drop (line_size * j) (records_of old end).lines))
  unfolding records_of
  mended-line-records =
      ap (line_records 0 0) (with_end_lem old new end i j hj)
      ∙ (rw (take_end, take_end') at (mended-lines (with_end old end) new i j (omega (arith, within_end)) (omega (arith, within_end))))

  pub mended-token-records : (records_of (take i old ++ (new ++ drop j old)) end).tokens
      ≡ take (token_size * token_sum (take i old)) (records_of old end).tokens
      ++ (token_records (byte_sum (take i old)) (1 + i) new
      ++ move_tokens (byte_sum (take j old)) (byte_sum (take i old) + byte_sum new) (1 + j) (1 + i + length new) (token_sum (drop j (with_end old end)))
      (drop (token_size * token_sum (take j old)) (records_of old end).tokens))
  unfolding records_of
  mended-token-records =
      ap (token_records 0 1) (with_end_lem old new end i j hj)
      ∙ (rw (take_end, take_end') at (mended-tokens (with_end old end) new i j (omega (arith, within_end)) (omega (arith, within_end))))
