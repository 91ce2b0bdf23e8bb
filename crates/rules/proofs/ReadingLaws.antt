-- Laws of a reading: lines after lines, one line more, cut in two; its sizes.
-- Assumes nothing.
use Prim.Native.Nat.{ℕ, zero, suc, ◌+◌}
use mathlib.Core.Path.{◌≡◌, refl, ap, ◌∙◌, fun_ext}
use mathlib.Core.List.{List, [], ◌∷◌, ◌++◌, append-nil}
use native.Mathlib.Omega.{arith}
use lib.ListN.{length, take, drop}
use Rattle.rules.specs.Limits.{LineLimits}
use Rattle.rules.specs.Line.{State, Token, Halt, LineReply, line_reads, line_halts, read_line}
use Rattle.rules.specs.Reading.{Line, lines_of, content, Entry, entry, Reading, reads, halts, with_entry, line_then, read_from, lines_read, byte_sum, token_sum, state_at}
use Rattle.rules.proofs.LineLaws.{total, lines_append}

-- Lines after lines.

abbrev pub with_entries : List Entry → Reading → Reading
with_entries [] x = x
with_entries (e ∷ es) x = with_entry e (with_entries es x)

-- a reading, then what follows from the state reached
abbrev pub and_then : Reading → (State → Reading) → Reading
and_then (reads es s) next = with_entries es (next s)
and_then (halts es h) next = halts es h

with_entry_and_then : (e : Entry) (x : Reading) (next : State → Reading) → with_entry e (and_then x next) ≡ and_then (with_entry e x) next
unfolding with_entry
with_entry_and_then e (reads es s) next = refl
with_entry_and_then e (halts es h) next = refl

line_and_then : (s : State) (l : Line) (y : LineReply) (f next : State → Reading) → line_then s l y (λ z. and_then (f z) next) ≡ and_then (line_then s l y f) next
unfolding line_then
line_and_then s l (line_reads ts z) f next = with_entry_and_then (entry s (length l) ts) (f z) next
line_and_then s l (line_halts h) f next = refl

lines_read_with_entry : (e : Entry) (x : Reading) → lines_read (with_entry e x) ≡ e ∷ lines_read x
unfolding lines_read with_entry
lines_read_with_entry e (reads es s) = refl
lines_read_with_entry e (halts es h) = refl

pub lines_read_with_entries : (es : List Entry) (x : Reading) → lines_read (with_entries es x) ≡ es ++ lines_read x
lines_read_with_entries [] x = refl
lines_read_with_entries (e ∷ es) x = lines_read_with_entry e (with_entries es x) ∙ ap (λ (r : List Entry). e ∷ r) (lines_read_with_entries es x)

pub with_entries-reads : (es fs : List Entry) (s : State) → with_entries es (reads fs s) ≡ reads (es ++ fs) s
unfolding with_entry
with_entries-reads [] fs s = refl
with_entries-reads (e ∷ es) fs s = ap (with_entry e) (with_entries-reads es fs s)

pub with_entries-halts : (es fs : List Entry) (h : Halt) → with_entries es (halts fs h) ≡ halts (es ++ fs) h
unfolding with_entry
with_entries-halts [] fs h = refl
with_entries-halts (e ∷ es) fs h = ap (with_entry e) (with_entries-halts es fs h)

module _ (lim : LineLimits) where
  -- lines after lines are read from the state reached
  pub read_from_append : (s : State) (xs ys : List Line) → read_from lim s (xs ++ ys) ≡ and_then (read_from lim s xs) (λ z. read_from lim z ys)
  unfolding read_from
  read_from_append s [] ys = refl
  read_from_append s (l ∷ xs) ys =
      ap (line_then s l (read_line lim s (content l))) (fun_ext (λ z. read_from_append z xs ys))
      ∙ line_and_then s l (read_line lim s (content l)) (λ z. read_from lim z xs) (λ z. read_from lim z ys)

  -- a text after one that ends with LF
  pub read-split : (s : State) (u v : List ℕ)
      → read_from lim s (lines_of (u ++ 10 ∷ v)) ≡ and_then (read_from lim s (lines_of (u ++ 10 ∷ []))) (λ z. read_from lim z (lines_of v))
  read-split s u v = ap (read_from lim s) (lines_append u v) ∙ read_from_append s (lines_of (u ++ 10 ∷ [])) (lines_of v)

  -- one line more, read or not
  pub read_more : (s : State) (xs : List Line) (es : List Entry) (z : State) (l : Line) (ts : List Token) (z' : State)
      → read_from lim s xs ≡ reads es z → read_line lim z (content l) ≡ line_reads ts z' → read_from lim s (xs ++ l ∷ []) ≡ reads (es ++ entry z (length l) ts ∷ []) z'
  unfolding with_entry line_then read_from
  read_more s xs es z l ts z' h e = read_from_append s xs (l ∷ []) ∙ rw (h, e) (with_entries-reads es _ z')

  pub read-halts : (s : State) (xs : List Line) (es : List Entry) (z : State) (l : Line) (ys : List Line) (r : Halt)
      → read_from lim s xs ≡ reads es z → read_line lim z (content l) ≡ line_halts r → read_from lim s (xs ++ l ∷ ys) ≡ halts es r
  unfolding read_from line_then
  read-halts s xs es z l ys r h e =
      read_from_append s xs (l ∷ ys) ∙ rw (h, e) (with_entries-halts es [] r ∙ ap (λ (x : List Entry). halts x r) (append-nil es))

  -- what a reading of a first line and more says, where it reads
  pub record Step (s : State) (l : Line) (y : LineReply) (next : State → Reading) (es : List Entry) (z : State) : Type 0 where
    pub ts : List Token
    pub mid : State
    pub rest : List Entry
    pub line-is : y ≡ line_reads ts mid
    pub rest-is : next mid ≡ reads rest z
    pub entries-are : es ≡ entry s (length l) ts ∷ rest

  pub step : (s : State) (l : Line) (y : LineReply) (next : State → Reading) (es : List Entry) (z : State) → line_then s l y next ≡ reads es z → Step s l y next es z
  unfolding with_entry line_then
  step s l (line_halts h) next es z e = let n : ◌≡◌ {A = ℕ} 0 1 = cc in absurd (omega arith)
  step s l (line_reads ts mid) next es z e = go (next mid) refl e
    where
      go : (x : Reading) → next mid ≡ x → with_entry (entry s (length l) ts) x ≡ reads es z → Step s l (line_reads ts mid) next es z
      go (reads fs f) q p = record { ts = ts; mid = mid; rest = fs; line-is = refl; rest-is = q ∙ (cc); entries-are = (cc) }
      go (halts fs r) q p = let n : ◌≡◌ {A = ℕ} 0 1 = cc in absurd (omega arith)

  -- a reading cut after its first i lines
  pub record Parts (s : State) (ls : List Line) (es : List Entry) (z : State) (i : ℕ) : Type 0 where
    pub front : read_from lim s (take i ls) ≡ reads (take i es) (state_at es z i)
    pub back : read_from lim (state_at es z i) (drop i ls) ≡ reads (drop i es) z
    pub sizes : total (take i ls) ≡ byte_sum (take i es)

  pub parts : (i : ℕ) (s : State) (ls : List Line) (es : List Entry) (z : State) → read_from lim s ls ≡ reads es z → Parts s ls es z i
  unfolding with_entry line_then read_from byte_sum
  parts i s [] es z h =
      let c : es ≡ [] = cc in
      let d : s ≡ z = cc in
      rw (c, d) (none i)
    where
      none : (i : ℕ) → Parts z [] [] z i
      none zero = record { front = refl; back = refl; sizes = refl }
      none (suc i) = record { front = refl; back = refl; sizes = refl }
  parts zero s (l ∷ ls) es z h =
      let st = step s l (read_line lim s (content l)) (λ y. read_from lim y ls) es z h in
      rw st.entries-are record { front = refl; back = h ∙ ap (λ (r : List Entry). reads r z) st.entries-are; sizes = refl }
  parts (suc i) s (l ∷ ls) es z h =
      let st = step s l (read_line lim s (content l)) (λ y. read_from lim y ls) es z h in
      let ih = parts i st.mid ls st.rest z st.rest-is in
      rw st.entries-are record {
        front = ap (λ y. line_then s l y (λ z. read_from lim z (take i ls))) st.line-is
            ∙ ap (with_entry (entry s (length l) st.ts)) ih.front;
        back = ih.back;
        sizes = ap (λ (n : ℕ). length l + n) ih.sizes;
      }

  -- an entry for each line, of its size
  pub read-sizes : (s : State) (ls : List Line) (es : List Entry) (z : State) → read_from lim s ls ≡ reads es z → (length es ≡ length ls) × (byte_sum es ≡ total ls)
  unfolding read_from byte_sum
  read-sizes s [] es z h =
      let c : es ≡ [] = cc in
      rw c (refl, refl)
  read-sizes s (l ∷ ls) es z h =
      let st = step s l (read_line lim s (content l)) (λ y. read_from lim y ls) es z h in
      let ih = read-sizes st.mid ls st.rest z st.rest-is in
      rw st.entries-are (ap suc ih.0, ap (λ (n : ℕ). length l + n) ih.1)

-- Sums.

pub byte_sum_append : (xs ys : List Entry) → byte_sum (xs ++ ys) ≡ byte_sum xs + byte_sum ys
unfolding byte_sum
byte_sum_append [] ys = omega arith
byte_sum_append (e ∷ xs) ys = omega (arith, byte_sum_append xs ys)

pub token_sum_append : (xs ys : List Entry) → token_sum (xs ++ ys) ≡ token_sum xs + token_sum ys
unfolding token_sum
token_sum_append [] ys = omega arith
token_sum_append (e ∷ xs) ys = omega (arith, token_sum_append xs ys)
