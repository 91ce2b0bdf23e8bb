-- Laws of records: their sizes, split at a line, one record at an index; the records of a text that reads.
-- Assumes nothing.
use Prim.Native.Nat.{ℕ, zero, suc, ◌+◌, ◌*◌, ◌≤◌}
use mathlib.Core.Path.{◌≡◌, refl, sym, ap, ◌∙◌}
use mathlib.Core.List.{List, [], ◌∷◌, ◌++◌, append_assoc}
use native.Mathlib.Omega.{arith}
use native.Mathlib.Nat.{add-zero, zero-add, add_assoc}
use lib.ListN.{length, take, drop, replicate, length-append, take-append-drop}
use lib.Seq.{drop_at, take_at, take-append-le, length-take-le}
use Rattle.rules.specs.Line.{State, initial, Token}
use Rattle.rules.specs.Reading.{lines_of, Entry, Reading, reads, halts, read_from, byte_sum, token_sum, state_at}
use Rattle.rules.specs.Limits.{LineLimits, barge_line}
use Rattle.rules.specs.Records.{width_words, line_size, token_size, line_need, token_need, packed, state_words, line_record, token_words, line_records, token_records, end_entry, with_end, header, Records, records_of, recorded, recorded_by, read_lines, Behind}
use Rattle.rules.proofs.LineLaws.{total-lines}
use Rattle.rules.proofs.ReadingLaws.{read-sizes}

-- words of a state
abbrev pub state_size : ℕ
state_size = 3 + width_words

pub length_packed : (ws : List ℕ) → length (packed ws) ≡ width_words
unfolding packed
length_packed ws = length-take-le width_words (ws ++ replicate width_words 0) (omega (arith, length-append ws (replicate width_words 0)))

pub length_state_words : (s : State) → length (state_words s) ≡ state_size
unfolding state_words
length_state_words s = ap (λ (n : ℕ). suc (suc (suc n))) (length_packed s.widths)

pub line_records_append : (p k : ℕ) (xs ys : List Entry) → line_records p k (xs ++ ys) ≡ line_records p k xs ++ line_records (p + byte_sum xs) (k + token_sum xs) ys
unfolding line_records byte_sum token_sum
line_records_append p k [] ys = rw (add-zero p, add-zero k)
line_records_append p k (e ∷ xs) ys =
    ap (λ (r : List ℕ). line_record p k e.before ++ r)
    (line_records_append (p + e.size) (k + length e.tokens) xs ys ∙ rw (add_assoc p, add_assoc k))
    ∙ sym (append_assoc (line_record p k e.before) (line_records (p + e.size) (k + length e.tokens) xs) _)

pub length_line_records : (p k : ℕ) (es : List Entry) → length (line_records p k es) ≡ line_size * length es
unfolding line_record line_records
length_line_records p k [] = refl
length_line_records p k (e ∷ es) =
    length-append (line_record p k e.before) _ ∙ omega (arith, length_line_records (p + e.size) (k + length e.tokens) es, length_state_words e.before)

-- the words from line record j on, and those before
pub line_records_drop : (p k j : ℕ) (es : List Entry) → j ≤ length es
    → drop (line_size * j) (line_records p k es) ≡ line_records (p + byte_sum (take j es)) (k + token_sum (take j es)) (drop j es)
line_records_drop p k j es h =
    ap (λ (x : List Entry). drop (line_size * j) (line_records p k x)) (sym (take-append-drop j es))
    ∙ ap (drop (line_size * j)) (line_records_append p k (take j es) (drop j es))
    ∙ drop_at (line_records p k (take j es)) _ (line_size * j) (length_line_records p k (take j es) ∙ omega (arith, length-take-le j es h))

pub line_records_take : (p k j : ℕ) (es : List Entry) → j ≤ length es → take (line_size * j) (line_records p k es) ≡ line_records p k (take j es)
line_records_take p k j es h =
    ap (λ (x : List Entry). take (line_size * j) (line_records p k x)) (sym (take-append-drop j es))
    ∙ ap (take (line_size * j)) (line_records_append p k (take j es) (drop j es))
    ∙ take_at (line_records p k (take j es)) _ (line_size * j) (length_line_records p k (take j es) ∙ omega (arith, length-take-le j es h))

-- line record i, that of the end included
pub record_at : (es : List Entry) (end : State) (i : ℕ) → i ≤ length es
    → take line_size (drop (line_size * i) (line_records 0 0 (with_end es end))) ≡ line_record (byte_sum (take i es)) (token_sum (take i es)) (state_at es end i)
unfolding line_record line_records
record_at es end i h =
    let n : length (with_end es end) ≡ suc (length es) = omega (arith, length-append es (end_entry end ∷ [])) in
    let t : take i (with_end es end) ≡ take i es = take-append-le i es (end_entry end ∷ []) h in
    ap (take line_size) (line_records_drop 0 0 i (with_end es end) (omega arith))
    ∙ rw (t, zero-add (byte_sum (take i es)), zero-add (token_sum (take i es))) (first es i h)
  where
    first : (fs : List Entry) (j : ℕ) → j ≤ length fs → {p k : ℕ} → take line_size (line_records p k (drop j (with_end fs end))) ≡ line_record p k (state_at fs end j)
    first [] zero hj {p} {k} = take_at (line_record p k end) [] line_size (ap (λ (n : ℕ). suc (suc n)) (length_state_words end))
    first [] (suc j) hj = absurd (omega arith)
    first (e ∷ fs) zero hj {p} {k} =
        take_at (line_record p k e.before) (line_records (p + e.size) (k + length e.tokens) (with_end fs end)) line_size
        (ap (λ (n : ℕ). suc (suc n)) (length_state_words e.before))
    first (e ∷ fs) (suc j) hj = first fs j (omega arith)

pub length_token_words : (p l : ℕ) (ts : List Token) → length (token_words p l ts) ≡ token_size * length ts
unfolding token_words
length_token_words p l [] = refl
length_token_words p l (t ∷ ts) = omega (arith, length_token_words p l ts)

pub token_records_append : (p l : ℕ) (xs ys : List Entry) → token_records p l (xs ++ ys) ≡ token_records p l xs ++ token_records (p + byte_sum xs) (l + length xs) ys
unfolding token_records byte_sum
token_records_append p l [] ys = rw (add-zero p, add-zero l)
token_records_append p l (e ∷ xs) ys =
    let h : suc l + length xs ≡ l + suc (length xs) = omega arith in
    ap (λ (r : List ℕ). token_words p l e.tokens ++ r) (token_records_append (p + e.size) (suc l) xs ys ∙ rw (add_assoc p, h))
    ∙ sym (append_assoc (token_words p l e.tokens) (token_records (p + e.size) (suc l) xs) _)

pub length_token_records : (p l : ℕ) (es : List Entry) → length (token_records p l es) ≡ token_size * token_sum es
unfolding token_records token_sum
length_token_records p l [] = refl
length_token_records p l (e ∷ es) =
    length-append (token_words p l e.tokens) _ ∙ omega (arith, length_token_words p l e.tokens, length_token_records (p + e.size) (suc l) es)

token_records-parts : (p l j : ℕ) (es : List Entry) → j ≤ length es
    → token_records p l es ≡ token_records p l (take j es) ++ token_records (p + byte_sum (take j es)) (l + j) (drop j es)
token_records-parts p l j es h =
    ap (token_records p l) (sym (take-append-drop j es)) ∙ token_records_append p l (take j es) (drop j es)
    ∙ ap (λ (n : ℕ). token_records p l (take j es) ++ token_records (p + byte_sum (take j es)) (l + n) (drop j es)) (length-take-le j es h)

pub token_records_take : (p l j : ℕ) (es : List Entry) → j ≤ length es → take (token_size * token_sum (take j es)) (token_records p l es) ≡ token_records p l (take j es)
token_records_take p l j es h =
    ap (take (token_size * token_sum (take j es))) (token_records-parts p l j es h)
    ∙ take_at (token_records p l (take j es)) _ (token_size * token_sum (take j es)) (length_token_records p l (take j es))

pub token_records_drop : (p l j : ℕ) (es : List Entry) → j ≤ length es
    → drop (token_size * token_sum (take j es)) (token_records p l es) ≡ token_records (p + byte_sum (take j es)) (l + j) (drop j es)
token_records_drop p l j es h =
    ap (drop (token_size * token_sum (take j es))) (token_records-parts p l j es h)
    ∙ drop_at (token_records p l (take j es)) _ (token_size * token_sum (take j es)) (length_token_records p l (take j es))

-- A fresh reading.

-- the records of a text that reads come from its lines
pub behind : (lim : LineLimits) (t : List ℕ) (r : Records) → read_lines lim t ≡ recorded r → Behind lim t r
unfolding read_lines recorded_by
behind lim t r h = go (read_from lim initial (lines_of t)) refl h
  where
    go : (x : Reading) → read_from lim initial (lines_of t) ≡ x → recorded_by x ≡ recorded r → Behind lim t r
    go (reads es s) q f = record { entries = es; end = s; reads-are = q; records-are = (cc) }
    go (halts es h) q f = let z : ◌≡◌ {A = ℕ} 0 1 = cc in absurd (omega arith)

-- their sizes
pub fresh_sizes : (lim : LineLimits) (t : List ℕ) (r : Records) → read_lines lim t ≡ recorded r
    → (r.head.n ≡ length t) × (length r.lines ≡ line_need r.head.m) × (length r.tokens ≡ token_need r.head.k)
unfolding records_of
fresh_sizes lim t r h =
    let b = behind lim t r h in
    let es : List Entry = b.entries in
    let s : State = b.end in
    rw b.records-are (
      (read-sizes lim initial (lines_of t) es s b.reads-are).1 ∙ total-lines t,
      length_line_records 0 0 (with_end es s) ∙ ap (λ (i : ℕ). line_size * i) (length-append es (end_entry s ∷ [])),
      length_token_records 0 1 (with_end es s),
    )

-- the empty text: no lines, no tokens, one line record of zeros
pub fresh_empty : read_lines barge_line [] ≡ recorded (record { head = header 0 0 0; lines = replicate line_size 0; tokens = [] })
unfolding state_words read_lines recorded_by read_from lines_of records_of byte_sum token_sum line_records token_records line_record token_words packed
fresh_empty = refl
