-- The records of an edited text from the old ones: a front kept, records written, a tail moved.
-- Assumes nothing.
use Prim.Native.Nat.{ℕ, zero, suc, ◌+◌, ◌-◌, ◌*◌, ◌≤◌}
use mathlib.Core.Path.{◌≡◌, refl, sym, ap, ◌∙◌}
use mathlib.Core.List.{List, [], ◌∷◌, ◌++◌}
use native.Mathlib.Omega.{arith}
use native.Mathlib.Nat.{add-zero, suc-add, zero-add, add_assoc, add-suc}
use lib.ListN.{length, get_or, take, drop}
use lib.Seq.{drop_at, take_at, length-take-le}
use Rattle.rules.specs.Line.{Token}
use Rattle.rules.specs.Reading.{Entry, byte_sum, token_sum}
use Rattle.rules.specs.Records.{line_size, token_size, state_words, line_record, line_records, token_words, token_records}
use Rattle.rules.proofs.RecordLaws.{state_size, length_state_words, line_records_append, line_records_take, line_records_drop, token_records_append, token_records_take, token_records_drop}

-- m line records with starts moved from p to p' and token numbers from k to k'
unfoldable pub move_lines : (p p' k k' m : ℕ) → List ℕ → List ℕ
move_lines p p' k k' zero ws = []
move_lines p p' k k' (suc m) ws =
    (get_or ws 0 0 + p' - p) ∷ (get_or ws 1 0 + k' - k) ∷ (take state_size (drop 2 ws) ++ move_lines p p' k k' m (drop line_size ws))

-- k token records with positions moved from p to p' and lines from l to l'
unfoldable pub move_tokens : (p p' l l' k : ℕ) → List ℕ → List ℕ
move_tokens p p' l l' zero ws = []
move_tokens p p' l l' (suc k) ws =
    get_or ws 0 0 ∷ (get_or ws 1 0 + p' - p) ∷ get_or ws 2 0 ∷ (get_or ws 3 0 + l' - l) ∷ get_or ws 4 0 ∷ move_tokens p p' l l' k (drop token_size ws)

move_line : (p p' l l' x y i : ℕ) (ts : List Token) (ys : List ℕ)
    → move_tokens p p' l l' (length ts + i) (token_words (p + x) (l + y) ts ++ ys) ≡ token_words (p' + x) (l' + y) ts ++ move_tokens p p' l l' i ys
unfolding move_tokens token_words
move_line p p' l l' x y i [] ys = rw zero-add
move_line p p' l l' x y i (t ∷ ts) ys =
    let h1 : p + x + t.at + p' - p ≡ p' + x + t.at = omega arith in
    let h2 : l + y + l' - l ≡ l' + y = omega arith in
    rw (suc-add, h1, h2, move_line p p' l l' x y i ts ys)

move_tokens_lem : (p p' l l' x y : ℕ) (es : List Entry) → token_records (p' + x) (l' + y) es ≡ move_tokens p p' l l' (token_sum es) (token_records (p + x) (l + y) es)
unfolding move_tokens token_records token_sum
move_tokens_lem p p' l l' x y [] = refl
move_tokens_lem p p' l l' x y (e ∷ es) =
    sym (move_line p p' l l' x y (token_sum es) e.tokens (token_records (p + x + e.size) (suc (l + y)) es)
    ∙ ap (λ (r : List ℕ). token_words (p' + x) (l' + y) e.tokens ++ r)
    (rw (add_assoc p, add_assoc p', ← add-suc l y, ← add-suc l' y) (sym (move_tokens_lem p p' l l' (x + e.size) (suc y) es))))

pub moved-tokens : (p p' l l' : ℕ) (es : List Entry) → token_records p' l' es ≡ move_tokens p p' l l' (token_sum es) (token_records p l es)
moved-tokens p p' l l' es = rw (add-zero p, add-zero p', add-zero l, add-zero l') at (move_tokens_lem p p' l l' 0 0 es)

-- the token records of lines of which the first i and those from j on are old
pub mended-tokens : (old new : List Entry) (i j : ℕ) → i ≤ length old → j ≤ length old
    → token_records 0 1 (take i old ++ (new ++ drop j old))
    ≡ take (token_size * token_sum (take i old)) (token_records 0 1 old)
    ++ (token_records (byte_sum (take i old)) (1 + i) new
    ++ move_tokens (byte_sum (take j old)) (byte_sum (take i old) + byte_sum new) (1 + j) (1 + i + length new) (token_sum (drop j old))
    (drop (token_size * token_sum (take j old)) (token_records 0 1 old)))
mended-tokens old new i j hi hj =
    token_records_append 0 1 (take i old) (new ++ drop j old)
    ∙ rw (
      length-take-le i old hi,
      zero-add (byte_sum (take i old)),
      token_records_take 0 1 i old hi,
      token_records_append (byte_sum (take i old)) (1 + i) new (drop j old),
      token_records_drop 0 1 j old hj,
      zero-add (byte_sum (take j old)),
    )
    (ap (λ (r : List ℕ). token_records 0 1 (take i old) ++ (token_records (byte_sum (take i old)) (1 + i) new ++ r))
    (moved-tokens (byte_sum (take j old)) (byte_sum (take i old) + byte_sum new) (1 + j) (1 + i + length new) (drop j old)))

move_lines_lem : (p p' k k' x y : ℕ) (es : List Entry) → line_records (p' + x) (k' + y) es ≡ move_lines p p' k k' (length es) (line_records (p + x) (k + y) es)
unfolding move_lines line_records line_record
move_lines_lem p p' k k' x y [] = refl
move_lines_lem p p' k k' x y (e ∷ es) =
    let h1 : p' + x ≡ p + x + p' - p = omega arith in
    let h2 : k' + y ≡ k + y + k' - k = omega arith in
    let rest : List ℕ = line_records (p + x + e.size) (k + y + length e.tokens) es in
    rw (take_at (state_words e.before) rest state_size (length_state_words e.before), drop_at (state_words e.before) rest state_size (length_state_words e.before), ← h1, ← h2)
    (ap (λ (r : List ℕ). (p' + x) ∷ (k' + y) ∷ (state_words e.before ++ r))
    (rw (add_assoc p', add_assoc k', add_assoc p, add_assoc k) (move_lines_lem p p' k k' (x + e.size) (y + length e.tokens) es)))

pub moved_lines_lem : (p p' k k' : ℕ) (es : List Entry) → line_records p' k' es ≡ move_lines p p' k k' (length es) (line_records p k es)
moved_lines_lem p p' k k' es = rw (add-zero p, add-zero p', add-zero k, add-zero k') at (move_lines_lem p p' k k' 0 0 es)

-- the line records of lines of which the first i and those from j on are old
pub mended-lines : (old new : List Entry) (i j : ℕ) → i ≤ length old → j ≤ length old
    → line_records 0 0 (take i old ++ (new ++ drop j old))
    ≡ take (line_size * i) (line_records 0 0 old)
    ++ (line_records (byte_sum (take i old)) (token_sum (take i old)) new
    ++ move_lines (byte_sum (take j old)) (byte_sum (take i old) + byte_sum new) (token_sum (take j old)) (token_sum (take i old) + token_sum new) (length (drop j old))
    (drop (line_size * j) (line_records 0 0 old)))
mended-lines old new i j hi hj =
    line_records_append 0 0 (take i old) (new ++ drop j old)
    ∙ rw (
      zero-add (byte_sum (take i old)),
      zero-add (token_sum (take i old)),
      line_records_take 0 0 i old hi,
      line_records_append (byte_sum (take i old)) (token_sum (take i old)) new (drop j old),
      line_records_drop 0 0 j old hj,
      zero-add (byte_sum (take j old)),
      zero-add (token_sum (take j old)),
    )
    (ap (λ (r : List ℕ). line_records 0 0 (take i old) ++ (line_records (byte_sum (take i old)) (token_sum (take i old)) new ++ r))
    (moved_lines_lem (byte_sum (take j old)) (byte_sum (take i old) + byte_sum new) (token_sum (take j old)) (token_sum (take i old) + token_sum new) (drop j old)))
