-- Moved records: their lengths, and that on the records of lines they are those of the same lines elsewhere.
-- Assumes nothing.
use Rattle.std.proofs.Common.{◌≡◌, ℕ, zero, suc, ◌+◌, ◌*◌, ◌≤◌, List, [], ◌∷◌, ◌++◌, length, get_or, drop, sym, refl, ap, ◌∙◌, append_assoc, add-zero, add_assoc, add-suc, mul_comm, suc-add, zero-add, mul-suc, arith, length-append, get_or-drop, drop-drop, take_at, drop_at}
use Rattle.laws.specs.Blocks.{blocks}
use Rattle.laws.proofs.Sets.{blocks_length}
use Rattle.rules.specs.Line.{State, Token}
use Rattle.rules.specs.Reading.{Entry, token_sum}
use Rattle.rules.specs.Records.{line_size, token_size, state_words, line_record, line_records, token_words, token_records}
use Rattle.rules.proofs.RecordLaws.{state_size, length_state_words}
use Rattle.rules.proofs.BoundLaws.{AllLe, word_max}
use Rattle.moving.specs.Moved.{distance, shifted, words, moved_record, moved_token, moved_tokens, moved_line, moved_lines}
use Rattle.moving.proofs.Moves.{words_take, Width, token-width, line-width}

-- Lengths.

pub length_moved_tokens : (p p' l l' : ℕ) (ws : List ℕ) (from n : ℕ) → length (moved_tokens p p' l l' ws from n) ≡ token_size * n
unfolding moved_tokens
length_moved_tokens p p' l l' ws from n =
    blocks_length (λ j. moved_token (distance p p') (distance l l') ws (token_size * (from + j))) token_size (λ j. (token-width (distance p p') (distance l l')).wide ws (token_size * (from + j))) 0 n ∙ mul_comm n token_size

pub length_moved_lines : (p p' k k' : ℕ) (ws : List ℕ) (from n : ℕ) → length (moved_lines p p' k k' ws from n) ≡ line_size * n
unfolding moved_lines
length_moved_lines p p' k k' ws from n =
    blocks_length (λ j. moved_line (distance p p') (distance k k') ws (line_size * (from + j))) line_size (λ j. (line-width (distance p p') (distance k k')).wide ws (line_size * (from + j))) 0 n ∙ mul_comm n line_size

-- Records one after the other, from a list's front on.

abbrev each : (w : ℕ) (g : List ℕ → ℕ → List ℕ) → ℕ → List ℕ → List ℕ
each w g zero ws = []
each w g (suc n) ws = g ws 0 ++ each w g n (drop w ws)

blocks-each : {w : ℕ} {g : List ℕ → ℕ → List ℕ} → Width w g → (ws : List ℕ) (from s n : ℕ) → blocks (λ j. g ws (w * (from + j))) s n ≡ each w g n (drop (w * (from + s)) ws)
blocks-each r ws from s zero = refl
blocks-each {w} {g} r ws from s (suc n) =
    let i : ℕ = w * (from + s) in
    let here : g ws i ≡ g (drop i ws) 0 = r.near ws (drop i ws) i 0 (λ t v. sym (ap (λ (k : ℕ). get_or (drop i ws) k 0) (zero-add t) ∙ get_or-drop i ws t 0)) in
    let next : drop (w * (from + suc s)) ws ≡ drop w (drop i ws) = ap (λ (k : ℕ). drop k ws) (ap (λ (k : ℕ). w * k) (add-suc from s) ∙ mul-suc w (from + s)) ∙ sym (drop-drop w i ws) in
    ap (λ (v : List ℕ). v ++ blocks (λ j. g ws (w * (from + j))) (suc s) n) here
    ∙ ap (λ (v : List ℕ). g (drop i ws) 0 ++ v) (blocks-each r ws from (suc s) n ∙ ap (each w g n) next)

-- A word that is small at its new place.
shifted-small : (p p' x : ℕ) → p' + x ≤ word_max → shifted (distance p p') (p + x) ≡ p' + x
unfolding shifted distance
shifted-small p p' x h = omega arith

all_left : (b : ℕ) (xs ys : List ℕ) → AllLe b (xs ++ ys) → AllLe b xs
all_left b [] ys h = tt
all_left b (x ∷ xs) ys h = (h.0, all_left b xs ys h.1)

pub all_right : (b : ℕ) (xs ys : List ℕ) → AllLe b (xs ++ ys) → AllLe b ys
all_right b [] ys h = h
all_right b (x ∷ xs) ys h = all_right b xs ys h.1

-- Tokens.

module _ (p p' l l' : ℕ) where
  abbrev token : List ℕ → ℕ → List ℕ
  token = moved_token (distance p p') (distance l l')

  -- of one line, x bytes and y lines past the bases
  shift_tokens : (x y i : ℕ) (ts : List Token) (ys : List ℕ) → AllLe word_max (token_words (p' + x) (l' + y) ts)
      → each token_size token (length ts + i) (token_words (p + x) (l + y) ts ++ ys) ≡ token_words (p' + x) (l' + y) ts ++ each token_size token i ys
  unfolding moved_record words token_words
  shift_tokens x y i [] ys h = rw zero-add
  shift_tokens x y i (t ∷ ts) ys h =
      let h1 : shifted (distance p p') (p + x + t.at) ≡ p' + x + t.at =
      rw (add_assoc p x t.at, add_assoc p' x t.at) (shifted-small p p' (x + t.at) (omega (arith, h.1.0))) in
      let h2 : shifted (distance l l') (l + y) ≡ l' + y = shifted-small l l' y h.1.1.1.0 in
      rw (suc-add, h1, h2, shift_tokens x y i ts ys h.1.1.1.1.1)

  -- of all lines
  shift_lines : (x y : ℕ) (es : List Entry) (rest : List ℕ) → AllLe word_max (token_records (p' + x) (l' + y) es)
      → each token_size token (token_sum es) (token_records (p + x) (l + y) es ++ rest) ≡ token_records (p' + x) (l' + y) es
  unfolding token_records token_sum
  shift_lines x y [] rest h = refl
  shift_lines x y (e ∷ es) rest h =
      let head : List ℕ = token_words (p' + x) (l' + y) e.tokens in
      let h2 : AllLe word_max (token_records (p' + (x + e.size)) (l' + suc y) es) =
      rw (add_assoc p', ← add-suc l' y) at (all_right word_max head (token_records (p' + x + e.size) (suc (l' + y)) es) h) in
      ap (each token_size token (token_sum (e ∷ es))) (append_assoc (token_words (p + x) (l + y) e.tokens) (token_records (p + x + e.size) (suc (l + y)) es) rest)
      ∙ shift_tokens x y (token_sum es) e.tokens (token_records (p + x + e.size) (suc (l + y)) es ++ rest) (all_left word_max head _ h)
      ∙ ap (λ (r : List ℕ). head ++ r) (rw (add_assoc p, add_assoc p', ← add-suc l y, ← add-suc l' y) (shift_lines (x + e.size) (suc y) es rest h2))

  -- the token records of lines, moved
  pub moved-token-records : (ws : List ℕ) (from : ℕ) (es : List Entry) (rest : List ℕ) → drop (token_size * from) ws ≡ token_records p l es ++ rest
      → AllLe word_max (token_records p' l' es) → moved_tokens p p' l l' ws from (token_sum es) ≡ token_records p' l' es
  unfolding moved_tokens
  moved-token-records ws from es rest e h =
      blocks-each (token-width (distance p p') (distance l l')) ws from 0 (token_sum es)
      ∙ ap (λ (k : ℕ). each token_size token (token_sum es) (drop (token_size * k) ws)) (add-zero from)
      ∙ ap (each token_size token (token_sum es)) e
      ∙ (rw (add-zero p, add-zero p', add-zero l, add-zero l') at (shift_lines 0 0 es rest (rw (add-zero p', add-zero l') h)))

-- Lines.

module _ (p p' k k' : ℕ) where
  abbrev line : List ℕ → ℕ → List ℕ
  line = moved_line (distance p p') (distance k k')

  state-words : (a b : ℕ) (s : State) (rest : List ℕ) → words (a ∷ b ∷ (state_words s ++ rest)) 2 state_size ≡ state_words s
  state-words a b s rest =
      words_take (a ∷ b ∷ (state_words s ++ rest)) 2 state_size (omega (arith, length-append (state_words s) rest, length_state_words s))
      ∙ take_at (state_words s) rest state_size (length_state_words s)

  shift_records : (x y : ℕ) (es : List Entry) (rest : List ℕ) → AllLe word_max (line_records (p' + x) (k' + y) es)
      → each line_size line (length es) (line_records (p + x) (k + y) es ++ rest) ≡ line_records (p' + x) (k' + y) es
  unfolding moved_record words line_records line_record
  shift_records x y [] rest h = refl
  shift_records x y (e ∷ es) rest h =
      let sw : List ℕ = state_words e.before in
      let more : List ℕ = line_records (p + x + e.size) (k + y + length e.tokens) es ++ rest in
      let h1 : shifted (distance p p') (p + x) ≡ p' + x = shifted-small p p' x h.0 in
      let h2 : shifted (distance k k') (k + y) ≡ k' + y = shifted-small k k' y h.1.0 in
      let h3 : AllLe word_max (line_records (p' + (x + e.size)) (k' + (y + length e.tokens)) es) =
      rw (add_assoc p', add_assoc k') at (all_right word_max sw (line_records (p' + x + e.size) (k' + y + length e.tokens) es) h.1.1) in
      ap (each line_size line (suc (length es)))
      (ap (λ (r : List ℕ). (p + x) ∷ (k + y) ∷ r) (append_assoc sw (line_records (p + x + e.size) (k + y + length e.tokens) es) rest))
      ∙ ap (λ (r : List ℕ). (shifted (distance p p') (p + x) ∷ shifted (distance k k') (k + y) ∷ r) ++ each line_size line (length es) (drop state_size (sw ++ more)))
      (state-words (p + x) (k + y) e.before more)
      ∙ rw (drop_at sw more state_size (length_state_words e.before), h1, h2)
      (ap (λ (r : List ℕ). (p' + x) ∷ (k' + y) ∷ (sw ++ r))
      (rw (add_assoc p, add_assoc k, add_assoc p', add_assoc k') (shift_records (x + e.size) (y + length e.tokens) es rest h3)))

  -- the records of lines, moved
  pub moved-line-records : (ws : List ℕ) (from : ℕ) (es : List Entry) (rest : List ℕ) → drop (line_size * from) ws ≡ line_records p k es ++ rest
      → AllLe word_max (line_records p' k' es) → moved_lines p p' k k' ws from (length es) ≡ line_records p' k' es
  unfolding moved_lines
  moved-line-records ws from es rest e h =
      blocks-each (line-width (distance p p') (distance k k')) ws from 0 (length es)
      ∙ ap (λ (n : ℕ). each line_size line (length es) (drop (line_size * n) ws)) (add-zero from)
      ∙ ap (each line_size line (length es)) e
      ∙ (rw (add-zero p, add-zero p', add-zero k, add-zero k') at (shift_records 0 0 es rest (rw (add-zero p', add-zero k') h)))
