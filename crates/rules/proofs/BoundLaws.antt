-- How large what a reading gives can be: tokens, levels, depth, widths, and each word of the records.
-- Assumes nothing.
use Prim.Native.Nat.{ℕ, zero, suc, ◌+◌, ◌-◌, ◌*◌, ◌≤◌, ◌<◌, zero-le, pred, min, max}
use Prim.Native.Char.{code}
use mathlib.Core.Path.{◌≡◌, refl, sym, ◌∙◌}
use mathlib.Core.Bool.{Bool, true, false, not, false≢true}
use mathlib.Core.List.{List, [], ◌∷◌, ◌++◌}
use native.Mathlib.Omega.{arith}
use lib.Dec.{ltb, eqb}
use lib.ListN.{length, take, drop, replicate, length-append, length-take, length-replicate}
use borrow.Author.Tests.{ltb-true, eqb-true, not-true}
use Rattle.std.specs.Prelude.{if◌then◌else◌}
use Rattle.rules.specs.Lists.{bit, any, elem, run, trimmed, trim_end, last_d}
use Rattle.rules.specs.Kinds.{l_paren, r_paren, dedent, newline}
use Rattle.rules.specs.Tables.{is_blank, class_of}
use Rattle.rules.specs.Cut.{Cut, blank, comment, ends, token, fails, cut_by, cut}
use Rattle.rules.specs.Line.{State, initial, Token, token_at, Cuts, cuts, stops, with_token, cut_step, cuts_from, is_space, is_tab, indent_width, after_blanks, is_blank_line, is_compared, Levels, levels, unequal, beyond, dedents, opened, closed, compared, levels_of, depth_after, arrow_after, line_reads, with_cuts, with_levels, read_line}
use Rattle.rules.specs.Reading.{Line, lines_of, content, not_lf, Entry, reads, read_from, byte_sum, token_sum}
use Rattle.rules.specs.Limits.{max_bytes, max_levels, LineLimits}
use Rattle.rules.specs.Records.{width_words, line_need, token_need, packed, state_words, line_record, token_words, line_records, token_records, end_entry, with_end, Records, records_of, recorded, read_lines, Behind}
use Rattle.rules.proofs.ListLaws.{if_by, and-true, run_true, trim_end-le}
use Rattle.rules.proofs.CutLaws.{CutOk, cut_ok, cuts-blank}
use Rattle.rules.proofs.LineLaws.{total, total-lines, first_some, next-line}
use Rattle.rules.proofs.ReadingLaws.{step, read-sizes, byte_sum_append, token_sum_append}
use Rattle.rules.proofs.RecordLaws.{behind}
use Rattle.rules.proofs.LoopLaws.{ReadTo}

-- The tokens of a line of n bytes.

abbrev pub TokensOk : (n : ℕ) → List Token → Type 0
TokensOk n [] = Unit {0}
TokensOk n (t ∷ ts) = (t.kind ≤ newline) × (t.at + t.size ≤ n) × TokensOk n ts

pub tokens-le : (n m : ℕ) (ts : List Token) → n ≤ m → TokensOk n ts → TokensOk m ts
tokens-le n m [] h k = tt
tokens-le n m (t ∷ ts) h k = (k.0, omega (arith, k.1), tokens-le n m ts h k.2)

pub tokens_append : (n : ℕ) (xs ys : List Token) → TokensOk n xs → TokensOk n ys → TokensOk n (xs ++ ys)
tokens_append n [] ys h k = k
tokens_append n (t ∷ xs) ys h k = (h.0, h.1, tokens_append n xs ys h.2 k)

dedents-ok : (n i : ℕ) → TokensOk n (dedents i)
dedents-ok n zero = tt
dedents-ok n (suc i) = (omega arith, omega arith, dedents-ok n i)

-- the cuts of s at an offset
abbrev CutsOk : (at : ℕ) → List ℕ → List Token → Type 0
CutsOk at s ts = (length ts ≤ length s) × TokensOk (at + length s) ts

step_ok : (at b : ℕ) (s : List ℕ) (c : Cut) → CutOk (b ∷ s) c → (next : ℕ → Cuts)
    → ((skip : ℕ) (ts : List Token) → next skip ≡ cuts ts → CutsOk (suc at) s ts)
    → (ts : List Token) → cut_step at c next ≡ cuts ts → CutsOk at (b ∷ s) ts
unfolding cut_step with_token
step_ok at b s blank z next ih ts h =
    let i = ih 0 ts h in
    (omega (arith, i.0), tokens-le (suc at + length s) (at + suc (length s)) ts (omega arith) i.1)
step_ok at b s comment z next ih ts h = let e : ts ≡ [] = cc in rw e (zero-le, tt)
step_ok at b s ends z next ih ts h = let e : ts ≡ [] = cc in rw e (zero-le, tt)
step_ok at b s (fails f) z next ih ts h = let n : ◌≡◌ {A = ℕ} 0 1 = cc in absurd (omega arith)
step_ok at b s (token k n) z next ih ts h = go (next (pred n)) refl h
  where
    go : (x : Cuts) → next (pred n) ≡ x → with_token (token_at k at n) x ≡ cuts ts → CutsOk at (b ∷ s) ts
    go (stops f) e p = let n : ◌≡◌ {A = ℕ} 0 1 = cc in absurd (omega arith)
    go (cuts us) e p =
        let i = ih (pred n) us e in
        let r : ts ≡ token_at k at n ∷ us = cc in
        rw r (omega (arith, i.0), (omega (arith, z.kind-lt), omega (arith, z.in_line), tokens-le (suc at + length s) (at + suc (length s)) us (omega arith) i.1))

pub cuts-ok : (at skip : ℕ) (s : List ℕ) (ts : List Token) → cuts_from at skip s ≡ cuts ts → CutsOk at s ts
unfolding cuts_from
cuts-ok at skip [] ts h = let e : ts ≡ [] = cc in rw e (zero-le, tt)
cuts-ok at (suc skip) (b ∷ s) ts h =
    let i = cuts-ok (suc at) skip s ts h in
    (omega (arith, i.0), tokens-le (suc at + length s) (at + suc (length s)) ts (omega arith) i.1)
cuts-ok at zero (b ∷ s) ts h =
    step_ok at b s (cut (b ∷ s)) (cut_ok (b ∷ s)) (λ skip. cuts_from (suc at) skip s) (λ skip us e. cuts-ok (suc at) skip s us e) ts h

-- Levels.

abbrev pub AllLe : ℕ → List ℕ → Type 0
AllLe b [] = Unit {0}
AllLe b (x ∷ xs) = (x ≤ b) × AllLe b xs

pub all_append : (b : ℕ) (xs ys : List ℕ) → AllLe b xs → AllLe b ys → AllLe b (xs ++ ys)
all_append b [] ys h k = k
all_append b (x ∷ xs) ys h k = (h.0, all_append b xs ys h.1 k)

pub all_take : (b n : ℕ) (xs : List ℕ) → AllLe b xs → AllLe b (take n xs)
all_take b zero xs h = tt
all_take b (suc n) [] h = tt
all_take b (suc n) (x ∷ xs) h = (h.0, all_take b n xs h.1)

pub all-zeros : (b n : ℕ) → AllLe b (replicate n 0)
all-zeros b zero = tt
all-zeros b (suc n) = (zero-le, all-zeros b n)

trimmed-all : (b : ℕ) (t : Bool) (x : ℕ) (ys : List ℕ) → x ≤ b → AllLe b ys → AllLe b (trimmed t x ys)
unfolding trimmed
trimmed-all b true x [] h k = tt
trimmed-all b false x [] h k = (h, tt)
trimmed-all b t x (y ∷ ys) h k = (h, k)

trim_end-all : (b : ℕ) (f : ℕ → Bool) (xs : List ℕ) → AllLe b xs → AllLe b (trim_end f xs)
unfolding trim_end
trim_end-all b f [] h = tt
trim_end-all b f (x ∷ xs) h = trimmed-all b (f x) x (trim_end f xs) h.0 (trim_end-all b f xs h.1)

pub indent_width-le : (l : List ℕ) → indent_width l ≤ 4 * length l
unfolding indent_width
indent_width-le [] = zero-le
indent_width-le (b ∷ l) =
    if_by (λ n. n ≤ 4 * suc (length l)) (is_space b) (λ _. omega (arith, indent_width-le l))
    (λ _. if_by (λ n. n ≤ 4 * suc (length l)) (is_tab b) (λ _. omega (arith, indent_width-le l)) (λ _. zero-le))

-- an indented line begins with a blank byte, and has another byte unless it is blank
indented_first : (b : ℕ) (l : List ℕ) → 0 < indent_width (b ∷ l) → is_blank b ≡ true
unfolding indent_width is_space is_tab is_blank elem any
indented_first b l h = go (is_space b) refl (is_tab b) refl h
  where
    go : (x : Bool) → is_space b ≡ x → (y : Bool) → is_tab b ≡ y → 0 < (if x then 1 + indent_width l else if y then 4 + indent_width l else 0) → is_blank b ≡ true
    go true e y f k = rw (eqb-true b (code " ") e)
    go false e true f k = rw (eqb-true b (code "\t") f)
    go false e false f k = absurd (omega arith)

indented_two : (l : List ℕ) → is_blank_line l ≡ false → 0 < indent_width l → 2 ≤ length l
unfolding indent_width is_blank_line after_blanks is_blank run
indented_two [] e h = absurd (omega arith)
indented_two (b ∷ []) e h = let r : run is_blank (b ∷ []) ≡ 1 = run_true is_blank b [] (indented_first b [] h) in absurd (false≢true (sym e ∙ rw r))
indented_two (b ∷ c ∷ l) e h = omega arith

-- of the open widths `had` before a line of n bytes and width w: whether it opens a level
pub record LevelsOk (lim : LineLimits) (w n : ℕ) (had : List ℕ) (lead : List Token) (now : List ℕ) : Type 0 where
  pub opens : ℕ
  pub opens-le : opens ≤ 1
  pub wide : opens ≤ w
  pub long : 2 * opens ≤ n
  pub count : length lead + length now ≤ length had + 2 * opens
  pub tokens : TokensOk 0 lead
  pub limited : (most : ℕ) → lim.levels ≤ most → length had ≤ most → length now ≤ most
  pub widths : (b : ℕ) → w ≤ b → AllLe b had → AllLe b now

abbrev LevelsHold : LineLimits → (w n : ℕ) → List ℕ → Levels → Type 0
LevelsHold lim w n had (levels lead now) = LevelsOk lim w n had lead now
LevelsHold lim w n had unequal = Unit {0}
LevelsHold lim w n had (beyond number) = Unit {0}

closed_hold : (lim : LineLimits) (w n : ℕ) (had : List ℕ) → LevelsHold lim w n had (closed w had (trim_end (ltb w) had))
unfolding closed
closed_hold lim w n had =
    let left : List ℕ = trim_end (ltb w) had in
    let le : length left ≤ length had = trim_end-le (ltb w) had in
    let count : length (dedents (length had - length left)) ≡ length had - length left = length-replicate (length had - length left) (token_at dedent 0 0) in
    if_by (LevelsHold lim w n had) (eqb (last_d left 0) w)
    (λ _. record {
      opens = 0;
      opens-le = zero-le;
      wide = zero-le;
      long = zero-le;
      count = omega arith;
      tokens = dedents-ok 0 (length had - length left);
      limited = λ most hm h. omega arith;
      widths = λ b h k. trim_end-all b (ltb w) had k;
    })
    (λ _. tt)

compared_hold : (lim : LineLimits) (w n : ℕ) (had : List ℕ) → (0 < w → 2 ≤ n) → LevelsHold lim w n had (compared lim w had)
unfolding compared opened
compared_hold lim w n had two =
    if_by (LevelsHold lim w n had) (ltb (last_d had 0) w)
    (λ v. if_by (LevelsHold lim w n had) (ltb (length had) lim.levels)
    (λ x. record {
      opens = 1;
      opens-le = omega arith;
      wide = omega (arith, ltb-true (last_d had 0) w v);
      long = two (omega (arith, ltb-true (last_d had 0) w v));
      count = omega (arith, length-append had (w ∷ []));
      tokens = (omega arith, omega arith, tt);
      limited = λ most hm h. omega (arith, length-append had (w ∷ []), ltb-true (length had) lim.levels x);
      widths = λ b h k. all_append b had (w ∷ []) k (h, tt);
    })
    (λ _. tt))
    (λ _. closed_hold lim w n had)

levels_hold : (lim : LineLimits) (s : State) (l : List ℕ) → LevelsHold lim (indent_width l) (length l) s.widths (levels_of lim s l)
unfolding levels_of is_compared
levels_hold lim s l =
    if_by (LevelsHold lim (indent_width l) (length l) s.widths) (is_compared s l)
    (λ c. compared_hold lim (indent_width l) (length l) s.widths (indented_two l (not-true (is_blank_line l) (and-true (not (is_blank_line l)) _ c).0)))
    (λ _. record { opens = 0; opens-le = zero-le; wide = zero-le; long = zero-le; count = omega arith; tokens = tt; limited = λ most hm h. h; widths = λ b h k. k })

-- the cuts of a line: none is at a leading blank
blank_cut : (b : ℕ) (l : List ℕ) → is_blank b ≡ true → cut (b ∷ l) ≡ blank
unfolding cut class_of cut_by
blank_cut b l h = rw h

cuts-count : (l : List ℕ) (ts : List Token) → cuts_from 0 0 l ≡ cuts ts → length ts + min 1 (indent_width l) ≤ length l
unfolding indent_width
cuts-count [] ts e = omega (arith, (cuts-ok 0 0 [] ts e).0)
cuts-count (b ∷ l) ts e = go (indent_width (b ∷ l)) refl
  where
    skipped : 0 < indent_width (b ∷ l) → length ts ≤ length l
    skipped h =
        let c : cuts_from 0 0 (b ∷ l) ≡ cuts_from 1 0 (drop 1 (b ∷ l)) = cuts-blank 0 (b ∷ l) (omega arith) (blank_cut b l (indented_first b l h)) in
        (cuts-ok 1 0 l ts (sym c ∙ e)).0

    go : (w : ℕ) → indent_width (b ∷ l) ≡ w → length ts + min 1 w ≤ suc (length l)
    go zero q = omega (arith, (cuts-ok 0 0 (b ∷ l) ts e).0)
    go (suc w) q = omega (arith, skipped (omega arith))

-- A line of n bytes, read from s to z.

depth-step : (d k : ℕ) → (if eqb k l_paren then suc d else if eqb k r_paren then pred d else d) ≤ suc d
depth-step d k = if_by (λ n. n ≤ suc d) (eqb k l_paren) (λ _. omega arith) (λ _. if_by (λ n. n ≤ suc d) (eqb k r_paren) (λ _. omega arith) (λ _. omega arith))

depth_le : (d : ℕ) (ts : List Token) → depth_after d ts ≤ d + length ts
unfolding depth_after
depth_le d [] = omega arith
depth_le d (t ∷ ts) = omega (arith, depth-step d t.kind, depth_le (if eqb t.kind l_paren then suc d else if eqb t.kind r_paren then pred d else d) ts)

pub record LineOk (lim : LineLimits) (s : State) (n : ℕ) (ts : List Token) (z : State) : Type 0 where
  pub count : length ts + length z.widths ≤ length s.widths + max (n + 1) (2 * n)
  pub tokens : TokensOk n ts
  pub depth : z.depth ≤ s.depth + n
  pub limited : (most : ℕ) → lim.levels ≤ most → length s.widths ≤ most → length z.widths ≤ most
  pub widths : (b : ℕ) → 4 * n ≤ b → AllLe b s.widths → AllLe b z.widths

cuts-line : (lim : LineLimits) (s : State) (l : List ℕ) (lead : List Token) (now : List ℕ) → LevelsOk lim (indent_width l) (length l) s.widths lead now
    → (c : Cuts) → cuts_from 0 0 l ≡ c → (ts : List Token) (z : State) → with_cuts s l lead now c ≡ line_reads ts z → LineOk lim s (length l) ts z
unfolding with_cuts
cuts-line lim s l lead now o (stops f) e ts z h = let n : ◌≡◌ {A = ℕ} 0 1 = cc in absurd (omega arith)
cuts-line lim s l lead now o (cuts us) e ts z h =
    let c = cuts-ok 0 0 l us e in
    let ht : ts ≡ lead ++ (us ++ (token_at newline (length l) 0 ∷ [])) = cc in
    let hz : z ≡ record { depth = depth_after s.depth us; arrow = arrow_after false us; widths = now } = cc in
    rw (ht, hz) record {
      count = omega (arith, length-append lead (us ++ (token_at newline (length l) 0 ∷ [])), length-append us (token_at newline (length l) 0 ∷ []), cuts-count l us e, o.count, o.opens-le, o.wide, o.long);
      tokens = tokens_append (length l) lead _ (tokens-le 0 (length l) lead zero-le o.tokens)
          (tokens_append (length l) us _ (tokens-le (0 + length l) (length l) us (omega arith) c.1) (omega arith, omega arith, tt));
      depth = omega (arith, depth_le s.depth us, c.0);
      limited = o.limited;
      widths = λ b h k. o.widths b (omega (arith, indent_width-le l)) k;
    }

levels-line : (lim : LineLimits) (s : State) (l : List ℕ) (v : Levels) → LevelsHold lim (indent_width l) (length l) s.widths v
    → (ts : List Token) (z : State) → with_levels s l v ≡ line_reads ts z → LineOk lim s (length l) ts z
unfolding with_levels
levels-line lim s l (levels lead now) o ts z h = cuts-line lim s l lead now o (cuts_from 0 0 l) refl ts z h
levels-line lim s l unequal o ts z h = let n : ◌≡◌ {A = ℕ} 0 1 = cc in absurd (omega arith)
levels-line lim s l (beyond number) o ts z h = let n : ◌≡◌ {A = ℕ} 0 1 = cc in absurd (omega arith)

pub line_ok : (lim : LineLimits) (s : State) (l : List ℕ) (ts : List Token) (z : State) → read_line lim s l ≡ line_reads ts z → LineOk lim s (length l) ts z
unfolding read_line
line_ok lim s l ts z h = levels-line lim s l (levels_of lim s l) (levels_hold lim s l) ts z h

-- Lines read from s to z.

content-le : (l : Line) → length (content l) ≤ length l
unfolding content
content-le l = omega (arith, length-take (run not_lf l) l)

-- lines of which each has a byte
abbrev pub Nonempty : List Line → Type 0
Nonempty [] = Unit {0}
Nonempty (l ∷ ls) = (0 < length l) × Nonempty ls

pub lines-nonempty : (t : List ℕ) (ls : List Line) → lines_of t ≡ ls → Nonempty ls
lines-nonempty t [] h = tt
lines-nonempty t (l ∷ ls) h = (first_some t l ls h, lines-nonempty (drop (length l) t) ls (next-line t l ls h))

nonempty-front : (xs ys : List Line) → Nonempty (xs ++ ys) → Nonempty xs
nonempty-front [] ys h = tt
nonempty-front (l ∷ xs) ys h = (h.0, nonempty-front xs ys h.1)

pub nonempty-le : (ls : List Line) → Nonempty ls → length ls ≤ total ls
nonempty-le [] h = zero-le
nonempty-le (l ∷ ls) h = omega (arith, h.0, nonempty-le ls h.1)

-- the tokens with the levels left open: at most two for each byte
pub count-le : (lim : LineLimits) (s : State) (ls : List Line) (es : List Entry) (z : State) → Nonempty ls → read_from lim s ls ≡ reads es z
    → token_sum es + length z.widths ≤ length s.widths + 2 * total ls
unfolding read_from token_sum
count-le lim s [] es z n h =
    let c : es ≡ [] = cc in
    let d : s ≡ z = cc in
    rw (c, d) (omega arith)
count-le lim s (l ∷ ls) es z n h =
    let st = step lim s l (read_line lim s (content l)) (λ y. read_from lim y ls) es z h in
    let o = line_ok lim s (content l) st.ts st.mid st.line-is in
    let ih = count-le lim st.mid ls st.rest z n.1 st.rest-is in
    rw st.entries-are (omega (arith, o.count, content-le l, ih, n.0))

pub record StateOk (most b : ℕ) (s : State) : Type 0 where
  pub limited : length s.widths ≤ most
  pub depth : s.depth ≤ b
  pub widths : AllLe b s.widths

abbrev pub EntriesOk : (most b : ℕ) → List Entry → Type 0
EntriesOk most b [] = Unit {0}
EntriesOk most b (e ∷ es) = StateOk most b e.before × TokensOk e.size e.tokens × EntriesOk most b es

pub entries-ok : (lim : LineLimits) (most b : ℕ) → lim.levels ≤ most → (s : State) (ls : List Line) (es : List Entry) (z : State) → read_from lim s ls ≡ reads es z
    → length s.widths ≤ most → AllLe b s.widths → s.depth + 4 * total ls ≤ b → EntriesOk most b es × StateOk most b z
unfolding read_from
entries-ok lim most b hm s [] es z h hl hw hb =
    let c : es ≡ [] = cc in
    let d : s ≡ z = cc in
    rw (c, ← d) (tt, record { limited = hl; depth = omega arith; widths = hw })
entries-ok lim most b hm s (l ∷ ls) es z h hl hw hb =
    let st = step lim s l (read_line lim s (content l)) (λ y. read_from lim y ls) es z h in
    let o = line_ok lim s (content l) st.ts st.mid st.line-is in
    let c = content-le l in
    let ih = entries-ok lim most b hm st.mid ls st.rest z st.rest-is (o.limited most hm hl) (o.widths b (omega (arith, c)) hw) (omega (arith, o.depth, c)) in
    rw st.entries-are (
      (record { limited = hl; depth = omega arith; widths = hw }, tokens-le (length (content l)) (length l) st.ts c o.tokens, ih.0),
      ih.1,
    )

-- The words of records.

state-words : (b : ℕ) (s : State) → max_levels ≤ b → StateOk max_levels b s → AllLe b (state_words s)
unfolding state_words packed
state-words b s h o =
    let ws : AllLe b (packed s.widths) =
    all_take b width_words (s.widths ++ replicate max_levels 0) (all_append b s.widths (replicate max_levels 0) o.widths (all-zeros b max_levels)) in
    (o.depth, (bit_le s.arrow, (omega (arith, o.limited), ws)))
  where
    bit_le : (a : Bool) → bit a ≤ b
    bit_le true = omega arith
    bit_le false = omega arith

pub line-words : (b p k : ℕ) (es : List Entry) → max_levels ≤ b → EntriesOk max_levels b es → p + byte_sum es ≤ b → k + token_sum es ≤ b → AllLe b (line_records p k es)
unfolding byte_sum token_sum line_record line_records
line-words b p k [] h o hp hk = tt
line-words b p k (e ∷ es) h o hp hk =
    all_append b (line_record p k e.before) _ (omega arith, (omega arith, state-words b e.before h o.0))
    (line-words b (p + e.size) (k + length e.tokens) es h o.2 (omega arith) (omega arith))

token-words : (b p l n : ℕ) (ts : List Token) → newline ≤ b → TokensOk n ts → suc (p + n) ≤ b → l ≤ b → AllLe b (token_words p l ts)
unfolding token_words
token-words b p l n [] h o hp hl = tt
token-words b p l n (t ∷ ts) h o hp hl = (omega (arith, o.0), (omega (arith, o.1), (omega (arith, o.1), (hl, (omega (arith, o.1), token-words b p l n ts h o.2 hp hl)))))

pub all-token-words : (b p l : ℕ) (es : List Entry) → newline ≤ b → EntriesOk max_levels b es → suc (p + byte_sum es) ≤ b → l + length es ≤ b → AllLe b (token_records p l es)
unfolding byte_sum token_records
all-token-words b p l [] h o hp hl = tt
all-token-words b p l (e ∷ es) h o hp hl =
    all_append b (token_words p l e.tokens) _ (token-words b p l e.size e.tokens h o.1 (omega arith) (omega arith))
    (all-token-words b (p + e.size) (suc l) es h o.2 (omega arith) (omega arith))

-- A text within the limits that reads.

-- what every word is bounded by, far below 2 ^ 32
abbrev pub word_max : ℕ
word_max = 4 * max_bytes

pub record Small (r : Records) : Type 0 where
  pub n-le : r.head.n ≤ max_bytes
  pub m-le : r.head.m ≤ r.head.n
  pub k-le : r.head.k ≤ 2 * r.head.n
  pub line_need_lem : line_need r.head.m ≤ 22_020_117
  pub token_need_lem : token_need r.head.k ≤ 10_485_760
  pub lines : AllLe word_max r.lines
  pub tokens : AllLe word_max r.tokens

entries_append : (most b : ℕ) (xs ys : List Entry) → EntriesOk most b xs → EntriesOk most b ys → EntriesOk most b (xs ++ ys)
entries_append most b [] ys h k = k
entries_append most b (e ∷ xs) ys h k = (h.0, h.1, entries_append most b xs ys h.2 k)

pub fresh_small : (lim : LineLimits) → lim.levels ≤ max_levels → (t : List ℕ) (r : Records) → length t ≤ max_bytes → read_lines lim t ≡ recorded r → Small r
unfolding byte_sum token_sum records_of
fresh_small lim hm t r ht h = rw b.records-are (go b.entries b.end b.reads-are)
  where
    b : Behind lim t r
    b = behind lim t r h

    go : (es : List Entry) (z : State) → read_from lim initial (lines_of t) ≡ reads es z → Small (records_of es z)
    go es z e =
        let n : total (lines_of t) ≡ length t = total-lines t in
        let s = read-sizes lim initial (lines_of t) es z e in
        let ne : Nonempty (lines_of t) = lines-nonempty t (lines_of t) refl in
        let m : length (lines_of t) ≤ total (lines_of t) = nonempty-le (lines_of t) ne in
        let c : token_sum es + length z.widths ≤ 0 + 2 * total (lines_of t) = count-le lim initial (lines_of t) es z ne e in
        let w : length (dedents (length z.widths)) ≡ length z.widths = length-replicate (length z.widths) (token_at dedent 0 0) in
        let k : token_sum (with_end es z) ≡ token_sum es + length z.widths = omega (arith, token_sum_append es (end_entry z ∷ [])) in
        let d : byte_sum (with_end es z) ≡ byte_sum es = omega (arith, byte_sum_append es (end_entry z ∷ [])) in
        let x : length (with_end es z) ≡ suc (length es) = omega (arith, length-append es (end_entry z ∷ [])) in
        let o = entries-ok lim max_levels word_max hm initial (lines_of t) es z e zero-le tt (omega arith) in
        let oe : EntriesOk max_levels word_max (with_end es z) =
        entries_append max_levels word_max es (end_entry z ∷ []) o.0 (o.1, dedents-ok 0 (length z.widths), tt) in
        record {
          n-le = omega (arith, s.1);
          m-le = omega (arith, s.0, s.1);
          k-le = omega (arith, s.0, s.1);
          line_need_lem = omega (arith, s.0);
          token_need_lem = omega arith;
          lines = line-words word_max 0 0 (with_end es z) (omega arith) oe (omega (arith, s.1)) (omega arith);
          tokens = all-token-words word_max 0 1 (with_end es z) (omega arith) oe (omega (arith, s.1)) (omega (arith, s.0));
        }

-- A reading from any state that has come to byte p: lines, tokens with the levels left open, and depth grow with the bytes.
pub record GrownTo (s : State) (p : ℕ) (es : List Entry) (z : State) : Type 0 where
  pub lines : length es ≤ p
  pub tokens : token_sum es + length z.widths ≤ length s.widths + 2 * p
  pub depth : z.depth ≤ s.depth + p

depth_grows : (lim : LineLimits) (s : State) (ls : List Line) (es : List Entry) (z : State) → read_from lim s ls ≡ reads es z → z.depth ≤ s.depth + total ls
unfolding read_from
depth_grows lim s [] es z h =
    let d : s ≡ z = cc in
    rw (← d) (omega arith)
depth_grows lim s (l ∷ ls) es z h =
    let st = step lim s l (read_line lim s (content l)) (λ y. read_from lim y ls) es z h in
    omega (arith, (line_ok lim s (content l) st.ts st.mid st.line-is).depth, content-le l, depth_grows lim st.mid ls st.rest z st.rest-is)

pub read-grown : (lim : LineLimits) (s : State) (t : List ℕ) (p : ℕ) (es : List Entry) (z : State) → ReadTo lim s t p es z → GrownTo s p es z
read-grown lim s t p es z r =
    let n = read-sizes lim s r.lines es z r.reads-are in
    let ne : Nonempty r.lines = nonempty-front r.lines (lines_of (drop p t)) (lines-nonempty t (r.lines ++ lines_of (drop p t)) r.split) in
    let c = count-le lim s r.lines es z ne r.reads-are in
    let d = depth_grows lim s r.lines es z r.reads-are in
    let m = nonempty-le r.lines ne in
    record { lines = omega (arith, n.0, n.1, r.bytes); tokens = omega (arith, n.1, r.bytes); depth = omega (arith, n.1, r.bytes) }

-- A reading that has come to byte p of a text within the limits: what a loop has so far is small.
pub record SmallAt (p : ℕ) (es : List Entry) (z : State) : Type 0 where
  pub lines : length es ≤ p
  pub tokens : token_sum es + length z.widths ≤ 2 * p
  pub entries : EntriesOk max_levels word_max es
  pub state : StateOk max_levels word_max z

pub read_small : (lim : LineLimits) → lim.levels ≤ max_levels → (t : List ℕ) (p : ℕ) (es : List Entry) (z : State) → length t ≤ max_bytes → p ≤ length t → ReadTo lim initial t p es z → SmallAt p es z
read_small lim hm t p es z ht hp r =
    let n = read-sizes lim initial r.lines es z r.reads-are in
    let g = read-grown lim initial t p es z r in
    let o = entries-ok lim max_levels word_max hm initial r.lines es z r.reads-are zero-le tt (omega (arith, n.1, r.bytes)) in
    let c : token_sum es + length z.widths ≤ 0 + 2 * p = g.tokens in
    record { lines = g.lines; tokens = omega (arith, c); entries = o.0; state = o.1 }
