-- A line that fails: the failure's range stays in the line, its detail is one of the document's, and what it found is a scalar.
-- Assumes nothing.
use Prim.Native.Nat.{ℕ, zero, suc, ◌+◌, ◌≤◌, ◌<◌, pred}
use Prim.Native.Char.{code}
use mathlib.Core.Path.{◌≡◌, refl, ap, subst, ◌∙◌}
use mathlib.Core.Bool.{Bool, ◌||◌}
use mathlib.Core.List.{List, [], ◌∷◌}
use native.Mathlib.Omega.{arith}
use lib.Dec.{ltb, eqb}
use lib.ListN.{length, take, drop, length-take}
use Rattle.rules.specs.Lists.{within, ascii, elem, begins, run, trimmed, trim_end}
use Rattle.rules.specs.Utf8.{WellFormed, nil, scalar}
use Rattle.rules.specs.Tables.{is_cr, is_hex_digit, Spelling, signs}
use Rattle.rules.specs.Failure.{Failure, failure, bad_indent}
use Rattle.rules.specs.Cut.{Cut, blank, comment, ends, token, fails, number_cut, string_end, string_cut, closing_cut, low_digit_cut, high_digit_cut, escape_cut, content_cut, byte_cut, word_cut, letter_cut, sign_cut, cut}
use Rattle.rules.specs.Limits.{LineLimits}
use Rattle.rules.specs.Line.{State, Token, token_at, moved_by, Cuts, cuts, stops, with_token, cut_step, cuts_from, is_space, is_tab, indent_size, Levels, levels, unequal, beyond, levels_of, failed, LineReply, line_reads, line_halts, with_cuts, with_levels, read_line}
use Rattle.rules.specs.Reading.{Line, is_lf, not_lf, onto, lines_of, content, Entry, entry, Reading, reads, halts, with_entry, line_then, read_from, byte_sum}
use Rattle.rules.proofs.ListLaws.{if_by, run-le}
use Rattle.rules.proofs.CutLaws.{CutOk, cut_ok, cut-cases}
use Rattle.rules.proofs.EncodeLaws.{Bytes, value-small, scalar-bytes}
use Rattle.rules.proofs.LineLaws.{total, total-lines}

-- What holds of each cut that fails, and is kept by what stands before it, holds of the failure of a line.
module _ (Q : (at : ℕ) → List ℕ → Failure → Type 0)
    (one : (at b : ℕ) (s : List ℕ) (f : Failure) → cut (b ∷ s) ≡ fails f → Q at (b ∷ s) (moved_by at f))
    (more : (at b : ℕ) (s : List ℕ) (f : Failure) → Q (suc at) s f → Q at (b ∷ s) f) where
  stop_step : (at b : ℕ) (s : List ℕ) (c : Cut) → cut (b ∷ s) ≡ c → (next : ℕ → Cuts) → ((skip : ℕ) (f : Failure) → next skip ≡ stops f → Q (suc at) s f)
      → (f : Failure) → cut_step at c next ≡ stops f → Q at (b ∷ s) f
  unfolding cut_step with_token
  stop_step at b s blank z next ih f h = more at b s f (ih 0 f h)
  stop_step at b s comment z next ih f h = let n : ◌≡◌ {A = ℕ} 0 1 = cc in absurd (omega arith)
  stop_step at b s ends z next ih f h = let n : ◌≡◌ {A = ℕ} 0 1 = cc in absurd (omega arith)
  stop_step at b s (fails g) z next ih f h =
      let e : moved_by at g ≡ f = cc in
      subst (Q at (b ∷ s)) e (one at b s g z)
  stop_step at b s (token k n) z next ih f h = go (next (pred n)) refl h
    where
      go : (x : Cuts) → next (pred n) ≡ x → with_token (token_at k at n) x ≡ stops f → Q at (b ∷ s) f
      go (cuts us) e p = let n : ◌≡◌ {A = ℕ} 0 1 = cc in absurd (omega arith)
      go (stops g) e p = more at b s f (ih (pred n) f (e ∙ p))

  stop-by : (at skip : ℕ) (s : List ℕ) (f : Failure) → cuts_from at skip s ≡ stops f → Q at s f
  unfolding cuts_from
  stop-by at skip [] f h = let n : ◌≡◌ {A = ℕ} 0 1 = cc in absurd (omega arith)
  stop-by at (suc skip) (b ∷ s) f h = more at b s f (stop-by (suc at) skip s f h)
  stop-by at zero (b ∷ s) f h =
      stop_step at b s (cut (b ∷ s)) refl (λ skip. cuts_from (suc at) skip s) (λ skip g e. stop-by (suc at) skip s g e) f h

  failure-by : (lim : LineLimits) (s : State) (l : List ℕ) (f : Failure) → Q 0 l (failure bad_indent 0 0 (indent_size l)) → read_line lim s l ≡ line_halts (failed f) → Q 0 l f
  unfolding read_line with_levels with_cuts
  failure-by lim s l f bad h = by-levels (levels_of lim s l) h
    where
      by-cuts : (lead : List Token) (now : List ℕ) (c : Cuts) → cuts_from 0 0 l ≡ c → with_cuts s l lead now c ≡ line_halts (failed f) → Q 0 l f
      by-cuts lead now (cuts ts) e q = let n : ◌≡◌ {A = ℕ} 0 1 = cc in absurd (omega arith)
      by-cuts lead now (stops g) e q =
          let same : g ≡ f = cc in
          stop-by 0 0 l f (e ∙ ap stops same)

      by-levels : (v : Levels) → with_levels s l v ≡ line_halts (failed f) → Q 0 l f
      by-levels (levels lead now) q = by-cuts lead now (cuts_from 0 0 l) refl q
      by-levels unequal q =
          let same : failure bad_indent 0 0 (indent_size l) ≡ f = cc in
          subst (Q 0 l) same bad
      by-levels (beyond number) q = let n : ◌≡◌ {A = ℕ} 0 1 = cc in absurd (omega arith)

-- The range.

pub failure-inside : (lim : LineLimits) (s : State) (l : List ℕ) (f : Failure) → read_line lim s l ≡ line_halts (failed f) → f.at + f.size ≤ length l
unfolding indent_size
failure-inside lim s l f h =
    let k : f.at + f.size ≤ 0 + length l = failure-by (λ at s f. f.at + f.size ≤ at + length s) (λ at b s f e. inside at b s f e) (λ at b s f k. omega (arith, k)) lim s l f
    (omega (arith, run-le (λ b. is_space b || is_tab b) l)) h in
    omega (arith, k)
  where
    inside : (at b : ℕ) (s : List ℕ) (f : Failure) → cut (b ∷ s) ≡ fails f → at + f.at + f.size ≤ at + suc (length s)
    inside at b s f e =
        let k : f.at + f.size ≤ suc (length s) = subst (CutOk (b ∷ s)) e (cut_ok (b ∷ s)) in
        omega (arith, k)

-- The detail, and what was found.

pub record Known (f : Failure) : Type 0 where
  pub some-detail : 1 ≤ f.detail
  pub last-detail : f.detail ≤ 12
  pub found-small : f.found < 1_114_112

abbrev CutKnown : Cut → Type 0
CutKnown blank = Unit {0}
CutKnown comment = Unit {0}
CutKnown ends = Unit {0}
CutKnown (token k n) = Unit {0}
CutKnown (fails f) = Known f

known : (d c at n : ℕ) → 1 ≤ d → d ≤ 12 → c < 1_114_112 → Known (failure d c at n)
known d c at n h k v = record { some-detail = h; last-detail = k; found-small = v }

bytes-trimmed : (t : Bool) (x : ℕ) (s : List ℕ) → x < 256 → Bytes s → Bytes (trimmed t x s)
unfolding trimmed
bytes-trimmed t x [] h k = if_by Bytes t (λ _. tt) (λ _. (h, tt))
bytes-trimmed t x (y ∷ s) h k = (h, k)

bytes-trim : (f : ℕ → Bool) (s : List ℕ) → Bytes s → Bytes (trim_end f s)
unfolding trim_end
bytes-trim f [] h = tt
bytes-trim f (x ∷ s) h = bytes-trimmed (f x) x (trim_end f s) h.0 (bytes-trim f s h.1)

pub bytes_drop : (n : ℕ) (s : List ℕ) → Bytes s → Bytes (drop n s)
bytes_drop zero [] h = tt
bytes_drop zero (x ∷ s) h = h
bytes_drop (suc n) [] h = tt
bytes_drop (suc n) (x ∷ s) h = bytes_drop n s h.1

pub bytes_take : (n : ℕ) (s : List ℕ) → Bytes s → Bytes (take n s)
bytes_take zero [] h = tt
bytes_take zero (x ∷ s) h = tt
bytes_take (suc n) [] h = tt
bytes_take (suc n) (x ∷ s) h = (h.0, bytes_take n s h.1)

closing-known : (k : ℕ) (s : List ℕ) → Bytes s → CutKnown (closing_cut k s)
unfolding closing_cut
closing-known k [] h = known _ _ _ _ (omega arith) (omega arith) (omega arith)
closing-known k (c ∷ s) h = if_by CutKnown (eqb c (code "'")) (λ _. tt) (λ _. known _ _ _ _ (omega arith) (omega arith) (value-small c s h.0))

low-known : (s : List ℕ) → Bytes s → CutKnown (low_digit_cut s)
unfolding low_digit_cut
low-known [] h = known _ _ _ _ (omega arith) (omega arith) (omega arith)
low-known (c ∷ s) h = if_by CutKnown (is_hex_digit c) (λ _. closing-known 6 s h.1) (λ _. known _ _ _ _ (omega arith) (omega arith) (value-small c s h.0))

high-known : (s : List ℕ) → Bytes s → CutKnown (high_digit_cut s)
unfolding high_digit_cut
high-known [] h = known _ _ _ _ (omega arith) (omega arith) (omega arith)
high-known (c ∷ s) h =
    if_by CutKnown (within (code "0") (code "7") c) (λ _. low-known s h.1)
    (λ _. if_by CutKnown (is_hex_digit c) (λ _. known _ _ _ _ (omega arith) (omega arith) (omega arith)) (λ _. known _ _ _ _ (omega arith) (omega arith) (value-small c s h.0)))

escape-known : (s : List ℕ) → Bytes s → CutKnown (escape_cut s)
unfolding escape_cut
escape-known [] h = known _ _ _ _ (omega arith) (omega arith) (omega arith)
escape-known (c ∷ s) h =
    if_by CutKnown (elem c (ascii "0tnr'\\\"")) (λ _. closing-known 4 s h.1)
    (λ _. if_by CutKnown (eqb c (code "x")) (λ _. high-known s h.1) (λ _. known _ _ _ _ (omega arith) (omega arith) (value-small c s h.0)))

content-known : (s : List ℕ) → Bytes s → CutKnown (content_cut s)
unfolding content_cut
content-known [] h = known _ _ _ _ (omega arith) (omega arith) (omega arith)
content-known (c ∷ s) h =
    if_by CutKnown (eqb c (code "'")) (λ _. known _ _ _ _ (omega arith) (omega arith) (omega arith))
    (λ _. if_by CutKnown (eqb c (code "\\")) (λ _. escape-known s h.1)
    (λ _. if_by CutKnown (within 0x20 0x7E c) (λ _. closing-known 3 s h.1)
    (λ _. if_by CutKnown (ltb c 0x80) (λ _. known _ _ _ _ (omega arith) (omega arith) (value-small c s h.0)) (λ _. known _ _ _ _ (omega arith) (omega arith) (value-small c s h.0)))))

sign-known : (ks : List Spelling) (s : List ℕ) → CutKnown (sign_cut ks s)
unfolding sign_cut
sign-known [] s = known _ _ _ _ (omega arith) (omega arith) (omega arith)
sign-known (k ∷ ks) s = if_by CutKnown (begins k.bytes s) (λ _. tt) (λ _. sign-known ks s)

cut-known : (b : ℕ) (s : List ℕ) → Bytes (b ∷ s) → CutKnown (cut (b ∷ s))
unfolding letter_cut byte_cut word_cut number_cut string_cut
cut-known b s h =
    cut-cases CutKnown b s record {
      blanks = λ _. tt;
      comments = tt;
      letters = λ _. if_by CutKnown (begins (ascii "b'") (b ∷ s)) (λ _. content-known (drop 2 (trim_end is_cr (b ∷ s))) (bytes_drop 2 (trim_end is_cr (b ∷ s)) (bytes-trim is_cr (b ∷ s) h))) (λ _. tt);
      digits = λ _. tt;
      strings = λ _. if_by CutKnown (ltb (string_end (b ∷ s)) (length (b ∷ s))) (λ _. tt) (λ _. known _ _ _ _ (omega arith) (omega arith) (omega arith));
      others = known _ _ _ _ (omega arith) (omega arith) (value-small b s h.0);
      sign = λ _ _. sign-known signs (b ∷ s);
    }

pub failure-known : (lim : LineLimits) (s : State) (l : List ℕ) (f : Failure) → Bytes l → read_line lim s l ≡ line_halts (failed f) → Known f
failure-known lim s l f v h =
    failure-by (λ at s f. Bytes s → Known f) (λ at b s f e k. moved at f (subst CutKnown e (cut-known b s k))) (λ at b s f q k. q k.1) lim s l f
    (λ _. known _ _ _ _ (omega arith) (omega arith) (omega arith)) h v
  where
    moved : (at : ℕ) (f : Failure) → Known f → Known (moved_by at f)
    moved at f k = record { some-detail = k.some-detail; last-detail = k.last-detail; found-small = k.found-small }

-- A text that fails.

bytes_join : (n : ℕ) (s : List ℕ) → Bytes (take n s) → Bytes (drop n s) → Bytes s
bytes_join zero [] h k = tt
bytes_join zero (x ∷ s) h k = k
bytes_join (suc n) [] h k = tt
bytes_join (suc n) (x ∷ s) h k = (h.0, bytes_join n s h.1 k)

pub well_formed-bytes : (t : List ℕ) → WellFormed t → Bytes t
well_formed-bytes [] nil = tt
well_formed-bytes (b ∷ s) (scalar n e h) =
    let v = scalar-bytes b s n e in
    (v.0, bytes_join n s v.1 (well_formed-bytes (drop n s) h))

abbrev LineBytes : List Line → Type 0
LineBytes [] = Unit {0}
LineBytes (l ∷ ls) = Bytes l × LineBytes ls

onto-bytes : (b : ℕ) (ls : List Line) → b < 256 → LineBytes ls → LineBytes (onto b ls)
unfolding onto
onto-bytes b [] h k = ((h, tt), tt)
onto-bytes b (l ∷ ls) h k = ((h, k.0), k.1)

lines-bytes : (t : List ℕ) → Bytes t → LineBytes (lines_of t)
unfolding lines_of
lines-bytes [] h = tt
lines-bytes (b ∷ t) h = if_by LineBytes (is_lf b) (λ _. ((h.0, tt), lines-bytes t h.1)) (λ _. onto-bytes b (lines_of t) h.0 (lines-bytes t h.1))

-- the failure stands in the text
pub record Placed (size start : ℕ) (f : Failure) : Type 0 where
  pub inside : start + (f.at + f.size) ≤ size
  pub known-failure : Known f

placed_from : (lim : LineLimits) (s : State) (ls : List Line) (es : List Entry) (f : Failure) → LineBytes ls → read_from lim s ls ≡ halts es (failed f) → Placed (total ls) (byte_sum es) f
unfolding read_from line_then with_entry byte_sum content
placed_from lim s [] es f v h = let n : ◌≡◌ {A = ℕ} 0 1 = cc in absurd (omega arith)
placed_from lim s (l ∷ ls) es f v h = by-line (λ z fs e. placed_from lim z ls fs f v.1 e) (read_line lim s (content l)) refl h
  where
    by-rest : ((z : State) (fs : List Entry) → read_from lim z ls ≡ halts fs (failed f) → Placed (total ls) (byte_sum fs) f)
        → (ts : List Token) (z : State) (x : Reading) → read_from lim z ls ≡ x → with_entry (entry s (length l) ts) x ≡ halts es (failed f) → Placed (total (l ∷ ls)) (byte_sum es) f
    by-rest ih ts z (reads fs y) e q = let n : ◌≡◌ {A = ℕ} 0 1 = cc in absurd (omega arith)
    by-rest ih ts z (halts fs y) e q =
        let a : entry s (length l) ts ∷ fs ≡ es = cc in
        let b : y ≡ failed f = cc in
        let r : Placed (total ls) (byte_sum fs) f = ih z fs (e ∙ ap (halts fs) b) in
        record { inside = omega (arith, r.inside, ap byte_sum a); known-failure = r.known-failure }

    by-line : ((z : State) (fs : List Entry) → read_from lim z ls ≡ halts fs (failed f) → Placed (total ls) (byte_sum fs) f)
        → (x : LineReply) → read_line lim s (content l) ≡ x → line_then s l x (λ z. read_from lim z ls) ≡ halts es (failed f) → Placed (total (l ∷ ls)) (byte_sum es) f
    by-line ih (line_reads ts z) e q = by-rest ih ts z (read_from lim z ls) refl q
    by-line ih (line_halts x) e q =
        let a : [] ≡ es = cc in
        let b : x ≡ failed f = cc in
        record {
          inside = omega (arith, ap byte_sum a, failure-inside lim s (content l) f (e ∙ ap line_halts b), length-take (run not_lf l) l);
          known-failure = failure-known lim s (content l) f (bytes_take (run not_lf l) l v.0) (e ∙ ap line_halts b);
        }

pub failure_placed : (lim : LineLimits) (s : State) (t : List ℕ) (es : List Entry) (f : Failure) → WellFormed t → read_from lim s (lines_of t) ≡ halts es (failed f) → Placed (length t) (byte_sum es) f
failure_placed lim s t es f w h = subst (λ (n : ℕ). Placed n (byte_sum es) f) (total-lines t) (placed_from lim s (lines_of t) es f (lines-bytes t (well_formed-bytes t w)) h)
