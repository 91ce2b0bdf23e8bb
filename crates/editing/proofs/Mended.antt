-- The records that a plan leaves on a faithful page are those of the edited text.
-- Assumes nothing.
use Prim.Native.Nat.{ℕ, ◌+◌, ◌-◌, ◌*◌, ◌≤◌}
use mathlib.Core.Path.{◌≡◌, sym, ap, subst, ◌∙◌}
use mathlib.Core.List.{List, [], ◌∷◌, ◌++◌}
use native.Mathlib.Omega.{arith}
use native.Mathlib.Nat.{zero-add}
use lib.ListN.{length, take, drop, length-append, length-drop, take-append-drop}
use lib.Seq.{take-take, drop-append-le, length-take-le}
use Rattle.rules.specs.Reading.{Entry, byte_sum, token_sum}
use Rattle.rules.specs.Limits.{barge_line}
use Rattle.rules.specs.Records.{line_size, token_size, line_need, token_need, line_records, token_records, end_entry, with_end, Records, records_of, recorded_by, read_lines, Behind}
use Rattle.rules.specs.Page.{page_records}
use Rattle.rules.specs.StopRule.{Edit, edited}
use Rattle.rules.proofs.ReadingLaws.{token_sum_append}
use Rattle.rules.proofs.RecordLaws.{line_records_append, line_records_take, line_records_drop, length_line_records, token_records_append, token_records_take, token_records_drop, length_token_records}
use Rattle.rules.proofs.BoundLaws.{AllLe, word_max, Small, fresh_small}
use Rattle.header.specs.Pages.{page}
use Rattle.moving.specs.Moved.{moved_lines, moved_tokens}
use Rattle.moving.proofs.Shifts.{all_right, moved-line-records, moved-token-records}
use Rattle.records.specs.declared.Counts.{Counts}
use Rattle.plans.specs.Plans.{moved_to, Planned, Mends}
use Rattle.plans.specs.declared.Plan.{Plan}
use Rattle.writing.proofs.Writes.{written-sizes}
use Rattle.writing.specs.Writes.{written, written_lines, written_tokens}

-- where two lists that begin a buffer are cut
cut-tail : (ws front : List ℕ) (n at : ℕ) → take n ws ≡ front → at ≤ length front → drop at ws ≡ drop at front ++ drop n ws
cut-tail ws front n at e h =
    ap (drop at) (sym (take-append-drop n ws)) ∙ ap (λ (x : List ℕ). drop at (x ++ drop n ws)) e ∙ drop-append-le at front (drop n ws) h

module _ (n m k : ℕ) (text lines tokens : List ℕ) (ed : Edit) (bh : Behind barge_line (take n text) (page_records (page n m k text lines tokens)))
    (small : length (edited (take n text) ed) ≤ 1_048_576) (p : Plan) (pl : Planned (edited (take n text) ed) lines m k p)
    (x : Mends (take n text) lines bh.entries bh.end ed p) where
  abbrev u : List ℕ
  u = edited (take n text) ed

  abbrev O : List Entry
  O = with_end bh.entries bh.end

  abbrev N : List Entry
  N = written u lines p

  abbrev E : List Entry
  E = with_end x.entries x.last

  lines_are : take (line_need m) lines ≡ line_records 0 0 O
  unfolding records_of
  lines_are = ap (λ (r : Records). r.lines) bh.records-are

  tokens-are : take (token_need k) tokens ≡ token_records 0 1 O
  unfolding records_of
  tokens-are = ap (λ (r : Records). r.tokens) bh.records-are

  m-is : m ≡ length bh.entries
  unfolding records_of
  m-is = ap (λ (r : Records). r.head.m) bh.records-are

  k-is : k ≡ token_sum O
  unfolding records_of
  k-is = ap (λ (r : Records). r.head.k) bh.records-are

  long : length O ≡ m + 1
  long = length-append bh.entries (end_entry bh.end ∷ []) ∙ omega (arith, m-is)

  i-le : p.begin.lines ≤ length O
  i-le = omega (arith, pl.begin-lines, long)

  j-le : p.kept.lines ≤ length O
  j-le = omega (arith, pl.kept-lines, long)

  abbrev to : Counts
  to = moved_to p

  -- what stands before the kept tail afterwards
  to-is : (p.begin.bytes + byte_sum N ≡ to.bytes) × (p.begin.lines + 1 + length N ≡ to.lines + 1) × (p.begin.tokens + token_sum N ≡ to.tokens)
  to-is = let n = written-sizes pl in (omega (arith, n.0), omega (arith, n.1), omega (arith, n.2))

  small-records : Small (records_of x.entries x.last)
  unfolding read_lines recorded_by
  small-records = fresh_small barge_line (omega arith) u (records_of x.entries x.last) small (ap recorded_by x.reads-are)

  -- Line records.

  line-parts : line_records 0 0 E ≡ line_records 0 0 (take p.begin.lines O) ++ (line_records p.begin.bytes p.begin.tokens N ++ line_records to.bytes (to.tokens) (drop p.kept.lines O))
  line-parts =
      let b : 0 + byte_sum (take p.begin.lines O) ≡ p.begin.bytes = zero-add (byte_sum (take p.begin.lines O)) ∙ sym x.begin-is.0 in
      let f : 0 + token_sum (take p.begin.lines O) ≡ p.begin.tokens = zero-add (token_sum (take p.begin.lines O)) ∙ sym x.begin-is.1 in
      ap (line_records 0 0) x.mended ∙ line_records_append 0 0 (take p.begin.lines O) (N ++ drop p.kept.lines O)
      ∙ (λ y. line_records 0 0 (take p.begin.lines O) ++ line_records (b y) (f y) (N ++ drop p.kept.lines O))
      ∙ ap (λ (y : List ℕ). line_records 0 0 (take p.begin.lines O) ++ y) (line_records_append p.begin.bytes p.begin.tokens N (drop p.kept.lines O)
      ∙ (λ y. line_records p.begin.bytes p.begin.tokens N ++ line_records (to-is.0 y) (to-is.2 y) (drop p.kept.lines O)))

  lines-small : AllLe word_max (line_records to.bytes (to.tokens) (drop p.kept.lines O))
  unfolding records_of
  lines-small =
      all_right word_max (line_records p.begin.bytes p.begin.tokens N) (line_records to.bytes (to.tokens) (drop p.kept.lines O))
      (all_right word_max (line_records 0 0 (take p.begin.lines O)) (line_records p.begin.bytes p.begin.tokens N ++ line_records to.bytes (to.tokens) (drop p.kept.lines O))
      (subst (AllLe word_max) line-parts small-records.lines))

  kept-lines : moved_lines p.kept.bytes to.bytes p.kept.tokens (to.tokens) lines p.kept.lines (m + 1 - p.kept.lines) ≡ line_records to.bytes (to.tokens) (drop p.kept.lines O)
  kept-lines =
      let c : m + 1 - p.kept.lines ≡ length (drop p.kept.lines O) = sym (length-drop p.kept.lines O ∙ omega (arith, long)) in
      let s : 0 + byte_sum (take p.kept.lines O) ≡ p.kept.bytes = zero-add (byte_sum (take p.kept.lines O)) ∙ sym x.kept-is.0 in
      let f : 0 + token_sum (take p.kept.lines O) ≡ p.kept.tokens = zero-add (token_sum (take p.kept.lines O)) ∙ sym x.kept-is.1 in
      let d : drop (line_size * p.kept.lines) lines ≡ line_records p.kept.bytes p.kept.tokens (drop p.kept.lines O) ++ drop (line_need m) lines =
      cut-tail lines (line_records 0 0 O) (line_need m) (line_size * p.kept.lines) lines_are (omega (arith, length_line_records 0 0 O, j-le))
      ∙ ap (λ (y : List ℕ). y ++ drop (line_need m) lines) (line_records_drop 0 0 p.kept.lines O j-le ∙ (λ y. line_records (s y) (f y) (drop p.kept.lines O))) in
      ap (moved_lines p.kept.bytes to.bytes p.kept.tokens (to.tokens) lines p.kept.lines) c
      ∙ moved-line-records p.kept.bytes to.bytes p.kept.tokens (to.tokens) lines p.kept.lines (drop p.kept.lines O) (drop (line_need m) lines) d lines-small

  pub line-words : written_lines u lines m p ≡ line_records 0 0 E
  line-words =
      let t : take (line_size * p.begin.lines) lines ≡ line_records 0 0 (take p.begin.lines O) =
      sym (take-take (line_size * p.begin.lines) (line_need m) lines (omega (arith, pl.begin-lines))) ∙ ap (take (line_size * p.begin.lines)) lines_are ∙ line_records_take 0 0 p.begin.lines O i-le in
      (λ y. t y ++ (line_records p.begin.bytes p.begin.tokens N ++ kept-lines y)) ∙ sym line-parts

  -- Token records.

  token-parts : token_records 0 1 E ≡ token_records 0 1 (take p.begin.lines O) ++ (token_records p.begin.bytes (p.begin.lines + 1) N ++ token_records to.bytes (to.lines + 1) (drop p.kept.lines O))
  token-parts =
      let b : 0 + byte_sum (take p.begin.lines O) ≡ p.begin.bytes = zero-add (byte_sum (take p.begin.lines O)) ∙ sym x.begin-is.0 in
      let l : 1 + length (take p.begin.lines O) ≡ p.begin.lines + 1 = omega (arith, length-take-le p.begin.lines O i-le) in
      ap (token_records 0 1) x.mended ∙ token_records_append 0 1 (take p.begin.lines O) (N ++ drop p.kept.lines O)
      ∙ (λ y. token_records 0 1 (take p.begin.lines O) ++ token_records (b y) (l y) (N ++ drop p.kept.lines O))
      ∙ ap (λ (y : List ℕ). token_records 0 1 (take p.begin.lines O) ++ y) (token_records_append p.begin.bytes (p.begin.lines + 1) N (drop p.kept.lines O)
      ∙ (λ y. token_records p.begin.bytes (p.begin.lines + 1) N ++ token_records (to-is.0 y) (to-is.1 y) (drop p.kept.lines O)))

  tokens-small : AllLe word_max (token_records to.bytes (to.lines + 1) (drop p.kept.lines O))
  unfolding records_of
  tokens-small =
      all_right word_max (token_records p.begin.bytes (p.begin.lines + 1) N) (token_records to.bytes (to.lines + 1) (drop p.kept.lines O))
      (all_right word_max (token_records 0 1 (take p.begin.lines O)) (token_records p.begin.bytes (p.begin.lines + 1) N ++ token_records to.bytes (to.lines + 1) (drop p.kept.lines O))
      (subst (AllLe word_max) token-parts small-records.tokens))

  tail-sum : k - p.kept.tokens ≡ token_sum (drop p.kept.lines O)
  tail-sum = omega (arith, k-is, ap token_sum (take-append-drop p.kept.lines O), token_sum_append (take p.kept.lines O) (drop p.kept.lines O), x.kept-is.1)

  kept-tokens : moved_tokens p.kept.bytes to.bytes (p.kept.lines + 1) (to.lines + 1) tokens p.kept.tokens (k - p.kept.tokens) ≡ token_records to.bytes (to.lines + 1) (drop p.kept.lines O)
  kept-tokens =
      let s : 0 + byte_sum (take p.kept.lines O) ≡ p.kept.bytes = zero-add (byte_sum (take p.kept.lines O)) ∙ sym x.kept-is.0 in
      let l : 1 + p.kept.lines ≡ p.kept.lines + 1 = omega arith in
      let f : token_size * p.kept.tokens ≡ token_size * token_sum (take p.kept.lines O) = ap (λ (y : ℕ). token_size * y) x.kept-is.1 in
      let d : drop (token_size * p.kept.tokens) tokens ≡ token_records p.kept.bytes (p.kept.lines + 1) (drop p.kept.lines O) ++ drop (token_need k) tokens =
      cut-tail tokens (token_records 0 1 O) (token_need k) (token_size * p.kept.tokens) tokens-are (omega (arith, length_token_records 0 1 O, pl.kept-tokens, k-is))
      ∙ ap (λ (y : List ℕ). y ++ drop (token_need k) tokens) (ap (λ (y : ℕ). drop y (token_records 0 1 O)) f ∙ token_records_drop 0 1 p.kept.lines O j-le ∙ (λ y. token_records (s y) (l y) (drop p.kept.lines O))) in
      ap (moved_tokens p.kept.bytes to.bytes (p.kept.lines + 1) (to.lines + 1) tokens p.kept.tokens) tail-sum
      ∙ moved-token-records p.kept.bytes to.bytes (p.kept.lines + 1) (to.lines + 1) tokens p.kept.tokens (drop p.kept.lines O) (drop (token_need k) tokens) d tokens-small

  pub token-words : written_tokens u lines tokens k p ≡ token_records 0 1 E
  token-words =
      let f : token_size * p.begin.tokens ≡ token_size * token_sum (take p.begin.lines O) = ap (λ (y : ℕ). token_size * y) x.begin-is.1 in
      let t : take (token_size * p.begin.tokens) tokens ≡ token_records 0 1 (take p.begin.lines O) =
      sym (take-take (token_size * p.begin.tokens) (token_need k) tokens (omega (arith, pl.begin-tokens))) ∙ ap (take (token_size * p.begin.tokens)) tokens-are
      ∙ ap (λ (y : ℕ). take y (token_records 0 1 O)) f ∙ token_records_take 0 1 p.begin.lines O i-le in
      (λ y. t y ++ (token_records p.begin.bytes (p.begin.lines + 1) N ++ kept-tokens y)) ∙ sym token-parts
