-- What `read` answers and leaves, by the answer of its first pass.
-- Assumes nothing.
use Rattle.std.proofs.Common.{ℕ, ◌≡◌, ◌+◌, ◌*◌, ◌≤◌, ◌<◌, List, Result, Ok, Err, refl, sym, ap, ◌∙◌, length, arith}
use Rattle.std.proofs.lemmas.List.Edits.{sets}
use borrow.Author.Tests.{lt-ltb, le-ltb}
use Rattle.rules.specs.Limits.{max_bytes, max_levels, LineLimits}
use Rattle.rules.specs.Line.{State, initial}
use Rattle.rules.specs.Reading.{lines_of, Entry, Reading, reads, halts, read_from}
use Rattle.rules.specs.Replies.{first_of, unless, refused_if}
use Rattle.rules.specs.Records.{line_size, token_size, line_need, token_need, Records, records_of, record_tests, FreshReading, recorded, unread, recorded_by, read_lines}
use Rattle.rules.specs.Read.{Filled, filled_by}
use Rattle.rules.proofs.RecordLaws.{fresh_sizes}
use Rattle.rules.proofs.BoundLaws.{fresh_small}
use Rattle.copies.proofs.Joins.{front-over}
use Rattle.records.specs.Sinks.{Writes}
use Rattle.records.specs.declared.sink.Written.{Written}
use Rattle.records.specs.declared.Counts.{Counts}
use Rattle.refusals.specs.Unreads.{unread_of}
use Rattle.refusals.specs.declared.Unread.{Unread}
use Rattle.refusals.specs.declared.Buffer.TheVariants.{Lines, Tokens}
use Rattle.refusals.specs.declared.Refusal.{Refusal}
use Rattle.refusals.specs.declared.Refusal.TheVariants as refused
use Rattle.passes.specs.Passes.{TakenIn, Counted}
use Rattle.reading.specs.Answers.{read_numbers}

-- the answer r, and the buffers left as L and T
abbrev answered : Result Counts Refusal → (L T : List ℕ) → Filled
answered r L T = record { reply = read_numbers r; lines = L; tokens = T }

-- 1 to 4
pub refused_answer : (f : FreshReading) (L T : List ℕ) (u : Unread) → f ≡ unread (unread_of u) → answered (Err (refused.Reading u)) L T ≡ filled_by L T f
unfolding filled_by
refused_answer f L T u e = ap (filled_by L T) (sym e)

-- The records r, as many as were counted, and the buffers L and T.
module _ (r : Records) (c : Counts) (lines : c.lines ≡ r.head.m) (tokens : c.tokens ≡ r.head.k) (L T : List ℕ) where
  -- 5 (lines)
  few-lines : length L < line_size * (c.lines + 1) → filled_by L T (recorded r) ≡ answered (Err (refused.Short Lines (line_size * (c.lines + 1)))) L T
  unfolding filled_by record_tests first_of unless refused_if
  few-lines h = let n : length L < line_need r.head.m = omega (arith, lines) in rw (lines, lt-ltb (length L) (line_need r.head.m) n) refl

  module _ (room : line_size * (c.lines + 1) ≤ length L) where
    fit-lines : line_need r.head.m ≤ length L
    fit-lines = omega (arith, lines)

    -- 5 (tokens)
    few-tokens : length T < token_size * c.tokens → filled_by L T (recorded r) ≡ answered (Err (refused.Short Tokens (token_size * c.tokens))) L T
    unfolding filled_by record_tests first_of unless refused_if
    few-tokens h =
        let n : length T < token_need r.head.k = omega (arith, tokens) in
        rw (tokens, le-ltb (length L) (line_need r.head.m) fit-lines, lt-ltb (length T) (token_need r.head.k) n) refl

    -- both hold the records
    all-words : c.bytes ≡ r.head.n → length r.lines ≡ line_need r.head.m → length r.tokens ≡ token_need r.head.k → token_size * c.tokens ≤ length T
        → filled_by L T (recorded r) ≡ answered (Ok c) (sets L 0 r.lines) (sets T 0 r.tokens)
    unfolding filled_by record_tests first_of unless refused_if
    all-words bytes size-l size-t h =
        let n : token_need r.head.k ≤ length T = omega (arith, tokens) in
        rw (
          bytes,
          lines,
          tokens,
          le-ltb (length L) (line_need r.head.m) fit-lines,
          le-ltb (length T) (token_need r.head.k) n,
          front-over L r.lines (omega (arith, size-l, fit-lines)),
          front-over T r.tokens (omega (arith, size-t, n)),
        ) refl

-- the words that two sinks have written are those of this answer, in the buffers that they were made of
pub record Stored (f : Filled) (c : Counts) (l l' t t' : Written) : Type 0 where
  pub reply : read_numbers (Ok c) ≡ f.reply
  pub same-lines : l'.words.ghost_name ≡ l.words.ghost_name
  pub lines : l'.words.now ≡ f.lines
  pub same-tokens : t'.words.ghost_name ≡ t.words.ghost_name
  pub tokens : t'.words.now ≡ f.tokens

-- The text t, whose reading was counted.
module _ (lim : LineLimits) (fit : lim.levels ≤ max_levels) (t : List ℕ) (small : length t ≤ max_bytes) (c : Counts)
    (counted : Counted c (read_from lim initial (lines_of t))) where
  abbrev whole : Reading
  whole = read_from lim initial (lines_of t)

  -- its lines, whose records are as many as were counted
  record Behind : Type 0 where
    pub es : List Entry
    pub end : State
    pub read : whole ≡ reads es end
    pub is : read_lines lim t ≡ recorded (records_of es end)
    pub bytes : c.bytes ≡ (records_of es end).head.n
    pub lines : c.lines ≡ (records_of es end).head.m
    pub tokens : c.tokens ≡ (records_of es end).head.k

  behind : Behind
  unfolding read_lines recorded_by records_of
  behind = go whole refl counted
    where
      go : (x : Reading) → whole ≡ x → Counted c x → Behind
      go (reads es z) e d = record { es = es; end = z; read = e; is = ap recorded_by e; bytes = d.0; lines = d.1; tokens = d.2 }
      go (halts es h) e d = absurd d

  abbrev records : Records
  records = records_of behind.es behind.end

  pub counts_small : (c.lines ≤ 1_048_576) × (c.tokens ≤ 2_097_152)
  counts_small =
      let b = behind in
      let s = fresh_small lim fit t records small b.is in
      (omega (arith, b.lines, s.m-le, s.n-le), omega (arith, b.tokens, s.k-le, s.n-le))

  -- the buffers L and T
  module _ {L T : List ℕ} where
    pub lines_answer : length L < line_size * (c.lines + 1) → answered (Err (refused.Short Lines (line_size * (c.lines + 1)))) L T ≡ filled_by L T (read_lines lim t)
    lines_answer h = let b = behind in sym (ap (filled_by L T) b.is ∙ few-lines records c b.lines b.tokens L T h)

    pub tokens_answer : line_size * (c.lines + 1) ≤ length L → length T < token_size * c.tokens
        → answered (Err (refused.Short Tokens (token_size * c.tokens))) L T ≡ filled_by L T (read_lines lim t)
    tokens_answer l h = let b = behind in sym (ap (filled_by L T) b.is ∙ few-tokens records c b.lines b.tokens L T l h)

    -- they have room for the records, and become these where two sinks over them take these
    module _ (l : line_size * (c.lines + 1) ≤ length L) (h : token_size * c.tokens ≤ length T) where
      pub stored : {lines lines' tokens tokens' : Written} → lines.words.now ≡ L → tokens.words.now ≡ T → TakenIn (Writes lines lines') (Writes tokens tokens') whole
          → Stored (filled_by L T (read_lines lim t)) c lines lines' tokens tokens'
      stored {lines} {lines'} {tokens} {tokens'} el et m =
          let b = behind in
          let s = fresh_sizes lim t records b.is in
          let w : TakenIn (Writes lines lines') (Writes tokens tokens') (reads b.es b.end) = rw b.read at m in
          let e : filled_by L T (read_lines lim t) ≡ answered (Ok c) (sets L 0 records.lines) (sets T 0 records.tokens) =
          ap (filled_by L T) b.is ∙ all-words records c b.lines b.tokens L T l b.bytes s.1 s.2 h in
          record {
            reply = λ a. (sym e a).reply;
            same-lines = w.0.same;
            lines = w.0.written ∙ (λ a. sets (el a) 0 records.lines) ∙ (λ a. (sym e a).lines);
            same-tokens = w.1.same;
            tokens = w.1.written ∙ (λ a. sets (et a) 0 records.tokens) ∙ (λ a. (sym e a).tokens);
          }
