-- What `report` answers and leaves.
-- Assumes nothing.
use Prim.Native.Nat.{ℕ, suc, ◌≤◌, ◌<◌}
use mathlib.Core.Path.{◌≡◌, refl, sym, ap, subst, ◌∙◌}
use mathlib.Core.List.{List, [], ◌∷◌}
use native.Mathlib.Omega.{arith}
use lib.ListN.{length}
use lib.Seq.{sets}
use borrow.Author.Tests.{lt-ltb, le-ltb, ltb-false}
use Rattle.std.specs.Prelude.{Result, Ok, Err}
use Rattle.rules.specs.Utf8.{WellFormed, well_formed_prefix}
use Rattle.rules.specs.Failure as RulesFailure
use Rattle.rules.specs.Failure.{failure_record}
use Rattle.rules.specs.Line.{initial, failed, over_limit}
use Rattle.rules.specs.Reading.{lines_of, Reading, reads, halts, read_from, byte_sum}
use Rattle.rules.specs.Limits.{max_bytes, Limits, barge, barge_line}
use Rattle.rules.specs.Replies.{short, lexical, out_buffer, unless, refused_if, numbered, is_too_long, too_long_by, is_malformed, malformed_by}
use Rattle.rules.specs.Records.{FreshReading, recorded, unread, halt_refusal, recorded_by, read_lines, fresh_reading_by, fresh_reading}
use Rattle.rules.specs.Report.{Reported, written, report_by, report_into}
use Rattle.rules.proofs.Utf8Laws.{prefix_le, whole_iff}
use Rattle.rules.proofs.PageLaws.{FreshCases, long, ill_formed, lines, fresh_cases}
use Rattle.rules.proofs.FailureLaws.{failure_placed}
use Rattle.refusals.specs.Unreads.{record_in, record_of, unread_of}
use Rattle.refusals.specs.declared.FailureRecord.{FailureRecord}
use Rattle.refusals.specs.declared.Unread.{Unread}
use Rattle.refusals.specs.declared.Unread.TheVariants.{TooLong, Malformed, Fails, AtLine}
use Rattle.refusals.specs.declared.Buffer.TheVariants as buffers
use Rattle.refusals.specs.declared.Refusal.{Refusal}
use Rattle.refusals.specs.declared.Refusal.TheVariants as refused
use Rattle.records.specs.declared.Counts.{Counts}
use Rattle.passes.specs.Passes.{pass_of}
use Rattle.passes.proofs.Passes.{pass_refused}
use Rattle.copies.proofs.Joins.{front-over}
use Rattle.message.proofs.Whole.{message_of_lem}
use Rattle.message.specs.Messages.{message_in, Printable}
use Rattle.report.specs.Answers.{report_numbers}

abbrev pub Answer : Type 0
Answer = Result ℕ Refusal

-- the answer r, and out left as O
abbrev pub Answered : (x : Reported) (r : Answer) (O : List ℕ) → Type 0
Answered x r O = (report_numbers r ≡ x.reply) × (O ≡ x.out)

answered-by : (x y : Reported) (r : Answer) (O : List ℕ) → x ≡ y → Answered y r O → Answered x r O
answered-by x y r O e a = subst (λ (w : Reported). Answered w r O) (sym e) a

-- A message msg of n bytes, and the buffer out.
module _ (out msg : List ℕ) (n : ℕ) (e : n ≡ length msg) where
  pub short-answer : (O : List ℕ) → O ≡ out → length O < n → Answered (written out msg) (Err (refused.Short buffers.Out n)) O
  unfolding written unless refused_if
  short-answer O q h = rw (lt-ltb (length out) (length msg) (omega (arith, ap length q))) (ap (λ (i : ℕ). numbered (short out_buffer i)) e, q)

  pub message-answer : (O₁ O : List ℕ) → O₁ ≡ out → n ≤ length O₁ → O ≡ sets O₁ 0 msg → Answered (written out msg) (Ok n) O
  unfolding written unless refused_if
  message-answer O₁ O q h p =
      let fits : length msg ≤ length out = omega (arith, ap length q) in
      rw (le-ltb (length out) (length msg) fits)
      (ap (λ (i : ℕ). 0 ∷ i ∷ []) e, p ∙ ap (λ (l : List ℕ). sets l 0 msg) q ∙ front-over out msg fits)

-- what the text gives under limits that are the barge's
pub opened : {lim : Limits} {r : Result Counts Unread} (t : List ℕ) → lim ≡ barge → r ≡ pass_of (fresh_reading_by lim t) → r ≡ pass_of (fresh_reading t)
unfolding fresh_reading
opened t e h = h ∙ ap (λ (l : Limits). pass_of (fresh_reading_by l t)) e

-- A failure of the fresh reading can be written.

lexical-printable : (t : List ℕ) (g : RulesFailure.FailureRecord) (x : FreshReading) → FreshCases t x → x ≡ unread (lexical g) → Printable t (record_in g)
unfolding is_too_long too_long_by malformed_by is_malformed read_lines recorded_by halt_refusal failure_record
lexical-printable t g x (long a) e = let z : ◌≡◌ {A = ℕ} 0 1 = cc in absurd (omega arith)
lexical-printable t g x (ill_formed a b) e = let z : ◌≡◌ {A = ℕ} 0 1 = cc in absurd (omega arith)
lexical-printable t g x (lines a b q) e = go (read_from barge_line initial (lines_of t)) refl (q ∙ e)
  where
    formed : WellFormed t
    formed = (whole_iff t).0 (omega (arith, prefix_le t, ltb-false (well_formed_prefix t) (length t) b))

    go : (y : Reading) → read_from barge_line initial (lines_of t) ≡ y → recorded_by y ≡ unread (lexical g) → Printable t (record_in g)
    go (reads es z) d j = let z : ◌≡◌ {A = ℕ} 0 1 = cc in absurd (omega arith)
    go (halts es (over_limit number)) d j = let z : ◌≡◌ {A = ℕ} 0 1 = cc in absurd (omega arith)
    go (halts es (failed f)) d j =
        let v = failure_placed barge_line initial t es f formed d in
        let w = v.known-failure in
        let i : failure_record (byte_sum es) (suc (length es)) f ≡ g = cc in
        subst (λ (y : RulesFailure.FailureRecord). Printable t (record_in y)) i
        (w.some-detail, w.last-detail, w.found-small, ltb-false max_bytes (length t) a, omega (arith, v.inside), omega arith, omega arith)

pub printable : (t : List ℕ) (f : FailureRecord) → fresh_reading t ≡ unread (lexical (record_of f)) → Printable t f
printable t f e = lexical-printable t (record_of f) (fresh_reading t) (fresh_cases t) e

-- The text t with the buffer out.
module _ (t out : List ℕ) where
  -- the text reads
  pub clear-answer : (c : Counts) → Ok c ≡ pass_of (fresh_reading t) → Answered (report_into t out) (Ok 0) out
  unfolding report_into report_by
  clear-answer c e = go (fresh_reading t) e
    where
      go : (x : FreshReading) → Ok c ≡ pass_of x → Answered (report_by t out x) (Ok 0) out
      go (recorded r) e = (refl, refl)
      go (unread u) e = let z : ◌≡◌ {A = ℕ} 0 1 = cc in absurd (omega arith)

  -- it does not, with this failure
  pub failed-answer : (f : FailureRecord) → Err (Fails f) ≡ pass_of (fresh_reading t) → (a : Answer) (O : List ℕ) → Answered (written out (message_in t f)) a O → Answered (report_into t out) a O
  unfolding report_into report_by
  failed-answer f e a O j =
      let is = pass_refused (fresh_reading t) (Fails f) e in
      answered-by _ _ a O (ap (report_by t out) is ∙ ap (written out) (sym (message_of_lem t (record_of f)))) j

  -- with another refusal
  pub other-answer : (u : Unread) → Err u ≡ pass_of (fresh_reading t) → ((f : FailureRecord) → u ≡ Fails f → ⊥) → Answered (report_into t out) (Err (refused.Reading u)) out
  unfolding report_into report_by
  other-answer u e k = answered-by _ _ (Err (refused.Reading u)) out (ap (report_by t out) (pass_refused (fresh_reading t) u e)) (go u k)
    where
      go : (v : Unread) → ((f : FailureRecord) → v ≡ Fails f → ⊥) → Answered (report_by t out (unread (unread_of v))) (Err (refused.Reading v)) out
      go (TooLong number n) k = (refl, refl)
      go (Malformed n) k = (refl, refl)
      go (AtLine number l) k = (refl, refl)
      go (Fails f) k = absurd (k f refl)
