-- The edit's contract: as the code's returns meet it, that it can be met on every page, and what it says of every page that fits.
-- Assumes nothing.
use Prim.Native.Nat.{ℕ, suc, ◌≤◌}
use mathlib.Core.Path.{◌≡◌, refl, sym, ap, ◌∙◌}
use mathlib.Core.Bool.{Bool, true, false}
use mathlib.Core.List.{List, [], ◌∷◌}
use mathlib.Core.Option.{Option, none, some}
use native.Mathlib.Omega.{arith}
use lib.ListN.{length}
use borrow.Author.Tests.{ltb-false}
use Rattle.rules.specs.Lists.{bit, overwrite}
use Rattle.rules.specs.Line.{initial, Halt, failed, over_limit}
use Rattle.rules.specs.Reading.{lines_of, Reading, reads, halts, read_from, byte_sum}
use Rattle.rules.specs.Failure.{failure_record}
use Rattle.rules.specs.Limits.{max_bytes, barge_line}
use Rattle.rules.specs.Replies.{is_too_long, Refusal, reading, unfit, Reply, numbered, accepted, refused_if, first_of, unless}
use Rattle.rules.specs.Records.{line_need, token_need, Records, records_of, record_tests, halt_refusal, recorded_by, recorded, read_lines}
use Rattle.rules.specs.Page.{Page, Lent, Sizes, sizes, fits, page_text, Faithful}
use Rattle.rules.specs.StopRule.{Edit, edited, reread_count}
use Rattle.rules.specs.Edit.{Outcome, early, late, done, gate, stored, through, outcome, reply_of, after, page_gate, Free, failure, limit, few_lines, few_tokens, stale, acceptance, Allowed, EditPost}
use Rattle.rules.specs.Check.{check_reply}
use Rattle.rules.specs.History.{Chain, call, text_after, Holds}
use Rattle.rules.proofs.LimitLaws.{HaltNumbered, halt_numbered}
use Rattle.rules.proofs.BufferLaws.{length_overwrite, overwrite_take}
use Rattle.rules.proofs.RecordLaws.{fresh_sizes}
use Rattle.rules.proofs.PageLaws.{Fits, true_fits, faithful_fits, faithful_iff}
use Rattle.rules.proofs.GateLaws.{Passed, stops_early, stops_late, clear, gate-passed, RoomCases, enough, room-cases}
use Rattle.rules.proofs.BoundLaws.{fresh_small}
use Rattle.rules.proofs.HistoryLaws.{holds_faithful, holds_fits}

-- The gate of a page.

module _ (q : Lent) (ed : Edit) where
  pub page-gate-unfit : fits q.page ≡ false → page_gate q ed ≡ some (early unfit)
  unfolding page_gate refused_if unless
  page-gate-unfit h = rw h

  pub page-gate-fits : fits q.page ≡ true → page_gate q ed ≡ gate (sizes q) (page_text q.page) ed
  unfolding page_gate refused_if unless
  page-gate-fits h = rw h

-- The code's returns: 7; a refusal of the gate; past the gate.

unfit_faithful : (pg : Page) → fits pg ≡ false → Faithful pg → ⊥
unfit_faithful pg h f = let n : ◌≡◌ {A = ℕ} 0 1 = ap bit (sym h ∙ true_fits pg (faithful_fits pg f)) in omega arith

pub unfit-post : (q : Lent) (ed : Edit) → fits q.page ≡ false → EditPost q ed (numbered unfit) q
unfolding reply_of after
unfit-post q ed h =
    record {
      came = early unfit;
      reply-is = refl;
      lent_is = refl;
      allowed = rw (page-gate-unfit q ed h) refl;
      exact = λ f. absurd (unfit_faithful q.page h f);
    }

pub shut_post : (q : Lent) (ed : Edit) (o : Outcome) → fits q.page ≡ true → gate (sizes q) (page_text q.page) ed ≡ some o
    → EditPost q ed (reply_of o) (after q (edited (page_text q.page) ed) o)
unfolding outcome through
shut_post q ed o h e =
    record { came = o; reply-is = refl; lent_is = refl; allowed = rw (page-gate-fits q ed h, e) refl; exact = λ f. rw e refl }

pub clear-post : (q : Lent) (ed : Edit) (o : Outcome) → fits q.page ≡ true → gate (sizes q) (page_text q.page) ed ≡ none
    → Free q (edited (page_text q.page) ed) o
    → (Faithful q.page → o ≡ stored (sizes q) (reread_count barge_line (page_text q.page) ed) (read_lines barge_line (edited (page_text q.page) ed)))
    → EditPost q ed (reply_of o) (after q (edited (page_text q.page) ed) o)
unfolding outcome through
clear-post q ed o h e free exact =
    record { came = o; reply-is = refl; lent_is = refl; allowed = rw (page-gate-fits q ed h, e) free; exact = λ f. rw e (exact f) }

-- The contract can be met on every page.

halt_free : (q : Lent) (u : List ℕ) (p l : ℕ) (h : Halt) → HaltNumbered barge_line h → Free q u (late (reading (halt_refusal p l h)))
unfolding halt_refusal
halt_free q u p l (failed f) k = failure (failure_record p l f)
halt_free q u p l (over_limit number) k = limit number l k

stored-free : (q : Lent) (u : List ℕ) (count : ℕ) → length u ≤ max_bytes → Free q u (stored (sizes q) count (read_lines barge_line u))
unfolding read_lines recorded_by stored unless
stored-free q u count small = go (read_from barge_line initial (lines_of u)) refl
  where
    tests : (r : Records) → read_lines barge_line u ≡ recorded r → (o : Option Refusal) → RoomCases (length q.page.lines) (length q.page.tokens) r o
        → Free q u (unless o late (done r count))
    tests r e o RoomCases.few_lines = few_lines _
    tests r e o RoomCases.few_tokens = few_tokens _
    tests r e o (enough x y) =
        let fs = fresh_sizes barge_line u r e in
        let sm = fresh_small barge_line (omega arith) u r small e in
        acceptance r count fs.0 (omega (arith, sm.m-le, sm.n-le)) (omega (arith, sm.k-le, sm.n-le)) fs.1 fs.2 x y

    go : (x : Reading) → read_from barge_line initial (lines_of u) ≡ x → Free q u (stored (sizes q) count (recorded_by x))
    go (halts es h) e = halt_free q u (byte_sum es) (suc (length es)) h (halt_numbered barge_line initial (lines_of u) es h e)
    go (reads es z) e =
        tests (records_of es z) (ap recorded_by e) (first_of (record_tests (length q.page.lines) (length q.page.tokens) (records_of es z)))
        (room-cases (length q.page.lines) (length q.page.tokens) (records_of es z))

-- what comes to pass on a faithful page is allowed on every page that fits
outcome-allowed : (q : Lent) (ed : Edit) → Allowed q (edited (page_text q.page) ed) (gate (sizes q) (page_text q.page) ed) (outcome (sizes q) (page_text q.page) ed)
unfolding outcome through is_too_long
outcome-allowed q ed = go (gate (sizes q) (page_text q.page) ed) (gate-passed (sizes q) (page_text q.page) ed)
  where
    u : List ℕ
    u = edited (page_text q.page) ed

    go : (g : Option Outcome) → Passed (sizes q) (page_text q.page) ed g → Allowed q u g (through g (stored (sizes q) (reread_count barge_line (page_text q.page) ed) (read_lines barge_line u)))
    go (some o) passed = refl
    go none (clear proper text spare few form) = stored-free q u (reread_count barge_line (page_text q.page) ed) (ltb-false _ _ few)

pub can_be_met : (q : Lent) (ed : Edit) → (reply : Reply) × (q' : Lent) × EditPost q ed reply q'
can_be_met q ed = go (fits q.page) refl
  where
    go : (b : Bool) → fits q.page ≡ b → (reply : Reply) × (q' : Lent) × EditPost q ed reply q'
    go false h = (numbered unfit, q, unfit-post q ed h)
    go true h = (
      reply_of (outcome (sizes q) (page_text q.page) ed),
      after q (edited (page_text q.page) ed) (outcome (sizes q) (page_text q.page) ed),
      record {
        came = outcome (sizes q) (page_text q.page) ed;
        reply-is = refl;
        lent_is = refl;
        allowed = rw (page-gate-fits q ed h) (outcome-allowed q ed);
        exact = λ f. refl;
      },
    )

-- so every list of edits has replies
pub every_list : (q : Lent) (es : List Edit) → (rs : List Reply) × (q' : Lent) × Chain EditPost q es rs q'
every_list q [] = ([], q, Chain.none)
every_list q (ed ∷ es) =
    let one = can_be_met q ed in
    let more = every_list one.1 es in
    (one.0 ∷ more.0, more.1, call one.2 more.2)

-- Any edit of a page that fits: it fits afterwards, in buffers of the same lengths, and an acceptance edits the text exactly.

pub record Safe (q : Lent) (t : List ℕ) (q' : Lent) : Type 0 where
  pub fits : Fits q'.page
  pub sizes-are : sizes q' ≡ sizes q
  pub text-is : page_text q'.page ≡ t

-- what an outcome needs of the buffers
data Roomy (q : Lent) (u : List ℕ) : Outcome → Type 0 where
  room_early : (r : Refusal) → Roomy q u (early r)
  room_late : (r : Refusal) → length u ≤ length q.spare → Roomy q u (late r)
  room_done : (r : Records) (count : ℕ) → length u ≤ length q.page.text → length u ≤ length q.spare → r.head.n ≡ length u
      → length r.lines ≡ line_need r.head.m → length r.tokens ≡ token_need r.head.k
      → line_need r.head.m ≤ length q.page.lines → token_need r.head.k ≤ length q.page.tokens → Roomy q u (done r count)

free_roomy : (q : Lent) (u : List ℕ) (o : Outcome) → length u ≤ length q.page.text → length u ≤ length q.spare → Free q u o → Roomy q u o
free_roomy q u o h k (failure f) = room_late _ k
free_roomy q u o h k (limit number l x) = room_late _ k
free_roomy q u o h k (few_lines n) = room_late _ k
free_roomy q u o h k (few_tokens n) = room_late _ k
free_roomy q u o h k stale = room_late _ k
free_roomy q u o h k (acceptance r count n m j l t x y) = room_done r count h k n l t x y

allowed_roomy : (q : Lent) (ed : Edit) (g : Option Outcome) (o : Outcome) → Passed (sizes q) (page_text q.page) ed g
    → Allowed q (edited (page_text q.page) ed) g o → Roomy q (edited (page_text q.page) ed) o
allowed_roomy q ed g o (stops_early r s) e = rw e (room_early r)
allowed_roomy q ed g o (stops_late r s h k) e = rw e (room_late r k)
allowed_roomy q ed g o (clear p h k x y) f = free_roomy q (edited (page_text q.page) ed) o h k f

roomy_safe : (q : Lent) (u : List ℕ) (o : Outcome) → Fits q.page → Roomy q u o → Safe q (text_after (page_text q.page) u o) (after q u o)
unfolding text_after after
roomy_safe q u o f (room_early r) = record { fits = f; sizes-are = refl; text-is = refl }
roomy_safe q u o f (room_late r k) =
    let e : length (overwrite u q.spare) ≡ length q.spare = length_overwrite u q.spare k in
    record {
      fits = f;
      sizes-are = λ i. record { text = length q.page.text; spare = e i; lines = length q.page.lines; tokens = length q.page.tokens };
      text-is = refl;
    }
roomy_safe q u o f (room_done r count h k n l t x y) =
    let e1 : length (overwrite u q.page.text) ≡ length q.page.text = length_overwrite u q.page.text h in
    let e2 : length (overwrite u q.spare) ≡ length q.spare = length_overwrite u q.spare k in
    let e3 : length (overwrite r.lines q.page.lines) ≡ length q.page.lines = length_overwrite r.lines q.page.lines (omega arith) in
    let e4 : length (overwrite r.tokens q.page.tokens) ≡ length q.page.tokens = length_overwrite r.tokens q.page.tokens (omega arith) in
    record {
      fits = record { text = omega arith; lines = omega arith; tokens = omega arith };
      sizes-are = λ i. record { text = e1 i; spare = e2 i; lines = e3 i; tokens = e4 i };
      text-is = overwrite_take u q.page.text r.head.n (sym n);
    }

pub any-edit : (q : Lent) (ed : Edit) (reply : Reply) (q' : Lent) → Fits q.page → (post : EditPost q ed reply q')
    → Safe q (text_after (page_text q.page) (edited (page_text q.page) ed) post.came) q'
any-edit q ed reply q' f post =
    let u : List ℕ = edited (page_text q.page) ed in
    let a : Allowed q u (gate (sizes q) (page_text q.page) ed) post.came = rw (page-gate-fits q ed (true_fits q.page f)) at post.allowed in
    rw post.lent_is
    (roomy_safe q u post.came f (allowed_roomy q ed (gate (sizes q) (page_text q.page) ed) post.came (gate-passed (sizes q) (page_text q.page) ed) a))

-- Check says yes of buffers that hold a text.
pub holds-checked : {z : Sizes} {t : List ℕ} {q : Lent} → Holds z t q → check_reply q.page ≡ accepted (1 ∷ [])
unfolding check_reply refused_if unless
holds-checked {q = q} h = rw (true_fits q.page (holds_fits h), (faithful_iff q.page).1 (holds_faithful h))
