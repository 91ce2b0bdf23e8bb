-- A plan as the code comes to it: the line where reading again begins, and what it gives.
-- Assumes nothing.
use Rattle.std.proofs.Common.{ℕ, ◌≡◌, ◌+◌, ◌*◌, ◌≤◌, true, ap, List, Some, None, Result, Ok, Err, length, arith}
use Rattle.rules.specs.Line.{State}
use Rattle.rules.specs.Records.{line_size}
use Rattle.rules.specs.Page.{Page, fits, page_text}
use Rattle.rules.specs.StopRule.{Edit, edited}
use Rattle.records.specs.Words.{line_word, state_from}
use Rattle.records.specs.declared.Counts.{Counts}
use Rattle.refusals.specs.declared.Unread.{Unread}
use Rattle.refusals.specs.declared.Refusal.TheVariants.{Reading, Unfit}
use Rattle.rereading.specs.declared.Reached.{Reached}
use Rattle.rereading.specs.declared.Reached.TheVariants.{Stop, End}
use Rattle.plans.specs.Plans.{Small, before_line, stop_plan, stop_answer, end_plan, end_answer, PlanIs}
use Rattle.planning.specs.Starts.{begin_line, RereadFrom}
use Rattle.planning.proofs.Begins.{Begun, begun}
use Rattle.planning.proofs.Plans.{Editable, editable, begins-within, inside-u, Gives, stop-small, stop_plan_lem, end-small, end_plan_lem, halt_plan}

module _ (pg : Page) (ed : Edit) {u : List ℕ} (f : fits pg ≡ true) (r : (ed.a ≤ ed.b) × ((ed.b ≤ pg.head.n) × (length u ≤ 1_048_576))) (e : u ≡ edited (page_text pg) ed) where
  ok : Editable pg ed
  ok = editable pg ed u f r e

  pub may-begin : (ed.b ≤ length pg.text) × (line_size * (pg.head.m + 1) ≤ length pg.lines)
  may-begin = (omega (arith, ok.fits.text, ok.inside), ok.fits.lines)

  pub no_line : None ≡ begin_line pg ed.a → PlanIs pg ed (Err Unfit)
  no_line s = (tt, λ spare fa. absurd (begins-within ok fa s))

  -- from line i on
  module _ {i : ℕ} (s : Some i ≡ begin_line pg ed.a) where
    bg : Begun pg ed.a i
    bg = begun pg ed.a i s

    pub within : (i ≤ pg.head.m) × (pg.head.m ≤ 1_048_576) × (line_size * (pg.head.m + 1) ≤ length pg.lines)
    within = (bg.within, bg.m-le, ok.fits.lines)

    pub starts : (i ≤ line_word pg.lines i 0) × (line_word pg.lines i 0 ≤ length u)
    starts = (bg.usable.number, omega (arith, inside-u ok bg, ap length e))

    module _ {z : State} (ez : z ≡ state_from pg.lines i) (left : State) where
      abbrev Reads : Result Reached Unread → Type 0
      Reads = RereadFrom pg u ed i z left

      gives : (x : Result Reached Unread) → Reads x → Gives ok bg left x
      gives x h = rw (e, ez) at h

      pub stop-fits : {c : Counts} {j : ℕ} → Reads (Ok (Stop c j)) → (j ≤ pg.head.m) × Small (stop_plan pg.lines (before_line pg.lines i) c j)
      stop-fits {c} {j} h = stop-small ok bg left (gives (Ok (Stop c j)) h)

      pub stop-plan : {c : Counts} {j : ℕ} → Reads (Ok (Stop c j)) → pg.head.n ≤ 4_294_967_295 → PlanIs pg ed (stop_answer pg (before_line pg.lines i) c j)
      stop-plan {c} {j} h = stop_plan_lem ok bg left (gives (Ok (Stop c j)) h)

      pub end-fits : {c : Counts} {levels : ℕ} → Reads (Ok (End c)) → levels ≡ length left.widths → Small (end_plan pg.head pg.head.n (before_line pg.lines i) c levels)
      end-fits {c} h = end-small ok bg (gives (Ok (End c)) h)

      pub end-plan : {c : Counts} {levels : ℕ} → Reads (Ok (End c)) → levels ≡ length left.widths → pg.head.n ≤ 4_294_967_295
          → PlanIs pg ed (end_answer pg pg.head.n (before_line pg.lines i) c levels)
      end-plan {c} h = end_plan_lem ok bg (gives (Ok (End c)) h)

      pub unread-plan : {x : Unread} → Reads (Err x) → PlanIs pg ed (Err (Reading x))
      unread-plan {x} h = halt_plan ok bg left (gives (Err x) h)
