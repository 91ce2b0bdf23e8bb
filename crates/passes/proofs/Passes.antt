-- What the answer of a pass says of the text.
-- Assumes nothing.
use Rattle.std.proofs.Common.{ℕ, ◌≡◌, List, Ok, Err, sym, ap, ◌∙◌, arith}
use Rattle.rules.specs.Limits.{Limits}
use Rattle.rules.specs.Reading.{Reading, reads, halts}
use Rattle.rules.specs.Records.{records_of, FreshReading, recorded, unread, recorded_by, fresh_reading_by}
use Rattle.refusals.specs.declared.Unread.{Unread}
use Rattle.refusals.specs.Unreads.{unread_in, unread_of, test_of}
use Rattle.refusals.proofs.Tests.{unread-back, unread_there, fresh_refused}
use Rattle.records.specs.declared.Counts.{Counts}
use Rattle.passes.specs.Passes.{pass_of, Counted}

pub pass_counted : (x : Reading) (c : Counts) → Ok c ≡ pass_of (recorded_by x) → Counted c x
unfolding recorded_by records_of
pass_counted (reads es z) c e = (cc, cc, cc)
pass_counted (halts es h) c e = let b : ◌≡◌ {A = ℕ} 0 1 = cc in absurd (omega arith)

pub pass_refused : (f : FreshReading) (u : Unread) → Err u ≡ pass_of f → f ≡ unread (unread_of u)
pass_refused (recorded r) u e = let b : ◌≡◌ {A = ℕ} 0 1 = cc in absurd (omega arith)
pass_refused (unread x) u e =
    let q : u ≡ unread_in x = cc in
    ap unread (sym (ap unread_of q ∙ unread-back x))

-- a text that does not pass the tests 1 and 2
pub refused_pass : (lim : Limits) (t : List ℕ) (u : Unread) → test_of lim t ≡ Err u → pass_of (fresh_reading_by lim t) ≡ Err u
refused_pass lim t u h = ap pass_of (fresh_refused lim t u h) ∙ ap Err (unread_there u)
