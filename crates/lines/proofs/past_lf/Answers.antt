-- `lines::past_lf` meets its contract.
use native.Mathlib.Numerals.{add-one}
use lib.ListN.{length}
use borrow.Author.Tests.{lt-ltb, le-ltb}
use Rattle.lines.proofs.past_lf.Goals as goal

pub returns-then-end-text : goal.returns-then-end-text
returns-then-end-text c =
    let a = c.args in
    rw (lt-ltb a.end (length a.text.now) c.if-end-text.true) (add-one a.end)

pub returns : goal.returns
returns c =
    let a = c.args in
    rw (le-ltb a.end (length a.text.now) c.if-end-text.false)
