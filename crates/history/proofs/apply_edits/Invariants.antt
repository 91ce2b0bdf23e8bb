-- `history::apply_edits` meets its contract. The edits so far are applied.
use lib.ListN.{take}
use Rattle.header.specs.Pages.{header_of}
use Rattle.editing.specs.Answers.{edit_numbers, lent}
use Rattle.history.proofs.Lists.{SoFar}
use Rattle.history.proofs.apply_edits.Given as goal

abbrev pub invariant-loop-e : goal.invariant-loop-e
invariant-loop-e l = SoFar l.initial.text l.initial.spare l.initial.lines l.initial.tokens l.bytes (take l.e-index l.edits) (edit_numbers l.last) (lent (header_of l.head) l.text l.spare l.lines l.tokens)
