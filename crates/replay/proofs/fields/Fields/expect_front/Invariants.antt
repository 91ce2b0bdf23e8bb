-- What is left decides.
use Rattle.std.proofs.Common.{◌≡◌, decimal}
use Rattle.replay.specs.Fields.{left}
use Rattle.replay.proofs.Each.{RestDecides}
use Rattle.replay.proofs.fields.Fields.expect_front.Given as goal

abbrev pub invariant-loop-word : goal.invariant-loop-word
invariant-loop-word g l = RestDecides (λ field word. field ≡ decimal (g.T.Word.value word)) (left l.initial.self) l.front l.word-index (left l.self)
