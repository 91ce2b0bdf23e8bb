-- What is left decides.
use Rattle.replay.specs.Fields.{left}
use Rattle.replay.specs.Units.{SpellsDigest}
use Rattle.replay.proofs.Each.{RestDecides}
use Rattle.replay.proofs.fields.Fields.expect_digests.Given as goal

abbrev pub invariant-loop-buffer : goal.invariant-loop-buffer
invariant-loop-buffer g l = RestDecides (λ field units. SpellsDigest g.T.Unit.bytes field units.items) (left l.initial.self) l.buffers l.buffer-index (left l.self)
