-- `copies::copy_bytes` meets its contract. So far the first j bytes stand there.
use Rattle.std.proofs.Common.{◌≡◌, take}
use Rattle.std.proofs.lemmas.List.Edits.{sets}
use Rattle.copies.proofs.copy_bytes.Given as goal

abbrev pub invariant-loop-j : goal.invariant-loop-j
invariant-loop-j l = l.dst ≡ sets l.initial.dst l.at (take l.j l.src)
