-- `cursor::put_dedents` meets its contract. So far j Dedents are taken.
use Rattle.std.proofs.Common.{◌+◌, ◌*◌}
use Rattle.rules.specs.Line.{dedents}
use Rattle.rules.specs.Records.{token_size, token_words}
use Rattle.cursor.proofs.put_dedents.Given as goal

abbrev pub invariant-loop-j : goal.invariant-loop-j
invariant-loop-j g l = let p = l.place in g.S.RecordSink.takes l.initial.tokens l.tokens (token_size * p.first) (token_words p.start (p.line + 1) (dedents l.j))
