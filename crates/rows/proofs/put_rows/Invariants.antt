-- `rows::put_rows` meets its contract. So far the rows of the first tokens are printed.
use Rattle.rules.specs.Scan.{token_rows}
use Rattle.rows.proofs.put_rows.Given as goal

abbrev pub invariant-loop-record : goal.invariant-loop-record
invariant-loop-record g l = g.P.Printer.prints l.initial.out (token_rows l.record-index l.tokens) l.out
