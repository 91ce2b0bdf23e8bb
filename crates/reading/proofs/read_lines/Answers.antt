-- `reading::read_lines` meets its contract.
use Rattle.std.proofs.lemmas.Result.{err_from_is_err_and}
use Rattle.rules.specs.Records.{read_lines}
use Rattle.passes.proofs.Passes.{pass_counted, pass_refused}
use Rattle.reading.proofs.Fills.{refused_answer}
use Rattle.reading.proofs.read_lines.Goals as goal

pub store_records-requires-clause-counted : goal.store_records-requires-clause-counted
unfolding read_lines
store_records-requires-clause-counted c = pass_counted _ _ c.in_ok-counts.ensures.value

pub returns-in_err-counts : goal.returns-in_err-counts
returns-in_err-counts c =
    let w = c.in_err-counts.ensures in
    let e = refused_answer _ c.args.lines.now c.args.tokens.now _ (pass_refused _ _ w.value) in
    let p = err_from_is_err_and c.from_residual.result c.from_residual.ensures.1 in
    record {
      result_value = rw (p.1, p.2) (λ i. (e i).reply);
      lines_after = λ i. (e i).lines;
      tokens_after = λ i. (e i).tokens;
    }
