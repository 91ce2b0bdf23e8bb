-- `writing::write_records` meets its contract.
use Rattle.std.proofs.Common.{rules}
use Rattle.writing.proofs.Writes.{lines-written, tokens-written}
use Rattle.writing.proofs.write_records.Goals as goal

pub returns-clause-lines_after : goal.returns-clause-lines_after
returns-clause-lines_after c =
    let all = lines-written c.requires.planned c.moved-to.ensures c.load_state-state.ensures c.move_lines.ensures c.new-line_sink.ensures.whole c.write_lines.ensures.lines_taken.written in
    search rules

pub returns-clause-tokens_after : goal.returns-clause-tokens_after
returns-clause-tokens_after c =
    let all = tokens-written c.requires.planned c.moved-to.ensures c.load_state-state.ensures c.args.tokens.now c.move_tokens.ensures c.new-token_sink.ensures.whole c.write_lines.ensures.tokens_taken.written in
    search rules
