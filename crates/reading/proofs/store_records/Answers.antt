-- `reading::store_records` meets its contract.
use Rattle.std.proofs.Common.{rules}
use Rattle.reading.proofs.Fills.{lines_answer, tokens_answer, stored}
use Rattle.reading.proofs.store_records.Goals as goal

pub returns-then-lines-line_words : goal.returns-then-lines-line_words
returns-then-lines-line_words c =
    let e = lines_answer _ c.args.limits.few _ c.requires.text_len_bound c.args.counts c.requires.counted c.if-lines-line_words.true in
    record { result_value = λ i. (e i).reply; lines_after = λ i. (e i).lines; tokens_after = λ i. (e i).tokens }

pub returns-then-tokens-token_words : goal.returns-then-tokens-token_words
returns-then-tokens-token_words c =
    let e = tokens_answer _ c.args.limits.few _ c.requires.text_len_bound c.args.counts c.requires.counted c.if-lines-line_words.false c.if-tokens-token_words.true in
    record { result_value = λ i. (e i).reply; lines_after = λ i. (e i).lines; tokens_after = λ i. (e i).tokens }

pub returns : goal.returns
returns c =
    let r = c.requires in
    let s = stored _ c.args.limits.few _ r.text_len_bound c.args.counts r.counted c.if-lines-line_words.false c.if-tokens-token_words.false c.new-line_sink.ensures.whole c.new-token_sink.ensures.whole c.pass_lines.ensures.taken in
    record { result_value = s.reply; lines_after = search rules; tokens_after = search rules }
