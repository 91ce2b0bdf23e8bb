-- `passes::pass_lines` meets its contract: all lines are read, then the end is put.
use Rattle.std.proofs.Common.{arith}
use Rattle.std.proofs.lemmas.Result.{err_from_is_err_and}
use Rattle.records.proofs.RecordTakes.{fits-less}
use Rattle.rereading.proofs.Rooms.{few-zero}
use Rattle.passes.proofs.Lines.{line_room_first, token_room_first, halted_pass, end_small, end_line_room, end_token_room, end_counts, end_taken}
use Rattle.passes.proofs.pass_lines.Goals as goal

pub read_to_end-requires-clause-few : goal.read_to_end-requires-clause-few
read_to_end-requires-clause-few g c = few-zero _

pub read_to_end-requires-clause-line_room : goal.read_to_end-requires-clause-line_room
read_to_end-requires-clause-line_room g c = line_room_first _ c.args.limits.few _ c.requires.text_bound c.initial-state.ensures g.S.RecordSink.laws c.args.lines.now c.args.tokens.now c.requires.line_room

pub read_to_end-requires-clause-token_room : goal.read_to_end-requires-clause-token_room
read_to_end-requires-clause-token_room g c = token_room_first _ c.args.limits.few _ c.requires.text_bound c.initial-state.ensures g.S.RecordSink.laws c.args.lines.now c.args.tokens.now c.requires.token_room

pub returns-in_err-read-clause-value : goal.returns-in_err-read-clause-value
returns-in_err-read-clause-value g c =
    let p = err_from_is_err_and c.from_residual.result c.from_residual.ensures.1 in
    rw (p.1, p.2) (halted_pass _ c.args.limits.few _ c.requires.text_bound c.initial-state.ensures c.in_err-read.ensures.end_is)

pub put_end-requires-clause-end_bound : goal.put_end-requires-clause-end_bound
put_end-requires-clause-end_bound g c =
    let small = end_small _ c.args.limits.few _ c.requires.text_bound c.initial-state.ensures c.in_ok-read.ensures.end_is in
    (c.requires.text_bound, (omega (arith, small), omega (arith, small)))

pub put_end-requires-clause-line_room : goal.put_end-requires-clause-line_room
put_end-requires-clause-line_room g c =
    fits-less _ (omega arith) (end_line_room _ c.args.limits.few _ c.requires.text_bound c.initial-state.ensures g.S.RecordSink.laws c.args.lines.now c.args.tokens.now c.in_ok-read.ensures.end_is c.read_to_end.new.lines c.read_to_end.new.tokens c.in_ok-read.ensures.taken c.requires.line_room)

pub put_end-requires-clause-token_room : goal.put_end-requires-clause-token_room
put_end-requires-clause-token_room g c =
    end_token_room _ c.args.limits.few _ c.requires.text_bound c.initial-state.ensures g.S.RecordSink.laws c.args.lines.now c.args.tokens.now c.in_ok-read.ensures.end_is c.read_to_end.new.lines c.read_to_end.new.tokens c.in_ok-read.ensures.taken c.requires.token_room

pub overflow_add-result : goal.overflow_add-result
overflow_add-result g c = omega (arith, c.levels.ensures.value, end_small _ c.args.limits.few _ c.requires.text_bound c.initial-state.ensures c.in_ok-read.ensures.end_is)

pub returns-clause-value : goal.returns-clause-value
returns-clause-value g c = end_counts _ c.args.limits.few _ c.requires.text_bound c.initial-state.ensures c.in_ok-read.ensures.end_is c.levels.ensures.value

pub returns-clause-taken : goal.returns-clause-taken
returns-clause-taken g c =
    let e = c.in_ok-read.ensures in
    end_taken _ c.args.limits.few _ c.requires.text_bound c.initial-state.ensures g.S.RecordSink.laws c.args.lines.now c.args.tokens.now e.end_is c.read_to_end.new.lines c.read_to_end.new.tokens e.taken c.put_end.ensures.line_taken c.put_end.ensures.tokens_taken
