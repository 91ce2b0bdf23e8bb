-- `writing::write_lines` meets its contract.
use Rattle.std.proofs.Common.{arith}
use Rattle.writing.proofs.Writes.{few-tokens, line-room-from, token-room-from, no-end, end-room, with-end-taken}
use Rattle.writing.proofs.write_lines.Goals as goal

pub read_to_end-requires-clause-few : goal.read_to_end-requires-clause-few
read_to_end-requires-clause-few c = let r = c.requires in few-tokens _ _ r.reads_as c.line-limits.ensures c.barge_limits.ensures r.small.1.1.1

pub read_to_end-requires-clause-line_room : goal.read_to_end-requires-clause-line_room
read_to_end-requires-clause-line_room c = let r = c.requires in line-room-from _ _ r.reads_as c.line-limits.ensures c.barge_limits.ensures c.args.lines.now c.args.tokens.now r.room

pub read_to_end-requires-clause-token_room : goal.read_to_end-requires-clause-token_room
read_to_end-requires-clause-token_room c = let r = c.requires in token-room-from _ _ r.reads_as c.line-limits.ensures c.barge_limits.ensures c.args.lines.now c.args.tokens.now r.room

pub overflow_add-end : goal.overflow_add-end
overflow_add-end c = let s = c.requires.small in omega (arith, s.1.1.0)

pub put_end-requires : goal.put_end-requires
put_end-requires c =
    let r = c.requires in
    let e = end-room _ _ r.reads_as c.line-limits.ensures c.barge_limits.ensures c.args.lines.now c.args.tokens.now r.room c.read_to_end.new.lines c.read_to_end.new.tokens c.read_to_end.ensures.taken c.is_some.ensures c.if-is_some.true _ _ c.read_to_end.ensures.end_is in
    record { end_bound = (omega (arith, r.small.0, r.small.1.0), (omega (arith, r.small.1.1.0), omega (arith, r.small.1.1.1))); line_room = e.0; token_room = e.1 }

pub returns-then-is_some : goal.returns-then-is_some
returns-then-is_some c =
    let r = c.requires in
    let e = with-end-taken _ _ r.reads_as c.line-limits.ensures c.barge_limits.ensures c.args.lines.now c.args.tokens.now r.room c.read_to_end.new.lines c.read_to_end.new.tokens c.read_to_end.ensures.taken c.is_some.ensures c.if-is_some.true _ _ c.read_to_end.ensures.end_is
    c.put_end.ensures.line_taken c.put_end.ensures.tokens_taken in
    record { lines_taken = e.0; tokens_taken = e.1 }

pub returns-else-is_some : goal.returns-else-is_some
returns-else-is_some c =
    let r = c.requires in
    let e = no-end _ _ r.reads_as c.line-limits.ensures c.barge_limits.ensures c.args.lines.now c.args.tokens.now r.room c.read_to_end.new.lines c.read_to_end.new.tokens c.read_to_end.ensures.taken c.is_some.ensures c.if-is_some.false in
    record { lines_taken = e.0; tokens_taken = e.1 }
