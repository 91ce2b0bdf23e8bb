-- Why a call is refused: the types of the code and those of the rules.
-- Assumes nothing.
use Rattle.std.specs.Prelude.{ℕ, List, Result, Ok, Err, if◌then◌else◌}
use Rattle.rules.specs.Failure as RulesFailure
use Rattle.rules.specs.Limits.{Limits}
use Rattle.rules.specs.Replies as RulesReplies
use Rattle.rules.specs.Replies.{
  too_long,
  malformed,
  lexical,
  at_line,
  reading,
  short,
  outside,
  unfit,
  text_buffer,
  spare_buffer,
  lines_buffer,
  tokens_buffer,
  out_buffer,
  names_buffer,
  is_too_long,
  too_long_by,
  is_malformed,
  malformed_by,
}
use Rattle.refusals.specs.declared.FailureRecord.{FailureRecord}
use Rattle.refusals.specs.declared.Unread.{Unread}
use Rattle.refusals.specs.declared.Unread.TheVariants.{TooLong, Malformed, Fails, AtLine}
use Rattle.refusals.specs.declared.Buffer.{Buffer}
use Rattle.refusals.specs.declared.Buffer.TheVariants.{Text, Spare, Lines, Tokens, Out, Names}
use Rattle.refusals.specs.declared.Refusal.{Refusal}
use Rattle.refusals.specs.declared.Refusal.TheVariants.{Reading, Short, Outside, Unfit}

-- the record of a failure
abbrev pub record_in : RulesFailure.FailureRecord → FailureRecord
record_in f =
    record {
      code = f.code;
      detail = f.detail;
      found = f.found;
      position = f.position;
      line = f.line;
      column = f.column;
      from = f.from;
      to = f.to;
    }

abbrev pub record_of : FailureRecord → RulesFailure.FailureRecord
record_of f =
    record {
      code = f.code;
      detail = f.detail;
      found = f.found;
      position = f.position;
      line = f.line;
      column = f.column;
      from = f.from;
      to = f.to;
    }

-- why a text is refused, of the rules in the code
abbrev pub unread_in : RulesReplies.Unread → Unread
unread_in (too_long number n) = TooLong number n
unread_in (malformed n) = Malformed n
unread_in (lexical f) = Fails (record_in f)
unread_in (at_line number l) = AtLine number l

-- and of the code in the rules
abbrev pub unread_of : Unread → RulesReplies.Unread
unread_of (TooLong number n) = too_long number n
unread_of (Malformed n) = malformed n
unread_of (Fails f) = lexical (record_of f)
unread_of (AtLine number l) = at_line number l

-- a buffer's number
abbrev pub buffer_number : Buffer → ℕ
buffer_number Text = text_buffer
buffer_number Spare = spare_buffer
buffer_number Lines = lines_buffer
buffer_number Tokens = tokens_buffer
buffer_number Out = out_buffer
buffer_number Names = names_buffer

-- a refusal of the code in the rules
abbrev pub refusal_of : Refusal → RulesReplies.Refusal
refusal_of (Reading u) = reading (unread_of u)
refusal_of (Short b n) = short (buffer_number b) n
refusal_of Outside = outside
refusal_of Unfit = unfit

-- 1, 2
abbrev pub test_of : Limits → List ℕ → Result (Unit {0}) Unread
test_of lim t =
    if is_too_long lim t then Err (unread_in (too_long_by lim t))
    else if is_malformed t then Err (unread_in (malformed_by t))
    else Ok tt
