-- What `scan` prints for a text that does not read.
-- Assumes nothing.
use Rattle.std.specs.Prelude.{ℕ, ◌≡◌, List, ◌++◌}
use Rattle.rules.specs.Lists.{ascii}
use Rattle.rules.specs.Scan.{refused_row, scan_output}
use Rattle.refusals.specs.declared.Unread.{Unread}
use Rattle.refusals.specs.declared.Unread.TheVariants.{TooLong, Malformed, Fails, AtLine}
use Rattle.message.specs.Messages.{message_in, Printable}

-- a message that can be written, or a number
abbrev pub Shows : List ℕ → Unread → Type 0
Shows t (TooLong number n) = scan_output t ≡ refused_row number
Shows t (Malformed n) = scan_output t ≡ refused_row 2
Shows t (Fails f) = Printable t f × (scan_output t ≡ message_in t f ++ ascii "\n")
Shows t (AtLine number l) = scan_output t ≡ refused_row number
