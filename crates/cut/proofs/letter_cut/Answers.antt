-- `cut::letter_cut` meets its contract.
use mathlib.Core.Path.{◌≡◌, sym, ◌∙◌}
use mathlib.Core.Bool.{true, false}
use lib.ListN.{drop}
use Rattle.rules.specs.Lists.{begins, ascii}
use Rattle.rules.specs.Cut.{byte_cut, letter_cut}
use Rattle.cut.proofs.Fronts.{literal_room}
use Rattle.cut.proofs.Words.{byte-plain, named-plain}
use Rattle.cut.proofs.letter_cut.Goals as goal

pub scan_ascii_byte_literal-requires : goal.scan_ascii_byte_literal-requires
scan_ascii_byte_literal-requires c =
    let a = c.args in
    literal_room a.line.now a.at (sym c.begins_literal.ensures ∙ c.if-begins_literal.true)

pub returns-then-begins_literal : goal.returns-then-begins_literal
unfolding letter_cut
returns-then-begins_literal c =
    let a = c.args in
    let b : begins (ascii "b'") (drop a.at a.line.now) ≡ true = sym c.begins_literal.ensures ∙ c.if-begins_literal.true in
    rw b (c.token.ensures ∙ c.scan_ascii_byte_literal.ensures ∙ named-plain a.named (byte_cut (drop a.at a.line.now)) (byte-plain (drop a.at a.line.now)))

pub returns : goal.returns
unfolding letter_cut
returns c =
    let a = c.args in
    let b : begins (ascii "b'") (drop a.at a.line.now) ≡ false = sym c.begins_literal.ensures ∙ c.if-begins_literal.false in
    rw b c.word_cut.ensures
