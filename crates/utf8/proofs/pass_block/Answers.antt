-- `utf8::pass_block` meets its contract.
use mathlib.Core.Path.{sym, ◌∙◌}
use native.Mathlib.Omega.{arith}
use Rattle.utf8.proofs.PassLaws.{far-enough, ascii-passed}
use Rattle.utf8.proofs.pass_block.Goals as goal

pub returns-then-is_ascii_block : goal.returns-then-is_ascii_block
returns-then-is_ascii_block c =
    far-enough (ascii-passed _ _ 32 c.requires (sym c.is_ascii_block.ensures ∙ c.if-is_ascii_block.true)) (omega arith)
