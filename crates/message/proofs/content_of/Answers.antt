-- `message::content_of` meets its contract.
use mathlib.Core.Path.{ap, ◌∙◌}
use Prim.Native.Nat.{ℕ}
use lib.ListN.{length, take}
use Rattle.std.specs.Prelude.{Option}
use Rattle.std.specs.Option.{unwrap_or}
use Rattle.rules.specs.Reading.{content}
use Rattle.message.proofs.Excerpts.{content_end}
use Rattle.message.proofs.content_of.Goals as goal

pub returns : goal.returns
unfolding content
returns c =
    let l = c.args.text.now in
    ap (λ (k : ℕ). take k l) (c.unwrap_or-end.ensures ∙ ap (λ (o : Option ℕ). unwrap_or o (length l)) c.first_lf.ensures ∙ content_end l)
