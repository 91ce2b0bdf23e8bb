-- `State::levels_within` meets its contract. The first i levels are popped as all are.
use Rattle.std.proofs.Common.{◌≡◌, ltb, take}
use Rattle.rules.specs.Lists.{trim_end}
use Rattle.records.proofs.state.State.levels_within.Given as goal

abbrev pub invariant-loop-i : goal.invariant-loop-i
invariant-loop-i l = trim_end (ltb l.width) (take l.i l.self-inside.widths) ≡ trim_end (ltb l.width) (take l.self-inside.levels l.self-inside.widths)
