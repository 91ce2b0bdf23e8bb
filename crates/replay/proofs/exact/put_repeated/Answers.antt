use Rattle.std.proofs.Common.{◌≡◌, ◌+◌, length, get_or, rules}
use Rattle.replay.proofs.Runs as runs
use Rattle.replay.proofs.exact.put_repeated.Goals as goal

pub returns : goal.returns
returns g c =
    let one : length c.put_units.new.units.items ≡ length c.args.units.now.items + 1 = search rules in
    let is : c.index-unit.result.now ≡ get_or c.put_units.new.units.items (length c.args.units.now.items) c.index-unit.result.now = search rules in
    runs.put_repeated g.T.Unit.spells c.args.text.now c.args.count c.args.units.now.items c.put_units.new.units.items c.resize.new.self.items c.index-unit.result.now
    c.in_ok-put_units.ensures one is (search rules)
