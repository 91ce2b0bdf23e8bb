-- `utf8::scalar_value` meets its contract.
use Rattle.std.proofs.Common.{arith}
use Rattle.utf8.proofs.ValueLaws.{valued, value-past, value-one, value-two, value_three, value_four}
use Rattle.utf8.proofs.scalar_value.Goals as goal

pub returns-then-text-at : goal.returns-then-text-at
returns-then-text-at c = value-past _ _ c.if-text-at.true

pub returns-then-size-lt2 : goal.returns-then-size-lt2
returns-then-size-lt2 c =
    let v = valued _ _ _ c.if-text-at.false (c.type_inv.text c.args.at).fits c.scalar_size-size.ensures in
    value-one v c.first_bits-one.ensures c.if-size-lt2.true

pub bounds-text-at-2 : goal.bounds-text-at-2
bounds-text-at-2 c =
    let v = valued _ _ _ c.if-text-at.false (c.type_inv.text c.args.at).fits c.scalar_size-size.ensures in
    omega (arith, v.inside, c.if-size-lt2.false)

pub returns-then-size-eq2 : goal.returns-then-size-eq2
returns-then-size-eq2 c =
    let v = valued _ _ _ c.if-text-at.false (c.type_inv.text c.args.at).fits c.scalar_size-size.ensures in
    value-two v c.first_bits-one.ensures c.six_more-two.ensures c.if-size-eq2.true

pub bounds-text-at-3 : goal.bounds-text-at-3
bounds-text-at-3 c =
    let v = valued _ _ _ c.if-text-at.false (c.type_inv.text c.args.at).fits c.scalar_size-size.ensures in
    omega (arith, v.inside, c.if-size-lt2.false, c.if-size-eq2.false)

pub returns-then-size-eq3 : goal.returns-then-size-eq3
returns-then-size-eq3 c =
    let v = valued _ _ _ c.if-text-at.false (c.type_inv.text c.args.at).fits c.scalar_size-size.ensures in
    value_three v c.first_bits-one.ensures c.six_more-two.ensures c.six_more-three.ensures c.if-size-eq3.true

pub bounds-text-at-4 : goal.bounds-text-at-4
bounds-text-at-4 c =
    let v = valued _ _ _ c.if-text-at.false (c.type_inv.text c.args.at).fits c.scalar_size-size.ensures in
    omega (arith, v.inside, c.if-size-lt2.false, c.if-size-eq2.false, c.if-size-eq3.false)

pub returns : goal.returns
returns c =
    let v = valued _ _ _ c.if-text-at.false (c.type_inv.text c.args.at).fits c.scalar_size-size.ensures in
    value_four v c.first_bits-one.ensures c.six_more-two.ensures c.six_more-three.ensures c.six_more.ensures (omega (arith, v.most, c.if-size-lt2.false, c.if-size-eq2.false, c.if-size-eq3.false))
