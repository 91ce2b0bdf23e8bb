-- `lines::failure_record` meets its contract.
use Prim.Native.Nat.{◌+◌}
use mathlib.Core.Path.{◌≡◌}
use native.Mathlib.Omega.{arith}
use native.Mathlib.Numerals.{add-one}
use Rattle.rules.specs.Failure.{detail_of, failure_record}
use Rattle.lines.proofs.failure_record.Goals as goal

pub overflow_cast-position : goal.overflow_cast-position
overflow_cast-position c = omega (arith, c.requires.0)

pub overflow_add-position : goal.overflow_add-position
overflow_add-position c = omega (arith, c.requires.0)

pub returns : goal.returns
unfolding failure_record
returns c =
    let a = c.args in
    let p = a.place in
    let k : c.code_of.result ≡ (detail_of a.f.detail).code = c.code_of.ensures in
    λ i. record {
      code = k i;
      detail = a.f.detail;
      found = a.f.found;
      position = p.start + a.f.at;
      line = p.line + 1;
      column = add-one a.f.at i;
      from = p.start + a.f.at;
      to = p.start + a.f.at + a.f.size;
    }
