-- `scanning::put_unread` meets its contract: each refusal shows what `scan` prints for it.
use mathlib.Core.Path.{subst}
use native.Mathlib.Omega.{arith}
use Rattle.scanning.specs.Shown.{Shows}
use Rattle.scanning.proofs.Sizes.{refused-room, message-room_in}
use Rattle.scanning.proofs.Scans.{refused-scanned, failure-scanned}
use Rattle.scanning.proofs.put_unread.Goals as goal

pub put_refused-requires : goal.put_refused-requires
put_refused-requires c = refused-room c.args.out.now _ c.requires.in_bounds.0 (omega arith)

pub put_refused-requires-in-Malformed : goal.put_refused-requires-in-Malformed
put_refused-requires-in-Malformed c = refused-room c.args.out.now _ c.requires.in_bounds.0 (omega arith)

pub put_failure-requires : goal.put_failure-requires
put_failure-requires c =
    let s = c.requires.in_bounds in
    let v = subst (Shows c.args.text.now) c.in-Fails.is c.requires.shows in
    record {
      printable = v.0;
      room = message-room_in c.args.out.now c.args.text.now c.in-Fails.f s.0 s.1 v.0 (omega arith);
    }

pub put_refused-requires-in-AtLine : goal.put_refused-requires-in-AtLine
put_refused-requires-in-AtLine c = refused-room c.args.out.now _ c.requires.in_bounds.0 (omega arith)

pub returns-in-TooLong : goal.returns-in-TooLong
returns-in-TooLong c =
    let shown = subst (Shows c.args.text.now) c.in-TooLong.is c.requires.shows in
    let met = refused-scanned c.args.text.now c.args.out.now _ c.requires.in_bounds.0 (omega arith) shown c.put_refused.ensures.value c.put_refused.ensures.out_after in
    record { value = met.0; out_after = met.1 }

pub returns-in-Malformed : goal.returns-in-Malformed
returns-in-Malformed c =
    let shown = subst (Shows c.args.text.now) c.in-Malformed.is c.requires.shows in
    let met = refused-scanned c.args.text.now c.args.out.now 2 c.requires.in_bounds.0 (omega arith) shown c.put_refused-in-Malformed.ensures.value c.put_refused-in-Malformed.ensures.out_after in
    record { value = met.0; out_after = met.1 }

pub returns-in-Fails : goal.returns-in-Fails
returns-in-Fails c =
    let s = c.requires.in_bounds in
    let shown = subst (Shows c.args.text.now) c.in-Fails.is c.requires.shows in
    let met = failure-scanned c.args.text.now c.args.out.now c.in-Fails.f s.0 s.1 (omega arith) shown c.put_failure.ensures.value c.put_failure.ensures.out_after in
    record { value = met.0; out_after = met.1 }

pub returns-in-AtLine : goal.returns-in-AtLine
returns-in-AtLine c =
    let shown = subst (Shows c.args.text.now) c.in-AtLine.is c.requires.shows in
    let met = refused-scanned c.args.text.now c.args.out.now _ c.requires.in_bounds.0 (omega arith) shown c.put_refused-in-AtLine.ensures.value c.put_refused-in-AtLine.ensures.out_after in
    record { value = met.0; out_after = met.1 }
