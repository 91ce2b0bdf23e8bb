-- `details::put_scalar` meets its contract.
use mathlib.Core.Path.{sym, ap}
use lib.ListN.{length}
use Rattle.print.proofs.Fields.{fits_as, prints_as}
use Rattle.details.proofs.Details.{scalar-one, scalar-two, scalar_three, scalar_four}
use Rattle.details.proofs.put_scalar.Goals as goal

pub put_bytes-requires : goal.put_bytes-requires
put_bytes-requires g c =
    fits_as g.P.Printer.laws (ap length (sym (scalar-one c.args.v c.if-v-lt128.true))) c.requires.fits

pub returns-then-v-lt128 : goal.returns-then-v-lt128
returns-then-v-lt128 g c = prints_as g.P.Printer.laws (scalar-one c.args.v c.if-v-lt128.true) c.put_bytes.ensures

pub put_bytes-requires-then-v-lt2048 : goal.put_bytes-requires-then-v-lt2048
put_bytes-requires-then-v-lt2048 g c =
    fits_as g.P.Printer.laws (ap length (sym (scalar-two c.args.v _ c.if-v-lt128.false c.if-v-lt2048.true c.later_byte.ensures))) c.requires.fits

pub returns-then-v-lt2048 : goal.returns-then-v-lt2048
returns-then-v-lt2048 g c =
    prints_as g.P.Printer.laws (scalar-two c.args.v _ c.if-v-lt128.false c.if-v-lt2048.true c.later_byte.ensures) c.put_bytes-then-v-lt2048.ensures

pub put_bytes-requires-then-v-lt65536 : goal.put_bytes-requires-then-v-lt65536
put_bytes-requires-then-v-lt65536 g c =
    fits_as g.P.Printer.laws (ap length (sym (scalar_three c.args.v _ _ c.if-v-lt2048.false c.if-v-lt65536.true c.later_byte-then-v-lt65536.ensures c.later_byte-then-v-lt65536-2.ensures))) c.requires.fits

pub returns-then-v-lt65536 : goal.returns-then-v-lt65536
returns-then-v-lt65536 g c =
    prints_as g.P.Printer.laws (scalar_three c.args.v _ _ c.if-v-lt2048.false c.if-v-lt65536.true c.later_byte-then-v-lt65536.ensures c.later_byte-then-v-lt65536-2.ensures) c.put_bytes-then-v-lt65536.ensures

pub put_bytes-requires-else-v-lt65536 : goal.put_bytes-requires-else-v-lt65536
put_bytes-requires-else-v-lt65536 g c =
    fits_as g.P.Printer.laws (ap length (sym (scalar_four c.args.v _ _ _ c.if-v-lt65536.false c.later_byte-else-v-lt65536.ensures c.later_byte-else-v-lt65536-2.ensures c.later_byte-else-v-lt65536-3.ensures))) c.requires.fits

pub returns-else-v-lt65536 : goal.returns-else-v-lt65536
returns-else-v-lt65536 g c =
    prints_as g.P.Printer.laws (scalar_four c.args.v _ _ _ c.if-v-lt65536.false c.later_byte-else-v-lt65536.ensures c.later_byte-else-v-lt65536-2.ensures c.later_byte-else-v-lt65536-3.ensures) c.put_bytes-else-v-lt65536.ensures
