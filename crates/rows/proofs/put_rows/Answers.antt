-- `rows::put_rows` meets its contract.
use mathlib.Core.Path.{sym, ap}
use lib.ListN.{length}
use Rattle.rules.specs.Scan.{token_rows}
use Rattle.print.proofs.Fields.{fits_as, fits_front, fits_back, prints_as}
use Rattle.rows.proofs.Rows.{below, row_at, rows_more, rows_parts}
use Rattle.rows.proofs.put_rows.Goals as goal

pub loop-record-init : goal.loop-record-init
unfolding token_rows
loop-record-init g c = g.P.Printer.laws.nothing c.args.out.now

pub put_row-requires : goal.put_row-requires
put_row-requires g c =
    let L = g.P.Printer.laws in
    let ws = c.args.tokens.now in
    let h = below _ c.args.k c.loop-record.record-index c.loop-record-test.true in
    let e = row_at ws _ c.args.k c.loop-record.record-index c.as_chunks.ensures.front c.requires.held h in
    fits_as L (ap length (sym e)) (fits_front L _ _ (fits_back L _ _ (fits_as L (ap length (rows_parts ws c.args.k c.loop-record.record-index h)) c.requires.fits) c.loop-record.invariant))

pub loop-record-preserved : goal.loop-record-preserved
loop-record-preserved g c =
    let L = g.P.Printer.laws in
    let ws = c.args.tokens.now in
    let h = below _ c.args.k c.loop-record.record-index c.loop-record-test.true in
    let e = row_at ws _ c.args.k c.loop-record.record-index c.as_chunks.ensures.front c.requires.held h in
    prints_as L (rows_more ws c.loop-record.record-index) (L.joined _ _ _ _ _ c.loop-record.invariant (prints_as L e c.put_row.ensures))
