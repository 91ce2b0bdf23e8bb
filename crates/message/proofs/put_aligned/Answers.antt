-- `message::put_aligned` meets its contract.
use mathlib.Core.Path.{sym, ap, ◌∙◌}
use Prim.Native.Nat.{ℕ, ◌-◌}
use lib.ListN.{length, replicate}
use Rattle.rules.specs.Report.{decimal, aligned}
use Rattle.print.proofs.Prints.{length_decimal}
use Rattle.print.proofs.Fields.{fits_as, fits_front, fits_back, fill_fits, prints_as}
use Rattle.message.proofs.put_aligned.Goals as goal

pub put_fill-requires : goal.put_fill-requires
unfolding aligned
put_fill-requires g c =
    let L = g.P.Printer.laws in
    let e = c.saturating_sub.ensures ∙ ap (λ (k : ℕ). 2 - k) (c.decimal_places.ensures ∙ sym (length_decimal c.args.n)) in
    fits_as L (sym e) (fill_fits L 32 (2 - length (decimal c.args.n)) (fits_front L _ _ c.requires))

pub put_decimal-requires : goal.put_decimal-requires
unfolding aligned
put_decimal-requires g c =
    let L = g.P.Printer.laws in
    let e = c.saturating_sub.ensures ∙ ap (λ (k : ℕ). 2 - k) (c.decimal_places.ensures ∙ sym (length_decimal c.args.n)) in
    fits_back L _ _ c.requires (prints_as L (ap (λ (k : ℕ). replicate {A = ℕ} k 32) e) c.put_fill.ensures)

pub returns : goal.returns
unfolding aligned
returns g c =
    let L = g.P.Printer.laws in
    let e = c.saturating_sub.ensures ∙ ap (λ (k : ℕ). 2 - k) (c.decimal_places.ensures ∙ sym (length_decimal c.args.n)) in
    L.joined _ _ _ _ _ (prints_as L (ap (λ (k : ℕ). replicate {A = ℕ} k 32) e) c.put_fill.ensures) c.put_decimal.ensures
