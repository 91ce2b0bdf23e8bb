-- An edit at each of its tests: what is known there, and what the edit answers where it ends.
-- Assumes nothing.
use Prim.Native.Nat.{ℕ, ◌+◌, ◌-◌, ◌≤◌, ◌<◌, min}
use mathlib.Core.Path.{◌≡◌, ap}
use mathlib.Core.Bool.{Bool, true, false, ◌&&◌}
use native.Mathlib.Omega.{arith}
use lib.Dec.{leb}
use lib.ListN.{length}
use Rattle.std.specs.Prelude.{Err}
use Rattle.rules.specs.Limits as RulesLimits
use Rattle.rules.specs.Limits.{max_bytes, barge}
use Rattle.rules.specs.Records.{line_need, token_need}
use Rattle.rules.specs.Page.{Lent, fits, page_text}
use Rattle.rules.specs.StopRule.{Edit, edited}
use Rattle.header.proofs.Fitting.{fits_by}
use Rattle.refusals.specs.Limits.{limits_of}
use Rattle.refusals.specs.declared.Limits.{Limits}
use Rattle.refusals.specs.declared.Unread.TheVariants.{TooLong}
use Rattle.refusals.specs.declared.Buffer.TheVariants.{Text, Spare}
use Rattle.refusals.specs.declared.Refusal.TheVariants.{Reading, Short, Outside, Unfit}
use Rattle.refusals.proofs.Barge.{barge-fits}
use Rattle.editing.proofs.Edits.{Refused, Ranged, settled, unfit-edit, order-edit, past-edit, size_is, long-edit, text-edit, spare-edit}

module _ (q : Lent) (ed : Edit) {b : Bool}
    (is-fits : b ≡ (leb q.page.head.n (length q.page.text) && (leb (line_need q.page.head.m) (length q.page.lines) && leb (token_need q.page.head.k) (length q.page.tokens)))) where
  pub unfit : b ≡ false → Refused q ed (Err Unfit) q.spare
  unfit e = unfit-edit q ed (fits_by q.page b false is-fits e)

  module _ (e : b ≡ true) where
    fit : fits q.page ≡ true
    fit = fits_by q.page b true is-fits e

    pub reversed : ed.b < ed.a → Refused q ed (Err Outside) q.spare
    reversed = order-edit q ed fit

    pub past : q.page.head.n < ed.b → Refused q ed (Err Outside) q.spare
    past = past-edit q ed fit

    -- a proper range, the length of the edited text, capped, and the barge's limits
    module _ (order : ed.a ≤ ed.b) (inside : ed.b ≤ q.page.head.n) {size : ℕ}
        (is-size : size ≡ min (ed.a + length ed.w + (q.page.head.n - ed.b)) 18_446_744_073_709_551_615) {l : Limits} (is-barge : limits_of l ≡ barge) where
      ranged : Ranged q ed
      ranged = record { fit = fit; order = order; inside = inside }

      pub long : l.bytes < size → Refused q ed (Err (Reading (TooLong l.long size))) q.spare
      long = long-edit q ed ranged l.bytes l.long size (ap (λ (x : RulesLimits.Limits). x.bytes) is-barge) (ap (λ (x : RulesLimits.Limits). x.too_long_number) is-barge) is-size

      -- the length is within the limit
      module _ (within : size ≤ l.bytes) where
        small : size ≤ max_bytes
        small = omega (arith, (barge-fits l is-barge).0, within)

        whole : size ≡ length (edited (page_text q.page) ed)
        whole = settled _ _ _ is-size (size_is q ed ranged) small

        pub in-range : (ed.a ≤ ed.b) × ((ed.b ≤ q.page.head.n) × (size ≡ length (edited (page_text q.page) ed)))
        in-range = (order, (inside, whole))

        pub short-text : length q.page.text < size → Refused q ed (Err (Short Text size)) q.spare
        short-text = text-edit q ed ranged whole small

        pub short-spare : size ≤ length q.page.text → length q.spare < size → Refused q ed (Err (Short Spare size)) q.spare
        short-spare = spare-edit q ed ranged whole small
