-- From the numbers that `fits` tests to the page.
-- Assumes nothing.
use mathlib.Core.Path.{◌≡◌, sym, ◌∙◌}
use mathlib.Core.Bool.{Bool, ◌&&◌}
use lib.Dec.{leb}
use lib.ListN.{length}
use Rattle.rules.specs.Records.{line_need, token_need}
use Rattle.rules.specs.Page.{Page, fits}

pub fits_by : (pg : Page) (b x : Bool) → b ≡ (leb pg.head.n (length pg.text) && (leb (line_need pg.head.m) (length pg.lines) && leb (token_need pg.head.k) (length pg.tokens)))
    → b ≡ x → fits pg ≡ x
unfolding fits
fits_by pg b x e h = sym e ∙ h
