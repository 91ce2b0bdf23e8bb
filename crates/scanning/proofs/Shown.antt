-- The document's own example of `scan`, computed from the rules.
-- Assumes nothing.
use mathlib.Core.Path.{◌≡◌, refl}
use Rattle.rules.specs.Lists.{ascii, list_rules}
use Rattle.rules.specs.Records.{record_rules}
use Rattle.rules.specs.Report.{report_rules}
use Rattle.rules.specs.Scan.{scan_output, scan_rules}

pub let_x : scan_output (ascii "let x")
    ≡ ascii "(page (bytes 5) (lines 1) (tokens 3))\n(tok 10 (at 0 1 1) (len 3))\n(tok 45 (at 4 1 5) (len 1))\n(tok 92 (at 5 1 6) (len 0))\n"
unfolding scan_rules report_rules record_rules list_rules
let_x = refl
