-- The header and the page that a call is lent, as the rules have them.
-- Assumes nothing.
use Rattle.std.specs.Prelude.{ℕ, List}
use Rattle.rules.specs.Records as RulesRecords
use Rattle.rules.specs.Records.{header}
use Rattle.rules.specs.Page as RulesPage
use Rattle.header.specs.declared.Header.{Header}
use Rattle.header.specs.declared.Page.{Page}

abbrev pub header_of : Header → RulesRecords.Header
header_of h = header h.n h.m h.k

-- a header's three words and the buffers
abbrev pub page : (n m k : ℕ) (text lines tokens : List ℕ) → RulesPage.Page
page n m k text lines tokens = record { head = header n m k; text = text; lines = lines; tokens = tokens }

abbrev pub lent_page : Page → RulesPage.Page
lent_page p = record { head = header_of p.head; text = p.text.now; lines = p.lines.now; tokens = p.tokens.now }
