-- `keywords::word_kind` meets its contract. Of the rows: what is left to search gives the kind. Of the bytes: those from j on agree exactly if the
-- whole row does.
use Prim.Native.Nat.{◌-◌, ◌*◌, ◌≤◌}
use mathlib.Core.Path.{◌≡◌}
use Rattle.rules.specs.Tables.{keywords, word_kind}
use Rattle.tables.specs.Keywords.{keyword_table}
use Rattle.keywords.specs.Rows.{rows_from}
use Rattle.keywords.proofs.SearchLaws.{agree_from}
use Rattle.keywords.proofs.word_kind.Given as goal

abbrev pub invariant-loop-j : goal.invariant-loop-j
invariant-loop-j l = (l.j ≤ l.n) × (agree_from keyword_table l.word (11 * l.here) l.n 0 ≡ agree_from keyword_table l.word (11 * l.here) l.n l.j)

abbrev pub decreases-loop-j : goal.decreases-loop-j
decreases-loop-j l = l.n - l.j

abbrev pub invariant-rows : goal.invariant-rows
invariant-rows l = word_kind keywords l.word ≡ word_kind (rows_from keyword_table l.row (l.to - l.row)) l.word

abbrev pub decreases-rows : goal.decreases-rows
decreases-rows l = l.to - l.row
