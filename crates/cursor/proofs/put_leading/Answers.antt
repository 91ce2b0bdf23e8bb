-- `cursor::put_leading` meets its contract.
use Rattle.std.proofs.Common.{ap, sym, ◌+◌, ◌∙◌, arith}
use Rattle.levels.specs.Levels.{leading}
use Rattle.levels.specs.declared.Lead.{Lead}
use Rattle.rules.specs.Records.{token_words}
use Rattle.records.proofs.RecordTakes.{takes_as}
use Rattle.cursor.proofs.Leads.{indent_words}
use Rattle.cursor.proofs.put_leading.Goals as goal

pub returns-in-Indent-clause-taken : goal.returns-in-Indent-clause-taken
returns-in-Indent-clause-taken g c =
    let p = c.args.place in
    takes_as g.S.RecordSink.laws (omega arith) (sym (indent_words p) ∙ ap (λ (l : Lead). token_words p.start (p.line + 1) (leading l)) (sym c.in-Indent.is)) c.put_token.ensures
