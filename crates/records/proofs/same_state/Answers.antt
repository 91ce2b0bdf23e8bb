-- `records::same_state` meets its contract.
use Rattle.std.proofs.Common.{ℕ, ◌+◌, ◌*◌, List, take, drop, ap, sym, ◌∙◌}
use Rattle.rules.specs.Lists.{begins, same}
use Rattle.rules.specs.Records.{line_size, state_words}
use Rattle.rules.proofs.RecordLaws.{length_state_words}
use Rattle.rules.proofs.BeginsLaws.{same-begins}
use Rattle.records.proofs.same_state.Goals as goal

pub returns : goal.returns
returns c =
    let a = c.args in
    let z = state_words a.state.now in
    c.same_words.ensures ∙ ap (λ (ws : List ℕ). begins ws (drop (line_size * a.j + 2) a.lines.now)) c.words.ensures
    ∙ sym (ap (λ (n : ℕ). same (take n (drop (line_size * a.j + 2) a.lines.now)) z) (sym (length_state_words a.state.now)) ∙ same-begins z (drop (line_size * a.j + 2) a.lines.now))
