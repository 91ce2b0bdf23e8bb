-- `records::same_words` meets its contract.
use Rattle.std.proofs.Common.{List, ℕ, ap, ◌∙◌, eqb, arith, ⊎_elim}
use Rattle.std.specs.List.{starts_with}
use Rattle.records.proofs.Stores.{starts_from, starts_past}
use Rattle.records.proofs.same_words.Goals as goal

pub returns-in-Some : goal.returns-in-Some
returns-in-Some c =
    let a = c.args in
    c.starts_with.ensures.value ∙ ap (λ (l : List ℕ). starts_with eqb l a.wanted.now) c.in-Some.ensures.lookup.0.2 ∙ starts_from a.words.now a.wanted.now a.at

pub returns-in-None : goal.returns-in-None
returns-in-None c =
    let a = c.args in
    c.is_empty.ensures ∙ starts_past a.words.now a.wanted.now a.at (⊎_elim (λ h. h) (λ h. absurd (omega (arith, h))) c.in-None.ensures.lookup.0)
