use Rattle.std.proofs.Common.{◌≡◌, ◌∙◌, ◌≤◌, Some, IsOk, All, length, take, drop, decimal, sym, ap, subst, arith, rules}
use Rattle.replay.specs.Fields.{left, fill, SpellsEach}
use Rattle.replay.proofs.Each.{all_spelled, next_spelled}
use Rattle.replay.proofs.fields.Fields.expect_front.Goals as goal

pub returns-in_err-expect_number-clause-all_spelled : goal.returns-in_err-expect_number-clause-all_spelled
returns-in_err-expect_number-clause-all_spelled g c after front =
    let is : take c.args.count c.args.words.now ≡ c.in-Some.front.now = search rules in
    let next = next_spelled (λ field word. field ≡ decimal (g.T.Word.value word)) _ _ _ _ _ (omega arith) c.word-item.is c.loop-word.invariant after
    (subst (λ words. SpellsEach (λ field word. field ≡ decimal (g.T.Word.value word)) (left c.args.self.now) words after) is front.1) in
    let ok : IsOk c.expect_number.result = c.expect_number.ensures.spelled.1 (next.1 ∙ ap Some (next.2 ∙ ap decimal (sym c.value.ensures))) in
    search (rules, ok)

pub returns-then-all-clause-spelled : goal.returns-then-all-clause-spelled
returns-then-all-clause-spelled g c =
    let is : c.in-Some.front.now ≡ take c.args.count c.args.words.now = search rules in
    let within : c.args.count ≤ length c.args.words.now = search rules in
    let others : All (λ word. g.T.Word.value word ≡ fill) (drop c.args.count c.args.words.now) = search rules in (
      within,
      subst (λ words. SpellsEach (λ field word. field ≡ decimal (g.T.Word.value word)) (left c.args.self.now) words (left c.loop-word.self)) is
          (all_spelled (λ field word. field ≡ decimal (g.T.Word.value word)) _ _ _ _ (omega arith) c.loop-word.invariant),
      others,
    )
