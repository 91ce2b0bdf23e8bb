-- `cut::sign_or_comment` meets its contract, by the code of a sign.
use Prim.Native.Nat.{ℕ, ◌<◌}
use mathlib.Core.Path.{◌≡◌, refl, sym, ap, ◌∙◌}
use mathlib.Core.List.{List}
use native.Mathlib.Omega.{arith}
use lib.ListN.{drop}
use Rattle.rules.specs.Failure.{failure, expected_and}
use Rattle.rules.specs.Cut.{comment, fails}
use Rattle.tables.specs.Signs.{sign_code}
use Rattle.cut.specs.Cuts.{comment_or}
use Rattle.signs.specs.Codes.{code_cut}
use Rattle.signs.proofs.SignLaws.{code-cut}
use Rattle.cut.proofs.Words.{code-token}
use Rattle.cut.proofs.sign_or_comment.Goals as goal

-- what the other codes cut
cut-comment : comment ≡ code_cut 1
unfolding code_cut
cut-comment = refl

cut-none : fails (failure expected_and 0 0 1) ≡ code_cut 0
unfolding code_cut
cut-none = refl

-- the code is that of the line's rest
by_code : (s : List ℕ) {code n : ℕ} → code ≡ sign_code s → code ≡ n → code_cut n ≡ comment_or s
by_code s e f = ap code_cut (sym f ∙ e) ∙ sym (code-cut s)

pub returns-in-0 : goal.returns-in-0
returns-in-0 c = cut-none ∙ by_code (drop c.args.at c.args.line.now) c.sign_code.ensures c.in-0.is

pub returns-in-1 : goal.returns-in-1
returns-in-1 c = cut-comment ∙ by_code (drop c.args.at c.args.line.now) c.sign_code.ensures c.in-1.is

pub returns-in_default : goal.returns-in_default
returns-in_default c =
    let above : 1 < c.sign_code.result = omega arith in
    code-token c.sign_code.result above ∙ by_code (drop c.args.at c.args.line.now) c.sign_code.ensures refl
