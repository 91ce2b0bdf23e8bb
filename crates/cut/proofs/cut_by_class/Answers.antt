-- `cut::cut_by_class` meets its contract: what is cut by each class, and only digits give a number.
use Prim.Native.Nat.{ℕ}
use mathlib.Core.Path.{refl, sym, ap, ◌∙◌}
use native.Mathlib.Omega.{arith}
use native.Mathlib.Nat.{add-zero}
use lib.ListN.{drop}
use Rattle.rules.specs.Kinds.{num}
use Rattle.rules.specs.Cut.{token, finding, Number, number_cut, cut_by}
use Rattle.tables.specs.Named.{class_number}
use Rattle.cut.proofs.Scans.{no_number}
use Rattle.cut.proofs.Words.{number-plain, string_plain, sign_or_plain, in_class, plain_class}
use Rattle.cut.proofs.cut_by_class.Goals as goal

pub returns-in-Blank-clause-result_value : goal.returns-in-Blank-clause-result_value
unfolding cut_by
returns-in-Blank-clause-result_value c = plain_class c.args.named c.args.line.now c.args.at c.requires 0 (sym c.class_of.ensures ∙ ap class_number c.in-Blank.is) refl

pub returns-in-Hash-clause-result_value : goal.returns-in-Hash-clause-result_value
unfolding cut_by
returns-in-Hash-clause-result_value c = plain_class c.args.named c.args.line.now c.args.at c.requires 1 (sym c.class_of.ensures ∙ ap class_number c.in-Hash.is) refl

pub returns-in-Letter-clause-result_value : goal.returns-in-Letter-clause-result_value
unfolding cut_by
returns-in-Letter-clause-result_value c = c.letter_cut.ensures ∙ in_class c.args.named c.args.line.now c.args.at c.requires 2 (sym c.class_of.ensures ∙ ap class_number c.in-Letter.is)

pub returns-in-Letter-clause-scanned : goal.returns-in-Letter-clause-scanned
returns-in-Letter-clause-scanned c =
    no_number c.args.named c.args.line.now c.args.at c.requires (sym c.class_of.ensures ∙ ap class_number c.in-Letter.is) (λ e. omega arith) c.letter_cut.result (returns-in-Letter-clause-result_value c)

pub returns-in-Quote-clause-result_value : goal.returns-in-Quote-clause-result_value
unfolding cut_by
returns-in-Quote-clause-result_value c = c.token.ensures ∙ c.string_cut.ensures ∙ plain_class c.args.named c.args.line.now c.args.at c.requires 4 (sym c.class_of.ensures ∙ ap class_number c.in-Quote.is) (string_plain (drop c.args.at c.args.line.now))

pub returns-in-Quote-clause-scanned : goal.returns-in-Quote-clause-scanned
returns-in-Quote-clause-scanned c =
    no_number c.args.named c.args.line.now c.args.at c.requires (sym c.class_of.ensures ∙ ap class_number c.in-Quote.is) (λ e. omega arith) c.token.result (returns-in-Quote-clause-result_value c)

pub returns-in-Sign-clause-result_value : goal.returns-in-Sign-clause-result_value
unfolding cut_by
returns-in-Sign-clause-result_value c = c.sign_or_comment.ensures ∙ plain_class c.args.named c.args.line.now c.args.at c.requires 5 (sym c.class_of.ensures ∙ ap class_number c.in-Sign.is) (sign_or_plain (drop c.args.at c.args.line.now))

pub returns-in-Sign-clause-scanned : goal.returns-in-Sign-clause-scanned
returns-in-Sign-clause-scanned c =
    no_number c.args.named c.args.line.now c.args.at c.requires (sym c.class_of.ensures ∙ ap class_number c.in-Sign.is) (λ e. omega arith) c.sign_or_comment.result (returns-in-Sign-clause-result_value c)

pub returns-in-Digit-clause-result_value : goal.returns-in-Digit-clause-result_value
unfolding cut_by number_cut
returns-in-Digit-clause-result_value c =
    ap (λ (x : Number). token num x.end) c.scan_number.ensures
    ∙ plain_class c.args.named c.args.line.now c.args.at c.requires 3 (sym c.class_of.ensures ∙ ap class_number c.in-Digit.is) (number-plain (drop c.args.at c.args.line.now))

pub returns-in-Other-clause-result_value : goal.returns-in-Other-clause-result_value
unfolding cut_by
returns-in-Other-clause-result_value c =
    c.finding_at.ensures ∙ ap (λ (n : ℕ). finding 1 0 (drop n c.args.line.now)) (add-zero c.args.at)
    ∙ plain_class c.args.named c.args.line.now c.args.at c.requires 6 (sym c.class_of.ensures ∙ ap class_number c.in-Other.is) refl
