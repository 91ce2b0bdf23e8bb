-- Cuts of the code as the rules have them: a comment or a sign, a number with its scan, and cuts with the kinds of words or without.
-- Assumes nothing.
use Rattle.std.specs.Prelude.{ℕ, ◌≡◌, Bool, true, false, List, Result, Ok, Err, ltb, if◌then◌else◌}
use Rattle.rules.specs.Lists.{ascii, begins}
use Rattle.rules.specs.Kinds.{ident, num}
use Rattle.rules.specs.Tables.{signs}
use Rattle.rules.specs.Cut as RulesCut
use Rattle.numbers.specs.Numbers.{number_of}
use Rattle.literals.specs.Cuts.{failure_of}
use Rattle.literals.specs.declared.Failure.{Failure}
use Rattle.cut.specs.declared.Cut as cut
use Rattle.cut.specs.declared.Cut.TheVariants as a-cut

-- a comment, or a sign
abbrev pub comment_or : List ℕ → RulesCut.Cut
comment_or s = if begins (ascii "//") s then RulesCut.Cut.comment else RulesCut.sign_cut signs s

-- what is cut
abbrev pub cut_of : Result cut.Cut Failure → RulesCut.Cut
cut_of (Ok a-cut.Blank) = RulesCut.Cut.blank
cut_of (Ok a-cut.Comment) = RulesCut.Cut.comment
cut_of (Ok (a-cut.Token k n)) = RulesCut.Cut.token k n
cut_of (Ok (a-cut.Number n)) = RulesCut.Cut.token num n.end
cut_of (Err f) = RulesCut.Cut.fails (failure_of f)

-- a number has the scan of what it is cut from, and no other cut is a Num token
abbrev pub Scanned : Result cut.Cut Failure → List ℕ → Type 0
Scanned (Ok a-cut.Blank) s = Unit {0}
Scanned (Ok a-cut.Comment) s = Unit {0}
Scanned (Ok (a-cut.Token k n)) s = k ≡ num → ⊥
Scanned (Ok (a-cut.Number n)) s = number_of n ≡ RulesCut.scan_number s
Scanned (Err f) s = Unit {0}

-- A pass that only counts takes every word for an Ident.

unfoldable pub plain_kind : ℕ → ℕ
plain_kind k = if ltb k ident then ident else k

abbrev pub plain_cut : RulesCut.Cut → RulesCut.Cut
plain_cut RulesCut.Cut.blank = RulesCut.Cut.blank
plain_cut RulesCut.Cut.comment = RulesCut.Cut.comment
plain_cut RulesCut.Cut.ends = RulesCut.Cut.ends
plain_cut (RulesCut.Cut.token k n) = RulesCut.Cut.token (plain_kind k) n
plain_cut (RulesCut.Cut.fails f) = RulesCut.Cut.fails f

-- a word's kind, or Ident
abbrev pub kind_asked : Bool → ℕ → ℕ
kind_asked true k = k
kind_asked false k = plain_kind k

-- a cut with the kinds of words, or without
abbrev pub cut_named : Bool → RulesCut.Cut → RulesCut.Cut
cut_named true c = c
cut_named false c = plain_cut c
