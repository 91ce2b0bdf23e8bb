-- `literals::scan_ascii_byte_literal` meets its contract: a literal that reads is cut alike from the whole line and from the trimmed one.
use Rattle.std.proofs.Common.{ℕ, ◌≡◌, ◌+◌, sym, ap, ◌∙◌, List, length, take, drop, length-take-le, arith}
use lib.Seq.{drop-drop}
use Rattle.rules.specs.Kinds.{byte_lit}
use Rattle.rules.specs.Lists.{trim_end}
use Rattle.rules.specs.Tables.{is_cr}
use Rattle.rules.specs.Cut.{token, content_cut, byte_cut}
use Rattle.rules.proofs.ListLaws.{trim_end-le, trim_end_drop}
use Rattle.literals.proofs.Trimmed.{token-trimmed, trim-front}
use Rattle.literals.proofs.scan_ascii_byte_literal.Goals as goal

module _ (l : List ℕ) (at : ℕ) where
  -- the literal of the rest of a line is cut from the trimmed line
  in-line : content_cut (drop (at + 2) (trim_end is_cr l)) ≡ byte_cut (drop at l)
  unfolding byte_cut
  in-line = ap content_cut (sym (ap (drop 2) (trim_end_drop is_cr at l) ∙ drop-drop 2 at (trim_end is_cr l)))

  whole-line : (n : ℕ) → token byte_lit n ≡ content_cut (drop (at + 2) l) → token byte_lit n ≡ byte_cut (drop at l)
  whole-line n e = sym (token-trimmed (drop (at + 2) l) byte_lit n (sym e)) ∙ ap content_cut (trim_end_drop is_cr (at + 2) l) ∙ in-line

  trimmed-line : (end : ℕ) → end ≡ length (trim_end is_cr l) → content_cut (drop (at + 2) (take end l)) ≡ byte_cut (drop at l)
  trimmed-line end e =
      ap (λ (k : ℕ). content_cut (drop (at + 2) (take k l))) e ∙ ap (λ (s : List ℕ). content_cut (drop (at + 2) s)) (sym (trim-front is_cr l)) ∙ in-line

pub content_cut-requires : goal.content_cut-requires
content_cut-requires c = omega (arith, c.requires, trim_end-le is_cr c.args.line.now)

pub slice_bounds-content_cut-end : goal.slice_bounds-content_cut-end
slice_bounds-content_cut-end c =
    sym (length-take-le c.trimmed_end.result c.args.line.now (omega (arith, c.trimmed_end.ensures, trim_end-le is_cr c.args.line.now)))

pub content_cut-requires-in-Err : goal.content_cut-requires-in-Err
content_cut-requires-in-Err c =
    omega (arith, c.requires, c.trimmed_end.ensures, length-take-le c.trimmed_end.result c.args.line.now (omega (arith, c.trimmed_end.ensures, trim_end-le is_cr c.args.line.now)))

pub returns-in-Ok : goal.returns-in-Ok
returns-in-Ok c = whole-line c.args.line.now c.args.at _ c.in-Ok.ensures

pub returns-in-Err : goal.returns-in-Err
returns-in-Err c = c.content_cut-in-Err.ensures ∙ trimmed-line c.args.line.now c.args.at c.trimmed_end.result c.trimmed_end.ensures
