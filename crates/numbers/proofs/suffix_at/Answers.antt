-- `numbers::suffix_at` meets its contract.
use mathlib.Core.Path.{sym, ◌∙◌}
use lib.ListN.{drop}
use Rattle.numbers.proofs.Numbers.{suffix-fx, suffix-i32, suffix-u32, suffix-f64, suffix-none}
use Rattle.numbers.proofs.suffix_at.Goals as goal

pub returns-then-begins_at : goal.returns-then-begins_at
returns-then-begins_at c =
    let a = c.args in
    suffix-fx (drop a.at a.line.now) (sym c.begins_at.ensures ∙ c.if-begins_at.true)

pub returns-then-begins_at-2 : goal.returns-then-begins_at-2
returns-then-begins_at-2 c =
    let a = c.args in
    suffix-i32 (drop a.at a.line.now) (sym c.begins_at.ensures ∙ c.if-begins_at.false) (sym c.begins_at-2.ensures ∙ c.if-begins_at-2.true)

pub returns-then-begins_at-3 : goal.returns-then-begins_at-3
returns-then-begins_at-3 c =
    let a = c.args in
    suffix-u32 (drop a.at a.line.now) (sym c.begins_at.ensures ∙ c.if-begins_at.false) (sym c.begins_at-2.ensures ∙ c.if-begins_at-2.false) (sym c.begins_at-3.ensures ∙ c.if-begins_at-3.true)

pub returns-then-begins_at-4 : goal.returns-then-begins_at-4
returns-then-begins_at-4 c =
    let a = c.args in
    suffix-f64 (drop a.at a.line.now) (sym c.begins_at.ensures ∙ c.if-begins_at.false) (sym c.begins_at-2.ensures ∙ c.if-begins_at-2.false) (sym c.begins_at-3.ensures ∙ c.if-begins_at-3.false) (sym c.begins_at-4.ensures ∙ c.if-begins_at-4.true)

pub returns : goal.returns
returns c =
    let a = c.args in
    suffix-none (drop a.at a.line.now) (sym c.begins_at.ensures ∙ c.if-begins_at.false) (sym c.begins_at-2.ensures ∙ c.if-begins_at-2.false) (sym c.begins_at-3.ensures ∙ c.if-begins_at-3.false) (sym c.begins_at-4.ensures ∙ c.if-begins_at-4.false)
