-- `utf8::scalar_size` meets its contract: each return is one case of `size_of`.
use mathlib.Core.Path.{refl, sym, ap}
use mathlib.Core.Bool.{not}
use native.Mathlib.Omega.{arith}
use borrow.Author.Rules.{rules}
use Rattle.utf8.proofs.SizeLaws.{sized, size-past, size-ascii, bad_first, size-two, bad_second, size_three, bad_third, size_four, bad_fourth}
use Rattle.utf8.proofs.scalar_size.Goals as goal

pub returns-then-text-at : goal.returns-then-text-at
returns-then-text-at c = sym (size-past _ _ c.if-text-at.true)

pub returns-then-ones-eq0 : goal.returns-then-ones-eq0
returns-then-ones-eq0 c = size-ascii (sized _ _ _ _ _ _ c.if-text-at.false (search rules) c.leading_ones-ones.ensures refl refl refl) c.if-ones-eq0.true

pub returns-then-not-second_at : goal.returns-then-not-second_at
returns-then-not-second_at c =
    bad_second (sized _ _ _ _ _ _ c.if-text-at.false (search rules) c.leading_ones-ones.ensures refl refl c.second_at.ensures) (omega (arith, c.if-ones-eq0.false))
    (ap not c.if-not-second_at.true)

pub returns-in-2 : goal.returns-in-2
returns-in-2 c = size-two (sized _ _ _ _ _ _ c.if-text-at.false (search rules) c.leading_ones-ones.ensures refl refl c.second_at.ensures) (ap not c.if-not-second_at.false) c.in-2.is

pub returns-in-3 : goal.returns-in-3
returns-in-3 c =
    let s = sized _ _ _ _ _ _ c.if-text-at.false (search rules) c.leading_ones-ones.ensures refl refl c.second_at.ensures in
    size_three s (ap not c.if-not-second_at.false) c.if-later_at.ensures refl c.in-3.is

pub returns-in-4 : goal.returns-in-4
returns-in-4 c =
    let s = sized _ _ _ _ _ _ c.if-text-at.false (search rules) c.leading_ones-ones.ensures refl refl c.second_at.ensures in
    size_four s (ap not c.if-not-second_at.false) c.if-later_at-2.ensures refl c.if-later_at-3.ensures c.in-4.is refl

pub returns-in_default : goal.returns-in_default
returns-in_default c =
    let s = sized _ _ _ _ _ _ c.if-text-at.false (search rules) c.leading_ones-ones.ensures refl refl c.second_at.ensures in
    bad_third s (ap not c.if-not-second_at.false) c.if-later_at.ensures (omega (arith, c.in-3.is)) refl

pub returns-in_default-2 : goal.returns-in_default-2
returns-in_default-2 c =
    let s = sized _ _ _ _ _ _ c.if-text-at.false (search rules) c.leading_ones-ones.ensures refl refl c.second_at.ensures in
    bad_fourth s (ap not c.if-not-second_at.false) c.if-later_at-2.ensures refl c.if-later_at-3.ensures c.in-4.is refl

pub returns-in_default-3 : goal.returns-in_default-3
returns-in_default-3 c =
    let s = sized _ _ _ _ _ _ c.if-text-at.false (search rules) c.leading_ones-ones.ensures refl refl c.second_at.ensures in
    bad_third s (ap not c.if-not-second_at.false) c.if-later_at-2.ensures (omega (arith, c.in-4.is)) refl

pub returns-in_default-4 : goal.returns-in_default-4
returns-in_default-4 c =
    bad_first (sized _ _ _ _ _ _ c.if-text-at.false (search rules) c.leading_ones-ones.ensures refl refl refl)
    (λ e. omega (arith, c.if-ones-eq0.false, e)) (λ e. omega arith) (λ e. omega arith) (λ e. omega arith)
