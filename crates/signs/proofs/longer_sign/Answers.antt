-- `signs::longer_sign` meets its contract: the byte behind the second decides, and three codes have a longer sign.
use Prim.Native.Nat.{ℕ, ◌+◌, ◌<◌}
use mathlib.Core.Path.{◌≡◌, refl, sym, ap, ◌∙◌}
use mathlib.Core.Bool.{false}
use mathlib.Core.List.{List}
use native.Mathlib.Omega.{arith}
use borrow.Author.Tests.{eq-eqb, ne_eqb}
use lib.ListN.{length, get_or, drop}
use Rattle.rules.specs.Lists.{ascii, begins}
use Rattle.rules.specs.Tables.{table_rules}
use Rattle.tables.specs.Signs.{code_rules}
use Rattle.signs.specs.Codes.{longer, longer_by}
use Rattle.signs.proofs.SignLaws.{no_third, third-is}
use Rattle.signs.proofs.longer_sign.Goals.{then-line-at-lt2-via-then-line-at-lt2, then-line-at-lt2-via-else-line-at-lt2+then-line-at-ne61}
use Rattle.signs.proofs.longer_sign.Goals as goal

module _ (line : List ℕ) (at code : ℕ) where
  -- no `=` follows
  as-it-is : begins (ascii "=") (drop 1 (drop at line)) ≡ false → code ≡ longer_by (begins (ascii "=") (drop 1 (drop at line))) code
  unfolding longer_by
  as-it-is e = sym (rw e refl)

  -- one follows
  before-equal : at + 1 < length line → get_or line (at + 1) 0 ≡ 61 → {r : ℕ} → r ≡ longer code → r ≡ longer_by (begins (ascii "=") (drop 1 (drop at line))) code
  unfolding longer_by
  before-equal h e f = f ∙ sym (rw (third-is line at h, eq-eqb 61 (get_or line (at + 1) 0) (sym e)) refl)

-- the codes of `..`, `&&` and `||`, and another one
longer-dots : longer 201 ≡ 330
unfolding code_rules table_rules longer
longer-dots = refl

longer-and : longer 177 ≡ 309
unfolding code_rules table_rules longer
longer-and = refl

longer-or : longer 178 ≡ 310
unfolding code_rules table_rules longer
longer-or = refl

no_longer : (c : ℕ) → (c ≡ 201 → ⊥) → (c ≡ 177 → ⊥) → (c ≡ 178 → ⊥) → longer c ≡ c
unfolding code_rules table_rules longer
no_longer c n1 n2 n3 = rw (ne_eqb c 201 n1, ne_eqb c 177 n2, ne_eqb c 178 n3)

pub returns-then-line-at-lt2 : goal.returns-then-line-at-lt2
returns-then-line-at-lt2 c =
    let a = c.args in
    as-it-is a.line.now a.at a.code (elim c.then-line-at-lt2.branch [
      | then-line-at-lt2-via-then-line-at-lt2 w ↦ no_third a.line.now a.at w.if-line-at-lt2.true
      | then-line-at-lt2-via-else-line-at-lt2+then-line-at-ne61 w ↦ third-is a.line.now a.at (omega (arith, w.if-line-at-lt2.false)) ∙ rw (ne_eqb 61 (get_or a.line.now (a.at + 1) 0) (λ e. w.if-line-at-ne61.true (sym e))) refl
    ])

pub returns-in-201 : goal.returns-in-201
returns-in-201 c = before-equal c.args.line.now c.args.at c.args.code (omega arith) c.if-line-at-ne61.false (sym (ap longer c.in-201.is ∙ longer-dots))

pub returns-in-177 : goal.returns-in-177
returns-in-177 c = before-equal c.args.line.now c.args.at c.args.code (omega arith) c.if-line-at-ne61.false (sym (ap longer c.in-177.is ∙ longer-and))

pub returns-in-178 : goal.returns-in-178
returns-in-178 c = before-equal c.args.line.now c.args.at c.args.code (omega arith) c.if-line-at-ne61.false (sym (ap longer c.in-178.is ∙ longer-or))

pub returns-in_default : goal.returns-in_default
returns-in_default c = before-equal c.args.line.now c.args.at c.args.code (omega arith) c.if-line-at-ne61.false (sym (no_longer _ (λ e. omega arith) (λ e. omega arith) (λ e. omega arith)))
