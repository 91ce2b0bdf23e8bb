-- Where reading again begins, test by test.
-- Assumes nothing.
use Prim.Native.Nat.{ℕ, ◌≤◌}
use mathlib.Core.Path.{◌≡◌, refl, ap, ◌∙◌}
use mathlib.Core.Bool.{Bool, true, false}
use native.Mathlib.Omega.{arith}
use lib.Dec.{ltb}
use lib.ListN.{take}
use borrow.Author.Tests.{le-ltb, ltb-false}
use Rattle.std.specs.Prelude.{Some, None, if◌then◌else◌}
use Rattle.rules.specs.Page.{Page}
use Rattle.rules.specs.Reading.{count_lf}
use Rattle.planning.specs.Starts.{is_usable, begin_line}
use Rattle.planning.proofs.Starts.{Usable, usable_true}

module _ (pg : Page) (a : ℕ) where
  abbrev m : ℕ
  m = pg.head.m

  abbrev k : ℕ
  k = pg.head.k

  abbrev at : ℕ
  at = count_lf (take a pg.text)

  pub begin_at : m ≤ 1_048_576 → k ≤ 2_097_152 → at ≤ m → is_usable pg.lines at k a ≡ true → begin_line pg a ≡ Some at
  begin_at hm hk hi h = rw (le-ltb 1_048_576 m hm, le-ltb 2_097_152 k hk, le-ltb m at hi, h)

  -- a line within the page: every test was passed
  pub record Begun (i : ℕ) : Type 0 where
    pub m-le : m ≤ 1_048_576
    pub k-le : k ≤ 2_097_152
    pub i-is : i ≡ at
    pub within : i ≤ m
    pub usable : Usable pg.lines i k a

  pub begun : (i : ℕ) → Some i ≡ begin_line pg a → Begun i
  begun i e = go (ltb 1_048_576 m) refl (ltb 2_097_152 k) refl (ltb m at) refl (is_usable pg.lines at k a) refl e
    where
      go : (b1 : Bool) → ltb 1_048_576 m ≡ b1 → (b2 : Bool) → ltb 2_097_152 k ≡ b2 → (b3 : Bool) → ltb m at ≡ b3 → (b4 : Bool) → is_usable pg.lines at k a ≡ b4
          → Some i ≡ (if b1 then None else if b2 then None else if b3 then None else if b4 then Some at else None) → Begun i
      go true e1 b2 e2 b3 e3 b4 e4 q = cc
      go false e1 true e2 b3 e3 b4 e4 q = cc
      go false e1 false e2 true e3 b4 e4 q = cc
      go false e1 false e2 false e3 false e4 q = cc
      go false e1 false e2 false e3 true e4 q =
          let r : i ≡ at = cc in
          record {
            m-le = ltb-false 1_048_576 m e1;
            k-le = ltb-false 2_097_152 k e2;
            i-is = r;
            within = omega (arith, r, ltb-false m at e3);
            usable = usable_true pg.lines i k a (ap (λ (n : ℕ). is_usable pg.lines n k a) r ∙ e4);
          }
