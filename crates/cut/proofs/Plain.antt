-- Cuts without the kinds of words: what they are cuts of, and what does not change.
-- Assumes nothing.
use Prim.Native.Nat.{ℕ, ◌<◌}
use mathlib.Core.Path.{◌≡◌, refl, sym, ap, ◌∙◌}
use mathlib.Core.Bool.{Bool, true, false, false≢true}
use native.Mathlib.Omega.{arith}
use native.Mathlib.Decide.{ℕ_discrete}
use lib.Dec.{ltb, eqb}
use borrow.Author.Tests.{le-ltb, eq-eqb, ne_eqb}
use Rattle.std.specs.Prelude.{if◌then◌else◌}
use Rattle.rules.specs.Kinds.{ident}
use Rattle.rules.specs.Failure.{Failure}
use Rattle.rules.specs.Cut.{Cut, blank, comment, ends, token, fails}
use Rattle.cut.specs.Cuts.{plain_kind, cut_named}

-- a kind that a pass gives for the kind k
pub record Named (write : Bool) (k kind : ℕ) : Type 0 where
  pub real : write ≡ true → k ≡ kind
  pub plain : plain_kind k ≡ plain_kind kind

plain-twice : (k : ℕ) → plain_kind k ≡ plain_kind (plain_kind k)
unfolding plain_kind
plain-twice k = go (ltb k ident) refl
  where
    go : (b : Bool) → ltb k ident ≡ b → (if b then ident else k) ≡ plain_kind (if b then ident else k)
    go true e = refl
    go false e = rw e

pub named-token : (w : Bool) (c : Cut) (kind size : ℕ) → cut_named w c ≡ token kind size → (k : ℕ) × (c ≡ token k size) × Named w k kind
named-token true c kind size e = (kind, e, record { real = λ _. refl; plain = refl })
named-token false blank kind size e = let z : ◌≡◌ {A = ℕ} 0 1 = cc in absurd (omega arith)
named-token false comment kind size e = let z : ◌≡◌ {A = ℕ} 0 1 = cc in absurd (omega arith)
named-token false ends kind size e = let z : ◌≡◌ {A = ℕ} 0 1 = cc in absurd (omega arith)
named-token false (token k n) kind size e =
    let p : plain_kind k ≡ kind = cc in
    let q : n ≡ size = cc in
    (k, ap (token k) q, record { real = λ h. absurd (false≢true h); plain = plain-twice k ∙ ap plain_kind p })
named-token false (fails f) kind size e = let z : ◌≡◌ {A = ℕ} 0 1 = cc in absurd (omega arith)

-- what is no token stays
data Tokenless : Cut → Type 0 where
  a-blank : Tokenless blank
  a-comment : Tokenless comment
  a-failure : (f : Failure) → Tokenless (fails f)

named_other : (w : Bool) (c d : Cut) → Tokenless d → cut_named w c ≡ d → c ≡ d
named_other true c d t e = e
named_other false blank d t e = e
named_other false comment d t e = e
named_other false ends d t e = e
named_other false (token k n) d a-blank e = let z : ◌≡◌ {A = ℕ} 0 1 = cc in absurd (omega arith)
named_other false (token k n) d a-comment e = let z : ◌≡◌ {A = ℕ} 0 1 = cc in absurd (omega arith)
named_other false (token k n) d (a-failure f) e = let z : ◌≡◌ {A = ℕ} 0 1 = cc in absurd (omega arith)
named_other false (fails f) d t e = e

pub named_blank : (w : Bool) (c : Cut) → cut_named w c ≡ blank → c ≡ blank
named_blank w c e = named_other w c blank a-blank e

pub named-comment : (w : Bool) (c : Cut) → cut_named w c ≡ comment → c ≡ comment
named-comment w c e = named_other w c comment a-comment e

pub named-fails : (w : Bool) (c : Cut) (f : Failure) → cut_named w c ≡ fails f → c ≡ fails f
named-fails w c f e = named_other w c (fails f) (a-failure f) e

-- a kind above Ident is told apart all the same
plain-above : (j n : ℕ) → ident < j → n ≡ j → plain_kind n ≡ j
unfolding plain_kind
plain-above j n h q = rw (le-ltb n ident (omega arith)) q

pub plain_back : (j n : ℕ) → ident < j → plain_kind n ≡ j → n ≡ j
unfolding plain_kind
plain_back j n h q = go (ltb n ident) q
  where
    go : (b : Bool) → (if b then ident else n) ≡ j → n ≡ j
    go true e = absurd (omega arith)
    go false e = e

pub plain_eqb : (j k kind : ℕ) → ident < j → plain_kind k ≡ plain_kind kind → eqb k j ≡ eqb kind j
plain_eqb j k kind h e = go (ℕ_discrete k j) (ℕ_discrete kind j)
  where
    go : Dec (k ≡ j) → Dec (kind ≡ j) → eqb k j ≡ eqb kind j
    go (yes p) (yes q) = eq-eqb k j p ∙ sym (eq-eqb kind j q)
    go (yes p) (no q) = absurd (q (plain_back j kind h (sym e ∙ plain-above j k h p)))
    go (no p) (yes q) = absurd (p (plain_back j k h (e ∙ plain-above j kind h q)))
    go (no p) (no q) = ne_eqb k j p ∙ sym (ne_eqb kind j q)
