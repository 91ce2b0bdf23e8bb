-- Runs of units.
use denote.Ref.{Bor}
use Rattle.std.proofs.Common.{◌≡◌, ◌+◌, ◌-◌, ◌∙◌, ℕ, zero, suc, List, [], ◌∷◌, ◌++◌, length, get_or, take, replicate, refl, sym, ap, ap₂, arith, append_assoc, append-nil, length-append, get_or-append-add, take_at, take_all, ◌≢◌, ◌⊎◌, inl, inr, Option, None, Some, MatchOption, unwrap_or}
use Rattle.replay.specs.Units.{SpellsAll, SpellsRun, SpellsRuns, SpellsRepeated, PutsSpelled}

-- one run more behind the others
pub SpellsRuns-push : {T : Type 0} (Spells : List ℕ → List T → Type 0) (runs : List (List ℕ)) (run : List ℕ) (units more : List T)
    → SpellsRuns Spells runs units → SpellsRun Spells run more → SpellsRuns Spells (runs ++ run ∷ []) (units ++ more)
SpellsRuns-push Spells [] run units more so_far spells = (more, [], ap (λ us. us ++ more) so_far ∙ sym (append-nil more), spells, refl)
SpellsRuns-push Spells (r ∷ rs) run units more so_far spells = (
  so_far.0,
  so_far.1 ++ more,
  ap (λ us. us ++ more) so_far.2 ∙ append_assoc so_far.0 so_far.1 more,
  so_far.3,
  SpellsRuns-push Spells rs run so_far.1 more so_far.4 spells,
)

-- what `resize` leaves, where one unit was put behind the others
resized : {T : Type 0} (before : List T) (u : T) (count : ℕ)
    → take (length before + count) (before ++ u ∷ []) ++ replicate (length before + count - (length before + 1)) u ≡ before ++ replicate count u
resized before u zero =
    let none : length before + 0 - (length before + 1) ≡ 0 = omega arith in
    let all : length before ≡ length before + 0 = omega arith in
    ap (λ n. take (length before + 0) (before ++ u ∷ []) ++ replicate n u) none
    ∙ (append-nil _ ∙ (take_at before (u ∷ []) (length before + 0) all ∙ sym (append-nil before)))
resized before u (suc k) =
    let more : length before + suc k - (length before + 1) ≡ k = omega arith in
    ap (λ n. take (length before + suc k) (before ++ u ∷ []) ++ replicate n u) more
    ∙ (ap (λ us. us ++ replicate k u) (take_all (length before + suc k) (before ++ u ∷ []) (omega (arith, length-append before (u ∷ []))))
    ∙ append_assoc before (u ∷ []) (replicate k u))

-- the one unit that a text spells, so many times
pub put_repeated : {T : Type 0} (Spells : List ℕ → List T → Type 0) (text : List ℕ) (count : ℕ) (before grown after : List T) (unit : T)
    → PutsSpelled (SpellsAll Spells) text before grown → length grown ≡ length before + 1 → unit ≡ get_or grown (length before) unit
    → after ≡ take (length before + count) grown ++ replicate (length before + count - length grown) unit
    → PutsSpelled (SpellsRepeated Spells count) text before after
put_repeated {T} Spells text count before grown after unit puts one is laid = of puts.0 puts.1 puts.2
  where
    of : (units : List T) → grown ≡ before ++ units → SpellsAll Spells text units → PutsSpelled (SpellsRepeated Spells count) text before after
    of [] e spells = absurd (omega (arith, ap length e, length-append before []))
    of (u ∷ []) e spells =
        let at_end : get_or (before ++ u ∷ []) (length before) unit ≡ u =
        ap (λ n. get_or (before ++ u ∷ []) n unit) (omega arith) ∙ get_or-append-add before (u ∷ []) 0 unit in
        let unit_is : unit ≡ u = is ∙ (ap (λ us. get_or us (length before) unit) e ∙ at_end) in
        let kept : take (length before + count) grown ≡ take (length before + count) (before ++ u ∷ []) = ap (take (length before + count)) e in
        let added : replicate (length before + count - length grown) unit ≡ replicate (length before + count - (length before + 1)) u =
        ap₂ (λ n v. replicate (length before + count - n) v) one unit_is in
        (replicate count u, laid ∙ (ap₂ (λ us vs. us ++ vs) kept added ∙ resized before u count), (u, spells, refl))
    of (u ∷ v ∷ us) e spells = absurd (omega (arith, ap length e, length-append before (u ∷ v ∷ us)))

-- a comma behind the runs is cut off, where one stands there
pub terminated : (field runs : Bor (List ℕ)) (r : Option (Bor (List ℕ)))
    → MatchOption r ((front : List ℕ) → field.now ≢ front ++ 44 ∷ []) (λ x. field.now ≡ x.now ++ 44 ∷ []) → runs ≡ unwrap_or r field
    → (field.now ≡ runs.now) ⊎ (field.now ≡ runs.now ++ 44 ∷ [])
terminated field runs None cases e = inl (ap (λ x. x.now) (sym e))
terminated field runs (Some x) cases e = inr (cases ∙ ap (λ y. y.now ++ 44 ∷ []) (sym e))
