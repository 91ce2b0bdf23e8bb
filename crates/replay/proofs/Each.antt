-- Fields that are spelled one after the other.
use Rattle.std.proofs.Common.{◌≡◌, ◌↔◌, ◌+◌, ◌<◌, ◌≤◌, ◌∙◌, ℕ, List, [], ◌∷◌, ◌++◌, Option, Some, length, get_or, drop, refl, sym, ap, subst, subst₂, drop_of_length-le}
use Rattle.std.proofs.lemmas.List.{drop_more}
use Rattle.replay.specs.Fields.{next_field, after_field, SpellsEach}

module _ {A : Type 0} (Spells : List ℕ → A → Type 0) where
  one_more : (rest now : Option (List ℕ)) (xs : List A) (x : A) (field : List ℕ) → SpellsEach Spells rest xs now → next_field now ≡ Some field → Spells field x
      → SpellsEach Spells rest (xs ++ x ∷ []) (after_field now)
  one_more rest now [] x field each next spells = (field, ap next_field each ∙ next, spells, ap after_field each)
  one_more rest now (y ∷ ys) x field each next spells = (each.0, each.1, each.2, one_more (after_field rest) now ys x field each.3 next spells)

  -- one more behind the others
  pub SpellsEach-push : (rest now after : Option (List ℕ)) (xs ys : List A) (x : A) (field : List ℕ) → SpellsEach Spells rest xs now
      → next_field now ≡ Some field → Spells field x → ys ≡ xs ++ x ∷ [] → after ≡ after_field now → SpellsEach Spells rest ys after
  SpellsEach-push rest now after xs ys x field each next spells pushed behind =
      subst₂ (SpellsEach Spells rest) (sym pushed) (sym behind) (one_more rest now xs x field each next spells)

  -- with the first `i` spelled: all are just where what is left spells the others
  abbrev pub RestDecides : Option (List ℕ) → List A → ℕ → Option (List ℕ) → Type 0
  RestDecides before xs i rest = (after : Option (List ℕ)) → SpellsEach Spells rest (drop i xs) after ↔ SpellsEach Spells before xs after

  -- none is left to be spelled
  pub all_spelled : (before rest : Option (List ℕ)) (xs : List A) (i : ℕ) → length xs ≤ i → RestDecides before xs i rest → SpellsEach Spells before xs rest
  all_spelled before rest xs i end decides = (decides rest).0 (subst (λ ys. SpellsEach Spells rest ys rest) (sym (drop_of_length-le xs end)) refl)

  -- the next field is to spell the next of them
  pub next_spelled : (before rest : Option (List ℕ)) (xs : List A) (i : ℕ) (x : A) → i < length xs → x ≡ get_or xs i x → RestDecides before xs i rest
      → (after : Option (List ℕ)) → SpellsEach Spells before xs after → (field : List ℕ) × (next_field rest ≡ Some field) × Spells field x
  next_spelled before rest xs i x within is decides after each =
      let from_here = drop_more xs i x within ∙ ap (λ y. y ∷ drop (i + 1) xs) (sym is) in
      let others = subst (λ ys. SpellsEach Spells rest ys after) from_here ((decides after).1 each) in
      (others.0, others.1, others.2)
