-- The widths of the open levels, with a 0 for each other one.
-- Assumes nothing.
use Rattle.std.proofs.Common.{ℕ, Option, unwrap_or, slice_get, take_all, suc, ◌+◌, ◌-◌, ◌≤◌, ◌<◌, ◌≡◌, refl, sym, ap, ◌∙◌, Bool, true, false, List, [], ◌∷◌, ◌++◌, length, get_or, set, take, drop, replicate, arith, append_assoc, append-nil, length-append, length-drop, add-one}
use Rattle.std.proofs.Math.ListN.{drop_of_length-le}
use Rattle.std.proofs.Math.Seq.{take-suc, take-suc-set, take-append-add, length-take-le, take_at, take-take}
use Rattle.std.proofs.lemmas.List.{take-replicate, drop-replicate, set-append_right}
use Rattle.std.proofs.lemmas.Option.{slice_get-get_or}
use borrow.Rule.Slice.PartMut.{put_mid}
use Rattle.rules.specs.Lists.{trim_end, last_d}
use Rattle.rules.specs.Limits.{max_levels}
use Rattle.rules.specs.Records.{width_words, packed}
use Rattle.rules.proofs.ListLaws.{trim-pass, trim-stop}
use Rattle.rules.proofs.RecordLaws.{length_packed}

-- the zeros behind n widths
abbrev pub zeros_from : ℕ → List ℕ
zeros_from n = replicate (width_words - n) 0

pub packed_is : (xs : List ℕ) → length xs ≤ width_words → packed xs ≡ xs ++ zeros_from (length xs)
unfolding packed
packed_is xs h =
    let e : width_words ≡ length xs + (width_words - length xs) = omega arith in
    ap (λ (n : ℕ). take n (xs ++ replicate width_words 0)) e ∙ take-append-add xs (replicate width_words 0) (width_words - length xs)
    ∙ ap (λ (ys : List ℕ). xs ++ ys) (take-replicate (width_words - length xs) width_words 0 (omega arith))

-- The last of some widths, and widths popped from the end.

-- the last of n widths
last_d_snoc : (xs : List ℕ) (x d : ℕ) → last_d (xs ++ (x ∷ [])) d ≡ x
unfolding last_d
last_d_snoc [] x d = refl
last_d_snoc (y ∷ xs) x d = last_d_snoc xs x y

last_d_take : (ws : List ℕ) (n d : ℕ) → 0 < n → n ≤ length ws → last_d (take n ws) d ≡ get_or ws (n - 1) 0
last_d_take ws n d h k =
    let e : n ≡ suc (n - 1) = omega arith in
    ap (λ (m : ℕ). last_d (take m ws) d) e ∙ ap (λ (xs : List ℕ). last_d xs d) (take-suc ws (n - 1) 0 (omega arith))
    ∙ last_d_snoc (take (n - 1) ws) (get_or ws (n - 1) 0) d

pub last_or : (ws : List ℕ) → unwrap_or (slice_get ws (length ws - 1)) 0 ≡ last_d ws 0
unfolding last_d
last_or [] = refl
last_or (w ∷ ws) =
    ap (λ (o : Option ℕ). unwrap_or o 0) (slice_get-get_or (w ∷ ws) (length (w ∷ ws) - 1) 0 (omega arith))
    ∙ sym (last_d_take (w ∷ ws) (length (w ∷ ws)) 0 (omega arith) (omega arith)) ∙ ap (λ (l : List ℕ). last_d l 0) (take_all (length (w ∷ ws)) (w ∷ ws) (omega arith))

-- widths popped from the end
module _ (f : ℕ → Bool) (ws : List ℕ) (n : ℕ) (some : 0 < n) (inside : n ≤ length ws) where
  last : n - 1 + 1 ≡ n
  last = omega arith

  pub pop_past : f (get_or ws (n - 1) 0) ≡ true → trim_end f (take n ws) ≡ trim_end f (take (n - 1) ws)
  pop_past e = ap (λ (k : ℕ). trim_end f (take k ws)) (sym last) ∙ trim-pass f ws (n - 1) (omega arith) e

  pub pop_stop : f (get_or ws (n - 1) 0) ≡ false → trim_end f (take n ws) ≡ take n ws
  pop_stop e = rw last at (trim-stop f ws (n - 1) (omega arith) e)

-- What the words of the widths hold: those of n open levels, then zeros.
module _ (n : ℕ) (ws : List ℕ) (few : n ≤ max_levels) (held : ws ≡ packed (take n ws)) where
  pub wide : length ws ≡ width_words
  wide = ap length held ∙ length_packed (take n ws)

  pub count : length (take n ws) ≡ n
  count = length-take-le n ws (omega (arith, wide))

  -- those of the open levels, as the rules have them
  pub levels_are : (vs : List ℕ) → take n ws ≡ vs → n ≡ length vs
  levels_are vs e = sym count ∙ ap length e

  parts : ws ≡ take n ws ++ zeros_from n
  parts = held ∙ packed_is (take n ws) (omega (arith, count)) ∙ ap (λ (k : ℕ). take n ws ++ zeros_from k) count

  -- the first k of them, k no more than n
  pub fewer : (k : ℕ) → k ≤ n → take k (take n ws) ≡ take k ws
  fewer k h = take-take k n ws h

  -- one more level
  module _ (w : ℕ) (room : n < max_levels) where
    pub opened : take (n + 1) (set ws n w) ≡ take n ws ++ (w ∷ [])
    opened = ap (λ (k : ℕ). take k (set ws n w)) (add-one n) ∙ take-suc-set ws n w (omega (arith, wide))

    zeros : zeros_from n ≡ 0 ∷ zeros_from (n + 1)
    zeros = let e : width_words - n ≡ suc (width_words - (n + 1)) = omega arith in ap (λ (k : ℕ). replicate k 0) e

    set_is : set ws n w ≡ take n ws ++ (w ∷ zeros_from (n + 1))
    set_is =
        ap (λ (l : List ℕ). set l n w) parts ∙ set-append_right (take n ws) (zeros_from n) n n w count (omega arith)
        ∙ let z : n - n ≡ 0 = omega arith in ap (λ (k : ℕ). take n ws ++ set (zeros_from n) k w) z ∙ ap (λ (l : List ℕ). take n ws ++ set l 0 w) zeros

    pub opened_held : set ws n w ≡ packed (take (n + 1) (set ws n w))
    opened_held =
        let c : length (take n ws ++ (w ∷ [])) ≡ n + 1 = length-append (take n ws) (w ∷ []) ∙ ap (λ (k : ℕ). k + 1) count in
        set_is ∙ sym (append_assoc (take n ws) (w ∷ []) (zeros_from (n + 1))) ∙ ap (λ (k : ℕ). (take n ws ++ (w ∷ [])) ++ zeros_from k) (sym c)
        ∙ sym (packed_is (take n ws ++ (w ∷ [])) (omega (arith, c))) ∙ ap packed (sym opened)

  -- the levels past the first k closed
  module _ (k : ℕ) (inside : k ≤ n) (zs : List ℕ) (zero : zs ≡ zeros_from k) where
    first : length (take k ws) ≡ k
    first = length-take-le k ws (omega (arith, wide))

    pub closed_is : put_mid k (width_words - k) ws zs ≡ take k ws ++ zeros_from k
    closed_is =
        let none : drop (width_words - k) (drop k ws) ≡ [] = drop_of_length-le (drop k ws) (omega (arith, length-drop k ws, wide)) in
        ap (λ (l : List ℕ). take k ws ++ (zs ++ l)) none ∙ ap (λ (l : List ℕ). take k ws ++ l) (append-nil zs ∙ zero)

    pub closed : take k (put_mid k (width_words - k) ws zs) ≡ take k (take n ws)
    closed = ap (take k) closed_is ∙ take_at (take k ws) (zeros_from k) k first ∙ sym (fewer k inside)

    pub closed_held : put_mid k (width_words - k) ws zs ≡ packed (take k (put_mid k (width_words - k) ws zs))
    closed_held =
        closed_is ∙ ap (λ (m : ℕ). take k ws ++ zeros_from m) (sym first) ∙ sym (packed_is (take k ws) (omega (arith, first)))
        ∙ ap packed (sym (ap (take k) closed_is ∙ take_at (take k ws) (zeros_from k) k first))

-- the widths of n levels written over zeros
module _ (n : ℕ) (xs : List ℕ) (few : n ≤ max_levels) (count : length xs ≡ n) where
  abbrev pub loaded : List ℕ
  loaded = xs ++ drop n (replicate width_words 0)

  pub loaded_levels : take n loaded ≡ xs
  loaded_levels = take_at xs (drop n (replicate width_words 0)) n count

  pub loaded_held : loaded ≡ packed (take n loaded)
  loaded_held =
      ap (λ (l : List ℕ). xs ++ l) (drop-replicate n width_words 0) ∙ ap (λ (m : ℕ). xs ++ zeros_from m) (sym count)
      ∙ sym (packed_is xs (omega (arith, count))) ∙ ap packed (sym loaded_levels)
