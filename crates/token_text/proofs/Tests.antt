-- The tests of a token, one after the other.
-- Assumes nothing.
use Prim.Native.Nat.{ℕ, ◌+◌, ◌*◌, ◌≤◌, ◌<◌}
use mathlib.Core.Path.{◌≡◌, sym, ◌∙◌}
use mathlib.Core.Bool.{Bool, true, false, ◌||◌, not}
use mathlib.Core.Option.{Option, none, some}
use native.Mathlib.Nat.{add-zero}
use native.Mathlib.Omega.{arith}
use lib.Dec.{ltb}
use lib.ListN.{length, get_or}
use borrow.Author.Tests.{lt-ltb, le-ltb, le-leb, lt-leb, ltb-false}
use Rattle.rules.specs.Kinds.{is_kind}
use Rattle.rules.specs.Replies.{Refusal, short, outside, unfit, names_buffer, refused_if, first_of}
use Rattle.rules.specs.Page.{Page, fits}
use Rattle.rules.specs.TokenText.{names_size, token_word, is_unfit, part_tests}
use Rattle.rules.specs.Records.{token_size}
use Rattle.rules.proofs.PageLaws.{fits_true}

or-false : (x y : Bool) → (x || y) ≡ false → y ≡ false
or-false true y e = let z : ◌≡◌ {A = Bool} true false = e in cc
or-false false y e = e

module _ (pg : Page) (i : ℕ) where
  pub first_word : get_or pg.tokens (token_size * i) 0 ≡ token_word pg i 0
  unfolding token_word
  first_word = rw add-zero

  -- the record's test on its words
  pub unfit-by : (b x : Bool) → b ≡ (not (is_kind (get_or pg.tokens (token_size * i) 0)) || ltb pg.head.n (token_word pg i 1 + token_word pg i 2)) → b ≡ x → is_unfit pg i ≡ x
  unfolding is_unfit
  unfit-by b x e h = sym (e ∙ rw first_word) ∙ h

module _ (pg : Page) (i names : ℕ) where
  abbrev pub Comes : Option Refusal → Type 0
  Comes r = r ≡ first_of (part_tests pg i names)

  pub no_page : fits pg ≡ false → Comes (some unfit)
  unfolding part_tests first_of refused_if
  no_page f = rw f

  module _ (f : fits pg ≡ true) where
    pub no_number : pg.head.k ≤ i → Comes (some outside)
    unfolding part_tests first_of refused_if
    no_number h = rw (f, le-leb pg.head.k i h)

    module _ (h : i < pg.head.k) where
      pub no_token : is_unfit pg i ≡ true → Comes (some unfit)
      unfolding part_tests first_of refused_if
      no_token u = rw (f, lt-leb pg.head.k i h, u)

      module _ (u : is_unfit pg i ≡ false) where
        -- the token reaches no further than the text
        pub in_text : token_word pg i 1 + token_word pg i 2 ≤ length pg.text
        unfolding is_unfit
        in_text = omega (arith, (fits_true pg f).text, ltb-false pg.head.n (token_word pg i 1 + token_word pg i 2) (or-false (not (is_kind (token_word pg i 0))) _ u))

        pub no_names : names < names_size → Comes (some (short names_buffer names_size))
        unfolding part_tests first_of refused_if
        no_names l = rw (f, lt-leb pg.head.k i h, u, lt-ltb names names_size l)

        pub granted : names_size ≤ names → Comes none
        unfolding part_tests first_of refused_if
        granted l = rw (f, lt-leb pg.head.k i h, u, le-ltb names names_size l)
