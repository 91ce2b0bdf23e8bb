-- Which cuts are numbers.
-- Assumes nothing.
use Prim.Native.Nat.{ℕ, ◌<◌}
use mathlib.Core.Path.{◌≡◌, sym, ap, ◌∙◌}
use mathlib.Core.Bool.{Bool, true}
use mathlib.Core.List.{List}
use native.Mathlib.Omega.{arith}
use lib.ListN.{length, get_or, drop}
use lib.Seq.{drop-cons}
use Rattle.std.specs.Prelude.{Result, Ok, Err}
use Rattle.rules.specs.Kinds.{num}
use Rattle.rules.specs.Tables.{is_digit, digit_class, class_of}
use Rattle.rules.specs.Cut.{token, cut}
use Rattle.rules.specs.Numbers.{begins_with_digit}
use Rattle.rules.proofs.NumberLaws.{digit_class_lem, num_is-scanned}
use Rattle.literals.specs.declared.Failure.{Failure}
use Rattle.cut.specs.declared.Cut.{Cut}
use Rattle.cut.specs.declared.Cut.TheVariants.{Blank, Comment, Token, Number}
use Rattle.cut.specs.Cuts.{cut_of, plain_kind, cut_named, Scanned}
use Rattle.cut.proofs.Plain.{named-token, plain_back}

module _ (w : Bool) (line : List ℕ) (at : ℕ) (h : at < length line) where
  digit-first : (size : ℕ) → cut_named w (cut (drop at line)) ≡ token num size → is_digit (get_or line at 0) ≡ true
  unfolding plain_kind begins_with_digit
  digit-first size e =
      let t = named-token w (cut (drop at line)) num size e in
      let is-num = plain_back num t.0 (omega arith) t.2.plain in
      let n = num_is-scanned (drop at line) size (t.1 ∙ ap (λ (k : ℕ). token k size) is-num) in
      rw (drop-cons line at 0 h) at n.begins-so

  -- a byte of another class begins no number
  pub no_number : {k : ℕ} → class_of (get_or line at 0) ≡ k → (k ≡ digit_class → ⊥) → (x : Result Cut Failure) → cut_of x ≡ cut_named w (cut (drop at line)) → Scanned x (drop at line)
  no_number e n (Ok Blank) q = tt
  no_number e n (Ok Comment) q = tt
  no_number e n (Ok (Token kind size)) q = λ k. n (sym e ∙ digit_class_lem (get_or line at 0) (digit-first size (sym q ∙ ap (λ (i : ℕ). token i size) k)))
  no_number e n (Ok (Number x)) q = absurd (n (sym e ∙ digit_class_lem (get_or line at 0) (digit-first x.end (sym q))))
  no_number e n (Err f) q = tt
