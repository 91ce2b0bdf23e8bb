-- `numbers::scan_number` meets its contract: each of the four parts of the scan is the rules'.
use mathlib.Core.Path.{◌≡◌, sym, ap, ◌∙◌}
use mathlib.Core.Bool.{Bool}
use mathlib.Core.List.{List}
use Prim.Native.Nat.{ℕ, ◌+◌, ◌-◌}
use native.Mathlib.Omega.{arith}
use lib.ListN.{length, drop, length-drop}
use lib.Seq.{drop-drop}
use Rattle.std.specs.Prelude.{if◌then◌else◌}
use Rattle.rules.specs.Cut.{Suffix, base_of, digits_size, suffix_bytes, suffixes, suffix_of, scan_number}
use Rattle.rules.proofs.CutLaws.{digits_le, number-le}
use Rattle.numbers.specs.Numbers.{rule_suffix}
use Rattle.numbers.proofs.scan_number.Goals.{After-suffix_length}
use Rattle.numbers.proofs.scan_number.Goals as goal

pub suffix_at-suffix-requires : goal.suffix_at-suffix-requires
suffix_at-suffix-requires c =
    let a = c.args in
    omega (arith, c.digits_end-digits.ensures, digits_le (drop a.at a.line.now), length-drop a.at a.line.now)

-- the parts
module _ (c : After-suffix_length) where
  abbrev rest : List ℕ
  rest = drop c.args.at c.args.line.now

  base-is : c.base_of.result ≡ (scan_number rest).base
  unfolding scan_number base_of
  base-is = c.base_of.ensures ∙ ap (λ (b : Bool). if b then 16 else 10) c.is_hex-hex.ensures

  digits_are : c.digits_end-digits.result - c.args.at ≡ (scan_number rest).digits
  unfolding scan_number
  digits_are = omega (arith, c.digits_end-digits.ensures)

  suffix-is : rule_suffix c.suffix_at-suffix.result ≡ (scan_number rest).suffix
  unfolding scan_number
  suffix-is =
      c.suffix_at-suffix.ensures ∙ ap (λ (n : ℕ). suffix_of suffixes (drop n c.args.line.now)) c.digits_end-digits.ensures
      ∙ ap (suffix_of suffixes) (sym (drop-drop (digits_size rest) c.args.at c.args.line.now))

  end_is : c.digits_end-digits.result - c.args.at + c.suffix_length.result ≡ (scan_number rest).end
  unfolding scan_number
  end_is = omega (arith, digits_are, c.suffix_length.ensures, ap (λ (x : Suffix). length (suffix_bytes x)) suffix-is)

pub overflow_add-result : goal.overflow_add-result
overflow_add-result c = omega (arith, end_is c, number-le (rest c), length-drop c.args.at c.args.line.now)

pub returns : goal.returns
unfolding scan_number
returns c = λ i. record { base = base-is c i; digits = digits_are c i; suffix = suffix-is c i; end = end_is c i }
