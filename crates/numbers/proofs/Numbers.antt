-- A number at an index of a line: its fraction, its digits, its suffix.
-- Assumes nothing.
use Prim.Native.Nat.{ℕ, suc, ◌+◌, ◌≤◌, ◌<◌}
use mathlib.Core.Path.{◌≡◌, sym, ap, ◌∙◌}
use mathlib.Core.Bool.{Bool, true, false, ◌&&◌, and-false}
use mathlib.Core.List.{List}
use native.Mathlib.Omega.{arith}
use lib.Dec.{ltb}
use lib.ListN.{length, get_or, drop}
use lib.Seq.{drop-cons, drop-drop}
use borrow.Author.Tests.{eq-eqb, ne_eqb, lt-ltb}
use Rattle.std.specs.Prelude.{if◌then◌else◌}
use Rattle.rules.specs.Lists.{ascii, begins, run}
use Rattle.rules.specs.Tables.{is_digit}
use Rattle.rules.specs.Cut.{in_decimal, fraction_size, decimal_size, is_hex, digits_size, no_suffix, fx, i32, u32, f64, suffix_bytes, suffixes, suffix_of}
use Rattle.rules.proofs.ListLaws.{run-pass, run-stop, run_end}
use Rattle.tables.specs.Bytes.{reaches}
use Rattle.runs.proofs.ReachLaws.{run-decimal, run-hex}

abbrev fraction-by : Bool → ℕ → ℕ
fraction-by b n = if b then suc n else 0

module _ (l : List ℕ) (i : ℕ) where
  rest : drop 1 (drop i l) ≡ drop (i + 1) l
  rest = drop-drop 1 i l

  fraction-step : fraction_size (drop i l) ≡ fraction-by (begins (ascii ".") (drop i l) && ltb 0 (run is_digit (drop (i + 1) l))) (run in_decimal (drop (i + 1) l))
  unfolding fraction_size
  fraction-step = rw rest

  pub fraction-short : length l ≤ i + 1 → fraction_size (drop i l) ≡ 0
  fraction-short h = fraction-step ∙ rw (run_end is_digit l (i + 1) h) (ap (λ (b : Bool). fraction-by b (run in_decimal (drop (i + 1) l))) (and-false (begins (ascii ".") (drop i l))))

  module _ (h : i + 1 < length l) where
    pub fraction-other : (get_or l i 0 ≡ 46 → ⊥) → fraction_size (drop i l) ≡ 0
    unfolding begins
    fraction-other e =
        let none : begins (ascii ".") (drop i l) ≡ false = rw (drop-cons l i 0 (omega arith), ne_eqb 46 (get_or l i 0) (λ q. e (sym q))) in
        fraction-step ∙ rw none

    pub fraction_digitless : is_digit (get_or l (i + 1) 0) ≡ false → fraction_size (drop i l) ≡ 0
    fraction_digitless d = fraction-step ∙ rw (run-stop is_digit l (i + 1) h d) (ap (λ (b : Bool). fraction-by b (run in_decimal (drop (i + 1) l))) (and-false (begins (ascii ".") (drop i l))))

    pub fraction-is : get_or l i 0 ≡ 46 → is_digit (get_or l (i + 1) 0) ≡ true → fraction_size (drop i l) ≡ suc (run (reaches 2) (drop (i + 1) l))
    unfolding begins
    fraction-is e d =
        let here : begins (ascii ".") (drop i l) ≡ true = rw (drop-cons l i 0 (omega arith), eq-eqb 46 (get_or l i 0) (sym e)) in
        fraction-step ∙ rw (here, run-pass is_digit l (i + 1) h d, lt-ltb 0 (suc (run is_digit (drop (i + 1 + 1) l))) (omega arith), run-decimal (drop (i + 1) l))

  -- hex digits, after `0x` or `0X`; otherwise a decimal number
  pub hex-digits : is_hex (drop i l) ≡ true → digits_size (drop i l) ≡ 2 + run (reaches 1) (drop (i + 2) l)
  unfolding digits_size
  hex-digits e = rw (e, drop-drop 2 i l, run-hex (drop (i + 2) l))

  pub decimal-digits : is_hex (drop i l) ≡ false → (end : ℕ) → end ≡ i + run (reaches 2) (drop i l)
      → i + digits_size (drop i l) ≡ end + fraction_size (drop end l)
  unfolding digits_size decimal_size
  decimal-digits e end q =
      let r : run (reaches 2) (drop i l) ≡ run in_decimal (drop i l) = run-decimal (drop i l) in
      let d : drop (run in_decimal (drop i l)) (drop i l) ≡ drop end l = drop-drop (run in_decimal (drop i l)) i l ∙ ap (λ (n : ℕ). drop n l) (sym (q ∙ ap (λ (n : ℕ). i + n) r)) in
      let n : ℕ = fraction_size (drop end l) in
      rw (e, d) (omega arith)

-- the suffix, by what the rest begins with
module _ (s : List ℕ) where
  pub suffix-fx : begins (ascii "fx") s ≡ true → fx ≡ suffix_of suffixes s
  unfolding suffix_of suffixes suffix_bytes
  suffix-fx e = rw e

  module _ (a : begins (ascii "fx") s ≡ false) where
    pub suffix-i32 : begins (ascii "i32") s ≡ true → i32 ≡ suffix_of suffixes s
    unfolding suffix_of suffixes suffix_bytes
    suffix-i32 e = rw (a, e)

    module _ (b : begins (ascii "i32") s ≡ false) where
      pub suffix-u32 : begins (ascii "u32") s ≡ true → u32 ≡ suffix_of suffixes s
      unfolding suffix_of suffixes suffix_bytes
      suffix-u32 e = rw (a, b, e)

      module _ (c : begins (ascii "u32") s ≡ false) where
        pub suffix-f64 : begins (ascii "f64") s ≡ true → f64 ≡ suffix_of suffixes s
        unfolding suffix_of suffixes suffix_bytes
        suffix-f64 e = rw (a, b, c, e)

        pub suffix-none : begins (ascii "f64") s ≡ false → no_suffix ≡ suffix_of suffixes s
        unfolding suffix_of suffixes suffix_bytes
        suffix-none e = rw (a, b, c, e)
