-- The requests' smallest inputs, computed from the rules and held by one theorem.
-- Assumes nothing.
use Rattle.std.specs.Prelude.{ℕ, ◌≡◌, refl, List, [], ◌∷◌, map}
use Prim.Native.String.{String}
use Prim.Native.Char.{code}
use Rattle.rules.specs.Lists.{ascii}
use Rattle.rules.specs.Cut.{Suffix, no_suffix, fx, i32, u32, f64}
use Rattle.rules.specs.Numbers.{suffix_number, parts_reply, number_rules}
use Rattle.rules.specs.Cases.{Case, ◌gives◌}

-- F-1: the reply for a text that begins with a number: base, where digits, `_` and fraction end, suffix, end; and for one that does not
parts : String → (base digits : ℕ) → Suffix → (end : ℕ) → Case
parts t base digits x end = parts_reply (ascii t) gives 0 ∷ 1 ∷ end ∷ base ∷ digits ∷ suffix_number x ∷ []

no_parts : String → Case
no_parts t = parts_reply (ascii t) gives 0 ∷ 0 ∷ []

pub requested : List Case
requested =
    parts "0xi32" 16 2 i32 5 ∷ parts "0x_" 16 3 no_suffix 3 ∷ parts "0x_i32" 16 3 i32 6 ∷ parts "0x1f64" 16 6 no_suffix 6
    ∷ parts "0x1fx" 16 4 no_suffix 4 ∷ parts "0X1Fu32" 16 4 u32 7 ∷ parts "1_" 10 2 no_suffix 2 ∷ parts "1_i32" 10 2 i32 5
    ∷ parts "1.5f64" 10 3 f64 6 ∷ parts "1.5_fx" 10 4 fx 6 ∷ parts "1f642" 10 1 f64 4 ∷ parts "00x1" 10 2 no_suffix 2
    ∷ parts "1..2" 10 1 no_suffix 1 ∷ parts "1 " 10 1 no_suffix 1 ∷ parts "1\n" 10 1 no_suffix 1
    ∷ no_parts "" ∷ no_parts "x" ∷ no_parts " 1" ∷ no_parts "-1" ∷ no_parts ".5" ∷ (parts_reply (code "1" ∷ 0xFF ∷ []) gives 2 ∷ 1 ∷ []) ∷ []

pub requested_hold : map (λ (c : Case). c.got) requested ≡ map (λ (c : Case). c.want) requested
unfolding parts no_parts requested number_rules
requested_hold = refl
