-- Tests and lists that the rules are written with. A text is a list of bytes.
-- Assumes nothing.
use Rattle.std.specs.Prelude.{ℕ, suc, Bool, true, false, ◌&&◌, ◌||◌, List, [], ◌∷◌, ◌++◌, leb, eqb, length, drop, if◌then◌else◌}
use Prim.Native.String as S
use Prim.Native.String.{String}
use Prim.Native.Char.{code}

-- lo ≤ b ≤ hi
abbrev pub within : ℕ → ℕ → ℕ → Bool
within lo hi b = leb lo b && leb b hi

-- the bytes of an ASCII text written in quotes; `code "a"` is the byte of one letter
abbrev pub ascii : String → List ℕ
ascii S.[] = []
ascii (S.◌∷◌ c s) = code c ∷ ascii s

-- some element passes the test
unfoldable pub any : {A : Type 0} → (A → Bool) → List A → Bool
any f [] = false
any f (x ∷ xs) = f x || any f xs

-- every element passes the test
unfoldable pub every : {A : Type 0} → (A → Bool) → List A → Bool
every f [] = true
every f (x ∷ xs) = f x && every f xs

unfoldable pub elem : ℕ → List ℕ → Bool
unfolding any
elem b xs = any (eqb b) xs

-- s begins with p
unfoldable pub begins : List ℕ → List ℕ → Bool
begins [] s = true
begins (x ∷ p) [] = false
begins (x ∷ p) (y ∷ s) = eqb x y && begins p s

-- the same list
unfoldable pub same : List ℕ → List ℕ → Bool
same [] [] = true
same [] (y ∷ ys) = false
same (x ∷ xs) [] = false
same (x ∷ xs) (y ∷ ys) = eqb x y && same xs ys

-- how many elements at the front pass the test
unfoldable pub run : {A : Type 0} → (A → Bool) → List A → ℕ
run f [] = 0
run f (x ∷ xs) = elim (f x) [ true ↦ suc (run f xs) | false ↦ 0 ]

unfoldable pub trimmed : Bool → ℕ → List ℕ → List ℕ
trimmed t x [] = if t then [] else x ∷ []
trimmed t x (y ∷ ys) = x ∷ y ∷ ys

-- the list less the elements at its end that pass the test
unfoldable pub trim_end : (ℕ → Bool) → List ℕ → List ℕ
trim_end f [] = []
trim_end f (x ∷ xs) = trimmed (f x) x (trim_end f xs)

-- the last element; d where there is none
unfoldable pub last_d : List ℕ → ℕ → ℕ
last_d [] d = d
last_d (x ∷ xs) d = last_d xs x

-- lists one after the other
unfoldable pub concat : List (List ℕ) → List ℕ
concat [] = []
concat (x ∷ xs) = x ++ concat xs

-- a buffer that begins with xs, its later elements as they were
unfoldable pub overwrite : List ℕ → List ℕ → List ℕ
overwrite xs buffer = xs ++ drop (length xs) buffer

abbrev pub bit : Bool → ℕ
bit true = 1
bit false = 0

-- opens the definitions above, and those of the modules below, where a proof says `unfolding list_rules`
unfoldable pub list_rules : Unit {0}
unfolding any every elem begins same run trimmed trim_end last_d concat overwrite
list_rules = tt
