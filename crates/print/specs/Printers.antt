-- What printers promise.
-- Assumes nothing.
use Rattle.std.specs.Prelude.{ℕ, ◌+◌, ◌^◌, ◌≤◌, ◌<◌, ◌≡◌, List, [], ◌++◌, length}
use Rattle.std.proofs.lemmas.List.Edits.{sets}
use Rattle.print.specs.declared.Count.{Count}
use Rattle.print.specs.declared.Lent.{Lent}

-- texts printed one after another are one text; each takes its length of the room, and where more fit, fewer do
pub record PrinterLaws {P : Type 0} (fits : P → ℕ → Type 0) (prints : P → List ℕ → P → Type 0) : Type 0 where
  pub nothing : (p : P) → prints p [] p
  pub joined : (p q r : P) (xs ys : List ℕ) → prints p xs q → prints q ys r → prints p (xs ++ ys) r
  pub takes : (p q : P) (xs : List ℕ) (n : ℕ) → prints p xs q → fits p (length xs + n) → fits q n
  pub fewer : (p : P) (n k : ℕ) → k ≤ n → fits p n → fits p k

-- A count.

-- so many bytes more are a count
abbrev pub count_fits : Count → ℕ → Type 0
count_fits c n = c.size + n < 2 ^ 64

abbrev pub Counts : Count → List ℕ → Count → Type 0
Counts c xs d = d.size ≡ c.size + length xs

-- A buffer that is lent.

-- so many bytes more stand in it
abbrev pub lent_fits : Lent → ℕ → Type 0
lent_fits o n = o.size + n ≤ length o.out.now

-- these bytes stand behind those before, in the same buffer
pub record Writes (o : Lent) (xs : List ℕ) (p : Lent) : Type 0 where
  pub same : p.out.ghost_name ≡ o.out.ghost_name
  pub size : p.size ≡ o.size + length xs
  pub written : p.out.now ≡ sets o.out.now o.size xs
