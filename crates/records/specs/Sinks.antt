-- What sinks promise.
-- Assumes nothing.
use Rattle.std.specs.Prelude.{ℕ, ◌+◌, ◌≤◌, ◌≡◌, Bool, true, false, ◌&&◌, List, [], ◌++◌, length, drop, Option, Some, None}
use Rattle.std.proofs.lemmas.List.Edits.{sets}
use Rattle.rules.specs.Lists.{begins}
use Rattle.records.specs.declared.sink.Nowhere.{Nowhere}
use Rattle.records.specs.declared.sink.Written.{Written}
use Rattle.records.specs.declared.sink.Held.{Held}

-- room for so many words holds the words before an index; what has no index asks for a sink without bound
abbrev pub Fits : (room index : Option ℕ) → Type 0
Fits None i = Unit {0}
Fits (Some n) (Some i) = i ≤ n
Fits (Some n) None = ⊥

-- Sinks of records.

-- no words are taken as they are; words taken one behind the other are taken together; the room stays; a sink that asks for no kinds takes other
-- words as well
pub record RecordSinkLaws {S : Type 0} (room : S → Option ℕ) (takes : S → S → ℕ → List ℕ → Type 0) (named : Bool) : Type 0 where
  pub taken-nothing : (s : S) (at : ℕ) → takes s s at []
  pub taken-behind : (s t u : S) (at : ℕ) (xs ys : List ℕ) → takes s t at xs → takes t u (at + length xs) ys → takes s u at (xs ++ ys)
  pub room-kept : (s t : S) (at : ℕ) (xs : List ℕ) → takes s t at xs → room t ≡ room s
  pub taken-unnamed : named ≡ false → (s t : S) (at : ℕ) (xs ys : List ℕ) → length xs ≡ length ys → takes s t at xs → takes s t at ys

-- a sink that is over takes any words, and stays as it is
abbrev pub OverLaw : {S : Type 0} (over : S → Bool) (takes : S → S → ℕ → List ℕ → Type 0) → Type 0
OverLaw {S} over takes = (s : S) (at : ℕ) (xs : List ℕ) → over s ≡ true → takes s s at xs

-- Sinks of words.

-- words taken one behind the other are taken together; a sink keeps its room, and where more fits, less does; a sink that asks for no kinds takes
-- other words as well
pub record SinkLaws {S : Type 0} (fits : S → ℕ → Type 0) (takes : S → S → ℕ → List ℕ → Type 0) (named : Bool) : Type 0 where
  pub nothing : (s : S) (at : ℕ) → takes s s at []
  pub joined : (s t u : S) (at : ℕ) (xs ys : List ℕ) → takes s t at xs → takes t u (at + length xs) ys → takes s u at (xs ++ ys)
  pub keeps : (s t : S) (at : ℕ) (xs : List ℕ) (n : ℕ) → takes s t at xs → fits s n → fits t n
  pub fewer : (s : S) (n k : ℕ) → k ≤ n → fits s n → fits s k
  pub unnamed : named ≡ false → (s t : S) (at : ℕ) (xs ys : List ℕ) → length xs ≡ length ys → takes s t at xs → takes s t at ys

-- Nothing is kept.

abbrev pub nowhere_fits : Nowhere → ℕ → Type 0
nowhere_fits s n = Unit {0}

abbrev pub NowhereTakes : Nowhere → Nowhere → ℕ → List ℕ → Type 0
NowhereTakes s t at xs = Unit {0}

-- The words are written.

abbrev pub written_fits : Written → ℕ → Type 0
written_fits s n = n ≤ length s.words.now

-- they stand from that index on, in the same buffer
pub record Writes (s t : Written) (at : ℕ) (xs : List ℕ) : Type 0 where
  pub same : t.words.ghost_name ≡ s.words.ghost_name
  pub written : t.words.now ≡ sets s.words.now at xs

-- The words are compared.

abbrev pub held_fits : Held → ℕ → Type 0
held_fits s n = Unit {0}

-- whether they were the same so far, and are those of the buffer from that index on
pub record Compares (s t : Held) (at : ℕ) (xs : List ℕ) : Type 0 where
  pub buffer : t.words.now ≡ s.words.now
  pub same : t.same ≡ (s.same && begins xs (drop at s.words.now))

-- A sink of words, by its name, what it is and its room.

-- the same sink takes them, and the room stays
pub record BoundedTakes {S : Type 0} (takes : S → S → ℕ → List ℕ → Type 0) (s t : ℕ × S × ℕ) (at : ℕ) (xs : List ℕ) : Type 0 where
  pub name : t.0 ≡ s.0
  pub room : t.2 ≡ s.2
  pub taken : takes s.1 t.1 at xs
