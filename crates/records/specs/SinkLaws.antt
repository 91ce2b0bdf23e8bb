-- The laws of each sink.
-- Assumes nothing.
use Rattle.std.proofs.Common.{ℕ, ◌+◌, ◌≡◌, refl, sym, ap, ◌∙◌, Bool, true, false, not, ◌&&◌, List, ◌++◌, length, drop, Some, None, arith, true≢false}
use Rattle.std.proofs.lemmas.List.Edits.{sets}
use lib.Seq.{length-sets}
use Rattle.laws.proofs.Sets.{sets_append}
use Rattle.rules.specs.Lists.{begins}
use mathlib.Core.Bool.{and_assoc}
use Rattle.rules.proofs.BeginsLaws.{begins-parts}
use Rattle.records.specs.Sinks.{RecordSinkLaws, OverLaw, SinkLaws, nowhere_fits, NowhereTakes, written_fits, Writes, held_fits, Compares, BoundedTakes}
use Rattle.records.specs.declared.sink.Nowhere.{Nowhere}
use Rattle.records.specs.declared.sink.Written.{Written}
use Rattle.records.specs.declared.sink.Held.{Held}

-- a sink that is never over
pub never-over : {S : Type 0} (takes : S → S → ℕ → List ℕ → Type 0) → OverLaw (λ (s : S). false) takes
never-over takes s at xs e = absurd (true≢false (sym e))

pub nowhere-laws : SinkLaws nowhere_fits NowhereTakes false
nowhere-laws = record {
  nothing = λ s at. tt;
  joined = λ s t u at xs ys m n. tt;
  keeps = λ s t at xs n m f. tt;
  fewer = λ s n k l f. tt;
  unnamed = λ e s t at xs ys h m. tt;
}

pub nowhere-record-laws : RecordSinkLaws (λ (s : Nowhere). None) NowhereTakes false
nowhere-record-laws = record {
  taken-nothing = λ s at. tt;
  taken-behind = λ s t u at xs ys m n. tt;
  room-kept = λ s t at xs m. refl;
  taken-unnamed = λ e s t at xs ys h m. tt;
}

written-joined : (s t u : Written) (at : ℕ) (xs ys : List ℕ) → Writes s t at xs → Writes t u (at + length xs) ys → Writes s u at (xs ++ ys)
written-joined s t u at xs ys m n =
    record {
      same = n.same ∙ m.same;
      written = n.written ∙ ap (λ (l : List ℕ). sets l (at + length xs) ys) m.written ∙ sym (sets_append xs ys s.words.now at);
    }

pub written-laws : SinkLaws written_fits Writes true
written-laws = record {
  nothing = λ s at. record { same = refl; written = refl };
  joined = written-joined;
  keeps = λ s t at xs n m f. omega (arith, f, ap length m.written, length-sets s.words.now at xs);
  fewer = λ s n k l f. omega (arith, l, f);
  unnamed = λ e s t at xs ys h m. absurd (true≢false e);
}

pub written-record-laws : RecordSinkLaws (λ (s : Written). Some (length s.words.now)) Writes true
written-record-laws = record {
  taken-nothing = λ s at. record { same = refl; written = refl };
  taken-behind = written-joined;
  room-kept = λ s t at xs m. ap Some (ap length m.written ∙ length-sets s.words.now at xs);
  taken-unnamed = λ e s t at xs ys h m. absurd (true≢false e);
}

and-one : (b : Bool) → (b && true) ≡ b
and-one true = refl
and-one false = refl

held-joined : (s t u : Held) (at : ℕ) (xs ys : List ℕ) → Compares s t at xs → Compares t u (at + length xs) ys → Compares s u at (xs ++ ys)
held-joined s t u at xs ys m n =
    record {
      buffer = n.buffer ∙ m.buffer;
      same = n.same ∙ ap (λ (b : Bool). b && begins ys (drop (at + length xs) t.words.now)) m.same
          ∙ ap (λ (l : List ℕ). (s.same && begins xs (drop at s.words.now)) && begins ys (drop (at + length xs) l)) m.buffer ∙ and_assoc s.same (begins xs (drop at s.words.now)) (begins ys (drop (at + length xs) s.words.now))
          ∙ ap (λ (b : Bool). s.same && b) (sym (begins-parts xs ys s.words.now at (at + length xs) refl));
    }

pub held-laws : SinkLaws held_fits Compares true
unfolding begins
held-laws = record {
  nothing = λ s at. record { buffer = refl; same = sym (and-one s.same) };
  joined = held-joined;
  keeps = λ s t at xs n m f. tt;
  fewer = λ s n k l f. tt;
  unnamed = λ e s t at xs ys h m. absurd (true≢false e);
}

pub held-record-laws : RecordSinkLaws (λ (s : Held). None) Compares true
unfolding begins
held-record-laws = record {
  taken-nothing = λ s at. record { buffer = refl; same = sym (and-one s.same) };
  taken-behind = held-joined;
  room-kept = λ s t at xs m. refl;
  taken-unnamed = λ e s t at xs ys h m. absurd (true≢false e);
}

off : (b c : Bool) → not b ≡ true → b ≡ (b && c)
off true c e = absurd (true≢false (sym e))
off false c e = refl

pub held-over : OverLaw (λ (s : Held). not s.same) Compares
held-over s at xs e = record { buffer = refl; same = off s.same (begins xs (drop at s.words.now)) e }

pub bounded-laws : {S : Type 0} {fits : S → ℕ → Type 0} {takes : S → S → ℕ → List ℕ → Type 0} {named : Bool} → SinkLaws fits takes named
    → RecordSinkLaws (λ (s : ℕ × S × ℕ). Some s.2) (BoundedTakes takes) named
bounded-laws laws = record {
  taken-nothing = λ s at. record { name = refl; room = refl; taken = laws.nothing s.1 at };
  taken-behind = λ s t u at xs ys m n.
      record { name = n.name ∙ m.name; room = n.room ∙ m.room; taken = laws.joined s.1 t.1 u.1 at xs ys m.taken n.taken };
  room-kept = λ s t at xs m. ap Some m.room;
  taken-unnamed = λ e s t at xs ys h m. record { name = m.name; room = m.room; taken = laws.unnamed e s.1 t.1 at xs ys h m.taken };
}
