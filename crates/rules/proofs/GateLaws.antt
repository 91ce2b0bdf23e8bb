-- The first refusals of an edit, one by one, and the outcome by cases.
-- Assumes nothing.
use Prim.Native.Nat.{ℕ, ◌≤◌, ◌<◌}
use mathlib.Core.Path.{◌≡◌, refl, sym, ap, ◌∙◌}
use mathlib.Core.Bool.{Bool, true, false, ◌||◌}
use mathlib.Core.List.{List, [], ◌∷◌}
use mathlib.Core.Option.{Option, none, some}
use native.Mathlib.Omega.{arith}
use lib.Dec.{ltb}
use lib.ListN.{length}
use borrow.Author.Tests.{ltb-false, lt-ltb, le-ltb}
use Rattle.std.specs.Prelude.{if◌then◌else◌}
use Rattle.rules.specs.Limits.{barge, barge_line}
use Rattle.rules.specs.Replies.{Unread, Refusal, reading, short, outside, numbered_unread, numbered, is_refused, text_buffer, spare_buffer, lines_buffer, tokens_buffer, refused_if, first_of, unless, is_too_long, too_long_by, is_malformed, malformed_by}
use Rattle.rules.specs.Records.{line_need, token_need, Records, record_tests, FreshReading, recorded, unread, read_lines, fresh_reading}
use Rattle.rules.specs.Page.{Sizes}
use Rattle.rules.specs.StopRule.{Edit, edited, reread_count}
use Rattle.rules.specs.Edit.{Outcome, early, late, done, is_improper, early_tests, gate, stored, through, outcome}
use Rattle.rules.specs.History.{Proper}
use Rattle.rules.proofs.ListLaws.{or_left, or_right, or_none}
use Rattle.rules.proofs.PageLaws.{unread-refused, fresh_lines_lem, fresh_inverse, FreshCases, long, ill_formed, lines, fresh_cases}

-- One test.

pub refused_true : (b : Bool) (r : Refusal) → b ≡ true → refused_if b r ≡ some r
unfolding refused_if
refused_true b r h = rw h

pub refused_false : (b : Bool) (r : Refusal) → b ≡ false → refused_if b r ≡ none
unfolding refused_if
refused_false b r h = rw h

proper_true : (t : List ℕ) (ed : Edit) → Proper t ed → is_improper t ed ≡ false
unfolding is_improper
proper_true t ed p = or_none (ltb ed.b ed.a) (ltb (length t) ed.b) (le-ltb ed.b ed.a p.order) (le-ltb (length t) ed.b p.inside)

improper_false : (t : List ℕ) (ed : Edit) → is_improper t ed ≡ false → Proper t ed
unfolding is_improper
improper_false t ed h = go (ltb ed.b ed.a) refl h
  where
    go : (x : Bool) → ltb ed.b ed.a ≡ x → (x || ltb (length t) ed.b) ≡ false → Proper t ed
    go true e k = let n : ◌≡◌ {A = ℕ} 0 1 = ap (λ (b : Bool). if b then 1 else 0) (sym k) in absurd (omega arith)
    go false e k = record { order = ltb-false ed.b ed.a e; inside = ltb-false (length t) ed.b k }

-- The gate by cases.

pub data Passed (z : Sizes) (t : List ℕ) (ed : Edit) : Option Outcome → Type 0 where
  stops_early : (r : Refusal) → is_refused (numbered r) ≡ true → Passed z t ed (some (early r))
  stops_late : (r : Refusal) → is_refused (numbered r) ≡ true → length (edited t ed) ≤ z.text → length (edited t ed) ≤ z.spare → Passed z t ed (some (late r))
  clear : Proper t ed → length (edited t ed) ≤ z.text → length (edited t ed) ≤ z.spare
      → is_too_long barge (edited t ed) ≡ false → is_malformed (edited t ed) ≡ false → Passed z t ed none

pub gate-passed : (z : Sizes) (t : List ℕ) (ed : Edit) → Passed z t ed (gate z t ed)
unfolding gate early_tests first_of unless refused_if too_long_by malformed_by numbered_unread numbered is_refused
gate-passed z t ed = tests (is_improper t ed) refl (is_too_long barge u) refl (ltb z.text (length u)) refl (ltb z.spare (length u)) refl (is_malformed u) refl
  where
    u : List ℕ
    u = edited t ed

    tests : (b0 : Bool) → is_improper t ed ≡ b0 → (b1 : Bool) → is_too_long barge u ≡ b1 → (b2 : Bool) → ltb z.text (length u) ≡ b2
        → (b3 : Bool) → ltb z.spare (length u) ≡ b3 → (b4 : Bool) → is_malformed u ≡ b4
        → Passed z t ed
        (unless
        (first_of
        ((if b0 then some outside else none) ∷ (if b1 then some (reading (too_long_by barge u)) else none) ∷ (if b2 then some (short text_buffer (length u)) else none)
        ∷ (if b3 then some (short spare_buffer (length u)) else none) ∷ []))
        (λ r. some (early r)) (unless (if b4 then some (reading (malformed_by u)) else none) (λ r. some (late r)) none))
    tests true e0 b1 e1 b2 e2 b3 e3 b4 e4 = stops_early outside refl
    tests false e0 true e1 b2 e2 b3 e3 b4 e4 = stops_early _ refl
    tests false e0 false e1 true e2 b3 e3 b4 e4 = stops_early _ refl
    tests false e0 false e1 false e2 true e3 b4 e4 = stops_early _ refl
    tests false e0 false e1 false e2 false e3 true e4 = stops_late _ refl (ltb-false _ _ e2) (ltb-false _ _ e3)
    tests false e0 false e1 false e2 false e3 false e4 = clear (improper_false t ed e0) (ltb-false _ _ e2) (ltb-false _ _ e3) e1 e4

-- The gate, test by test.

module _ (z : Sizes) (t : List ℕ) (ed : Edit) where
  pub gate_improper : is_improper t ed ≡ true → gate z t ed ≡ some (early outside)
  unfolding gate early_tests first_of unless refused_if
  gate_improper h = rw h

  pub gate-order : ed.b < ed.a → gate z t ed ≡ some (early outside)
  unfolding is_improper
  gate-order h = gate_improper (or_left (ltb ed.b ed.a) (ltb (length t) ed.b) (lt-ltb ed.b ed.a h))

  pub gate-past : length t < ed.b → gate z t ed ≡ some (early outside)
  unfolding is_improper
  gate-past h = gate_improper (or_right (ltb ed.b ed.a) (ltb (length t) ed.b) (lt-ltb (length t) ed.b h))

  module _ (p : Proper t ed) where
    pub gate-long : is_too_long barge (edited t ed) ≡ true → gate z t ed ≡ some (early (reading (too_long_by barge (edited t ed))))
    unfolding gate early_tests first_of unless refused_if
    gate-long h = rw (proper_true t ed p, h)

    module _ (h1 : is_too_long barge (edited t ed) ≡ false) where
      pub gate-text : z.text < length (edited t ed) → gate z t ed ≡ some (early (short text_buffer (length (edited t ed))))
      unfolding gate early_tests first_of unless refused_if
      gate-text h = rw (proper_true t ed p, h1, lt-ltb z.text (length (edited t ed)) h)

      module _ (h2 : length (edited t ed) ≤ z.text) where
        pub gate-spare : z.spare < length (edited t ed) → gate z t ed ≡ some (early (short spare_buffer (length (edited t ed))))
        unfolding gate early_tests first_of unless refused_if
        gate-spare h = rw (proper_true t ed p, h1, le-ltb z.text (length (edited t ed)) h2, lt-ltb z.spare (length (edited t ed)) h)

        module _ (h3 : length (edited t ed) ≤ z.spare) where
          pub gate-malformed : is_malformed (edited t ed) ≡ true → gate z t ed ≡ some (late (reading (malformed_by (edited t ed))))
          unfolding gate early_tests first_of unless refused_if
          gate-malformed h = rw (proper_true t ed p, h1, le-ltb z.text (length (edited t ed)) h2, le-ltb z.spare (length (edited t ed)) h3, h)

          pub gate-clear : is_malformed (edited t ed) ≡ false → gate z t ed ≡ none
          unfolding gate early_tests first_of unless refused_if
          gate-clear h = rw (proper_true t ed p, h1, le-ltb z.text (length (edited t ed)) h2, le-ltb z.spare (length (edited t ed)) h3, h)

-- The records' tests: the lines before the tokens.

module _ (lines tokens : ℕ) (r : Records) where
  pub room-lines : lines < line_need r.head.m → first_of (record_tests lines tokens r) ≡ some (short lines_buffer (line_need r.head.m))
  unfolding record_tests first_of refused_if
  room-lines h = rw (lt-ltb lines (line_need r.head.m) h)

  pub room-tokens : line_need r.head.m ≤ lines → tokens < token_need r.head.k
      → first_of (record_tests lines tokens r) ≡ some (short tokens_buffer (token_need r.head.k))
  unfolding record_tests first_of refused_if
  room-tokens k h = rw (le-ltb lines (line_need r.head.m) k, lt-ltb tokens (token_need r.head.k) h)

  pub data RoomCases : Option Refusal → Type 0 where
    few_lines : RoomCases (some (short lines_buffer (line_need r.head.m)))
    few_tokens : RoomCases (some (short tokens_buffer (token_need r.head.k)))
    enough : line_need r.head.m ≤ lines → token_need r.head.k ≤ tokens → RoomCases none

  pub room-cases : RoomCases (first_of (record_tests lines tokens r))
  unfolding record_tests first_of refused_if
  room-cases = tests (ltb lines (line_need r.head.m)) refl (ltb tokens (token_need r.head.k)) refl
    where
      tests : (b0 : Bool) → ltb lines (line_need r.head.m) ≡ b0 → (b1 : Bool) → ltb tokens (token_need r.head.k) ≡ b1
          → RoomCases
          (first_of ((if b0 then some (short lines_buffer (line_need r.head.m)) else none) ∷ (if b1 then some (short tokens_buffer (token_need r.head.k)) else none) ∷ []))
      tests true e0 b1 e1 = few_lines
      tests false e0 true e1 = few_tokens
      tests false e0 false e1 = enough (ltb-false _ _ e0) (ltb-false _ _ e1)

-- The outcome by cases.

pub data Sound (z : Sizes) (t : List ℕ) (ed : Edit) : Outcome → Type 0 where
  is_early : (r : Refusal) → is_refused (numbered r) ≡ true → Sound z t ed (early r)
  is_late : (r : Refusal) → is_refused (numbered r) ≡ true → length (edited t ed) ≤ z.text → length (edited t ed) ≤ z.spare → Sound z t ed (late r)
  is_done : (r : Records) → Proper t ed → length (edited t ed) ≤ z.text → length (edited t ed) ≤ z.spare
      → fresh_reading (edited t ed) ≡ recorded r → line_need r.head.m ≤ z.lines → token_need r.head.k ≤ z.tokens
      → Sound z t ed (done r (reread_count barge_line t ed))

stored_sound : (z : Sizes) (t : List ℕ) (ed : Edit) → Proper t ed → length (edited t ed) ≤ z.text → length (edited t ed) ≤ z.spare
    → (f : FreshReading) → fresh_reading (edited t ed) ≡ f → Sound z t ed (stored z (reread_count barge_line t ed) f)
unfolding stored unless numbered is_refused
stored_sound z t ed p h k (unread u) e = is_late (reading u) (unread-refused (edited t ed) u e) h k
stored_sound z t ed p h k (recorded r) e = go (first_of (record_tests z.lines z.tokens r)) (room-cases z.lines z.tokens r)
  where
    go : (o : Option Refusal) → RoomCases z.lines z.tokens r o → Sound z t ed (unless o late (done r (reread_count barge_line t ed)))
    go o few_lines = is_late _ refl h k
    go o few_tokens = is_late _ refl h k
    go o (enough x y) = is_done r p h k e x y

pub outcome_sound : (z : Sizes) (t : List ℕ) (ed : Edit) → Sound z t ed (outcome z t ed)
unfolding outcome through
outcome_sound z t ed = go (gate z t ed) (gate-passed z t ed)
  where
    go : (g : Option Outcome) → Passed z t ed g → Sound z t ed (through g (stored z (reread_count barge_line t ed) (read_lines barge_line (edited t ed))))
    go g (stops_early r x) = is_early r x
    go g (stops_late r x h k) = is_late r x h k
    go g (clear p h k x y) = stored_sound z t ed p h k (read_lines barge_line (edited t ed)) (fresh_lines_lem (edited t ed) x y)

-- With a proper range, and text and spare long enough, the fresh reading of the edited text decides.

module _ (z : Sizes) (t : List ℕ) (ed : Edit) (p : Proper t ed) (h : length (edited t ed) ≤ z.text) (k : length (edited t ed) ≤ z.spare) where
  outcome-clear : is_too_long barge (edited t ed) ≡ false → is_malformed (edited t ed) ≡ false
      → outcome z t ed ≡ stored z (reread_count barge_line t ed) (read_lines barge_line (edited t ed))
  unfolding outcome through
  outcome-clear x y = rw (gate-clear z t ed p x h k y)

  -- where it reads and its records have room, the edit is accepted with the stop rule's count
  pub outcome-accepts : (r : Records) → fresh_reading (edited t ed) ≡ recorded r → line_need r.head.m ≤ z.lines → token_need r.head.k ≤ z.tokens
      → outcome z t ed ≡ done r (reread_count barge_line t ed)
  unfolding stored record_tests first_of unless refused_if
  outcome-accepts r e hl ht =
      let i = fresh_inverse (edited t ed) r e in
      outcome-clear i.0 i.1 ∙ ap (stored z (reread_count barge_line t ed)) i.2
      ∙ rw (le-ltb z.lines (line_need r.head.m) hl, le-ltb z.tokens (token_need r.head.k) ht)

  -- where it is refused, so is the edit, alike
  pub data Refuses (x : Unread) : Outcome → Type 0 where
    at_first : Refuses x (early (reading x))
    at_last : Refuses x (late (reading x))

  pub outcome-refuses : (x : Unread) → fresh_reading (edited t ed) ≡ unread x → Refuses x (outcome z t ed)
  unfolding outcome through stored
  outcome-refuses x e = go (fresh_reading (edited t ed)) (fresh_cases (edited t ed)) e
    where
      go : (f : FreshReading) → FreshCases (edited t ed) f → f ≡ unread x → Refuses x (outcome z t ed)
      go f (long a) q = let s : too_long_by barge (edited t ed) ≡ x = cc in rw (gate-long z t ed p a, s) at_first
      go f (ill_formed a b) q = let s : malformed_by (edited t ed) ≡ x = cc in rw (gate-malformed z t ed p a h k b, s) at_last
      go f (lines a b c) q = rw (gate-clear z t ed p a h k b, c, q) at_last
