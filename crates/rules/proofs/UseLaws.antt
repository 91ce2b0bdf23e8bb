-- A page in use: that of a reading holds the text read, longer buffers hold what the old ones held, and so does a page after edits and
-- longer buffers in any order.
-- Assumes nothing.
use Prim.Native.Nat.{ℕ, ◌≤◌}
use mathlib.Core.Path.{◌≡◌, refl, sym, ap, ◌∙◌}
use mathlib.Core.Bool.{Bool, true, false}
use mathlib.Core.List.{List}
use mathlib.Core.Option.{Option}
use native.Mathlib.Omega.{arith}
use lib.ListN.{length, take}
use lib.Seq.{take-take}
use Rattle.rules.specs.Lists.{bit}
use Rattle.rules.specs.Replies.{Refusal, Reply, numbered, is_refused, first_of, unless}
use Rattle.rules.specs.Records.{record_tests, FreshReading, recorded, unread, fresh_reading}
use Rattle.rules.specs.Page.{Lent, Sizes, sizes, header_after}
use Rattle.rules.specs.Read.{not_filled, filled, filled_by, read_into}
use Rattle.rules.specs.History.{none, call, paper_next, Settled, Holds}
use Rattle.rules.specs.Use.{Begins, with_filled, ReadPost, Demand3Read, Grown, edit, grow, paper, StepsFrom}
use Rattle.rules.proofs.PageLaws.{unread-refused}
use Rattle.rules.proofs.GateLaws.{RoomCases, few_lines, few_tokens, enough, room-cases}
use Rattle.rules.proofs.HistoryLaws.{holds_fits, holds_text, holds-room, written-holds, settled, one-edit, list_of_edits}

-- The page of a reading.

never : {A : Type 0} (b : Bool) → b ≡ true → b ≡ false → A
never b x y = let n : ◌≡◌ {A = ℕ} 0 1 = ap bit (sym y ∙ x) in absurd (omega arith)

pub read-holds : (q q' : Lent) (t : List ℕ) (reply : Reply) → ReadPost q t reply q' → Holds (sizes q) t q'
unfolding read_into filled_by unless numbered is_refused header_after
read-holds q q' t reply post = rw post.lent_is (go (fresh_reading t) refl (rw post.reply-is at post.accepts))
  where
    lines : List ℕ
    lines = q.page.lines

    tokens : List ℕ
    tokens = q.page.tokens

    go : (f : FreshReading) → fresh_reading t ≡ f → is_refused (filled_by lines tokens f).reply ≡ false → Holds (sizes q) t (with_filled q (filled_by lines tokens f))
    go (unread u) e ok = never _ (unread-refused t u e) ok
    go (recorded r) e ok = tests (first_of (record_tests (length lines) (length tokens) r)) (room-cases (length lines) (length tokens) r) ok
      where
        tests : (o : Option Refusal) → RoomCases (length lines) (length tokens) r o
            → is_refused (unless o (not_filled lines tokens) (filled lines tokens r)).reply ≡ false
            → Holds (sizes q) t (with_filled q (unless o (not_filled lines tokens) (filled lines tokens r)))
        tests o few_lines ok = never _ refl ok
        tests o few_tokens ok = never _ refl ok
        tests o (enough x y) ok = written-holds t r q.page.text q.spare lines tokens e post.begins x y

pub demand_3_read : Demand3Read
demand_3_read lent first t reply post = list_of_edits (read-holds lent first t reply post)

-- Longer buffers.

-- the first elements of a longer buffer
begins_take : (xs buffer : List ℕ) (n : ℕ) → n ≤ length xs → Begins xs buffer → take n buffer ≡ take n xs
begins_take xs buffer n h e = sym (take-take n (length xs) buffer h) ∙ ap (take n) e

pub grown-holds : {z : Sizes} {t : List ℕ} {q q' : Lent} → Holds z t q → Grown q q' → Holds (sizes q') t q'
grown-holds {q = q} {q' = q'} h g =
    let f = holds_fits h in
    record {
      text-is = rw (g.head-is, begins_take q.page.text q'.page.text _ f.text g.text) h.text-is;
      records-are = rw (g.head-is, begins_take q.page.lines q'.page.lines _ f.lines g.lines, begins_take q.page.tokens q'.page.tokens _ f.tokens g.tokens) h.records-are;
      sizes-are = refl;
    }

-- Edits and longer buffers in any order.
pub list_of_steps : {z : Sizes} {t : List ℕ} {q : Lent} → Holds z t q → StepsFrom z t q
list_of_steps {z} {t} h cs rs last none = (paper z t, none, h)
list_of_steps {z} {t} {q} h cs rs last (call {q = mid} {c = edit ed} {cs = rest} {r = r} {rs = more} post tail) =
    let o = one-edit z t q ed r mid h post in
    let s : Settled z t ed r (paper_next z t ed) = rw o.0 (settled z t ed (holds_text h) (holds-room h)) in
    let f = list_of_steps {t = paper_next z t ed} {q = mid} o.2 rest more last tail in
    (f.0, call {c = edit ed} (record { reply-is = o.0; settled = s; paper-is = refl }) f.1, f.2)
list_of_steps {z} {t} {q} h cs rs last (call {q = mid} {c = grow z'} {cs = rest} {r = r} {rs = more} post tail) =
    let g : Holds z' t mid = rw post.1 at (grown-holds h post.2) in
    let f = list_of_steps {z = z'} {t = t} {q = mid} g rest more last tail in
    (f.0, call {c = grow z'} (post.0, refl) f.1, f.2)
