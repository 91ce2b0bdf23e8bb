-- Demand 3: every list of edits from the fresh page leaves what the history on paper says.
-- Assumes nothing.
use Prim.Native.Nat.{ℕ, ◌≤◌}
use mathlib.Core.Path.{◌≡◌, refl, ap, ◌∙◌}
use mathlib.Core.Bool.{true}
use mathlib.Core.List.{List, [], ◌∷◌}
use native.Mathlib.Omega.{arith}
use lib.ListN.{length, take, replicate}
use borrow.Author.Tests.{le-ltb}
use Rattle.rules.specs.Lists.{overwrite}
use Rattle.rules.specs.Utf8.{utf8_rules}
use Rattle.rules.specs.Limits.{barge_line}
use Rattle.rules.specs.Replies.{Unread, Refusal, reading, Reply, numbered, accepted, is_refused, refused_if, unless, is_too_long, is_malformed}
use Rattle.rules.specs.Records.{line_size, line_need, token_need, header, Records, recorded, fresh_reading, read_lines}
use Rattle.rules.specs.Page.{Page, Lent, Sizes, sizes, page_text, page_records, Faithful, header_after, fresh_reply, fresh_lines, fresh_page, FreshPost}
use Rattle.rules.specs.StopRule.{Edit, edited}
use Rattle.rules.specs.Edit.{Outcome, outcome, reply_of, after, EditPost}
use Rattle.rules.specs.History.{none, call, text_after, paper_next, paper_text, paper_replies, paper_lent, Proper, Room, LongEnough, Settled, Holds, Demand3From, Demand3}
use Rattle.rules.proofs.BufferLaws.{length_overwrite, overwrite_take}
use Rattle.rules.proofs.RecordLaws.{fresh_sizes, fresh_empty}
use Rattle.rules.proofs.PageLaws.{Fits, faithful_fits, fresh_inverse, fresh_lines_lem, unread-refused, page_length}
use Rattle.rules.proofs.GateLaws.{Sound, is_early, is_late, is_done, outcome_sound, outcome-accepts, Refuses, at_first, at_last, outcome-refuses}

-- Lent buffers that hold a text.

module _ {z : Sizes} {t : List ℕ} {q : Lent} (h : Holds z t q) where
  pub holds_faithful : Faithful q.page
  holds_faithful = rw h.text-is h.records-are

  pub holds_fits : Fits q.page
  holds_fits = faithful_fits q.page holds_faithful

  -- the text and its records have room
  pub holds_text : length t ≤ z.text
  holds_text =
      omega (arith, ap (λ (x : Sizes). x.text) h.sizes-are, holds_fits.text, page_length q.page holds_fits, ap length h.text-is)

  pub holds-room : Room z t
  holds-room r e =
      let same : r ≡ page_records q.page = cc h.records-are in
      rw same (
        omega (arith, ap (λ (x : Sizes). x.lines) h.sizes-are, holds_fits.lines),
        omega (arith, ap (λ (x : Sizes). x.tokens) h.sizes-are, holds_fits.tokens),
      )

-- the records of a text written into buffers that have room for them, under a text buffer that begins with it
pub written-holds : (t : List ℕ) (r : Records) (text spare lines tokens : List ℕ) → fresh_reading t ≡ recorded r → take (length t) text ≡ t
    → line_need r.head.m ≤ length lines → token_need r.head.k ≤ length tokens
    → Holds (record { text = length text; spare = length spare; lines = length lines; tokens = length tokens }) t
    (record { page = record { head = r.head; text = text; lines = overwrite r.lines lines; tokens = overwrite r.tokens tokens }; spare = spare })
written-holds t r text spare lines tokens g b hl ht =
    let fs = fresh_sizes barge_line t r (fresh_inverse t r g).2 in
    let el : length (overwrite r.lines lines) ≡ length lines = length_overwrite r.lines lines (omega (arith, fs.1)) in
    let et : length (overwrite r.tokens tokens) ≡ length tokens = length_overwrite r.tokens tokens (omega (arith, fs.2)) in
    record {
      text-is = ap (λ (n : ℕ). take n text) fs.0 ∙ b;
      records-are = g ∙ rw (overwrite_take r.lines lines (line_need r.head.m) fs.1, overwrite_take r.tokens tokens (token_need r.head.k) fs.2);
      sizes-are = λ i. record { text = length text; spare = length spare; lines = el i; tokens = et i };
    }

-- One edit on paper.

settled-by : (z : Sizes) (t : List ℕ) (ed : Edit) → length t ≤ z.text → Room z t → (o : Outcome) → outcome z t ed ≡ o → Sound z t ed o
    → (Proper t ed → LongEnough z t ed → ⊥) → (r : Refusal) × (reply_of o ≡ numbered r) × (is_refused (reply_of o) ≡ true) × (text_after t (edited t ed) o ≡ t)
unfolding reply_of text_after
settled-by z t ed ht hr o e (is_early r s) no_way = (r, refl, s, refl)
settled-by z t ed ht hr o e (is_late r s h k) no_way = (r, refl, s, refl)
settled-by z t ed ht hr o e (is_done r p h k f hl hk) no_way =
    absurd (no_way p (record {
      text-before = ht;
      records-before = hr;
      text = h;
      spare = k;
      records = λ s g. let same : s ≡ r = cc f in rw same (hl, hk);
    }))

pub settled : (z : Sizes) (t : List ℕ) (ed : Edit) → length t ≤ z.text → Room z t → Settled z t ed (reply_of (outcome z t ed)) (paper_next z t ed)
unfolding paper_next reply_of text_after
settled z t ed ht hr =
    record {
      accepts = λ p l r e.
          let room = l.records r e in
          rw (outcome-accepts z t ed p l.text l.spare r e room.0 room.1) (refl, refl);
      refuses = λ p l u e. refuses (outcome z t ed) (outcome-refuses z t ed p l.text l.spare u e) (unread-refused (edited t ed) u e);
      otherwise = settled-by z t ed ht hr (outcome z t ed) refl (outcome_sound z t ed);
    }
  where
    refuses : {p : Proper t ed} {h : length (edited t ed) ≤ z.text} {k : length (edited t ed) ≤ z.spare} {u : Unread} (o : Outcome)
        → Refuses z t ed p h k u o → is_refused (numbered (reading u)) ≡ true
        → (reply_of o ≡ numbered (reading u)) × (is_refused (reply_of o) ≡ true) × (text_after t (edited t ed) o ≡ t)
    refuses o at_first s = (refl, s, refl)
    refuses o at_last s = (refl, s, refl)

-- One edit of lent buffers.

-- an outcome keeps buffers that hold a text
keeps : (z : Sizes) (t : List ℕ) (ed : Edit) (q : Lent) (o : Outcome) → Holds z t q → Sound z t ed o → Holds z (text_after t (edited t ed) o) (after q (edited t ed) o)
unfolding text_after after
keeps z t ed q o h (is_early r s) = h
keeps z t ed q o h (is_late r s h1 h2) =
    let u : List ℕ = edited t ed in
    let e2 : length (overwrite u q.spare) ≡ length q.spare = length_overwrite u q.spare (omega (arith, ap (λ (y : Sizes). y.spare) h.sizes-are)) in
    record {
      text-is = h.text-is;
      records-are = h.records-are;
      sizes-are = (λ i. record { text = length q.page.text; spare = e2 i; lines = length q.page.lines; tokens = length q.page.tokens }) ∙ h.sizes-are;
    }
keeps z t ed q o h (is_done r p h1 h2 g h3 h4) =
    let u : List ℕ = edited t ed in
    let e1 : length (overwrite u q.page.text) ≡ length q.page.text = length_overwrite u q.page.text (omega (arith, ap (λ (y : Sizes). y.text) h.sizes-are)) in
    let e2 : length (overwrite u q.spare) ≡ length q.spare = length_overwrite u q.spare (omega (arith, ap (λ (y : Sizes). y.spare) h.sizes-are)) in
    let w = written-holds u r (overwrite u q.page.text) (overwrite u q.spare) q.page.lines q.page.tokens g (overwrite_take u q.page.text (length u) refl)
    (omega (arith, ap (λ (y : Sizes). y.lines) h.sizes-are)) (omega (arith, ap (λ (y : Sizes). y.tokens) h.sizes-are)) in
    record {
      text-is = w.text-is;
      records-are = w.records-are;
      sizes-are = w.sizes-are ∙ (λ i. record { text = e1 i; spare = e2 i; lines = length q.page.lines; tokens = length q.page.tokens }) ∙ h.sizes-are;
    }

pub one-edit : (z : Sizes) (t : List ℕ) (q : Lent) (ed : Edit) (reply : Reply) (q' : Lent) → Holds z t q → EditPost q ed reply q'
    → (reply ≡ reply_of (outcome z t ed)) × (q' ≡ after q (edited t ed) (outcome z t ed)) × Holds z (paper_next z t ed) q'
unfolding paper_next
one-edit z t q ed reply q' h post =
    let o : post.came ≡ outcome z t ed =
    post.exact (holds_faithful h)
    ∙ ap (λ (y : Sizes). outcome y (page_text q.page) ed) h.sizes-are ∙ ap (λ (x : List ℕ). outcome z x ed) h.text-is in
    let l : q' ≡ after q (edited t ed) (outcome z t ed) =
    post.lent_is ∙ ap (after q (edited (page_text q.page) ed)) o ∙ ap (λ (x : List ℕ). after q (edited x ed) (outcome z t ed)) h.text-is in
    (post.reply-is ∙ ap reply_of o, l, rw l (keeps z t ed q (outcome z t ed) h (outcome_sound z t ed)))

-- The whole list.

pub list_of_edits : {z : Sizes} {t : List ℕ} {q : Lent} → Holds z t q → Demand3From z t q
unfolding paper_text paper_replies paper_lent
list_of_edits h es rs last none = record { replies = refl; lent_is = refl; settled = none; holds = h }
list_of_edits {z} {t} {q} h es rs last (call {q = mid} {c = ed} {cs = rest} {r = r} {rs = more} post tail) =
    let o = one-edit z t q ed r mid h post in
    let s : Settled z t ed r (paper_next z t ed) = rw o.0 (settled z t ed (holds_text h) (holds-room h)) in
    let f = list_of_edits {t = paper_next z t ed} {q = mid} o.2 rest more last tail in
    record {
      replies = λ i. o.0 i ∷ f.replies i;
      lent_is = f.lent_is ∙ ap (λ (x : Lent). paper_lent z x (paper_next z t ed) rest) o.1;
      settled = call s f.settled;
      holds = f.holds;
    }

-- The fresh page.

empty_fresh : fresh_reading [] ≡ read_lines barge_line []
unfolding is_too_long is_malformed utf8_rules
empty_fresh = fresh_lines_lem [] refl refl

fresh_reply_lem : (n : ℕ) → line_size ≤ n → fresh_reply n ≡ accepted (0 ∷ 0 ∷ 0 ∷ [])
unfolding fresh_reply refused_if unless
fresh_reply_lem n h = rw (le-ltb n line_size h)

fresh_lines-are : (ls : List ℕ) → line_size ≤ length ls → fresh_lines ls ≡ overwrite (replicate line_size 0) ls
unfolding fresh_lines
fresh_lines-are ls h = rw (le-ltb (length ls) line_size h)

fresh_head : (pg : Page) → line_size ≤ length pg.lines → (fresh_page pg).head ≡ header 0 0 0
unfolding header_after
fresh_head pg h = rw (fresh_reply_lem (length pg.lines) h)

pub fresh_holds : (q q' : Lent) (reply : Reply) → line_size ≤ length q.page.lines → FreshPost q reply q'
    → (reply ≡ accepted (0 ∷ 0 ∷ 0 ∷ [])) × Holds (sizes q) [] q'
unfolding overwrite
fresh_holds q q' reply h post = (
  post.reply-is ∙ fresh_reply_lem (length q.page.lines) h,
  rw (post.lent_is, fresh_head q.page h, fresh_lines-are q.page.lines h)
      (written-holds [] _ q.page.text q.spare q.page.lines q.page.tokens (empty_fresh ∙ fresh_empty) refl h (omega arith)),
)

-- DEMAND 3
pub demand_3 : Demand3
demand_3 lent first reply h post =
    let f = fresh_holds lent first reply h post in
    (f.0, list_of_edits f.1)
