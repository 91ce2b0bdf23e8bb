-- Pages: fitting and being faithful, as tests and as facts; the fresh reading by cases.
-- Assumes nothing.
use Prim.Native.Nat.{ℕ, zero, suc, ◌≤◌}
use mathlib.Core.Path.{◌≡◌, refl, ap, ◌∙◌}
use mathlib.Core.Bool.{Bool, true, false, false≢true}
use mathlib.Core.List.{List}
use mathlib.Core.Logic.{◌↔◌}
use native.Mathlib.Omega.{arith}
use lib.Dec.{leb}
use lib.ListN.{length, length-take}
use lib.Seq.{length-take-le}
use borrow.Author.Tests.{leb-true, le-leb}
use Rattle.std.specs.Prelude.{if◌then◌else◌}
use Rattle.rules.specs.Lists.{same}
use Rattle.rules.specs.Line.{initial, Halt, failed, over_limit}
use Rattle.rules.specs.Reading.{lines_of, Reading, reads, halts, read_from, byte_sum}
use Rattle.rules.specs.Limits.{barge, barge_line, deep_number}
use Rattle.rules.specs.Replies.{Unread, too_long, malformed, lexical, at_line, reading, failure_words, numbered_unread, numbered, is_refused, is_too_long, too_long_by, is_malformed, malformed_by}
use Rattle.rules.specs.Records.{line_need, token_need, Header, header_words, Records, halt_refusal, recorded_by, FreshReading, recorded, unread, read_lines, fresh_reading_by, fresh_reading}
use Rattle.rules.specs.Page.{Page, fits, page_text, page_records, Faithful, same_records, is_recorded, is_faithful, header_after}
use Rattle.rules.proofs.LimitLaws.{HaltNumbered, halt_numbered}
use Rattle.rules.proofs.ListLaws.{and-true}
use Rattle.rules.proofs.RecordLaws.{fresh_sizes}
use Rattle.rules.proofs.StateLaws.{same_true, same_refl}

-- The fresh reading: 1, 2, or that of the lines.

pub data FreshCases (u : List ℕ) : FreshReading → Type 0 where
  long : is_too_long barge u ≡ true → FreshCases u (unread (too_long_by barge u))
  ill_formed : is_too_long barge u ≡ false → is_malformed u ≡ true → FreshCases u (unread (malformed_by u))
  lines : {f : FreshReading} → is_too_long barge u ≡ false → is_malformed u ≡ false → read_lines barge_line u ≡ f → FreshCases u f

pub fresh_cases : (u : List ℕ) → FreshCases u (fresh_reading u)
unfolding fresh_reading fresh_reading_by
fresh_cases u = go (is_too_long barge u) refl (is_malformed u) refl
  where
    go : (x : Bool) → is_too_long barge u ≡ x → (y : Bool) → is_malformed u ≡ y
        → FreshCases u (if x then unread (too_long_by barge u) else if y then unread (malformed_by u) else read_lines barge_line u)
    go true ex y ey = long ex
    go false ex true ey = ill_formed ex ey
    go false ex false ey = lines ex ey refl

-- past 1 and 2 it is that of the lines
pub fresh_lines_lem : (u : List ℕ) → is_too_long barge u ≡ false → is_malformed u ≡ false → fresh_reading u ≡ read_lines barge_line u
unfolding fresh_reading fresh_reading_by
fresh_lines_lem u x y = rw (x, y)

-- a text that reads has passed them
pub fresh_inverse : (u : List ℕ) (r : Records) → fresh_reading u ≡ recorded r → (is_too_long barge u ≡ false) × (is_malformed u ≡ false) × (read_lines barge_line u ≡ recorded r)
fresh_inverse u r h = go (fresh_reading u) (fresh_cases u) h
  where
    go : (f : FreshReading) → FreshCases u f → f ≡ recorded r → (is_too_long barge u ≡ false) × (is_malformed u ≡ false) × (read_lines barge_line u ≡ recorded r)
    go f (long x) e = let n : ◌≡◌ {A = ℕ} 0 1 = cc in absurd (omega arith)
    go f (ill_formed x y) e = let n : ◌≡◌ {A = ℕ} 0 1 = cc in absurd (omega arith)
    go f (lines x y q) e = (x, y, q ∙ e)

-- a text that does not read is refused with a number that is not 0
-- the header stays where a text is refused by itself, whatever the number
pub unread-kept : (h : Header) (u : Unread) → header_after h (numbered_unread u) ≡ h
unfolding header_after numbered_unread failure_words
unread-kept h (too_long zero n) = refl
unread-kept h (too_long (suc number) n) = refl
unread-kept h (malformed n) = refl
unread-kept h (lexical f) = refl
unread-kept h (at_line zero l) = refl
unread-kept h (at_line (suc number) l) = refl

halt_refused : (p l : ℕ) (h : Halt) → HaltNumbered barge_line h → is_refused (numbered (reading (halt_refusal p l h))) ≡ true
unfolding halt_refusal numbered numbered_unread is_refused
halt_refused p l (failed f) k = refl
halt_refused p l (over_limit number) deep_number = refl

lines-refused : (u : List ℕ) (r : Reading) → read_from barge_line initial (lines_of u) ≡ r → (x : Unread) → recorded_by r ≡ unread x → is_refused (numbered (reading x)) ≡ true
unfolding recorded_by
lines-refused u (reads es s) q x e = let n : ◌≡◌ {A = ℕ} 0 1 = cc in absurd (omega arith)
lines-refused u (halts es h) q x e = let s : halt_refusal (byte_sum es) (suc (length es)) h ≡ x = cc in rw s at (halt_refused (byte_sum es) (suc (length es)) h (halt_numbered barge_line initial (lines_of u) es h q))

pub unread-refused : (u : List ℕ) (x : Unread) → fresh_reading u ≡ unread x → is_refused (numbered (reading x)) ≡ true
unfolding read_lines too_long_by malformed_by numbered numbered_unread is_refused
unread-refused u x e = go (fresh_reading u) (fresh_cases u) e
  where
    go : (f : FreshReading) → FreshCases u f → f ≡ unread x → is_refused (numbered (reading x)) ≡ true
    go f (long a) q = let s : too_long_by barge u ≡ x = cc in rw (← s)
    go f (ill_formed a b) q = let s : malformed_by u ≡ x = cc in rw (← s)
    go f (lines a b c) q = lines-refused u (read_from barge_line initial (lines_of u)) refl x (c ∙ q)

-- Fitting.

pub record Fits (pg : Page) : Type 0 where
  pub text : pg.head.n ≤ length pg.text
  pub lines : line_need pg.head.m ≤ length pg.lines
  pub tokens : token_need pg.head.k ≤ length pg.tokens

pub fits_true : (pg : Page) → fits pg ≡ true → Fits pg
unfolding fits
fits_true pg h =
    let a = and-true (leb pg.head.n (length pg.text)) _ h in
    let b = and-true (leb (line_need pg.head.m) (length pg.lines)) _ a.1 in
    record { text = leb-true _ _ a.0; lines = leb-true _ _ b.0; tokens = leb-true _ _ b.1 }

pub true_fits : (pg : Page) → Fits pg → fits pg ≡ true
unfolding fits
true_fits pg f =
    rw (le-leb pg.head.n (length pg.text) f.text, le-leb (line_need pg.head.m) (length pg.lines) f.lines)
    (le-leb (token_need pg.head.k) (length pg.tokens) f.tokens)

-- the text of a page that fits has n bytes
pub page_length : (pg : Page) → Fits pg → length (page_text pg) ≡ pg.head.n
page_length pg f = length-take-le pg.head.n pg.text f.text

-- Being faithful.

-- a faithful page fits
pub faithful_fits : (pg : Page) → Faithful pg → Fits pg
faithful_fits pg h =
    let s = fresh_sizes barge_line (page_text pg) (page_records pg) (fresh_inverse (page_text pg) (page_records pg) h).2 in
    record {
      text = omega (arith, s.0, length-take pg.head.n pg.text);
      lines = omega (arith, s.1, length-take (line_need pg.head.m) pg.lines);
      tokens = omega (arith, s.2, length-take (token_need pg.head.k) pg.tokens);
    }

pub same_records_true : (r q : Records) → same_records r q ≡ true → r ≡ q
unfolding same_records
same_records_true r q h =
    let a = and-true (same (header_words r.head) (header_words q.head)) _ h in
    let b = and-true (same r.lines q.lines) _ a.1 in
    let e : header_words r.head ≡ header_words q.head = same_true _ _ a.0 in
    let h0 : r.head.n ≡ q.head.n = cc in
    let h1 : r.head.m ≡ q.head.m = cc in
    let h2 : r.head.k ≡ q.head.k = cc in
    let h3 : r.lines ≡ q.lines = same_true _ _ b.0 in
    let h4 : r.tokens ≡ q.tokens = same_true _ _ b.1 in
    λ i. record { head = record { n = h0 i; m = h1 i; k = h2 i }; lines = h3 i; tokens = h4 i }

pub same_records-refl : (r : Records) → same_records r r ≡ true
unfolding same_records
same_records-refl r = rw (same_refl (header_words r.head), same_refl r.lines) (same_refl r.tokens)

recorded_iff : (q : Records) (f : FreshReading) → (is_recorded q f ≡ true) ↔ (f ≡ recorded q)
unfolding is_recorded
recorded_iff q (recorded r) = (λ h. ap recorded (same_records_true r q h), λ h. let e : r ≡ q = cc in rw e (same_records-refl q))
recorded_iff q (unread u) = (λ h. absurd (false≢true h), λ h. let z : ◌≡◌ {A = ℕ} 0 1 = cc in absurd (omega arith))

-- the test is the fact
pub faithful_iff : (pg : Page) → (is_faithful pg ≡ true) ↔ Faithful pg
unfolding is_faithful
faithful_iff pg = recorded_iff (page_records pg) (fresh_reading (page_text pg))
