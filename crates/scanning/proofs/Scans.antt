-- What `scan` prints, by the answer of `read`.
-- Assumes nothing.
use Prim.Native.Nat.{ℕ, ◌+◌, ◌*◌, ◌≤◌, ◌<◌}
use mathlib.Core.Path.{◌≡◌, refl, sym, ap, ◌∙◌}
use mathlib.Core.List.{List, [], ◌∷◌, ◌++◌}
use native.Mathlib.Omega.{arith}
use lib.ListN.{length, drop, length-append}
use lib.Seq.{sets}
use borrow.Author.Tests.{lt-ltb, le-ltb}
use Rattle.rules.specs.Lists.{ascii, overwrite}
use Rattle.rules.specs.Limits.{barge_line}
use Rattle.rules.specs.Replies.{too_long, malformed, lexical, at_line, first_of, unless, refused_if, numbered, numbered_unread, failure_words}
use Rattle.rules.specs.Records.{token_size, Header, header, line_need, token_need, Records, record_tests, FreshReading, recorded, unread, fresh_reading}
use Rattle.rules.specs.Read.{Filled, filled, filled_by, read_into}
use Rattle.rules.specs.Scan.{scan_bytes, page_row, token_rows, refused_row, printed, scan_output}
use Rattle.rules.proofs.RecordLaws.{fresh_sizes}
use Rattle.rules.proofs.PageLaws.{fresh_inverse}
use Rattle.rules.proofs.BoundLaws.{AllLe, word_max, fresh_small}
use Rattle.refusals.specs.declared.FailureRecord.{FailureRecord}
use Rattle.refusals.specs.declared.Unread.{Unread}
use Rattle.refusals.specs.declared.Unread.TheVariants.{TooLong, Malformed, Fails, AtLine}
use Rattle.refusals.specs.declared.Refusal.{Refusal}
use Rattle.refusals.specs.declared.Refusal.TheVariants.{Reading, Short, Outside, Unfit}
use Rattle.refusals.specs.Unreads.{record_of, buffer_number, refusal_of}
use Rattle.copies.proofs.Joins.{front-over}
use Rattle.message.proofs.Whole.{message_of_lem}
use Rattle.message.specs.Messages.{message_in}
use Rattle.report.proofs.Reports.{printable}
use Rattle.scanning.specs.Shown.{Shows}
use Rattle.rows.proofs.Rows.{rows-front}
use Rattle.scanning.proofs.Sizes.{rows-small, refused-room, rows-room_in, message-room_in}

-- What is put is what `scan` prints.

abbrev pub Scanned : (t out : List ℕ) (r : ℕ) (O : List ℕ) → Type 0
Scanned t out r O = (r ≡ length (scan_output t)) × (O ≡ overwrite (scan_output t) out)

scanned : (t out : List ℕ) {xs : List ℕ} {r : ℕ} {O : List ℕ} → length xs ≤ length out → xs ≡ scan_output t → r ≡ length xs → O ≡ sets out 0 xs → Scanned t out r O
scanned t out {xs} l e v p = (v ∙ ap length e, p ∙ front-over out xs l ∙ ap (λ (s : List ℕ). overwrite s out) e)

-- 1, for a text over 512 bytes
long-row : (t : List ℕ) → 512 < length t → scan_output t ≡ refused_row 1
unfolding scan_output
long-row t h = rw (lt-ltb scan_bytes (length t) h) refl

pub long_size : (t : List ℕ) → 512 < length t → length (scan_output t) ≡ length (refused_row 1)
long_size t h = ap length (long-row t h)

pub long_over : (t out : List ℕ) → 512 < length t → 65_536 ≤ length out → overwrite (scan_output t) out ≡ sets out 0 (refused_row 1)
long_over t out h k =
    ap (λ (s : List ℕ). overwrite s out) (long-row t h) ∙ sym (front-over out (refused_row 1) (refused-room out 1 k (omega arith)))

-- A text t of at most 512 bytes, and what `read` left of buffers L and T that hold its records.
module _ (t L T : List ℕ) (small : length t ≤ 512) (hl : 10_773 ≤ length L) (ht : 5_120 ≤ length T) where
  by-reading : (x : FreshReading) → fresh_reading t ≡ x → printed t x ≡ scan_output t
  unfolding scan_output
  by-reading x e = rw (le-ltb scan_bytes (length t) small) (ap (printed t) (sym e))

  replied : (x : FreshReading) → fresh_reading t ≡ x → (w : List ℕ) → w ≡ (read_into t L T).reply → w ≡ (filled_by L T x).reply
  unfolding read_into
  replied x e w h = h ∙ ap (λ (y : FreshReading). (filled_by L T y).reply) e

  -- the records of such a text
  record Held (r : Records) : Type 0 where
    pub bytes : r.head.n ≤ 512
    pub rows : r.head.m ≤ 512
    pub marks : r.head.k ≤ 1_024
    pub words : length r.tokens ≡ token_size * r.head.k
    pub small-words : AllLe word_max r.tokens
    pub fills : filled_by L T (recorded r) ≡ filled L T r

  held : (r : Records) → fresh_reading t ≡ recorded r → Held r
  unfolding filled_by record_tests first_of unless refused_if
  held r e =
      let q = (fresh_inverse t r e).2 in
      let z = fresh_sizes barge_line t r q in
      let s = fresh_small barge_line (omega arith) t r (omega arith) q in
      let hm : line_need r.head.m ≤ length L = omega (arith, z.0, s.m-le) in
      let hk : token_need r.head.k ≤ length T = omega (arith, z.0, s.k-le) in
      record {
        bytes = omega (arith, z.0);
        rows = omega (arith, z.0, s.m-le);
        marks = omega (arith, z.0, s.k-le);
        words = z.2;
        small-words = s.tokens;
        fills = rw (le-ltb (length L) (line_need r.head.m) hm, le-ltb (length T) (token_need r.head.k) hk) refl;
      }

  -- 1, 2 and 4: a number and one value
  refused-is : (number v : ℕ) (x : FreshReading) → fresh_reading t ≡ x → number ∷ v ∷ [] ≡ (filled_by L T x).reply → printed t x ≡ refused_row number
  unfolding filled_by numbered numbered_unread failure_words printed
  refused-is number v (recorded r) e h =
      absurd (omega (arith, ap length (h ∙ ap (λ (y : Filled). y.reply) (held r e).fills)))
  refused-is number v (unread (lexical f)) e h = absurd (omega (arith, ap length h))
  refused-is number v (unread (too_long i n)) e h = let q : i ≡ number = cc in ap refused_row q
  refused-is number v (unread (malformed n)) e h = let q : 2 ≡ number = cc in ap refused_row q
  refused-is number v (unread (at_line i l)) e h = let q : i ≡ number = cc in ap refused_row q

  -- 5 does not occur
  short-never : (b v : ℕ) (x : FreshReading) → fresh_reading t ≡ x → 5 ∷ b ∷ v ∷ [] ≡ (filled_by L T x).reply → ⊥
  unfolding filled_by numbered numbered_unread failure_words
  short-never b v (recorded r) e h =
      omega (arith, ap length (h ∙ ap (λ (y : Filled). y.reply) (held r e).fills))
  short-never b v (unread (lexical f)) e h = omega (arith, ap length h)
  short-never b v (unread (too_long i n)) e h = omega (arith, ap length h)
  short-never b v (unread (malformed n)) e h = omega (arith, ap length h)
  short-never b v (unread (at_line i l)) e h = omega (arith, ap length h)

  -- nor a number alone
  never-alone : (number : ℕ) (x : FreshReading) → fresh_reading t ≡ x → number ∷ [] ≡ (filled_by L T x).reply → ⊥
  unfolding filled_by numbered numbered_unread failure_words
  never-alone number (recorded r) e h = omega (arith, ap length (h ∙ ap (λ (y : Filled). y.reply) (held r e).fills))
  never-alone number (unread (lexical f)) e h = omega (arith, ap length h)
  never-alone number (unread (too_long i n)) e h = omega (arith, ap length h)
  never-alone number (unread (malformed n)) e h = omega (arith, ap length h)
  never-alone number (unread (at_line i l)) e h = omega (arith, ap length h)

  never-short : (b v : ℕ) → 5 ∷ b ∷ v ∷ [] ≡ (read_into t L T).reply → ⊥
  never-short b v h = short-never b v (fresh_reading t) refl (replied (fresh_reading t) refl (5 ∷ b ∷ v ∷ []) h)

  -- nor does any other refusal but those of the text
  pub never-refused : (r : Refusal) → ((u : Unread) → r ≡ Reading u → ⊥) → numbered (refusal_of r) ≡ (read_into t L T).reply → ⊥
  unfolding numbered
  never-refused (Reading u) k h = k u refl
  never-refused (Short b n) k h = never-short (buffer_number b) n h
  never-refused Outside k h = never-alone 6 (fresh_reading t) refl (replied (fresh_reading t) refl (6 ∷ []) h)
  never-refused Unfit k h = never-alone 7 (fresh_reading t) refl (replied (fresh_reading t) refl (7 ∷ []) h)

  -- the records
  record Paged (n m k : ℕ) (T' : List ℕ) : Type 0 where
    pub records : Records
    pub reading-is : fresh_reading t ≡ recorded records
    pub held-is : Held records
    pub head-is : records.head ≡ header n m k
    pub tokens-are : T' ≡ overwrite records.tokens T

  paged : (n m k : ℕ) (T' : List ℕ) (x : FreshReading) → fresh_reading t ≡ x → 0 ∷ n ∷ m ∷ k ∷ [] ≡ (filled_by L T x).reply → T' ≡ (filled_by L T x).tokens → Paged n m k T'
  unfolding filled_by numbered numbered_unread failure_words
  paged n m k T' (unread (lexical f)) e h g = absurd (omega (arith, ap length h))
  paged n m k T' (unread (too_long i v)) e h g = absurd (omega (arith, ap length h))
  paged n m k T' (unread (malformed v)) e h g = absurd (omega (arith, ap length h))
  paged n m k T' (unread (at_line i l)) e h g = absurd (omega (arith, ap length h))
  paged n m k T' (recorded r) e h g =
      let z = held r e in
      let q : 0 ∷ n ∷ m ∷ k ∷ [] ≡ 0 ∷ r.head.n ∷ r.head.m ∷ r.head.k ∷ [] = h ∙ ap (λ (y : Filled). y.reply) z.fills in
      let en : r.head.n ≡ n = cc in
      let em : r.head.m ≡ m = cc in
      let ek : r.head.k ≡ k = cc in
      record {
        records = r;
        reading-is = e;
        held-is = z;
        head-is = λ i. header (en i) (em i) (ek i);
        tokens-are = g ∙ ap (λ (y : Filled). y.tokens) z.fills;
      }

  module _ (n m k : ℕ) (T' : List ℕ) (h : 0 ∷ n ∷ m ∷ k ∷ [] ≡ (read_into t L T).reply) (g : T' ≡ (read_into t L T).tokens) where
    page : Paged n m k T'
    unfolding read_into
    page = paged n m k T' (fresh_reading t) refl (replied (fresh_reading t) refl (0 ∷ n ∷ m ∷ k ∷ []) h) g

    rows_are : token_rows k T' ≡ token_rows k page.records.tokens
    unfolding overwrite
    rows_are =
        let w : length page.records.tokens ≡ token_size * k = omega (arith, page.held-is.words, ap (λ (x : Header). x.k) page.head-is) in
        ap (token_rows k) page.tokens-are ∙ rows-front k page.records.tokens (drop (length page.records.tokens) T) w

    page-is : page_row (header n m k) ++ token_rows k T' ≡ scan_output t
    unfolding printed
    page-is =
        ap (λ (s : List ℕ). page_row (header n m k) ++ s) rows_are
        ∙ ap (λ (x : Header). page_row x ++ token_rows x.k page.records.tokens) (sym page.head-is)
        ∙ by-reading (recorded page.records) page.reading-is

    pub page-room : (out : List ℕ) → 65_536 ≤ length out → ((n ≤ 512) × (m ≤ 512) × (k ≤ 1_024) × (token_size * k ≤ length T')) × (length (page_row (header n m k) ++ token_rows k T') ≤ length out)
    unfolding overwrite
    page-room out room =
        let z = page.held-is in
        let r = page.records in
        let hn : n ≤ 512 = omega (arith, z.bytes, ap (λ (x : Header). x.n) page.head-is) in
        let hm : m ≤ 512 = omega (arith, z.rows, ap (λ (x : Header). x.m) page.head-is) in
        let ek : r.head.k ≡ k = ap (λ (x : Header). x.k) page.head-is in
        let hk : k ≤ 1_024 = omega (arith, z.marks) in
        let l : length T' ≡ length r.tokens + length (drop (length r.tokens) T) = ap length page.tokens-are ∙ length-append r.tokens (drop (length r.tokens) T) in
        let s : length (token_rows k T') ≤ 57 * k = omega (arith, ap length rows_are, rows-small k r.tokens z.small-words) in (
          (hn, hm, hk, omega (arith, z.words)),
          rows-room_in out n m k T' room hn hm hk s,
        )

    pub page-scanned : (out : List ℕ) {r : ℕ} {O : List ℕ} → 65_536 ≤ length out → r ≡ length (page_row (header n m k) ++ token_rows k T')
        → O ≡ sets out 0 (page_row (header n m k) ++ token_rows k T') → Scanned t out r O
    page-scanned out room v p = scanned t out (page-room out room).1 page-is v p

  -- 3
  failing : (f : FailureRecord) (x : FreshReading) → fresh_reading t ≡ x → 3 ∷ failure_words (record_of f) ≡ (filled_by L T x).reply → fresh_reading t ≡ unread (lexical (record_of f))
  unfolding filled_by numbered numbered_unread failure_words
  failing f (recorded r) e h = absurd (omega (arith, ap length (h ∙ ap (λ (y : Filled). y.reply) (held r e).fills)))
  failing f (unread (too_long i v)) e h = absurd (omega (arith, ap length h))
  failing f (unread (malformed v)) e h = absurd (omega (arith, ap length h))
  failing f (unread (at_line i l)) e h = absurd (omega (arith, ap length h))
  failing f (unread (lexical g)) e h =
      let e1 : g.code ≡ f.code = cc in
      let e2 : g.detail ≡ f.detail = cc in
      let e3 : g.found ≡ f.found = cc in
      let e4 : g.position ≡ f.position = cc in
      let e5 : g.line ≡ f.line = cc in
      let e6 : g.column ≡ f.column = cc in
      let e7 : g.from ≡ f.from = cc in
      let e8 : g.to ≡ f.to = cc in
      e ∙ (λ i. unread (lexical (record { code = e1 i; detail = e2 i; found = e3 i; position = e4 i; line = e5 i; column = e6 i; from = e7 i; to = e8 i })))

  -- what the refusal shows
  shows-refused : (number v : ℕ) → number ∷ v ∷ [] ≡ (read_into t L T).reply → scan_output t ≡ refused_row number
  shows-refused number v h =
      sym (by-reading (fresh_reading t) refl) ∙ refused-is number v (fresh_reading t) refl (replied (fresh_reading t) refl (number ∷ v ∷ []) h)

  pub shows : (u : Unread) → numbered (refusal_of (Reading u)) ≡ (read_into t L T).reply → Shows t u
  unfolding numbered numbered_unread printed
  shows (TooLong number n) h = shows-refused number n h
  shows (Malformed n) h = shows-refused 2 n h
  shows (AtLine number l) h = shows-refused number l h
  shows (Fails f) h =
      let e = failing f (fresh_reading t) refl (replied (fresh_reading t) refl (3 ∷ failure_words (record_of f)) h) in
      (printable t f e, sym (by-reading (unread (lexical (record_of f))) e) ∙ ap (λ (s : List ℕ). s ++ ascii "\n") (sym (message_of_lem t (record_of f))))

-- What is put for a refusal.

pub refused-scanned : (t out : List ℕ) {r : ℕ} {O : List ℕ} (number : ℕ) → 65_536 ≤ length out → number < 10_000_000_000 → scan_output t ≡ refused_row number
    → r ≡ length (refused_row number) → O ≡ sets out 0 (refused_row number) → Scanned t out r O
refused-scanned t out number room k e v p = scanned t out (refused-room out number room k) (sym e) v p

pub failure-scanned : (t out : List ℕ) {r : ℕ} {O : List ℕ} (f : FailureRecord) → 65_536 ≤ length out → length t ≤ 512 → f.line < 10_000_000_000 → Shows t (Fails f)
    → r ≡ length (message_in t f ++ ascii "\n") → O ≡ sets out 0 (message_in t f ++ ascii "\n") → Scanned t out r O
failure-scanned t out f room small line s v p = scanned t out (message-room_in out t f room small s.0 line) (sym s.1) v p
