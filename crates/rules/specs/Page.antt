-- The page: header and buffers; when it fits and when it is faithful; the fresh page.
-- Assumes nothing.
use Rattle.std.specs.Prelude.{ℕ, zero, suc, ◌≡◌, Bool, false, ◌&&◌, List, [], ◌∷◌, leb, ltb, length, take, replicate, if◌then◌else◌}
use Rattle.rules.specs.Lists.{same, overwrite}
use Rattle.rules.specs.Replies.{Reply, numbered, accepted, lines_buffer, room_test, unless}
use Rattle.rules.specs.Records.{line_size, line_need, token_need, Header, header, header_words, Records, FreshReading, recorded, unread, fresh_reading, record_rules}

-- a header with the buffers text, lines and tokens
pub record Page : Type 0 where
  pub head : Header
  pub text : List ℕ
  pub lines : List ℕ
  pub tokens : List ℕ

-- what an edit is lent: a page and the spare
pub record Lent : Type 0 where
  pub page : Page
  pub spare : List ℕ

-- the buffers' lengths
pub record Sizes : Type 0 where
  pub text : ℕ
  pub spare : ℕ
  pub lines : ℕ
  pub tokens : ℕ

abbrev pub sizes : Lent → Sizes
sizes q =
    record {
      text = length q.page.text;
      spare = length q.spare;
      lines = length q.page.lines;
      tokens = length q.page.tokens;
    }

-- the header needs no more text, line words and token words than are lent
unfoldable pub fits : Page → Bool
fits pg =
    leb pg.head.n (length pg.text)
    && (leb (line_need pg.head.m) (length pg.lines) && leb (token_need pg.head.k) (length pg.tokens))

-- the text, and the records that the header needs
abbrev pub page_text : Page → List ℕ
page_text pg = take pg.head.n pg.text

abbrev pub page_records : Page → Records
page_records pg =
    record {
      head = pg.head;
      lines = take (line_need pg.head.m) pg.lines;
      tokens = take (token_need pg.head.k) pg.tokens;
    }

-- a page is faithful if its header and records are those of a fresh reading
abbrev pub Faithful : Page → Type 0
Faithful pg = fresh_reading (page_text pg) ≡ recorded (page_records pg)

-- the same as a test
unfoldable pub same_records : Records → Records → Bool
same_records r q = same (header_words r.head) (header_words q.head) && (same r.lines q.lines && same r.tokens q.tokens)

unfoldable pub is_recorded : Records → FreshReading → Bool
is_recorded q (recorded r) = same_records r q
is_recorded q (unread u) = false

unfoldable pub is_faithful : Page → Bool
is_faithful pg = is_recorded (page_records pg) (fresh_reading (page_text pg))

-- the header after a reply: that of an acceptance, otherwise as it was
unfoldable pub header_after : Header → Reply → Header
header_after h (zero ∷ n ∷ m ∷ k ∷ vs) = header n m k
header_after h (zero ∷ n ∷ m ∷ []) = h
header_after h (zero ∷ n ∷ []) = h
header_after h (zero ∷ []) = h
header_after h (suc number ∷ vs) = h
header_after h [] = h

-- The fresh page: header 0, 0, 0 and one line record of zeros; all else keeps its content.

unfoldable pub fresh_reply : (lines : ℕ) → Reply
fresh_reply has = unless (room_test lines_buffer has line_size) numbered (accepted (0 ∷ 0 ∷ 0 ∷ []))

unfoldable pub fresh_lines : List ℕ → List ℕ
fresh_lines lines = if ltb (length lines) line_size then lines else overwrite (replicate line_size 0) lines

abbrev pub fresh_page : Page → Page
fresh_page pg =
    record {
      head = header_after pg.head (fresh_reply (length pg.lines));
      text = pg.text;
      lines = fresh_lines pg.lines;
      tokens = pg.tokens;
    }

abbrev pub fresh_lent : Lent → Lent
fresh_lent q = record { page = fresh_page q.page; spare = q.spare }

-- THE CONTRACT of the fresh page's call: its reply and what is lent afterwards
pub record FreshPost (q : Lent) (reply : Reply) (q' : Lent) : Type 0 where
  pub reply-is : reply ≡ fresh_reply (length q.page.lines)
  pub lent_is : q' ≡ fresh_lent q

-- opens the definitions above, and those of the modules below, where a proof says `unfolding page_rules`
unfoldable pub page_rules : Unit {0}
unfolding fits same_records is_recorded is_faithful header_after fresh_reply fresh_lines record_rules
page_rules = tt
