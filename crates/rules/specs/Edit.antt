-- An edit of a page: its outcome on paper, and the contract.
-- Assumes nothing.
use Rattle.std.specs.Prelude.{ℕ, ◌≤◌, ◌≡◌, Bool, ◌||◌, not, List, [], ◌∷◌, ◌++◌, ltb, length}
use Rattle.std.proofs.Math.Option.{Option, none, some}
use Rattle.rules.specs.Lists.{overwrite}
use Rattle.rules.specs.Failure.{FailureRecord}
use Rattle.rules.specs.Limits.{barge_line, LimitNumber}
use Rattle.rules.specs.Replies.{Refusal, reading, lexical, at_line, short, outside, unfit, Reply, numbered, accepted, text_buffer, spare_buffer, lines_buffer, tokens_buffer, refused_if, first_of, unless, long_test, form_test, room_test}
use Rattle.rules.specs.Records.{line_need, token_need, header_words, Records, record_tests, FreshReading, recorded, unread, read_lines}
use Rattle.rules.specs.Page.{Lent, Sizes, sizes, fits, page_text, Faithful, page_rules}
use Rattle.rules.specs.StopRule.{Edit, edited, reread_count, stop_rules}

-- Outcomes.

-- a refusal that leaves every buffer untouched; one that leaves the edited text in the spare; or the new records and the re-read count
pub data Outcome : Type 0 where
  early : Refusal → Outcome
  late : Refusal → Outcome
  done : Records → (count : ℕ) → Outcome

-- a range is proper if a ≤ b ≤ n
unfoldable pub is_improper : List ℕ → Edit → Bool
is_improper t ed = ltb ed.b ed.a || ltb (length t) ed.b

-- 6, 1, 5 (text), 5 (spare)
unfoldable pub early_tests : Sizes → List ℕ → Edit → List (Option Refusal)
early_tests z t ed =
    refused_if (is_improper t ed) outside
    ∷ long_test (edited t ed)
    ∷ room_test text_buffer z.text (length (edited t ed))
    ∷ room_test spare_buffer z.spare (length (edited t ed))
    ∷ []

-- these, then 2: what an edit of the text t is refused with before it is read; or nothing
unfoldable pub gate : Sizes → List ℕ → Edit → Option Outcome
gate z t ed =
    unless (first_of (early_tests z t ed)) (λ r. some (early r))
    (unless (form_test (edited t ed)) (λ r. some (late r)) none)

-- 3 or 4, 5 (lines), 5 (tokens), or the records
unfoldable pub stored : Sizes → (count : ℕ) → FreshReading → Outcome
stored z count (unread u) = late (reading u)
stored z count (recorded r) = unless (first_of (record_tests z.lines z.tokens r)) late (done r count)

unfoldable pub through : Option Outcome → Outcome → Outcome
through (some o) rest = o
through none rest = rest

-- what an edit of the text t comes to, with buffers of these lengths
unfoldable pub outcome : Sizes → List ℕ → Edit → Outcome
outcome z t ed = through (gate z t ed) (stored z (reread_count barge_line t ed) (read_lines barge_line (edited t ed)))

-- The reply, and what is lent afterwards.

unfoldable pub reply_of : Outcome → Reply
reply_of (early r) = numbered r
reply_of (late r) = numbered r
reply_of (done r count) = accepted (header_words r.head ++ (count ∷ []))

-- u is the edited text
unfoldable pub after : Lent → (u : List ℕ) → Outcome → Lent
after q u (early r) = q
after q u (late r) = record { page = q.page; spare = overwrite u q.spare }
after q u (done r count) =
    record {
      page = record {
        head = r.head;
        text = overwrite u q.page.text;
        lines = overwrite r.lines q.page.lines;
        tokens = overwrite r.tokens q.page.tokens;
      };
      spare = overwrite u q.spare;
    }

-- The contract.

-- 7, then the gate
unfoldable pub page_gate : Lent → Edit → Option Outcome
page_gate q ed =
    unless (refused_if (not (fits q.page)) unfit) (λ r. some (early r)) (gate (sizes q) (page_text q.page) ed)

-- past the gate on any page: 3, 4 (a limit of the lines), 5 (lines), 5 (tokens) or 7; or the edited text with a header of three u32, any records that fit and
-- any count
pub data Free (q : Lent) (u : List ℕ) : Outcome → Type 0 where
  failure : (f : FailureRecord) → Free q u (late (reading (lexical f)))
  limit : (number line : ℕ) → LimitNumber barge_line number → Free q u (late (reading (at_line number line)))
  few_lines : (least : ℕ) → Free q u (late (short lines_buffer least))
  few_tokens : (least : ℕ) → Free q u (late (short tokens_buffer least))
  stale : Free q u (late unfit)
  acceptance : (r : Records) (count : ℕ) → r.head.n ≡ length u → r.head.m ≤ 4_294_967_295 → r.head.k ≤ 4_294_967_295
      → length r.lines ≡ line_need r.head.m → length r.tokens ≡ token_need r.head.k
      → line_need r.head.m ≤ length q.page.lines → token_need r.head.k ≤ length q.page.tokens
      → Free q u (done r count)

abbrev pub Allowed : Lent → (u : List ℕ) → Option Outcome → Outcome → Type 0
Allowed q u (some o) came = came ≡ o
Allowed q u none came = Free q u came

-- THE CONTRACT of the edit: its reply and what is lent afterwards are those of an outcome that is allowed on every page, and
-- on a faithful page is the one on paper
pub record EditPost (q : Lent) (ed : Edit) (reply : Reply) (q' : Lent) : Type 0 where
  pub came : Outcome
  pub reply-is : reply ≡ reply_of came
  pub lent_is : q' ≡ after q (edited (page_text q.page) ed) came
  pub allowed : Allowed q (edited (page_text q.page) ed) (page_gate q ed) came
  pub exact : Faithful q.page → came ≡ outcome (sizes q) (page_text q.page) ed

-- opens the definitions above, and those of the modules below, where a proof says `unfolding edit_rules`
unfoldable pub edit_rules : Unit {0}
unfolding is_improper early_tests gate stored through outcome reply_of after page_gate page_rules stop_rules
edit_rules = tt
