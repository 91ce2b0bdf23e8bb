-- A list of edits from the fresh page, on paper, and demand 3.
-- Assumes nothing.
use Rattle.std.specs.Prelude.{ℕ, ◌≤◌, ◌≡◌, true, List, [], ◌∷◌, ◌++◌, length}
use Rattle.rules.specs.Limits.{barge_line}
use Rattle.rules.specs.Replies.{Unread, Refusal, reading, Reply, numbered, accepted, is_refused}
use Rattle.rules.specs.Records.{line_size, line_need, token_need, header_words, Records, recorded, unread, fresh_reading}
use Rattle.rules.specs.Page.{Lent, Sizes, sizes, page_text, page_records, FreshPost}
use Rattle.rules.specs.StopRule.{Edit, edited, reread_count}
use Rattle.rules.specs.Edit.{Outcome, early, late, done, outcome, reply_of, after, EditPost}

-- calls in a row, each on what the last one left: P is what a call works on, C a call, R its reply
pub data Chain {P C R : Type 0} (Post : P → C → R → P → Type 0) : P → List C → List R → P → Type 0 where
  none : {p : P} → Chain Post p [] [] p
  call : {p q z : P} {c : C} {cs : List C} {r : R} {rs : List R} → Post p c r q → Chain Post q cs rs z → Chain Post p (c ∷ cs) (r ∷ rs) z

-- The history on paper: an accepted edit changes the text, a refused one leaves it.

unfoldable pub text_after : (t u : List ℕ) → Outcome → List ℕ
text_after t u (early r) = t
text_after t u (late r) = t
text_after t u (done r count) = u

unfoldable pub paper_next : Sizes → List ℕ → Edit → List ℕ
paper_next z t ed = text_after t (edited t ed) (outcome z t ed)

unfoldable pub paper_text : Sizes → List ℕ → List Edit → List ℕ
paper_text z t [] = t
paper_text z t (ed ∷ es) = paper_text z (paper_next z t ed) es

unfoldable pub paper_replies : Sizes → List ℕ → List Edit → List Reply
paper_replies z t [] = []
paper_replies z t (ed ∷ es) = reply_of (outcome z t ed) ∷ paper_replies z (paper_next z t ed) es

-- what is lent after the edits, to the last byte and word: each leaves what its outcome leaves
unfoldable pub paper_lent : Sizes → Lent → (t : List ℕ) → List Edit → Lent
paper_lent z q t [] = q
paper_lent z q t (ed ∷ es) = paper_lent z (after q (edited t ed) (outcome z t ed)) (paper_next z t ed) es

-- What settles one edit of the text t, in buffers of the lengths z.

-- a range is proper if a ≤ b ≤ n
pub record Proper (t : List ℕ) (ed : Edit) : Type 0 where
  pub order : ed.a ≤ ed.b
  pub inside : ed.b ≤ length t

-- lines and tokens hold the records of a text, where it reads
abbrev pub Room : Sizes → List ℕ → Type 0
Room z t = (r : Records) → fresh_reading t ≡ recorded r → (line_need r.head.m ≤ z.lines) × (token_need r.head.k ≤ z.tokens)

-- the page before the edit fits the buffers, text and spare hold the edited text and, where it reads, lines and tokens hold its records
pub record LongEnough (z : Sizes) (t : List ℕ) (ed : Edit) : Type 0 where
  pub text-before : length t ≤ z.text
  pub records-before : Room z t
  pub text : length (edited t ed) ≤ z.text
  pub spare : length (edited t ed) ≤ z.spare
  pub records : Room z (edited t ed)

-- with a proper range and long enough buffers an edit is accepted where the edited text reads, with the stop rule's count, and
-- otherwise refused as its fresh reading is; any other edit is refused; the number of a refusal is not 0
pub record Settled (z : Sizes) (t : List ℕ) (ed : Edit) (reply : Reply) (t' : List ℕ) : Type 0 where
  pub accepts : Proper t ed → LongEnough z t ed → (r : Records) → fresh_reading (edited t ed) ≡ recorded r
      → (reply ≡ accepted (header_words r.head ++ (reread_count barge_line t ed ∷ []))) × (t' ≡ edited t ed)
  pub refuses : Proper t ed → LongEnough z t ed → (u : Unread) → fresh_reading (edited t ed) ≡ unread u
      → (reply ≡ numbered (reading u)) × (is_refused reply ≡ true) × (t' ≡ t)
  pub otherwise : (Proper t ed → LongEnough z t ed → ⊥) → (r : Refusal) × (reply ≡ numbered r) × (is_refused reply ≡ true) × (t' ≡ t)

-- Demand 3.

-- header and buffers hold the text t and its fresh reading, in the lengths z
pub record Holds (z : Sizes) (t : List ℕ) (q : Lent) : Type 0 where
  pub text-is : page_text q.page ≡ t
  pub records-are : fresh_reading t ≡ recorded (page_records q.page)
  pub sizes-are : sizes q ≡ z

-- a list of edits from the text t agrees with the history on paper: so do the replies and all that is lent at the end; each edit is
-- settled as above; and the buffers then hold the text and its fresh reading
pub record Agrees (z : Sizes) (t : List ℕ) (first : Lent) (es : List Edit) (rs : List Reply) (last : Lent) : Type 0 where
  pub replies : rs ≡ paper_replies z t es
  pub lent_is : last ≡ paper_lent z first t es
  pub settled : Chain (Settled z) t es rs (paper_text z t es)
  pub holds : Holds z (paper_text z t es) last

-- every list of edits, each on what the last one left, agrees with the history on paper from the text t
abbrev pub Demand3From : Sizes → (t : List ℕ) → (first : Lent) → Type 0
Demand3From z t first = (es : List Edit) (rs : List Reply) (last : Lent) → Chain EditPost first es rs last → Agrees z t first es rs last

-- DEMAND 3: so it is after the fresh page, from the empty text
abbrev pub Demand3 : Type 0
Demand3 =
    (lent first : Lent) (reply : Reply) → line_size ≤ length lent.page.lines → FreshPost lent reply first
    → (reply ≡ accepted (0 ∷ 0 ∷ 0 ∷ [])) × Demand3From (sizes lent) [] first
