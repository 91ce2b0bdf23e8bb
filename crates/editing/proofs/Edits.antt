-- The edit's contract at each of its returns.
-- Assumes nothing.
use Prim.Native.Nat.{ℕ, ◌+◌, ◌-◌, ◌*◌, ◌≤◌, ◌<◌, min}
use mathlib.Core.Path.{◌≡◌, sym, ap, subst, ◌∙◌}
use mathlib.Core.Bool.{true, false, false≢true}
use mathlib.Core.List.{List, [], ◌∷◌, ◌++◌}
use mathlib.Core.Logic.{inl, inr}
use mathlib.Core.Option.{none}
use native.Mathlib.Omega.{arith}
use lib.ListN.{length, take, drop, length-append}
use lib.Seq.{sets, length-take-le, take-take, take_at}
use borrow.Author.Tests.{lt-ltb, le-ltb}
use Rattle.std.specs.Prelude.{Result, Ok, Err, ◌⊎◌}
use Rattle.rules.specs.Lists.{overwrite}
use Rattle.rules.specs.Reading as RulesReading
use Rattle.rules.specs.Reading.{lines_of, byte_sum, token_sum}
use Rattle.rules.specs.Limits.{Limits, max_bytes, barge, barge_line}
use Rattle.rules.specs.Replies.{Refusal, reading, short, outside, unfit, numbered, numbered_unread, text_buffer, spare_buffer, lines_buffer, tokens_buffer, refused_if, first_of, unless, is_too_long, too_long_by, malformed_by}
use Rattle.rules.specs.Records.{line_size, token_size, line_need, token_need, line_records, token_records, header, end_entry, with_end, Records, records_of, record_tests, recorded_by, recorded, read_lines, Behind}
use Rattle.rules.specs.Line.{initial}
use Rattle.rules.specs.Page.{Page, Lent, sizes, fits, page_text, page_records, Faithful, header_after}
use Rattle.rules.specs.StopRule.{Edit, edited, reread_count}
use Rattle.rules.specs.Edit.{early, late, done, gate, stored, reply_of, after, Free, failure, limit, few_lines, few_tokens, stale, acceptance, EditPost}
use Rattle.rules.specs.History.{Proper}
use Rattle.rules.proofs.LineLaws.{total-lines}
use Rattle.rules.proofs.ReadingLaws.{read-sizes}
use Rattle.rules.proofs.RecordLaws.{behind, length_line_records, length_token_records}
use Rattle.rules.proofs.EditedLaws.{length_edited}
use Rattle.rules.proofs.BufferLaws.{overwrite_take}
use Rattle.rules.proofs.PageLaws.{unread-kept, fits_true, page_length, fresh_inverse}
use Rattle.rules.proofs.GateLaws.{gate-order, gate-past, gate-long, gate-text, gate-spare, gate-malformed, gate-clear}
use Rattle.rules.proofs.ContractLaws.{unfit-post, shut_post, clear-post}
use Rattle.refusals.specs.Unreads.{record_of, unread_in, unread_of, buffer_number, test_of}
use Rattle.refusals.specs.declared.Unread.{Unread}
use Rattle.refusals.specs.declared.Unread.TheVariants.{TooLong, Malformed, Fails, AtLine}
use Rattle.refusals.specs.declared.Buffer.{Buffer}
use Rattle.refusals.specs.declared.Buffer.TheVariants.{Text, Spare, Lines, Tokens}
use Rattle.refusals.specs.declared.Refusal as refusal
use Rattle.refusals.specs.declared.Refusal.TheVariants.{Reading, Short, Outside, Unfit}
use Rattle.refusals.proofs.Tests.{Tested, tested, test_passes, barge_test}
use Rattle.moving.specs.Moved.{moved_lines, moved_tokens}
use Rattle.copies.proofs.Joins.{run-over, back-over}
use Rattle.moving.proofs.Shifts.{length_moved_lines, length_moved_tokens}
use Rattle.records.specs.declared.Counts.{Counts}
use Rattle.plans.specs.Plans.{end_lines, end_tokens, moved_to, lines_after, tokens_after, Planned, Roomy, Mends, LineRefusal, OnPaper, PlanIs}
use Rattle.plans.specs.declared.Plan.{Plan}
use Rattle.writing.proofs.Writes.{written-sizes}
use Rattle.writing.specs.Writes.{written, line_tail, token_tail, written_lines, written_tokens}
use Rattle.editing.specs.Answers.{edit_numbers, edited_by, lent, lent_after}
use Rattle.editing.specs.declared.Edited.{Edited}
use Rattle.editing.proofs.Mended.{line-words, token-words}

-- what an edit answers, and the buffers afterwards
abbrev pub Answered : Lent → Edit → Result Edited refusal.Refusal → (text spare lines tokens : List ℕ) → Type 0
Answered q ed r text spare lines tokens = EditPost q ed (edit_numbers r) (lent_after q.page.head (edit_numbers r) text spare lines tokens)

-- a refusal: the page is as it was
abbrev pub Refused : Lent → Edit → Result Edited refusal.Refusal → (spare : List ℕ) → Type 0
Refused q ed r spare = Answered q ed r q.page.text spare q.page.lines q.page.tokens

-- a page that fits, and a proper range of it
pub record Ranged (q : Lent) (ed : Edit) : Type 0 where
  pub fit : fits q.page ≡ true
  pub order : ed.a ≤ ed.b
  pub inside : ed.b ≤ q.page.head.n

module _ (q : Lent) (ed : Edit) where
  abbrev pg : Page
  pg = q.page

  abbrev n : ℕ
  n = pg.head.n

  abbrev m : ℕ
  m = pg.head.m

  abbrev k : ℕ
  k = pg.head.k

  abbrev text : List ℕ
  text = pg.text

  abbrev lines : List ℕ
  lines = pg.lines

  abbrev tokens : List ℕ
  tokens = pg.tokens

  abbrev a : ℕ
  a = ed.a

  abbrev b : ℕ
  b = ed.b

  abbrev w : List ℕ
  w = ed.w

  abbrev t : List ℕ
  t = page_text pg

  abbrev u : List ℕ
  u = edited t ed

  -- the edited text is refused by itself: the header stays
  unread-edit : (x : Unread) (s : List ℕ) → EditPost q ed (numbered_unread (unread_of x)) (record { page = pg; spare = s }) → Refused q ed (Err (Reading x)) s
  unfolding numbered
  unread-edit x s post = rw (unread-kept pg.head (unread_of x)) post

  -- 7: every buffer is as it was
  pub unfit-edit : fits pg ≡ false → Refused q ed (Err Unfit) q.spare
  unfolding numbered header_after
  unfit-edit e = unfit-post q ed e

  -- 6
  pub order-edit : fits pg ≡ true → b < a → Refused q ed (Err Outside) q.spare
  unfolding reply_of after numbered header_after
  order-edit fit x = shut_post q ed (early outside) fit (gate-order (sizes q) t ed x)

  pub past-edit : fits pg ≡ true → n < b → Refused q ed (Err Outside) q.spare
  unfolding reply_of after numbered header_after
  past-edit fit x = shut_post q ed (early outside) fit (gate-past (sizes q) t ed (omega (arith, page_length pg (fits_true pg fit))))

  module _ (rg : Ranged q ed) where
    long : length t ≡ n
    long = page_length pg (fits_true pg rg.fit)

    proper : Proper t ed
    proper = record { order = rg.order; inside = omega (arith, long) }

    ha : a ≤ length t
    ha = omega (arith, long)

    pub size_is : length u ≡ a + length w + (n - b)
    size_is = length_edited t ed ha ∙ omega (arith, long)

    -- the edited text begins as the old one
    front : take a text ≡ take a u
    unfolding edited
    front =
        sym (take_at (take a t) (w ++ drop b t) a (length-take-le a t ha) ∙ take-take a n text (omega (arith, rg.order, rg.inside)))

    -- 1
    pub long-edit : (bytes number size : ℕ) → bytes ≡ max_bytes → number ≡ 1 → size ≡ min (a + length w + (n - b)) 18_446_744_073_709_551_615 → bytes < size
        → Refused q ed (Err (Reading (TooLong number size))) q.spare
    unfolding reply_of after numbered numbered_unread is_too_long too_long_by
    long-edit bytes number size eb en e x =
        let s : min (length u) 18_446_744_073_709_551_615 ≡ size = ap (λ (y : ℕ). min y 18_446_744_073_709_551_615) size_is ∙ sym e in
        let g = gate-long (sizes q) t ed proper (lt-ltb max_bytes (length u) (omega (arith, s))) in
        let words : (1 ∷ min (length u) 18_446_744_073_709_551_615 ∷ []) ≡ number ∷ size ∷ [] = λ i. sym en i ∷ s i ∷ [] in
        unread-edit (TooLong number size) q.spare (subst (λ (y : List ℕ). EditPost q ed y q) words (shut_post q ed (early (reading (too_long_by barge u))) rg.fit g))

    module _ {size : ℕ} (es : size ≡ length u) (small : size ≤ 1_048_576) where
      short-enough : is_too_long barge u ≡ false
      unfolding is_too_long
      short-enough = le-ltb max_bytes (length u) (omega (arith, es))

      -- 5
      pub text-edit : length text < size → Refused q ed (Err (Short Text size)) q.spare
      unfolding reply_of after numbered header_after
      text-edit x =
          subst (λ (y : ℕ). EditPost q ed (5 ∷ text_buffer ∷ y ∷ []) q) (sym es)
          (shut_post q ed (early (short text_buffer (length u))) rg.fit (gate-text (sizes q) t ed proper short-enough (omega (arith, es))))

      pub spare-edit : size ≤ length text → length q.spare < size → Refused q ed (Err (Short Spare size)) q.spare
      unfolding reply_of after numbered header_after
      spare-edit in_text x =
          subst (λ (y : ℕ). EditPost q ed (5 ∷ spare_buffer ∷ y ∷ []) q) (sym es)
          (shut_post q ed (early (short spare_buffer (length u))) rg.fit (gate-spare (sizes q) t ed proper short-enough (omega (arith, es)) (omega (arith, es))))

  -- What `edit_text` is called with: buffers that hold the edited text of `size` bytes.
  module _ {size : ℕ} (fit : fits pg ≡ true) (range : (a ≤ b) × ((b ≤ n) × (size ≡ length u))) (room : (size ≤ 1_048_576) × ((size ≤ length text) × (size ≤ length q.spare))) where
    rg : Ranged q ed
    rg = record { fit = fit; order = range.0; inside = range.1.0 }

    abbrev es : size ≡ length u
    es = range.1.1

    holds : size ≡ a + length w + (n - b)
    holds = es ∙ size_is rg

    in_order : Proper t ed
    in_order = proper rg

    short-text : is_too_long barge u ≡ false
    short-text = short-enough rg es room.0

    pub may-splice : (a ≤ b) × (b ≤ n) × (n ≤ length text) × (a + length w + (n - b) ≤ length q.spare)
    may-splice = (range.0, range.1.0, (fits_true pg fit).text, omega (arith, holds, room.1.1))

    pub records_fit : (line_need m ≤ length lines) × (token_need k ≤ length tokens)
    records_fit = ((fits_true pg fit).lines, (fits_true pg fit).tokens)

    -- the spare is s after the splice
    module _ {s : List ℕ} (spare-is : s ≡ overwrite u q.spare) where
      pub may_write : length s ≡ length q.spare → (a ≤ size) × ((size ≤ length text) × ((size ≤ length s) × (size ≤ 1_048_576)))
      may_write e = (omega (arith, holds), (room.1.0, (omega (arith, e, room.1.1), room.0)))

      pub held : take size s ≡ u
      held = ap (take size) spare-is ∙ overwrite_take u q.spare size (sym es)

      pub planned : {p : Plan} → PlanIs pg ed (Ok p) → Planned (take size s) lines m k p
      planned {p} v = subst (λ (x : List ℕ). Planned x lines m k p) (sym held) v.0

      -- the tests 1 and 2 of what it holds answer y
      module _ {lim : Limits} {y : Result (Unit {0}) Unread} (is-barge : lim ≡ barge) (is-test : y ≡ test_of lim (take size s)) where
        test_is : (z : Result (Unit {0}) Unread) → y ≡ z → test_of barge u ≡ z
        test_is z e = ap (test_of barge) (sym held) ∙ barge_test (take size s) is-barge is-test z e

        -- 2
        pub form_edit : (x : Unread) → y ≡ Err x → Refused q ed (Err (Reading x)) s
        unfolding reply_of after numbered malformed_by
        form_edit x h = go (test_of barge u) (tested barge u) (test_is (Err x) h)
          where
            go : (r : Result (Unit {0}) Unread) → Tested barge u r → r ≡ Err x → Refused q ed (Err (Reading x)) s
            go (Ok v) (Tested.passes e f) c = let z : ◌≡◌ {A = ℕ} 0 1 = cc in absurd (omega arith)
            go (Err y) (Tested.long e) c = absurd (false≢true (sym short-text ∙ e))
            go (Err y) (Tested.ill_formed e f) c =
                let is : unread_in (malformed_by u) ≡ x = cc in
                let g = gate-malformed (sizes q) t ed in_order short-text (omega (arith, es)) (omega (arith, es)) f in
                subst (λ (y : Unread). Refused q ed (Err (Reading y)) s) is
                (unread-edit (unread_in (malformed_by u)) s (rw spare-is (shut_post q ed (late (reading (malformed_by u))) fit g)))

        module _ (formed : y ≡ Ok tt) where
          open_gate : gate (sizes q) t ed ≡ none
          open_gate = gate-clear (sizes q) t ed in_order short-text (omega (arith, es)) (omega (arith, es)) (test_passes barge u (test_is (Ok tt) formed)).1

          -- 3, 4, 5, 7: what the plan refuses, past the gate
          late-edit : (r : Refusal) → Free q u (late r) → OnPaper pg ed r → EditPost q ed (reply_of (late r)) (record { page = pg; spare = s })
          unfolding after
          late-edit r free paper =
              rw spare-is (clear-post q ed (late r) fit open_gate free (λ f. sym (paper (length q.spare) f)))

          free-line : (x : Unread) → LineRefusal x → Free q u (late (reading (unread_of x)))
          free-line (TooLong number l) k = absurd k
          free-line (Malformed l) k = absurd k
          free-line (Fails f) k = failure (record_of f)
          free-line (AtLine number l) k = limit number l k

          short-edit : (b : Buffer) (least : ℕ) → (b ≡ Lines) ⊎ (b ≡ Tokens) → OnPaper pg ed (short (buffer_number b) least) → Refused q ed (Err (Short b least)) s
          unfolding reply_of numbered header_after
          short-edit b least (inl e) = rw e (late-edit (short lines_buffer least) (few_lines least))
          short-edit b least (inr e) = rw e (late-edit (short tokens_buffer least) (few_tokens least))

          pub refused-edit : (r : refusal.Refusal) → PlanIs pg ed (Err r) → Refused q ed (Err r) s
          unfolding reply_of numbered header_after
          refused-edit (Reading x) v = unread-edit x s (late-edit (reading (unread_of x)) (free-line x v.0) v.1)
          refused-edit (Short b least) v = short-edit b least v.0 v.1
          refused-edit Outside v = absurd v.0
          refused-edit Unfit v = late-edit unfit stale v.1

          -- An acceptance.
          module _ {p : Plan} (v : PlanIs pg ed (Ok p)) where
            abbrev pl : Planned u lines m k p
            pl = v.0

            abbrev ro : Roomy m k (length lines) (length tokens) p
            ro = v.1.0

            abbrev mends : (bh : Behind barge_line t (page_records pg)) → Mends t lines bh.entries bh.end ed p
            mends = v.1.1

            abbrev m' : ℕ
            m' = lines_after p m - 1

            abbrev k' : ℕ
            k' = tokens_after p k

            abbrev r : Records
            r = record { head = header size m' k'; lines = written_lines u lines m p; tokens = written_tokens u lines tokens k p }

            abbrev to : Counts
            to = moved_to p

            tail-lines : length (line_tail u lines m p) ≡ line_size * (p.read.lines + end_lines p.end + (m + 1 - p.kept.lines))
            tail-lines =
                length-append (line_records p.begin.bytes p.begin.tokens (written u lines p)) (moved_lines p.kept.bytes to.bytes p.kept.tokens (to.tokens) lines p.kept.lines (m + 1 - p.kept.lines))
                ∙ omega (arith, length_line_records p.begin.bytes p.begin.tokens (written u lines p), length_moved_lines p.kept.bytes to.bytes p.kept.tokens (to.tokens) lines p.kept.lines (m + 1 - p.kept.lines), (written-sizes pl).1)

            tail-tokens : length (token_tail u lines tokens k p) ≡ token_size * (p.read.tokens + end_tokens p.end + (k - p.kept.tokens))
            tail-tokens =
                length-append (token_records p.begin.bytes (p.begin.lines + 1) (written u lines p)) (moved_tokens p.kept.bytes to.bytes (p.kept.lines + 1) (to.lines + 1) tokens p.kept.tokens (k - p.kept.tokens))
                ∙ omega (arith, length_token_records p.begin.bytes (p.begin.lines + 1) (written u lines p), length_moved_tokens p.kept.bytes to.bytes (p.kept.lines + 1) (to.lines + 1) tokens p.kept.tokens (k - p.kept.tokens), (written-sizes pl).2)

            lines_long : length r.lines ≡ line_need m'
            lines_long =
                length-append (take (line_size * p.begin.lines) lines) (line_tail u lines m p)
                ∙ omega (arith, length-take-le (line_size * p.begin.lines) lines (omega (arith, ro.line-room)), tail-lines, pl.some)

            tokens-long : length r.tokens ≡ token_need k'
            tokens-long =
                length-append (take (token_size * p.begin.tokens) tokens) (token_tail u lines tokens k p)
                ∙ omega (arith, length-take-le (token_size * p.begin.tokens) tokens (omega (arith, ro.token-room)), tail-tokens)

            -- on a faithful page these are the records of the edited text
            module _ (bh : Behind barge_line t (page_records pg)) where
              n-is : size ≡ byte_sum (mends bh).entries
              n-is = es ∙ sym ((read-sizes barge_line initial (lines_of u) (mends bh).entries (mends bh).last (mends bh).reads-are).1 ∙ total-lines u)

              all_lines : written_lines u lines m p ≡ line_records 0 0 (with_end (mends bh).entries (mends bh).last)
              all_lines = line-words n m k text lines tokens ed bh (omega (arith, es)) p pl (mends bh)

              all-tokens : written_tokens u lines tokens k p ≡ token_records 0 1 (with_end (mends bh).entries (mends bh).last)
              all-tokens = token-words n m k text lines tokens ed bh (omega (arith, es)) p pl (mends bh)

              m-is : m' ≡ length (mends bh).entries
              m-is =
                  omega (arith, lines_long, ap length all_lines, length_line_records 0 0 (with_end (mends bh).entries (mends bh).last), length-append (mends bh).entries (end_entry (mends bh).last ∷ []))

              k-is : k' ≡ token_sum (with_end (mends bh).entries (mends bh).last)
              k-is = omega (arith, tokens-long, ap length all-tokens, length_token_records 0 1 (with_end (mends bh).entries (mends bh).last))

              records-are : r ≡ records_of (mends bh).entries (mends bh).last
              unfolding records_of
              records-are = λ x. record { head = header (n-is x) (m-is x) (k-is x); lines = all_lines x; tokens = all-tokens x }

            need_lines : line_need m' ≤ length lines
            need_lines = omega (arith, ro.line-room, pl.some)

            on-paper : Faithful pg → done r p.read.lines ≡ stored (sizes q) (reread_count barge_line t ed) (read_lines barge_line u)
            unfolding stored record_tests refused_if first_of unless read_lines recorded_by
            on-paper f =
                let bh = behind barge_line t (page_records pg) (fresh_inverse t (page_records pg) f).2 in
                sym (ap (λ (x : RulesReading.Reading). stored (sizes q) (reread_count barge_line t ed) (recorded_by x)) (mends bh).reads-are ∙ ap (λ (x : Records). stored (sizes q) (reread_count barge_line t ed) (recorded x)) (sym (records-are bh))
                ∙ rw (le-ltb (length lines) (line_need m') need_lines, le-ltb (length tokens) (token_need k') ro.token-room) (ap (done r) (mends bh).count))

            -- the answer and the buffers as the code has them
            pub accept_edit : {e : Edited} {text' lines' tokens' : List ℕ} → e ≡ edited_by size m k p → text' ≡ sets text a (drop a (take size s))
                → lines' ≡ sets lines (line_size * p.begin.lines) (line_tail (take size s) lines m p) → tokens' ≡ sets tokens (token_size * p.begin.tokens) (token_tail (take size s) lines tokens k p)
                → Answered q ed (Ok e) text' s lines' tokens'
            unfolding reply_of after header_after
            accept_edit {text' = text'} {lines' = lines'} {tokens' = tokens'} er et el ek =
                let free : Free q u (done r p.read.lines) = acceptance r p.read.lines es (omega (arith, pl.begin-lines, pl.read-lines, pl.m-le)) (omega (arith, ro.few)) lines_long tokens-long need_lines ro.token-room in
                let post = clear-post q ed (done r p.read.lines) fit open_gate free on-paper in
                let et' : text' ≡ overwrite u text = et ∙ ap (λ (x : List ℕ). sets text a (drop a x)) held ∙ back-over text u a (omega (arith, holds)) (omega (arith, es)) (front rg) in
                let el' : lines' ≡ overwrite r.lines lines =
                el ∙ ap (λ (x : List ℕ). sets lines (line_size * p.begin.lines) (line_tail x lines m p)) held ∙ run-over lines (line_size * p.begin.lines) (line_tail u lines m p) (omega (arith, tail-lines, ro.line-room)) in
                let ek' : tokens' ≡ overwrite r.tokens tokens =
                ek ∙ ap (λ (x : List ℕ). sets tokens (token_size * p.begin.tokens) (token_tail x lines tokens k p)) held ∙ run-over tokens (token_size * p.begin.tokens) (token_tail u lines tokens k p) (omega (arith, tail-tokens, ro.token-room)) in
                rw er (subst (λ (y : Lent). EditPost q ed (edit_numbers (Ok (edited_by size m k p))) y)
                (λ x. lent (header size m' k') (sym et' x) (sym spare-is x) (sym el' x) (sym ek' x)) post)

-- a length within the limit is not capped
pub settled : (size full long : ℕ) → size ≡ min full 18_446_744_073_709_551_615 → long ≡ full → size ≤ 1_048_576 → size ≡ long
settled size full long e f h = omega arith
