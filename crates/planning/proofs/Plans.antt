-- A plan on a faithful page is the one on paper.
-- Assumes nothing.
use Prim.Native.Nat.{ℕ, suc, ◌+◌, ◌-◌, ◌*◌, ◌≤◌, ◌<◌}
use mathlib.Core.Path.{◌≡◌, refl, sym, ap, subst, ◌∙◌}
use mathlib.Core.Bool.{Bool, true, false}
use mathlib.Core.List.{List, [], ◌∷◌, ◌++◌, append_assoc, append-nil}
use native.Mathlib.Omega.{arith}
use native.Mathlib.Nat.{add-zero}
use lib.Dec.{ltb}
use lib.ListN.{length, get_or, take, drop, length-append, length-drop, length-take, drop_of_length-le, take-append-drop}
use lib.Seq.{take-take, take_all, take-append-le, length-take-le}
use borrow.Author.Tests.{lt-ltb, le-ltb, ltb-true, ltb-false}
use mathlib.Core.Logic.{inl, inr}
use Rattle.std.specs.Prelude.{Option, Some, None, Result, Ok, Err, if◌then◌else◌}
use Rattle.rules.specs.Line.{State, initial, Halt, failed, over_limit}
use Rattle.rules.specs.Reading.{lines_of, count_lf, Entry, halts, read_from, byte_sum, token_sum, state_at}
use Rattle.rules.specs.Limits.{max_levels, max_bytes, barge, barge_line}
use Rattle.rules.specs.Replies as RulesReplies
use Rattle.rules.specs.Replies.{reading, short, lines_buffer, tokens_buffer, refused_if, first_of, unless, is_too_long}
use Rattle.rules.specs.Records.{width_words, line_size, token_size, line_need, token_need, state_words, line_records, end_entry, with_end, Records, records_of, record_tests, halt_refusal, recorded_by, recorded, unread, read_lines, Behind}
use Rattle.rules.specs.Page.{Page, fits, page_text, page_records, Faithful}
use Rattle.rules.specs.StopRule.{Edit, edited, reread_count}
use Rattle.rules.specs.Edit.{late, stored}
use Rattle.rules.proofs.LineLaws.{total, drop_lines}
use Rattle.rules.proofs.ReadingLaws.{parts, read-sizes, token_sum_append}
use Rattle.rules.proofs.RecordLaws.{behind}
use Rattle.rules.proofs.EditedLaws.{length_edited}
use Rattle.rules.proofs.LimitLaws.{HaltNumbered, halt_numbered}
use Rattle.rules.proofs.MendLaws.{kept-size, kept_length}
use Rattle.rules.proofs.LoopLaws.{ReadTo, with_end_lem}
use Rattle.rules.proofs.BoundLaws.{fresh_small, read-grown}
use Rattle.rules.proofs.PageLaws.{Fits, fits_true, page_length, fresh_inverse}
use Rattle.rereading.specs.Rereads as rereads
use Rattle.rereading.specs.Rereads.{Old}
use Rattle.rereading.specs.declared.Reached.{Reached}
use Rattle.rereading.specs.declared.Reached.TheVariants.{Stop, End}
use Rattle.refusals.specs.Unreads.{unread_in, unread_of}
use Rattle.refusals.specs.declared.Unread.{Unread}
use Rattle.refusals.specs.declared.Buffer.TheVariants.{Lines, Tokens}
use Rattle.refusals.specs.declared.Refusal.TheVariants.{Reading, Short, Unfit}
use Rattle.refusals.proofs.Tests.{unread-back}
use Rattle.records.specs.declared.Counts.{Counts}
use Rattle.records.proofs.Words.{state-words, state-from}
use Rattle.rereading.proofs.Rereads.{halts-whole}
use Rattle.rereading.proofs.OldLines.{start_is, first-is, state-is, levels-at}
use Rattle.records.specs.Words.{line_word, state_from}
use Rattle.plans.specs.Plans.{end_lines, end_tokens, Small, lines_after, tokens_after, roomed, before_line, stop_plan, stop_answer, end_plan, end_answer, new_lines, planned_lines, Planned, Before, Mends, LineRefusal, OnPaper, PlanIs}
use Rattle.plans.specs.declared.Plan.{Plan}
use Rattle.plans.proofs.NewLines.{sum-end, length_end, new_sizes}
use Rattle.planning.specs.Starts.{is_usable, begin_line, RereadFrom}
use Rattle.planning.proofs.Starts.{Usable, true_usable}
use Rattle.planning.proofs.Begins.{Begun, begin_at}

-- Lists with the end.

take_sum : (i : ℕ) (es : List Entry) → token_sum (take i es) ≤ token_sum es
take_sum i es = omega (arith, ap token_sum (take-append-drop i es), token_sum_append (take i es) (drop i es))

pub short-text : (t : List ℕ) → is_too_long barge t ≡ false → length t ≤ max_bytes
unfolding is_too_long
short-text t e = ltb-false max_bytes (length t) e

-- A page that fits, a proper edit of it, and the edited text within the limit.
pub record Editable (pg : Page) (ed : Edit) : Type 0 where
  pub fits : Fits pg
  pub order : ed.a ≤ ed.b
  pub inside : ed.b ≤ pg.head.n
  pub small : length (edited (page_text pg) ed) ≤ 1_048_576

pub editable : (pg : Page) (ed : Edit) (u : List ℕ) → fits pg ≡ true → (ed.a ≤ ed.b) × ((ed.b ≤ pg.head.n) × (length u ≤ 1_048_576)) → u ≡ edited (page_text pg) ed → Editable pg ed
editable pg ed u f r e =
    record { fits = fits_true pg f; order = r.0; inside = r.1.0; small = subst (λ (x : List ℕ). length x ≤ 1_048_576) e r.1.1 }

module _ {pg : Page} {ed : Edit} (ok : Editable pg ed) where
  abbrev n : ℕ
  n = pg.head.n

  abbrev m : ℕ
  m = pg.head.m

  abbrev k : ℕ
  k = pg.head.k

  abbrev text : List ℕ
  text = pg.text

  abbrev lines : List ℕ
  lines = pg.lines

  abbrev tokens : List ℕ
  tokens = pg.tokens

  abbrev a : ℕ
  a = ed.a

  abbrev b : ℕ
  b = ed.b

  abbrev w : List ℕ
  w = ed.w

  abbrev t : List ℕ
  t = page_text pg

  abbrev u : List ℕ
  u = edited t ed

  long : length t ≡ n
  long = page_length pg ok.fits

  -- the edited text holds its first a bytes and w
  pub edited-holds : a + length w ≤ length u
  edited-holds = omega (arith, length_edited t ed (omega (arith, long)))

  -- The lines behind a faithful page.
  module _ (bh : Behind barge_line t (page_records pg)) where
    abbrev es : List Entry
    es = bh.entries

    abbrev end : State
    end = bh.end

    ha : a ≤ length t
    ha = omega (arith, long)

    m-is : m ≡ length es
    unfolding records_of
    m-is = ap (λ (r : Records). r.head.m) bh.records-are

    k-is : k ≡ token_sum (with_end es end)
    unfolding records_of
    k-is = ap (λ (r : Records). r.head.k) bh.records-are

    n-is : n ≡ byte_sum es
    unfolding records_of
    n-is = ap (λ (r : Records). r.head.n) bh.records-are

    lines_are : take (line_need m) lines ≡ line_records 0 0 (with_end es end)
    unfolding records_of
    lines_are = ap (λ (r : Records). r.lines) bh.records-are

    i-le : count_lf (take a t) ≤ m
    i-le = omega (arith, kept_length barge_line t es end bh.reads-are ed ha, length-take (count_lf (take a t)) es, m-is)

    start_of : (x : ℕ) → x ≤ m → line_word lines x 0 ≡ byte_sum (take x es)
    start_of x h = ap (λ (y : ℕ). get_or lines y 0) (add-zero (line_size * x)) ∙ start_is lines m es end m-is lines_are x h

    first_of_lem : (x : ℕ) → x ≤ m → line_word lines x 1 ≡ token_sum (take x es)
    first_of_lem x h = first-is lines m es end m-is lines_are x h

    state_of_lem : (x : ℕ) → x ≤ m → state_from lines x ≡ state_at es end x
    state_of_lem x h =
        state-from lines x (state_at es end x) (omega (arith, ok.fits.lines)) (levels-at barge_line t es end bh.reads-are (omega arith) x) (state-is lines m es end m-is lines_are x h)

    -- what stands before a line is as its record tells
    take-before : (x : ℕ) → x ≤ length es → take x (with_end es end) ≡ take x es
    take-before x h = take-append-le x es (end_entry end ∷ []) h

    before-is : (x : ℕ) → x ≤ m → Before (with_end es end) (before_line lines x)
    before-is x h =
        let e = sym (take-before x (omega (arith, h, m-is))) in
        (start_of x h ∙ ap byte_sum e, first_of_lem x h ∙ ap token_sum e)

    -- a reading of the first x lines
    read_at : (x : ℕ) → ReadTo barge_line initial t (byte_sum (take x es)) (take x es) (state_at es end x)
    read_at x =
        let p = parts barge_line x initial (lines_of t) es end bh.reads-are in
        record {
          lines = take x (lines_of t);
          split = sym (take-append-drop x (lines_of t)) ∙ ap (λ (y : List (List ℕ)). take x (lines_of t) ++ y) (drop_lines x t ∙ ap (λ (i : ℕ). lines_of (drop i t)) p.sizes);
          reads-are = p.front;
          bytes = refl;
        }

    levels-word : (x : ℕ) → x ≤ m → line_word lines x 4 ≤ max_levels
    unfolding state_words
    levels-word x h =
        let w = state-words lines x (omega (arith, ok.fits.lines)) (state_at es end x) in
        let q = sym w ∙ state-is lines m es end m-is lines_are x h in
        let l : get_or lines (line_size * x + 2 + 2) 0 ≡ length (state_at es end x).widths = cc in
        let n4 : line_size * x + 4 ≡ line_size * x + 2 + 2 = omega arith in
        omega (arith, ap (λ (y : ℕ). get_or lines y 0) n4, l, levels-at barge_line t es end bh.reads-are (omega arith) x)

    -- the record where reading again begins passes the tests
    module _ (i : ℕ) (e : i ≡ count_lf (take a t)) where
      within : i ≤ m
      within = omega (arith, i-le)

      pub usable_of : is_usable lines i k a ≡ true
      usable_of =
          let g = read-grown barge_line initial t (byte_sum (take i es)) (take i es) (state_at es end i) (read_at i) in
          let s = start_of i within in
          let z = state_of_lem i within in
          let d : line_word lines i 2 ≡ (state_at es end i).depth = ap (λ (y : State). y.depth) z in
          let c : length (take i es) ≡ i = length-take-le i es (omega (arith, within, m-is)) in
          let g2 : (state_at es end i).depth ≤ 0 + byte_sum (take i es) = g.depth in
          true_usable lines i k a record {
            start = omega (arith, s, kept-size barge_line t es end bh.reads-are ed ha, ap (λ (x : ℕ). byte_sum (take x es)) e);
            number = omega (arith, s, g.lines, c);
            first = omega (arith, first_of_lem i within, k-is, take_sum i es, token_sum_append es (end_entry end ∷ []));
            depth = omega (arith, s, d, g2);
            levels = levels-word i within;
          }

      -- what reading again knows of the page
      pub old_of : Old barge_line (drop (line_word lines i 0) u) lines (line_word lines i 0) i m i b (a + length w) (state_from lines i)
      old_of =
          let bi : line_word lines i 0 ≡ byte_sum (take (count_lf (take a t)) es) = start_of i within ∙ ap (λ (x : ℕ). byte_sum (take x es)) e in
          record {
            text = t;
            entries = es;
            end = end;
            reads-are = bh.reads-are;
            m-is = m-is;
            lines_are = lines_are;
            ed = ed;
            begins = ha;
            order = ok.order;
            inside = omega (arith, long);
            b-is = refl;
            kept-is = refl;
            i-is = e;
            from_is = refl;
            base-is = bi;
            state-is = state_of_lem i within ∙ ap (state_at es end) e;
            rest-is = ap (λ (x : ℕ). drop x u) bi;
          }

  -- A faithful page has lines behind it, and begins within them.

  pub faithful_behind : Faithful pg → Behind barge_line t (page_records pg)
  faithful_behind h = behind barge_line t (page_records pg) (fresh_inverse t (page_records pg) h).2

  pub begins-within : Faithful pg → None ≡ begin_line pg a → ⊥
  begins-within h e =
      let v = fresh_inverse t (page_records pg) h in
      let bh = behind barge_line t (page_records pg) v.2 in
      let s = fresh_small barge_line (omega arith) t (page_records pg) (short-text t v.0) v.2 in
      let at : count_lf (take a text) ≡ count_lf (take a t) = ap count_lf (sym (take-take a n text (omega (arith, ok.order, ok.inside)))) in
      let b = begin_at pg a (omega (arith, s.n-le, s.m-le)) (omega (arith, s.n-le, s.k-le))
      (omega (arith, at, i-le bh)) (usable_of bh (count_lf (take a text)) at) in
      let q : ◌≡◌ {A = Option ℕ} None (Some (count_lf (take a text))) = e ∙ b in
      cc

  -- A plan, with room or without.
  module _ (p : Plan) (pl : Planned u lines m k p) (mends : (bh : Behind barge_line t (page_records pg)) → Mends t lines bh.entries bh.end ed p) where
    module _ (bh : Behind barge_line t (page_records pg)) where
      abbrev new : List Entry
      new = new_lines p.end (planned_lines u lines p)

      abbrev old : List Entry
      old = with_end bh.entries bh.end

      sizes : (byte_sum new ≡ p.read.bytes) × (length new ≡ p.read.lines + end_lines p.end) × (token_sum new ≡ p.read.tokens + end_tokens p.end)
      sizes = new_sizes p (planned_lines u lines p) pl.reads_as

      lines-sum : lines_after p m ≡ length (mends bh).entries + 1
      lines-sum =
          let x = mends bh in
          omega (
            arith,
            sizes.1,
            sym (length_end x.entries x.last) ∙ ap length x.mended,
            length-append (take p.begin.lines old) (new ++ drop p.kept.lines old),
            length-append new (drop p.kept.lines old),
            length-take p.begin.lines old,
            length-drop p.kept.lines old,
            length_end bh.entries bh.end,
            m-is bh,
            pl.begin-lines,
            pl.kept-lines,
          )

      tokens-sum : tokens_after p k ≡ token_sum (with_end (mends bh).entries (mends bh).last)
      tokens-sum =
          let x = mends bh in
          omega (
            arith,
            sizes.2,
            ap token_sum x.mended,
            token_sum_append (take p.begin.lines old) (new ++ drop p.kept.lines old),
            token_sum_append new (drop p.kept.lines old),
            ap token_sum (take-append-drop p.kept.lines old),
            token_sum_append (take p.kept.lines old) (drop p.kept.lines old),
            k-is bh,
            x.begin-is.1,
            x.kept-is.1,
          )

      records-are : read_lines barge_line u ≡ recorded (records_of (mends bh).entries (mends bh).last)
      unfolding read_lines recorded_by
      records-are = ap recorded_by (mends bh).reads-are

      lines_need : line_need (records_of (mends bh).entries (mends bh).last).head.m ≡ line_size * lines_after p m
      unfolding records_of
      lines_need = omega (arith, lines-sum)

      tokens_need : token_need (records_of (mends bh).entries (mends bh).last).head.k ≡ token_size * tokens_after p k
      unfolding records_of
      tokens_need = omega (arith, tokens-sum)

      few-tokens : tokens_after p k ≤ 2_097_152
      unfolding records_of
      few-tokens =
          let s = fresh_small barge_line (omega arith) u (records_of (mends bh).entries (mends bh).last) ok.small records-are in
          omega (arith, tokens-sum, s.k-le, s.n-le)

    short-lines : length lines < line_size * lines_after p m → OnPaper pg ed (short lines_buffer (line_size * lines_after p m))
    unfolding stored record_tests refused_if first_of unless
    short-lines h spare fa =
        let bh = faithful_behind fa in
        rw (records-are bh, lines_need bh, lt-ltb (length lines) (line_size * lines_after p m) h) refl

    short-tokens : line_size * lines_after p m ≤ length lines → length tokens < token_size * tokens_after p k → OnPaper pg ed (short tokens_buffer (token_size * tokens_after p k))
    unfolding stored record_tests refused_if first_of unless
    short-tokens l h spare fa =
        let bh = faithful_behind fa in
        rw (records-are bh, lines_need bh, tokens_need bh, le-ltb (length lines) (line_size * lines_after p m) l, lt-ltb (length tokens) (token_size * tokens_after p k) h) refl

    pub roomed-is : PlanIs pg ed (roomed pg p)
    roomed-is = go (ltb 2_097_152 (tokens_after p k)) refl (ltb (length lines) (line_size * lines_after p m)) refl (ltb (length tokens) (token_size * tokens_after p k)) refl
      where
        go : (b1 : Bool) → ltb 2_097_152 (tokens_after p k) ≡ b1 → (b2 : Bool) → ltb (length lines) (line_size * lines_after p m) ≡ b2 → (b3 : Bool) → ltb (length tokens) (token_size * tokens_after p k) ≡ b3
            → PlanIs pg ed (if b1 then Err Unfit else if b2 then Err (Short Lines (line_size * lines_after p m)) else if b3 then Err (Short Tokens (token_size * tokens_after p k)) else Ok p)
        go true e1 b2 e2 b3 e3 = (tt, λ spare fa. absurd (omega (arith, ltb-true 2_097_152 (tokens_after p k) e1, few-tokens (faithful_behind fa))))
        go false e1 true e2 b3 e3 = (inl refl, short-lines (ltb-true (length lines) (line_size * lines_after p m) e2))
        go false e1 false e2 true e3 = (inr refl, short-tokens (ltb-false (length lines) (line_size * lines_after p m) e2) (ltb-true (length tokens) (token_size * tokens_after p k) e3))
        go false e1 false e2 false e3 = (
          pl,
          (
            record {
              line-room = ltb-false (length lines) (line_size * lines_after p m) e2;
              token-room = ltb-false (length tokens) (token_size * tokens_after p k) e3;
              few = ltb-false 2_097_152 (tokens_after p k) e1;
            },
            mends,
          ),
        )

  -- The plan after reading again from line i on.
  module _ {i : ℕ} (bg : Begun pg a i) where
    abbrev base : ℕ
    base = line_word lines i 0

    abbrev before : Counts
    before = before_line lines i

    us : Usable lines i k a
    us = bg.usable

    pub inside-u : base ≤ length u
    inside-u = omega (arith, us.start, edited-holds)

    at-is : i ≡ count_lf (take a t)
    at-is = bg.i-is ∙ ap count_lf (sym (take-take a n text (omega (arith, ok.order, ok.inside))))

    abbrev z : State
    z = state_from lines i

    -- what reading again gives
    abbrev pub Gives : (left : State) → Result Reached Unread → Type 0
    Gives = RereadFrom pg u ed i z

    -- how much was read again
    lines-small : {c : Counts} (l : rereads.Lines barge_line (drop base u) z c) → (c.lines ≤ c.bytes) × (c.tokens + length l.after.widths ≤ max_levels + 2 * c.bytes)
    lines-small {c} l =
        let rest : List ℕ = drop base u in
        let s = read-sizes barge_line z (take c.lines (lines_of rest)) l.es l.after l.reads-are in
        let e : total (take c.lines (lines_of rest)) ≡ c.bytes = sym s.1 ∙ l.counted.bytes in
        let to : ReadTo barge_line z rest c.bytes l.es l.after = record {
          lines = take c.lines (lines_of rest);
          split = sym (take-append-drop c.lines (lines_of rest)) ∙ ap (λ (y : List (List ℕ)). take c.lines (lines_of rest) ++ y) (drop_lines c.lines rest ∙ ap (λ (i : ℕ). lines_of (drop i rest)) e);
          reads-are = l.reads-are;
          bytes = l.counted.bytes;
        } in
        let g = read-grown barge_line z rest c.bytes l.es l.after to in
        let n4 : line_size * i + 4 ≡ line_size * i + 2 + 2 = omega arith in
        let v : length z.widths ≤ max_levels =
        omega (arith, length-take (get_or lines (line_size * i + 2 + 2) 0) (take width_words (drop (line_size * i + 2 + 3) lines)), ap (λ (y : ℕ). get_or lines y 0) n4, us.levels) in
        (omega (arith, g.lines, l.counted.lines), omega (arith, g.tokens, l.counted.tokens))

    -- at the end all lines are read
    abbrev all-lines : {c : Counts} {left : State} → Gives left (Ok (End c)) → rereads.Lines barge_line (drop base u) z c
    all-lines {c} {left} r =
        let ls : List (List ℕ) = lines_of (drop base u) in
        let n : length ls ≡ c.lines = sym (read-sizes barge_line z ls r.0 left r.2).0 ∙ r.1.lines in
        record { es = r.0; after = left; reads-are = ap (read_from barge_line z) (take_all c.lines ls (omega (arith, n))) ∙ r.2; counted = r.1 }

    -- as the plans need it
    rest-small : base + length (drop base u) ≤ 1_048_576
    rest-small = omega (arith, length-drop base u, inside-u, ok.small)

    pub stop-small : (left : State) {c : Counts} {j : ℕ} → Gives left (Ok (Stop c j)) → (j ≤ m) × Small (stop_plan lines before c j)
    stop-small left r =
        let v = lines-small r.0 in
        (r.1.1.0, (omega (arith, r.1.0, rest-small), omega (arith, v.0, r.1.0, rest-small, bg.within, bg.m-le), omega (arith, v.1, r.1.0, rest-small, us.first, bg.k-le)))

    pub end-small : {c : Counts} {levels : ℕ} {left : State} → Gives left (Ok (End c)) → levels ≡ length left.widths → Small (end_plan pg.head n before c levels)
    end-small r e =
        let v = lines-small (all-lines r) in
        (omega (arith, r.3, rest-small), omega (arith, v.0, r.3, rest-small, bg.within, bg.m-le), omega (arith, v.1, r.3, rest-small, us.first, bg.k-le, e))

    -- the old line at a stop starts within the text
    stop-start : (left : State) {c : Counts} {j : ℕ} → Gives left (Ok (Stop c j)) → line_word lines j 0 ≤ n
    stop-start left {c} {j} r =
        let e : line_word lines j 0 ≡ b + (base + c.bytes - (a + length w)) = ap (λ (y : ℕ). get_or lines y 0) (add-zero (line_size * j)) ∙ r.1.1.1.1 in
        omega (arith, e, r.1.0, r.1.1.1.0, length-drop base u, length_edited t ed (omega (arith, long, ok.order, ok.inside)), long, ok.inside)

    stop_planned : (c : Counts) (j : ℕ) (l : rereads.Lines barge_line (drop base u) z c) → c.bytes < length (drop base u) → j ≤ m → line_word lines j 1 ≤ k → line_word lines j 0 ≤ 4_294_967_295
        → Planned u lines m k (stop_plan lines before c j)
    stop_planned c j l hq hj hk ho =
        let n = l.counted in
        record {
          m-le = bg.m-le;
          k-le = bg.k-le;
          begin-lines = bg.within;
          begin-bytes = us.number;
          read-bytes = omega (arith, hq, length-drop base u, inside-u);
          depth = us.depth;
          levels = us.levels;
          reads_as = record { entries = l.es; last = l.after; reads-are = l.reads-are; bytes = n.bytes; lines = n.lines; tokens = n.tokens; levels = λ levels e. cc };
          begin-tokens = us.first;
          kept-tokens = hk;
          kept-lines = omega (arith, hj);
          kept-bytes = ho;
          read-lines = omega (arith, (lines-small l).0, length-drop base u, ok.small);
          some = omega (arith, hj);
        }

    stop-mends : (c : Counts) (j : ℕ) (left : State) (r : Gives left (Ok (Stop c j))) (bh : Behind barge_line t (page_records pg)) → Mends t lines bh.entries bh.end ed (stop_plan lines before c j)
    unfolding old_of
    stop-mends c j left r bh =
        let v = r.2 (old_of bh i at-is) in
        let es : List Entry = bh.entries in
        let hj : j ≤ length es = omega (arith, v.3) in
        let nl : new_lines None (planned_lines u lines (stop_plan lines before c j)) ≡ r.0.es = ap (new_lines None) r.0.reads-are in
        record {
          entries = take i es ++ (r.0.es ++ drop j es);
          last = bh.end;
          reads-are = v.0;
          mended = with_end_lem es r.0.es bh.end i j hj ∙ (λ y. sym (take-before bh i (omega (arith, bg.within, m-is bh))) y ++ (sym nl y ++ drop j (with_end es bh.end)));
          count = v.1;
          begin-is = before-is bh i bg.within;
          kept-is = before-is bh j (omega (arith, hj, m-is bh));
        }

    pub stop_plan_lem : (left : State) {c : Counts} {j : ℕ} → Gives left (Ok (Stop c j)) → n ≤ 4_294_967_295 → PlanIs pg ed (stop_answer pg before c j)
    stop_plan_lem left {c} {j} r hn = go (ltb k (line_word lines j 1)) refl
      where
        go : (y : Bool) → ltb k (line_word lines j 1) ≡ y → PlanIs pg ed (if y then Err Unfit else roomed pg (stop_plan lines before c j))
        go true e = (
          tt,
          λ spare fa.
              let bh = faithful_behind fa in
              absurd (omega (arith, ltb-true k (line_word lines j 1) e, first_of_lem bh j r.1.1.0, k-is bh, take_sum j bh.entries, token_sum_append bh.entries (end_entry bh.end ∷ []))),
        )
        go false e = roomed-is (stop_plan lines before c j) (stop_planned c j r.0 r.1.0 r.1.1.0 (ltb-false k (line_word lines j 1) e) (omega (arith, stop-start left r, hn))) (stop-mends c j left r)

    end_planned : (c : Counts) (levels : ℕ) (l : rereads.Lines barge_line (drop base u) z c) → c.bytes ≡ length (drop base u) → levels ≡ length l.after.widths → n ≤ 4_294_967_295
        → Planned u lines m k (end_plan pg.head n before c levels)
    end_planned c levels l hq hg hn =
        let n = l.counted in
        record {
          m-le = bg.m-le;
          k-le = bg.k-le;
          begin-lines = bg.within;
          begin-bytes = us.number;
          read-bytes = omega (arith, hq, length-drop base u, inside-u);
          depth = us.depth;
          levels = us.levels;
          reads_as = record { entries = l.es; last = l.after; reads-are = l.reads-are; bytes = n.bytes; lines = n.lines; tokens = n.tokens; levels = λ some e. cc };
          begin-tokens = us.first;
          kept-tokens = omega arith;
          kept-lines = omega arith;
          kept-bytes = hn;
          read-lines = omega (arith, (lines-small l).0, hq, length-drop base u, ok.small);
          some = omega arith;
        }

    end-mends : (c : Counts) (levels : ℕ) {left : State} (r : Gives left (Ok (End c))) (bh : Behind barge_line t (page_records pg))
        → Mends t lines bh.entries bh.end ed (end_plan pg.head n before c levels)
    unfolding old_of
    end-mends c levels {left} r bh =
        let v = r.4 (old_of bh i at-is) in
        let es : List Entry = bh.entries in
        let end : State = bh.end in
        let le : length (with_end es end) ≤ m + 1 = omega (arith, length_end es end, m-is bh) in
        let tj : take (m + 1) (with_end es end) ≡ with_end es end = take_all (m + 1) (with_end es end) le in
        let dj : drop (m + 1) (with_end es end) ≡ [] = drop_of_length-le (with_end es end) {i = m + 1} le in
        let nl : new_lines (Some levels) (planned_lines u lines (end_plan pg.head n before c levels)) ≡ with_end r.0 left = ap (new_lines (Some levels)) (all-lines r).reads-are in
        record {
          entries = take i es ++ r.0;
          last = left;
          reads-are = v.0;
          mended = append_assoc (take i es) r.0 (end_entry left ∷ []) ∙ ap (λ (y : List Entry). take i es ++ y) (sym (append-nil (with_end r.0 left)))
              ∙ (λ y. sym (take-before bh i (omega (arith, bg.within, m-is bh))) y ++ (sym nl y ++ sym dj y));
          count = v.1;
          begin-is = before-is bh i bg.within;
          kept-is = (n-is bh ∙ sym (sum-end es end) ∙ ap byte_sum (sym tj), k-is bh ∙ ap token_sum (sym tj));
        }

    pub end_plan_lem : {c : Counts} {levels : ℕ} {left : State} → Gives left (Ok (End c)) → levels ≡ length left.widths → n ≤ 4_294_967_295
        → PlanIs pg ed (end_answer pg n before c levels)
    end_plan_lem {c} {levels} r hg hn =
        roomed-is (end_plan pg.head n before c levels) (end_planned c levels (all-lines r) r.3 hg hn) (end-mends c levels r)

    halted : (h : Halt) (es : List Entry) → read_from barge_line initial (lines_of u) ≡ halts es h → read_lines barge_line u ≡ unread (halt_refusal (byte_sum es) (suc (length es)) h)
    unfolding read_lines recorded_by
    halted h _ e = ap recorded_by e

    halt_refusal_lem : (p l : ℕ) (h : Halt) → HaltNumbered barge_line h → LineRefusal (unread_in (halt_refusal p l h))
    unfolding halt_refusal
    halt_refusal_lem p l (failed f) k = tt
    halt_refusal_lem p l (over_limit number) k = k

    pub halt_plan : (left : State) {x : Unread} → Gives left (Err x) → PlanIs pg ed (Err (Reading x))
    unfolding old_of stored
    halt_plan left {x} h =
        let g = h.0 in (
          subst LineRefusal (sym g.why) (halt_refusal_lem _ _ g.halt (halt_numbered barge_line z (lines_of (drop base u)) g.es g.halt g.halts-are)),
          λ spare fa.
              let v = halts-whole (h.1 (old_of (faithful_behind fa) i at-is)) in
              ap (stored (record { text = length text; spare = spare; lines = length lines; tokens = length tokens }) (reread_count barge_line t ed)) (halted v.1 v.0 v.2)
              ∙ ap (λ (y : RulesReplies.Unread). late (reading y)) (sym (ap unread_of v.3 ∙ unread-back _)),
        )
