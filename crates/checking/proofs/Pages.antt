-- What `check` answers of a page: by its header, by tests 1 and 2 of its text, by its lines.
-- Assumes nothing.
use Rattle.std.proofs.Common.{ℕ, ◌≡◌, sym, ap, ◌∙◌, Bool, true, false, List, [], ◌∷◌, length, take, Ok, Err}
use lib.Seq.{length-take-le}
use Rattle.rules.specs.Lists.{bit}
use Rattle.rules.specs.Limits.{barge, barge_line}
use Rattle.rules.specs.Replies.{unfit, numbered, refused_if, unless}
use Rattle.rules.specs.Records.{line_need, token_need, header, Records, read_lines, fresh_reading}
use Rattle.rules.specs.Page.{Page, fits, is_recorded, is_faithful}
use Rattle.rules.specs.Check.{check_reply}
use Rattle.rules.proofs.PageLaws.{fits_true}
use Rattle.refusals.specs.Unreads.{test_of}
use Rattle.refusals.specs.declared.Unread.{Unread}
use Rattle.refusals.proofs.Tests.{fresh_refused, fresh_passed}

-- The text t and the records q, by what the tests give.
module _ (q : Records) (t : List ℕ) where
  pub refused-text : (u : Unread) → test_of barge t ≡ Err u → false ≡ is_recorded q (fresh_reading t)
  unfolding is_recorded fresh_reading
  refused-text u e = ap (is_recorded q) (sym (fresh_refused barge t u e))

  pub lines_decide : test_of barge t ≡ Ok tt → is_recorded q (read_lines barge_line t) ≡ is_recorded q (fresh_reading t)
  unfolding fresh_reading
  lines_decide e = ap (is_recorded q) (sym (fresh_passed barge t e))

-- The page.
module _ (pg : Page) where
  pub unfit-page : false ≡ fits pg → numbered unfit ≡ check_reply pg
  unfolding check_reply unless refused_if
  unfit-page f = rw (← f)

  -- the parts of its buffers that the header needs
  abbrev text : List ℕ
  text = take pg.head.n pg.text

  abbrev lines : List ℕ
  lines = take (line_need pg.head.m) pg.lines

  abbrev tokens : List ℕ
  tokens = take (token_need pg.head.k) pg.tokens

  module _ (f : true ≡ fits pg) where
    pub parts : (length text ≡ pg.head.n) × (length lines ≡ line_need pg.head.m) × (length tokens ≡ token_need pg.head.k)
    parts = let x = fits_true pg (sym f) in (length-take-le _ _ x.text, length-take-le _ _ x.lines, length-take-le _ _ x.tokens)

    abbrev recorded : (n : ℕ) → Bool
    recorded n = is_recorded (record { head = header n pg.head.m pg.head.k; lines = lines; tokens = tokens }) (fresh_reading text)

    pub checked : (b : Bool) → b ≡ recorded (length text) → 0 ∷ bit b ∷ [] ≡ check_reply pg
    unfolding check_reply unless refused_if is_faithful
    checked b d =
        let all : b ≡ is_faithful pg = d ∙ ap recorded parts.0 in
        rw (← f) (ap (λ (x : Bool). 0 ∷ bit x ∷ []) all)
