-- DEMAND 3 of the code: what `fresh` and `edit` ensure, call after call, is the history on paper.
-- Assumes nothing.
use Prim.Native.Nat.{ℕ, ◌≤◌}
use mathlib.Core.Path.{◌≡◌}
use mathlib.Core.Bool.{false}
use mathlib.Core.List.{List, [], ◌∷◌}
use lib.ListN.{length}
use Rattle.rules.specs.Replies.{Reply, accepted, is_refused}
use Rattle.rules.specs.Records.{line_size, Header}
use Rattle.rules.specs.Page.{sizes, header_after, fresh_reply, fresh_lines, FreshPost}
use Rattle.rules.specs.Read.{read_into}
use Rattle.rules.specs.History.{Demand3From}
use Rattle.rules.specs.Use.{Begins, ReadPost, StepsFrom}
use Rattle.rules.proofs.HistoryLaws.{fresh_holds, demand_3}
use Rattle.rules.proofs.UseLaws.{read-holds, demand_3_read, list_of_steps}
use Rattle.editing.specs.Answers.{lent, lent_after}

-- what the call ensures is the contract of the fresh page
pub fresh_post : (h : Header) (text spare lines tokens lines' : List ℕ) (reply : Reply) → reply ≡ fresh_reply (length lines) → lines' ≡ fresh_lines lines
    → FreshPost (lent h text spare lines tokens) reply (lent_after h reply text spare lines' tokens)
fresh_post h text spare lines tokens lines' reply er el =
    record {
      reply-is = er;
      lent_is = λ i. record { page = record { head = header_after h (er i); text = text; lines = el i; tokens = tokens }; spare = spare };
    }

-- after a call of `fresh` with long enough line words, every list of calls of `edit`, each on what the last one left
module _ (h : Header) (text spare lines tokens lines' : List ℕ) (reply : Reply) (er : reply ≡ fresh_reply (length lines)) (el : lines' ≡ fresh_lines lines)
    (long : line_size ≤ length lines) where
  pub history : (reply ≡ accepted (0 ∷ 0 ∷ 0 ∷ [])) × Demand3From (sizes (lent h text spare lines tokens)) [] (lent_after h reply text spare lines' tokens)
  history = demand_3 _ _ reply long (fresh_post h text spare lines tokens lines' reply er el)

  -- and of such calls with longer buffers between them
  pub history-grown : StepsFrom (sizes (lent h text spare lines tokens)) [] (lent_after h reply text spare lines' tokens)
  history-grown = list_of_steps (fresh_holds _ _ reply long (fresh_post h text spare lines tokens lines' reply er el)).1

-- the same after a call of `read` that accepts the text t, with a text buffer that begins with t
module _ (h : Header) (t text spare lines tokens lines' tokens' : List ℕ) (reply : Reply) (er : reply ≡ (read_into t lines tokens).reply)
    (el : lines' ≡ (read_into t lines tokens).lines) (et : tokens' ≡ (read_into t lines tokens).tokens) (accepts : is_refused reply ≡ false) (begins : Begins t text) where
  read-post : ReadPost (lent h text spare lines tokens) t reply (lent_after h reply text spare lines' tokens')
  read-post = record { begins = begins; reply-is = er; accepts = accepts; lent_is = λ i. lent_after h (er i) text spare (el i) (et i) }

  pub read_history : Demand3From (sizes (lent h text spare lines tokens)) t (lent_after h reply text spare lines' tokens')
  read_history = demand_3_read _ _ t reply read-post

  pub read-history-grown : StepsFrom (sizes (lent h text spare lines tokens)) t (lent_after h reply text spare lines' tokens')
  read-history-grown = list_of_steps (read-holds _ _ t reply read-post)
