-- A list of edits, one more each time.
-- Assumes nothing.
use Prim.Native.Nat.{ℕ, ◌+◌, ◌-◌, ◌≤◌, ◌<◌}
use mathlib.Core.Path.{◌≡◌, refl, sym, ap, subst, ◌∙◌}
use mathlib.Core.List.{List, [], ◌∷◌, ◌++◌}
use native.Mathlib.Omega.{arith}
use mathlib.Core.Logic.{⊎_elim}
use native.Mathlib.Nat.{eq-zero-or-pos}
use lib.ListN.{length, take, replicate}
use Rattle.rules.specs.Lists.{overwrite}
use Rattle.rules.specs.Limits.{barge_line}
use Rattle.std.specs.Prelude.{Result, Ok, Err, get_or}
use Rattle.std.proofs.lemmas.List.{take_more}
use Rattle.rules.specs.Replies.{Reply, numbered, numbered_unread, failure_words}
use Rattle.rules.specs.Records.{line_size, Header, header}
use Rattle.rules.specs.Page.{Lent, Sizes, sizes, header_after, fresh_reply, fresh_lines, fresh_lent}
use Rattle.rules.specs.StopRule.{Edit}
use Rattle.rules.specs.Edit.{EditPost}
use Rattle.rules.specs.History.{Chain, none, call, Holds, Agrees}
use Rattle.rules.proofs.BoundLaws.{fresh_small}
use Rattle.rules.proofs.PageLaws.{unread-kept, fresh_inverse}
use Rattle.refusals.specs.Unreads.{unread_of, refusal_of}
use Rattle.refusals.specs.Replies.{reply_of}
use Rattle.refusals.specs.declared.Unread.TheVariants.{TooLong, Malformed, Fails, AtLine}
use Rattle.refusals.specs.declared.Refusal.{Refusal}
use Rattle.refusals.specs.declared.Refusal.TheVariants.{Reading, Short, Outside, Unfit}
use Rattle.editing.specs.Answers.{edit_numbers, lent, lent_after}
use Rattle.editing.specs.declared.Edited.{Edited}
use Rattle.fresh_page.specs.Answers.{fresh_values}
use Rattle.fresh_page.proofs.FreshPages.{fresh_short, fresh_long}
use Rattle.page.proofs.PageHistory.{fresh_post, history}
use Rattle.planning.proofs.Plans.{short-text}
use Rattle.history.specs.Lists.{listed_edit, edits_of, last_reply, SmallAnswer, Happened}
use Rattle.history.specs.declared.Listed.{Listed}

edits_more : (edits : List Listed) (bytes : List ℕ) (e : Listed) → edits_of (edits ++ (e ∷ [])) bytes ≡ edits_of edits bytes ++ (listed_edit bytes e ∷ [])
edits_more [] bytes e = refl
edits_more (x ∷ xs) bytes e = ap (λ (ys : List Edit). listed_edit bytes x ∷ ys) (edits_more xs bytes e)

chain_more : {P C R : Type 0} {Post : P → C → R → P → Type 0} {p q z : P} {cs : List C} {rs : List R} {c : C} {r : R}
    → Chain Post p cs rs q → Post q c r z → Chain Post p (cs ++ (c ∷ [])) (rs ++ (r ∷ [])) z
chain_more none x = call x none
chain_more (call y c) x = call y (chain_more c x)

last_more : (rs : List Reply) (r : Reply) → last_reply (rs ++ (r ∷ [])) ≡ r
last_more [] r = refl
last_more (x ∷ []) r = refl
last_more (x ∷ y ∷ rs) r = last_more (y ∷ rs) r

-- The header of an accepted edit fits in words.
small-held : (z : Sizes) (t : List ℕ) (h : Header) (text spare lines tokens : List ℕ) (r : Result Edited Refusal) → Holds z t (lent_after h (edit_numbers r) text spare lines tokens) → SmallAnswer r
unfolding header_after
small-held z t h text spare lines tokens (Ok e) x =
    let v = fresh_inverse t _ x.records-are in
    let s = fresh_small barge_line (omega arith) t _ (short-text t v.0) v.2 in
    (omega (arith, s.n-le), omega (arith, s.n-le, s.m-le), omega (arith, s.n-le, s.k-le))
small-held z t h text spare lines tokens (Err r) x = tt

-- The fresh page has a line record's room, or it is refused.
refusal-long : (r : Refusal) → length (numbered (refusal_of r)) ≡ 4 → ⊥
unfolding numbered numbered_unread failure_words
refusal-long (Reading (TooLong number n)) e = absurd (omega (arith, e))
refusal-long (Reading (Malformed n)) e = absurd (omega (arith, e))
refusal-long (Reading (Fails f)) e = absurd (omega (arith, e))
refusal-long (Reading (AtLine number l)) e = absurd (omega (arith, e))
refusal-long (Short b n) e = absurd (omega (arith, e))
refusal-long Outside e = absurd (omega (arith, e))
refusal-long Unfit e = absurd (omega (arith, e))

module _ (lines : List ℕ) where
  pub fresh_refused : (r : Refusal) → numbered (refusal_of r) ≡ fresh_reply (length lines) → line_size ≤ length lines → ⊥
  fresh_refused r e h =
      let f = (fresh_long lines h (overwrite (replicate line_size 0) lines) refl).0 in
      refusal-long r (ap length (e ∙ sym f))

  pub fresh_roomy : (r : Result (Unit {0}) Refusal) → ((u : Refusal) → r ≡ Err u → ⊥) → reply_of fresh_values r ≡ fresh_reply (length lines) → line_size ≤ length lines
  unfolding numbered
  fresh_roomy (Err u) x e = absurd (x u refl)
  fresh_roomy (Ok v) x e =
      ⊎_elim (λ (h : line_size - length lines ≡ 0). omega arith)
      (λ (h : 0 < line_size - length lines). let f = (fresh_short lines (omega arith)).0 in absurd (omega (arith, ap length (e ∙ sym f)))) (eq-zero-or-pos (line_size - length lines))

-- The edits so far, from the fresh page with these line words.
module _ (text₀ spare₀ fresh₀ tokens₀ bytes : List ℕ) where
  abbrev first : Lent
  first = lent (header 0 0 0) text₀ spare₀ fresh₀ tokens₀

  pub record SoFar (edits : List Listed) (reply : Reply) (last : Lent) : Type 0 where
    pub replies : List Reply
    pub chain : Chain EditPost first (edits_of edits bytes) replies last
    pub last-is : reply ≡ last_reply replies

  pub none_yet : SoFar [] (0 ∷ 0 ∷ 0 ∷ 0 ∷ 0 ∷ []) first
  none_yet = record { replies = []; chain = none; last-is = refl }

  pub one_more : {reply : Reply} {last : Lent} (edits : List Listed) (i : ℕ) (e : Listed) → i < length edits → SoFar (take i edits) reply last → (r : Reply) (q : Lent)
      → EditPost last (listed_edit bytes (get_or edits i e)) r q → SoFar (take (i + 1) edits) r q
  one_more edits i e h v r q post =
      let more = ap (λ (es : List Listed). edits_of es bytes) (take_more edits i e h) ∙ edits_more (take i edits) bytes (get_or edits i e) in
      record {
        replies = v.replies ++ (r ∷ []);
        chain = subst (λ (es : List Edit). Chain EditPost first es (v.replies ++ (r ∷ [])) q) (sym more) (chain_more v.chain post);
        last-is = sym (last_more v.replies r);
      }

  module _ (lines₀ : List ℕ) (long : line_size ≤ length lines₀) (is-fresh : fresh₀ ≡ fresh_lines lines₀) where
    abbrev lent₀ : Lent
    lent₀ = lent (header 0 0 0) text₀ spare₀ lines₀ tokens₀

    fresh_reply_lem : (0 ∷ 0 ∷ 0 ∷ 0 ∷ []) ≡ fresh_reply (length lines₀)
    fresh_reply_lem = (fresh_long lines₀ long (overwrite (replicate line_size 0) lines₀) refl).0

    first-is : first ≡ fresh_lent lent₀
    unfolding header_after
    first-is = (fresh_post (header 0 0 0) text₀ spare₀ lines₀ tokens₀ fresh₀ (0 ∷ 0 ∷ 0 ∷ 0 ∷ []) fresh_reply_lem is-fresh).lent_is

    agreed : {edits : List Listed} {reply : Reply} {last : Lent} (v : SoFar edits reply last) → Agrees (sizes lent₀) [] (fresh_lent lent₀) (edits_of edits bytes) v.replies last
    unfolding header_after
    agreed {edits} {reply} {last} v =
        subst (λ (x : Lent). Agrees (sizes lent₀) [] x (edits_of edits bytes) v.replies last) first-is
        ((history (header 0 0 0) text₀ spare₀ lines₀ tokens₀ fresh₀ (0 ∷ 0 ∷ 0 ∷ 0 ∷ []) fresh_reply_lem is-fresh long).1
        (edits_of edits bytes) v.replies last v.chain)

    pub happened : {edits : List Listed} {reply : Reply} {last : Lent} → SoFar edits reply last → Happened lent₀ (edits_of edits bytes) reply last
    happened v = record { replies = v.replies; agrees = agreed v; last-is = v.last-is }

    pub small-last : {edits : List Listed} (h : Header) (text spare lines tokens : List ℕ) (r : Result Edited Refusal) → SoFar edits (edit_numbers r) (lent_after h (edit_numbers r) text spare lines tokens) → SmallAnswer r
    small-last h text spare lines tokens r v =
        small-held (sizes lent₀) _ h text spare lines tokens r (agreed v).holds

-- The header after a refusal.
pub head-kept : (h : Header) (r : Refusal) → h ≡ header_after h (numbered (refusal_of r))
unfolding header_after numbered
head-kept h (Reading u) = sym (unread-kept h (unread_of u))
head-kept h (Short b n) = refl
head-kept h Outside = refl
head-kept h Unfit = refl
