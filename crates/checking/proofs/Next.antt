-- The line at a place, held against the words of a page: where it does not hold, the page is not the reading.
-- Assumes nothing.
use Rattle.std.proofs.Common.{ℕ, ◌≡◌, ◌+◌, ◌*◌, ◌<◌, refl, sym, ap, ◌∙◌, Bool, true, false, not, ◌&&◌, List, length, Err}
use mathlib.Core.Bool.{and-false}
use Rattle.rules.specs.Limits.{LineLimits}
use Rattle.rules.specs.Line.{State, Halt, LineReply, line_reads, line_halts, read_line}
use Rattle.rules.specs.Reading.{line_at, size_at}
use Rattle.rules.specs.Records.{line_size, token_size, line_need, token_need, line_record, token_words}
use Rattle.rules.proofs.LoopLaws.{read-stuck}
use Rattle.records.specs.Sinks.{Compares}
use Rattle.records.specs.declared.Place.{Place}
use Rattle.records.specs.declared.sink.Held.{Held}
use Rattle.line.specs.LineCuts.{tokens_in, Taken, counted, counted_of}
use Rattle.line.specs.declared.Halt as code
use Rattle.line.specs.declared.Halt.TheVariants.{Fails, OverLimit}
use Rattle.lines.proofs.Lines.{line-fails, line-over}
use Rattle.checking.specs.Held.{holds, line_holds}
use Rattle.checking.proofs.Held.{answer, unread_lem}
use Rattle.checking.proofs.Lines.{HeldTo, goes-on, differs}

-- a line that the code does not read
no-line : (x : LineReply) (r : code.Halt) (z' : State) → counted_of (Err r) z' ≡ counted x → (h : Halt) × (x ≡ line_halts h)
no-line x (Fails f) z' e = (_, line-fails z' x f e)
no-line x (OverLimit number) z' e = (_, line-over z' x number e)

-- What the sinks l and k say of a line with this reply.
module _ (p : Place) (z : State) (l k : Held) where
  pub record-differs : {l' : Held} (x : LineReply) → Compares l l' (line_size * p.line) (line_record p.start p.first z) → l'.same ≡ false → line_holds p z l k x ≡ false
  record-differs (line_reads ts z') m e = ap (λ (b : Bool). b && holds k (token_size * p.first) (token_words p.start (p.line + 1) ts)) (sym m.same ∙ e)
  record-differs (line_halts h) m e = refl

  pub tokens-differ : (k' : Held) (x : LineReply) → Taken (Compares k k') p (tokens_in x) → k'.same ≡ false → line_holds p z l k x ≡ false
  tokens-differ k' (line_reads ts z') m e = ap (λ (b : Bool). holds l (line_size * p.line) (line_record p.start p.first z) && b) (sym m.same ∙ e) ∙ and-false _
  tokens-differ k' (line_halts h) m e = refl

  -- the code answers that it does not read, which says something only while the words are the same
  pub not-read : (k' : Held) (x : LineReply) (r : code.Halt) (z' : State) → (not k'.same ≡ false → counted_of (Err r) z' ≡ counted x) → Taken (Compares k k') p (tokens_in x) → line_holds p z l k x ≡ false
  not-read k' x r z' v m = go k'.same refl
    where
      go : (b : Bool) → k'.same ≡ b → line_holds p z l k x ≡ false
      go true e = let h = no-line x r z' (v (ap not e)) in ap (line_holds p z l k) h.1
      go false e = tokens-differ k' x m e

-- The lines up to a place hold; a line is left, and does not.
module _ {lim : LineLimits} {t : List ℕ} {l₀ k₀ : Held} {p : Place} {z : State} {l k : Held} (v : HeldTo lim t l₀ k₀ p z l k) (h : p.start < length t)
    {lines tokens : List ℕ} (count total : ℕ) (sizes : (length lines ≡ line_need count) × (length tokens ≡ token_need total))
    (over_lines : (l₀.words.now ≡ lines) × (l₀.same ≡ true)) (over_tokens : (k₀.words.now ≡ tokens) × (k₀.same ≡ true)) where
  abbrev then : Held → ℕ → List ℕ → Held
  then s at xs = record { words = s.words; same = holds s at xs }

  pub fails : line_holds p z l k (read_line lim z (line_at t p.start)) ≡ false → false ≡ answer lines tokens lim t count total sizes
  fails e = go (read_line lim z (line_at t p.start)) refl e
    where
      go : (x : LineReply) → read_line lim z (line_at t p.start) ≡ x → line_holds p z l k x ≡ false → false ≡ answer lines tokens lim t count total sizes
      go (line_reads ts z') q d =
          differs
          (goes-on v h (record { at = p.start + size_at t p.start; tokens = length ts }) {z' = z'} {l' = then l (line_size * p.line) (line_record p.start p.first z)} {k' = then k (token_size * p.first) (token_words p.start (p.line + 1) ts)}
          (ts, q, refl, refl) (record { buffer = refl; same = refl }) (rw q (record { buffer = refl; same = refl })))
          count total sizes over_lines over_tokens d
      go (line_halts g) q d = unread_lem lines tokens lim t count total sizes v.es g (read-stuck lim _ t p.start v.es z v.pass.to g h q)
