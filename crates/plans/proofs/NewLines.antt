-- How many bytes, lines and tokens the lines have that a plan writes.
-- Assumes nothing.
use Rattle.std.proofs.Common.{ℕ, ◌≡◌, ◌+◌, ◌∙◌, refl, true, List, [], ◌∷◌, Option, Some, None, is_some, length, length-append, add-zero, arith}
use lib.ListN.{length-replicate}
use Rattle.rules.specs.Line.{State, token_at}
use Rattle.rules.specs.Reading.{Entry, Reading, reads, byte_sum, token_sum}
use Rattle.rules.specs.Records.{end_entry, with_end}
use Rattle.rules.proofs.ReadingLaws.{byte_sum_append, token_sum_append}
use Rattle.plans.specs.Plans.{end_lines, end_tokens, new_lines, ReadsAs}
use Rattle.plans.specs.declared.Plan.{Plan}

pub sum-end : (es : List Entry) (z : State) → byte_sum (with_end es z) ≡ byte_sum es
unfolding byte_sum
sum-end es z = byte_sum_append es (end_entry z ∷ []) ∙ add-zero (byte_sum es)

pub length_end : (es : List Entry) (z : State) → length (with_end es z) ≡ length es + 1
length_end es z = length-append es (end_entry z ∷ [])

tokens_end : (es : List Entry) (z : State) → token_sum (with_end es z) ≡ token_sum es + length z.widths
unfolding token_sum
tokens_end es z = omega (arith, token_sum_append es (end_entry z ∷ []), length-replicate (length z.widths) (token_at 91 0 0))

pub new_sizes : (p : Plan) (x : Reading) → ReadsAs p x → let new = new_lines p.end x in
    (byte_sum new ≡ p.read.bytes) × (length new ≡ p.read.lines + end_lines p.end) × (token_sum new ≡ p.read.tokens + end_tokens p.end)
new_sizes p x r = rw r.reads-are (go p.end r.levels)
  where
    go : (end : Option ℕ) → ((levels : ℕ) → end ≡ Some levels → levels ≡ length r.last.widths) → let new = new_lines end (reads r.entries r.last) in
        (byte_sum new ≡ p.read.bytes) × (length new ≡ p.read.lines + end_lines end) × (token_sum new ≡ p.read.tokens + end_tokens end)
    go None f = (r.bytes, omega (arith, r.lines), omega (arith, r.tokens))
    go (Some levels) f = (
      sum-end r.entries r.last ∙ r.bytes,
      omega (arith, r.lines, length_end r.entries r.last),
      omega (arith, r.tokens, tokens_end r.entries r.last, f levels refl),
    )

-- where the end is written anew, it has a token for each level that is open there
pub levels_are : (p : Plan) (x : Reading) (r : ReadsAs p x) → is_some p.end ≡ true → end_tokens p.end ≡ length r.last.widths
levels_are p x r = go p.end r.levels
  where
    go : (end : Option ℕ) → ((levels : ℕ) → end ≡ Some levels → levels ≡ length r.last.widths) → is_some end ≡ true → end_tokens end ≡ length r.last.widths
    go None f e = cc
    go (Some levels) f e = f levels refl
