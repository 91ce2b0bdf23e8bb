-- The loop that reads on: what holds so far, one line more, and each end.
-- Assumes nothing.
use Rattle.std.proofs.Common.{ℕ, ◌≡◌, ◌+◌, ◌*◌, ◌≤◌, ◌<◌, sym, ◌∙◌, Bool, true, false, List, [], ◌∷◌, ◌++◌, length, arith, Option, Some, Result, Ok, Err}
use Rattle.rules.specs.Line.{State, read_line}
use Rattle.rules.specs.Limits.{max_levels, LineLimits}
use Rattle.rules.specs.Reading.{Entry, entry, lines_of, read_from, byte_sum, token_sum, line_at, size_at}
use Rattle.rules.specs.Records.{line_size, token_size, line_record, line_records, token_records}
use Rattle.rules.proofs.LoopLaws.{read-end}
use Rattle.records.specs.Sinks.{Fits, RecordSinkLaws}
use Rattle.records.specs.declared.Counts.{Counts}
use Rattle.records.specs.declared.Place.{Place}
use Rattle.records.proofs.RecordTakes.{then-takes}
use Rattle.refusals.specs.declared.Unread.{Unread}
use Rattle.line.specs.LineCuts.{tokens_in, tokens_end, state_left, Taken}
use Rattle.lines.specs.Steps.{StepIs}
use Rattle.lines.specs.declared.Next.{Next}
use Rattle.lines.proofs.Lines.{grown, size-inside, next-pass}
use Rattle.rereading.specs.Words.{stops_at}
use Rattle.rereading.specs.Rereads.{RereadIs}
use Rattle.rereading.specs.Sinks.{line_records_end, token_records_end, Few, AllTaken}
use Rattle.rereading.specs.declared.StopRule.{StopRule}
use Rattle.rereading.specs.declared.Reached.{Reached}
use Rattle.rereading.specs.declared.Reached.TheVariants.{Stop, End}
use Rattle.rereading.proofs.Rereads.{ComeTo, ComparedWith, come_start, stopped, next_come, halted, ended}
use Rattle.rereading.proofs.Rooms.{line_place, line_then, token_place, token_then, few-next, line-room-next, token-room-next}

-- where the next line's records go
abbrev pub place-after : Place → Counts → Place
place-after p c = record { line = p.line + c.lines; first = p.first + c.tokens; start = p.start + c.bytes }

module _ (lim : LineLimits) (text old : List ℕ) (stop : StopRule) (place : Place) (z₀ : State) where
  abbrev pub Answers : State → Result Reached Unread → Type 0
  Answers = RereadIs lim text old place.start place.line stop.count stop.from stop.end stop.kept z₀

  abbrev pub NextIs : (c : Counts) (z z' : State) → Result Next Unread → Type 0
  NextIs c z z' = StepIs z' (place.start + c.bytes) (place.line + c.lines + 1) (c.bytes + size_at text c.bytes) (read_line lim z (line_at text c.bytes))

-- so far the lines are read, none is a stop, and their records are taken
pub record Loop (lim : LineLimits) (text old : List ℕ) (stop : StopRule) (place : Place) (z₀ : State) {S : Type 0} (takes : S → S → ℕ → List ℕ → Type 0) (lines₀ tokens₀ : S)
    (c : Counts) (j : ℕ) (z : State) (lines tokens : S) : Type 0 where
  pub es : List Entry
  pub come : ComeTo lim text old place.start place.line stop.count stop.from stop.end stop.kept z₀ es c j z
  pub line-words : takes lines₀ lines (line_size * place.line) (line_records place.start place.first es)
  pub token-words : takes tokens₀ tokens (token_size * place.first) (token_records place.start (place.line + 1) es)

module _ {lim : LineLimits} {text old : List ℕ} {stop : StopRule} {place : Place} {z₀ : State} {S : Type 0} {takes : S → S → ℕ → List ℕ → Type 0} {lines₀ tokens₀ : S}
    (text_bound : (place.start + length text ≤ 1_048_576) × ((place.line ≤ place.start) × ((stop.from ≤ stop.count) × (stop.end ≤ 4_294_967_295))))
    (state_bound : (z₀.depth ≤ place.start) × (length z₀.widths ≤ max_levels)) where
  pub begun : {room : S → Option ℕ} {named : Bool} → RecordSinkLaws room takes named
      → Loop lim text old stop place z₀ takes lines₀ tokens₀ (record { bytes = 0; lines = 0; tokens = 0 }) stop.from z₀ lines₀ tokens₀
  unfolding line_records token_records
  begun laws =
      record { es = []; come = come_start z₀ state_bound.1 text_bound.1.1.0; line-words = laws.taken-nothing lines₀ (line_size * place.line); token-words = laws.taken-nothing tokens₀ (token_size * place.first) }

  module _ {c : Counts} {j : ℕ} {z : State} {lines tokens : S} (l : Loop lim text old stop place z₀ takes lines₀ tokens₀ c j z lines tokens) where
    pub far : (place.start + c.bytes ≤ 1_048_576) × (place.line + c.lines ≤ 1_048_576) × (z.depth ≤ 1_048_576) × (c.tokens ≤ 3_000_000)
    far =
        let g = grown l.come.pass in
        let p = l.come.pass in (
          omega (arith, text_bound.0, p.inside),
          omega (arith, text_bound.0, text_bound.1.0, g.lines, p.count, p.inside),
          omega (arith, text_bound.0, state_bound.0, g.depth, p.inside),
          omega (arith, text_bound.0, state_bound.1, g.tokens, p.sum, p.inside),
        )

    pub finished : lim.levels ≤ max_levels → length text ≤ c.bytes
        → Answers lim text old stop place z₀ z (Ok (End c)) × AllTaken (takes lines₀ lines) (takes tokens₀ tokens) place (read_from lim z₀ (lines_of text))
    finished few h = (ended l.come few h, rw (read-end lim z₀ text c.bytes l.es z l.come.pass.to h) (l.line-words, l.token-words))

    module _ (h : c.bytes < length text) where
      pub next-few : Few (read_from lim z₀ (lines_of text)) place.first → place.first + c.tokens ≤ 3_000_000
      next-few f = few-next l.come.pass h place.first f far.3

      pub line_room : {room : S → Option ℕ} {named : Bool} → RecordSinkLaws room takes named → Fits (room lines₀) (line_records_end place (read_from lim z₀ (lines_of text)))
          → Fits (room lines) (Some (line_size * (place.line + c.lines) + line_size))
      line_room laws = line-room-next l.come.pass h laws place l.line-words

      pub token_room : {room : S → Option ℕ} {named : Bool} → RecordSinkLaws room takes named → Fits (room tokens₀) (token_records_end place (read_from lim z₀ (lines_of text)))
          → Fits (room tokens) (tokens_end (place-after place c) (tokens_in (read_line lim z (line_at text c.bytes))))
      token_room laws = token-room-next l.come.pass h laws place l.token-words

      pub smaller : {z' : State} (n : Next) → NextIs lim text old stop place z₀ c z z' (Ok n) → (c.bytes < n.at) × (n.at ≤ length text) × (c.tokens + n.tokens ≤ 3_000_000)
      smaller n x =
          let v = next-pass l.come.pass h x.0 _ n.tokens n.at x.1 x.2 x.3 in
          let size = size-inside l.come.pass h in
          (omega (arith, x.3, size.0), v.inside, omega (arith, (grown v).tokens, v.sum, v.inside, text_bound.0, state_bound.1))

      -- the levels are few
      module _ (few : lim.levels ≤ max_levels) where
        pub breaks : (z' : State) (u : Unread) → NextIs lim text old stop place z₀ c z z' (Err u) → z' ≡ state_left lim z (line_at text c.bytes) → Answers lim text old stop place z₀ z' (Err u)
        breaks z' u x e = halted l.come few h x.0 x.1 u x.2 z' e

        module _ (r : ℕ) (hr : ComparedWith lim text old place.start place.line stop.count stop.from stop.end stop.kept z₀ c.bytes j r) (hm : r ≤ stop.count) where
          pub stops : {b : Bool} → b ≡ stops_at old r stop.end stop.kept (place.start + c.bytes) z → b ≡ true → Answers lim text old stop place z₀ z (Ok (Stop c r))
          stops a e = stopped l.come few h r hr hm (sym a ∙ e)

          pub goes_on : {room : S → Option ℕ} {named : Bool} → RecordSinkLaws room takes named → {b : Bool} → b ≡ stops_at old r stop.end stop.kept (place.start + c.bytes) z → b ≡ false → {z' : State} (n : Next) → NextIs lim text old stop place z₀ c z z' (Ok n)
              → {lines' tokens' : S} → takes lines lines' (line_size * (place.line + c.lines)) (line_record (place.start + c.bytes) (place.first + c.tokens) z)
              → Taken (takes tokens tokens') (place-after place c) (tokens_in (read_line lim z (line_at text c.bytes)))
              → Loop lim text old stop place z₀ takes lines₀ tokens₀ (record { bytes = n.at; lines = c.lines + 1; tokens = c.tokens + n.tokens }) r z' lines' tokens'
          goes_on laws a e {z'} n x ml mt =
              let p = l.come.pass in
              let hp : place.start + byte_sum l.es ≡ place.start + c.bytes = omega (arith, p.to.bytes) in
              let hk : place.first + token_sum l.es ≡ place.first + c.tokens = omega (arith, p.sum) in
              let y : Entry = entry z (size_at text c.bytes) x.0 in
              record {
                es = l.es ++ (y ∷ []);
                come = next_come l.come few h r hr hm (sym a ∙ e) n.at n.tokens z' x.0 x.1 x.2 x.3;
                line-words = then-takes laws l.line-words (line_place place.start place.line place.first l.es y c.lines _ _ p.count hp hk) ml
                    (line_then place.start place.line place.first l.es y c.lines _ _ p.count hp hk);
                token-words = then-takes laws l.token-words (token_place place.start place.line place.first l.es y c.lines _ _ p.count hp hk) (rw x.1 at mt)
                    (token_then place.start place.line place.first l.es y c.lines _ _ p.count hp hk);
              }
