-- A line or a text that a limit refuses is refused with one of the limits' numbers.
-- Assumes nothing.
use Prim.Native.Nat.{ℕ}
use mathlib.Core.Path.{◌≡◌, subst}
use mathlib.Core.List.{List, [], ◌∷◌}
use lib.Dec.{ltb, eqb}
use lib.ListN.{length}
use Rattle.rules.specs.Lists.{trim_end, last_d}
use Rattle.rules.specs.Limits.{LineLimits, LimitNumber, deep_number}
use Rattle.rules.specs.Line.{State, Token, Cuts, cuts, stops, cuts_from, indent_width, is_compared, Levels, levels, unequal, beyond, opened, closed, compared, levels_of, Halt, failed, over_limit, LineReply, line_reads, line_halts, with_cuts, with_levels, read_line}
use Rattle.rules.specs.Reading.{Line, content, Entry, entry, Reading, reads, halts, with_entry, line_then, read_from}
use Rattle.rules.proofs.ListLaws.{if_by}

abbrev LevelsNumbered : LineLimits → Levels → Type 0
LevelsNumbered lim (levels lead now) = Unit {0}
LevelsNumbered lim unequal = Unit {0}
LevelsNumbered lim (beyond number) = LimitNumber lim number

compared-numbered : (lim : LineLimits) (w : ℕ) (had : List ℕ) → LevelsNumbered lim (compared lim w had)
unfolding compared opened closed
compared-numbered lim w had =
    if_by (LevelsNumbered lim) (ltb (last_d had 0) w)
    (λ _. if_by (LevelsNumbered lim) (ltb (length had) lim.levels) (λ _. tt) (λ _. deep_number))
    (λ _. if_by (LevelsNumbered lim) (eqb (last_d (trim_end (ltb w) had) 0) w) (λ _. tt) (λ _. tt))

levels-numbered : (lim : LineLimits) (s : State) (l : List ℕ) → LevelsNumbered lim (levels_of lim s l)
unfolding levels_of
levels-numbered lim s l =
    if_by (LevelsNumbered lim) (is_compared s l) (λ _. compared-numbered lim (indent_width l) s.widths) (λ _. tt)

abbrev pub HaltNumbered : LineLimits → Halt → Type 0
HaltNumbered lim (failed f) = Unit {0}
HaltNumbered lim (over_limit number) = LimitNumber lim number

abbrev ReplyNumbered : LineLimits → LineReply → Type 0
ReplyNumbered lim (line_reads ts z) = Unit {0}
ReplyNumbered lim (line_halts h) = HaltNumbered lim h

line-numbered : (lim : LineLimits) (s : State) (l : List ℕ) → ReplyNumbered lim (read_line lim s l)
unfolding read_line with_levels with_cuts
line-numbered lim s l = by-levels (levels_of lim s l) (levels-numbered lim s l)
  where
    by-cuts : (lead : List Token) (now : List ℕ) (c : Cuts) → ReplyNumbered lim (with_cuts s l lead now c)
    by-cuts lead now (cuts ts) = tt
    by-cuts lead now (stops f) = tt

    by-levels : (v : Levels) → LevelsNumbered lim v → ReplyNumbered lim (with_levels s l v)
    by-levels (levels lead now) h = by-cuts lead now (cuts_from 0 0 l)
    by-levels unequal h = tt
    by-levels (beyond number) h = h

abbrev ReadingNumbered : LineLimits → Reading → Type 0
ReadingNumbered lim (reads es z) = Unit {0}
ReadingNumbered lim (halts es h) = HaltNumbered lim h

read-numbered : (lim : LineLimits) (s : State) (ls : List Line) → ReadingNumbered lim (read_from lim s ls)
unfolding read_from line_then with_entry
read-numbered lim s [] = tt
read-numbered lim s (l ∷ ls) = by-line (λ z. read-numbered lim z ls) (read_line lim s (content l)) (line-numbered lim s (content l))
  where
    by-rest : (e : Entry) (x : Reading) → ReadingNumbered lim x → ReadingNumbered lim (with_entry e x)
    by-rest e (reads es z) k = tt
    by-rest e (halts es h) k = k

    by-line : ((z : State) → ReadingNumbered lim (read_from lim z ls)) → (x : LineReply) → ReplyNumbered lim x
        → ReadingNumbered lim (line_then s l x (λ z. read_from lim z ls))
    by-line ih (line_reads ts z) k = by-rest (entry s (length l) ts) (read_from lim z ls) (ih z)
    by-line ih (line_halts h) k = k

pub halt_numbered : (lim : LineLimits) (s : State) (ls : List Line) (es : List Entry) (h : Halt) → read_from lim s ls ≡ halts es h → HaltNumbered lim h
halt_numbered lim s ls es h e = subst (ReadingNumbered lim) e (read-numbered lim s ls)
