-- One line, read from a state. All places are offsets in the line, so that the reading of a line does not depend on where it stands.
-- Assumes nothing.
use Rattle.std.specs.Prelude.{ℕ, zero, suc, ◌+◌, ◌-◌, pred, Bool, false, ◌&&◌, ◌||◌, not, List, [], ◌∷◌, ◌++◌, ltb, eqb, length, drop, replicate, if◌then◌else◌}
use Prim.Native.Char.{code}
use Rattle.rules.specs.Lists.{ascii, begins, run, trim_end, last_d}
use Rattle.rules.specs.Kinds.{implies, l_paren, r_paren, indent, dedent, newline}
use Rattle.rules.specs.Tables.{is_blank}
use Rattle.rules.specs.Failure.{Failure, failure, bad_indent}
use Rattle.rules.specs.Limits.{LineLimits}
use Rattle.rules.specs.Cut.{Cut, blank, comment, ends, token, fails, cut, cut_rules}

-- the state before a line: bracket depth, whether an arrow is carried, and the widths of the open levels, outermost first
pub record State : Type 0 where
  pub depth : ℕ
  pub arrow : Bool
  pub widths : List ℕ

abbrev pub initial : State
initial = record { depth = 0; arrow = false; widths = [] }

pub record Token : Type 0 where
  pub kind : ℕ
  pub at : ℕ
  pub size : ℕ

abbrev pub token_at : (kind at size : ℕ) → Token
token_at k at n = record { kind = k; at = at; size = n }

-- Cutting a whole line.

-- the tokens cut, or the first failure
pub data Cuts : Type 0 where
  cuts : List Token → Cuts
  stops : Failure → Cuts

unfoldable pub with_token : Token → Cuts → Cuts
with_token t (cuts ts) = cuts (t ∷ ts)
with_token t (stops f) = stops f

abbrev pub moved_by : ℕ → Failure → Failure
moved_by at f = failure f.detail f.found (at + f.at) f.size

-- what a cut at an offset adds; `next n` cuts what follows n more bytes
unfoldable pub cut_step : ℕ → Cut → (ℕ → Cuts) → Cuts
cut_step at blank next = next 0
cut_step at comment next = cuts []
cut_step at ends next = cuts []
cut_step at (token k n) next = with_token (token_at k at n) (next (pred n))
cut_step at (fails f) next = stops (moved_by at f)

-- the cuts from an offset on; `skip` bytes of a token are still to be passed
unfoldable pub cuts_from : (at skip : ℕ) → List ℕ → Cuts
cuts_from at skip [] = cuts []
cuts_from at (suc skip) (b ∷ s) = cuts_from (suc at) skip s
cuts_from at zero (b ∷ s) = cut_step at (cut (b ∷ s)) (λ skip. cuts_from (suc at) skip s)

-- Levels.

unfoldable pub is_space : ℕ → Bool
is_space b = eqb b (code " ")

unfoldable pub is_tab : ℕ → Bool
is_tab b = eqb b (code "\t")

-- leading spaces count 1, tabs 4
unfoldable pub indent_width : List ℕ → ℕ
indent_width [] = 0
indent_width (b ∷ s) = if is_space b then 1 + indent_width s else if is_tab b then 4 + indent_width s else 0

-- leading spaces and tabs
unfoldable pub indent_size : List ℕ → ℕ
indent_size line = run (λ b. is_space b || is_tab b) line

-- what stands after leading spaces, tabs and CRs
unfoldable pub after_blanks : List ℕ → List ℕ
after_blanks line = drop (run is_blank line) line

unfoldable pub is_blank_line : List ℕ → Bool
is_blank_line line =
    eqb (length (after_blanks line)) 0 || (begins (ascii "#") (after_blanks line) || begins (ascii "//") (after_blanks line))

-- the line's width is compared with the innermost one
unfoldable pub is_compared : State → List ℕ → Bool
is_compared s line = not (is_blank_line line) && (eqb s.depth 0 && not s.arrow)

-- an Indent or Dedents, and the widths then open; or a width that is none of them; or a limit's refusal, by its number
pub data Levels : Type 0 where
  levels : List Token → List ℕ → Levels
  unequal : Levels
  beyond : (number : ℕ) → Levels

abbrev pub dedents : ℕ → List Token
dedents n = replicate n (token_at dedent 0 0)

-- wider: one Indent, the width pushed
unfoldable pub opened : LineLimits → (w : ℕ) → List ℕ → Levels
opened lim w had =
    if ltb (length had) lim.levels then levels (token_at indent 0 0 ∷ []) (had ++ (w ∷ [])) else beyond lim.too_deep_number

-- otherwise one Dedent for each width that is popped; what is left must end with the line's width
unfoldable pub closed : (w : ℕ) → (had left : List ℕ) → Levels
closed w had left = if eqb (last_d left 0) w then levels (dedents (length had - length left)) left else unequal

unfoldable pub compared : LineLimits → (w : ℕ) → List ℕ → Levels
compared lim w had = if ltb (last_d had 0) w then opened lim w had else closed w had (trim_end (ltb w) had)

unfoldable pub levels_of : LineLimits → State → List ℕ → Levels
levels_of lim s line = if is_compared s line then compared lim (indent_width line) s.widths else levels [] s.widths

-- The whole line.

-- +1 for each `(`, -1 for each `)` but not below 0
unfoldable pub depth_after : ℕ → List Token → ℕ
depth_after d [] = d
depth_after d (t ∷ ts) = depth_after (if eqb t.kind l_paren then suc d else if eqb t.kind r_paren then pred d else d) ts

-- the last token is `->`; without tokens, `a`
unfoldable pub arrow_after : (a : Bool) → List Token → Bool
arrow_after a [] = a
arrow_after a (t ∷ ts) = arrow_after (eqb t.kind implies) ts

-- why a line does not read: a failure at an offset in it, or a limit's refusal, by its number
pub data Halt : Type 0 where
  failed : Failure → Halt
  over_limit : (number : ℕ) → Halt

-- the line's tokens with the state after it, or why it does not read
pub data LineReply : Type 0 where
  line_reads : List Token → State → LineReply
  line_halts : Halt → LineReply

unfoldable pub with_cuts : State → List ℕ → List Token → List ℕ → Cuts → LineReply
with_cuts s line leading widths (stops f) = line_halts (failed f)
with_cuts s line leading widths (cuts ts) =
    line_reads (leading ++ (ts ++ (token_at newline (length line) 0 ∷ [])))
    (record { depth = depth_after s.depth ts; arrow = arrow_after false ts; widths = widths })

unfoldable pub with_levels : State → List ℕ → Levels → LineReply
with_levels s line (levels leading widths) = with_cuts s line leading widths (cuts_from 0 0 line)
with_levels s line unequal = line_halts (failed (failure bad_indent 0 0 (indent_size line)))
with_levels s line (beyond number) = line_halts (over_limit number)

-- a line without its LF, read from the state before it
unfoldable pub read_line : LineLimits → State → List ℕ → LineReply
read_line lim s line = with_levels s line (levels_of lim s line)

-- opens the definitions above, and those of the modules below, where a proof says `unfolding line_rules`
unfoldable pub line_rules : Unit {0}
unfolding with_token cut_step cuts_from is_space is_tab indent_width indent_size after_blanks is_blank_line is_compared opened closed compared
    levels_of depth_after arrow_after with_cuts with_levels read_line cut_rules
line_rules = tt
