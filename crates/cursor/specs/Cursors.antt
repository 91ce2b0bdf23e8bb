-- How far a line is cut, as the code has it.
-- Assumes nothing.
use Rattle.std.specs.Prelude.{ℕ, suc, pred, ◌+◌, false, eqb, if◌then◌else◌}
use Rattle.rules.specs.Kinds.{implies, l_paren, r_paren}
use Rattle.cursor.specs.declared.Cursor.{Cursor}

-- the depth that a token of this kind leaves
unfoldable pub depth_by : (depth kind : ℕ) → ℕ
depth_by d k = if eqb k l_paren then suc d else if eqb k r_paren then pred d else d

-- the cursor before the first token, past a blank byte, and past a token of this kind and length
abbrev pub cursor_at : (at depth : ℕ) → Cursor
cursor_at at depth = record { at = at; n = 0; depth = depth; arrow = false }

abbrev pub blank_past : Cursor → Cursor
blank_past t = record { at = t.at + 1; n = t.n; depth = t.depth; arrow = t.arrow }

abbrev pub token_past : Cursor → (kind size : ℕ) → Cursor
token_past t kind size = record { at = t.at + size; n = t.n + 1; depth = depth_by t.depth kind; arrow = eqb kind implies }
