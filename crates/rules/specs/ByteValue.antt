-- The value of a byte literal, as `ascii_byte_literal_value` gives it.
-- Assumes nothing.
use Rattle.std.specs.Prelude.{ℕ, ◌+◌, ◌-◌, ◌*◌, pred, not, List, [], ◌∷◌, ltb, eqb, length, take, drop, if◌then◌else◌}
use Prim.Native.Char.{code}
use Rattle.std.proofs.Math.Option.{Option, none, some}
use Rattle.rules.specs.Lists.{within, ascii, elem, begins, last_d}
use Rattle.rules.specs.Tables.{is_digit, is_hex_digit}
use Rattle.rules.specs.Replies.{Reply, numbered, accepted, first_of, unless, long_test, form_test}

unfoldable pub hex_value : ℕ → ℕ
hex_value d = if is_digit d then d - code "0" else if within (code "A") (code "F") d then 10 + (d - code "A") else 10 + (d - code "a")

-- a value up to 7F, or none
unfoldable pub ascii_value : ℕ → Option ℕ
ascii_value v = if ltb v 0x80 then some v else none

-- `0` `t` `n` `r`, and `'` `\` `"`, which are worth themselves
unfoldable pub escape_value : ℕ → Option ℕ
escape_value e =
    if eqb e (code "0") then some 0
    else if eqb e (code "t") then some 9
    else if eqb e (code "n") then some 10
    else if eqb e (code "r") then some 13
    else if elem e (ascii "'\\\"") then some e
    else none

-- two hex digits, or `+` and one
unfoldable pub hex_pair : ℕ → ℕ → Option ℕ
hex_pair h l =
    if not (is_hex_digit l) then none
    else if is_hex_digit h then ascii_value (16 * hex_value h + hex_value l)
    else if eqb h (code "+") then some (hex_value l)
    else none

-- what stands between the quotes
unfoldable pub inner_value : List ℕ → Option ℕ
inner_value [] = none
inner_value (c ∷ []) = ascii_value c
inner_value (x ∷ e ∷ []) = if eqb x (code "\\") then escape_value e else none
inner_value (x ∷ y ∷ z ∷ []) = none
inner_value (x ∷ y ∷ h ∷ l ∷ []) = if begins (ascii "\\x") (x ∷ y ∷ []) then hex_pair h l else none
inner_value (x ∷ y ∷ z ∷ u ∷ v ∷ s) = none

-- less a closing quote, which must be there
unfoldable pub closed_value : List ℕ → Option ℕ
closed_value s = if eqb (last_d s 0) (code "'") then inner_value (take (pred (length s)) s) else none

unfoldable pub literal_value : List ℕ → Option ℕ
literal_value t = if begins (ascii "b'") t then closed_value (drop 2 t) else none

-- 1 and the value, or 0 for none
unfoldable pub value_words : Option ℕ → List ℕ
value_words none = 0 ∷ []
value_words (some v) = 1 ∷ v ∷ []

-- after 1 and 2
unfoldable pub value_reply : List ℕ → Reply
value_reply t = unless (first_of (long_test t ∷ form_test t ∷ [])) numbered (accepted (value_words (literal_value t)))

-- opens the definitions above where a proof says `unfolding value_rules`
unfoldable pub value_rules : Unit {0}
unfolding hex_value ascii_value escape_value hex_pair inner_value closed_value literal_value value_words value_reply
value_rules = tt
