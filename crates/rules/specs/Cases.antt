-- L1 to L11, computed from the rules and held by one theorem.
-- Assumes nothing.
use Rattle.std.specs.Prelude.{ℕ, zero, suc, ◌+◌, ◌≡◌, refl, List, [], ◌∷◌, ◌++◌, map, replicate}
use Prim.Native.String.{String}
use Prim.Native.Char.{code}
use Rattle.rules.specs.Lists.{ascii}
use Rattle.rules.specs.Kinds.{kind_named}
use Rattle.rules.specs.Replies.{numbered_unread, accepted}
use Rattle.rules.specs.Records.{FreshReading, recorded, unread, fresh_reading}
use Rattle.rules.specs.StopRule.{Edit, edited}
use Rattle.rules.specs.Edit.{reply_of, outcome, edit_rules}

pub record Case : Type 0 where
  pub got : List ℕ
  pub want : List ℕ

infix 40 ◌gives◌
abbrev pub ◌gives◌ : List ℕ → List ℕ → Case
got gives want = record { got = got; want = want }

-- a token record: kind, position, length, line, column
tok : String → (at size line column : ℕ) → List ℕ → List ℕ
tok name at size line column rest = kind_named name ∷ at ∷ size ∷ line ∷ column ∷ rest

-- 0 and the token records of a text, or its refusal
tokens_by : FreshReading → List ℕ
tokens_by (recorded r) = accepted r.tokens
tokens_by (unread u) = numbered_unread u

tokens_of : List ℕ → List ℕ
tokens_of t = tokens_by (fresh_reading t)

-- L2's text, and an edit of its page with room enough: the reply, then the edited text's tokens
l2 : List ℕ
l2 = ascii "a\n  b\n"

edit_l2 : Edit → List ℕ
edit_l2 ed = reply_of (outcome (record { text = 10; spare = 10; lines = 63; tokens = 30 }) l2 ed) ++ tokens_of (edited l2 ed)

put : (a b : ℕ) → String → Edit
put a b w = record { a = a; b = b; w = ascii w }

-- a line at width 0, one at width 1 and so on, n levels deep, and the tokens of its lines from number l at byte p on
indented_lines : ℕ → List ℕ
indented_lines zero = ascii "a\n"
indented_lines (suc n) = indented_lines n ++ (replicate (suc n) (code " ") ++ ascii "a\n")

indented_tokens : (count width p l : ℕ) → List ℕ → List ℕ
indented_tokens zero w p l rest = rest
indented_tokens (suc count) w p l rest =
    tok "Indent" p 0 l 1 (tok "Ident" (p + w) 1 l (suc w) (tok "Newline" (suc (p + w)) 0 l (2 + w) (indented_tokens count (suc w) (2 + p + w) (suc l) rest)))

closings : (count p l : ℕ) → List ℕ
closings zero p l = []
closings (suc count) p l = tok "Dedent" p 0 l 1 (closings count p l)

pub cases : List Case
cases =
    -- L1
    (tokens_of (ascii "") gives 0 ∷ [])
    -- L2
    ∷ (tokens_of l2 gives 0 ∷ tok "Ident" 0 1 1 1 (tok "Newline" 1 0 1 2
    (tok "Indent" 2 0 2 1 (tok "Ident" 4 1 2 3 (tok "Newline" 5 0 2 4 (tok "Dedent" 6 0 3 1 []))))))
    -- L3: E0002, expected '&&', found none, at 2, line 1, column 3, 2..3
    ∷ (tokens_of (ascii "a & b") gives 3 ∷ 2 ∷ 2 ∷ 0 ∷ 2 ∷ 1 ∷ 3 ∷ 2 ∷ 3 ∷ [])
    -- L4
    ∷ (tokens_of (ascii "f ->\n  x") gives 0 ∷ tok "Ident" 0 1 1 1 (tok "Implies" 2 2 1 3 (tok "Newline" 4 0 1 5
    (tok "Ident" 7 1 2 3 (tok "Newline" 8 0 2 4 [])))))
    ∷ (tokens_of (ascii "f ->\n# c\n  x") gives 0 ∷ tok "Ident" 0 1 1 1 (tok "Implies" 2 2 1 3 (tok "Newline" 4 0 1 5 (tok "Newline" 8 0 2 4
    (tok "Indent" 9 0 3 1 (tok "Ident" 11 1 3 3 (tok "Newline" 12 0 3 4 (tok "Dedent" 12 0 4 1 []))))))))
    -- L5: E0101, Bad Indent
    ∷ (tokens_of (ascii "  a\n b") gives 3 ∷ 101 ∷ 4 ∷ 0 ∷ 4 ∷ 2 ∷ 1 ∷ 4 ∷ 5 ∷ [])
    -- L6: E0001, \x escape above \x7F
    ∷ (tokens_of (ascii "b'\\x7F'") gives 0 ∷ tok "ByteLit" 0 7 1 1 (tok "Newline" 7 0 1 8 []))
    ∷ (tokens_of (ascii "b'\\x80'") gives 3 ∷ 1 ∷ 7 ∷ 0 ∷ 4 ∷ 1 ∷ 5 ∷ 4 ∷ 5 ∷ [])
    -- L7
    ∷ (tokens_of (ascii "\"a\\\"") gives 0 ∷ tok "String" 0 4 1 1 (tok "Newline" 4 0 1 5 []))
    -- L8: E0004, unterminated string literal
    ∷ (tokens_of (ascii "\"ab\r\n") gives 3 ∷ 4 ∷ 3 ∷ 0 ∷ 0 ∷ 1 ∷ 1 ∷ 0 ∷ 3 ∷ [])
    -- L9
    ∷ (tokens_of (ascii "1..2") gives 0 ∷ tok "Num" 0 1 1 1 (tok "DotDot" 1 2 1 2 (tok "Num" 3 1 1 4 (tok "Newline" 4 0 1 5 []))))
    ∷ (tokens_of (ascii "0x1f64") gives 0 ∷ tok "Num" 0 6 1 1 (tok "Newline" 6 0 1 7 []))
    -- L10: header and count, then the tokens
    ∷ (edit_l2 (put 0 1 "cc") gives 0 ∷ 7 ∷ 2 ∷ 6 ∷ 1 ∷ 0 ∷ tok "Ident" 0 2 1 1 (tok "Newline" 2 0 1 3
    (tok "Indent" 3 0 2 1 (tok "Ident" 5 1 2 3 (tok "Newline" 6 0 2 4 (tok "Dedent" 7 0 3 1 []))))))
    ∷ (edit_l2 (put 0 1 "a(") gives 0 ∷ 7 ∷ 2 ∷ 5 ∷ 2 ∷ 0 ∷ tok "Ident" 0 1 1 1 (tok "LParen" 1 1 1 2 (tok "Newline" 2 0 1 3
    (tok "Ident" 5 1 2 3 (tok "Newline" 6 0 2 4 [])))))
    -- L11
    ∷ (tokens_of (indented_lines 16) gives 0 ∷ tok "Ident" 0 1 1 1 (tok "Newline" 1 0 1 2 (indented_tokens 16 1 2 2 (closings 16 170 18))))
    ∷ (tokens_of (indented_lines 17) gives 4 ∷ 18 ∷ [])
    ∷ []

pub cases_hold : map (λ (c : Case). c.got) cases ≡ map (λ (c : Case). c.want) cases
unfolding cases tok tokens_by tokens_of l2 edit_l2 put indented_lines indented_tokens closings edit_rules
cases_hold = refl
