-- Token kinds: 0 (KwFn) to 92 (Newline), in the order of `TokenKind`.
-- Assumes nothing.
use Rattle.std.specs.Prelude.{ℕ, suc, Bool, true, false, List, [], ◌∷◌, ltb}
use Prim.Native.String.{String}
use Rattle.rules.specs.Lists.{ascii, same}

-- a kind's number is its place in this list
unfoldable pub kind_names : List String
kind_names =
    "KwFn" ∷ "KwRequires" ∷ "KwEnsures" ∷ "KwInvariant" ∷ "KwRecord" ∷ "KwSchema" ∷ "KwEnum" ∷ "KwConst" ∷ "KwTrait" ∷ "KwImpl"
    ∷ "KwLet" ∷ "KwFor" ∷ "KwIn" ∷ "KwGuard" ∷ "KwIf" ∷ "KwElse" ∷ "KwIs" ∷ "KwWhile" ∷ "KwLoop" ∷ "KwBreak"
    ∷ "KwContinue" ∷ "KwWhere" ∷ "KwWith" ∷ "KwReturn" ∷ "KwMatch" ∷ "KwTrue" ∷ "KwFalse" ∷ "KwSystem" ∷ "KwEntity" ∷ "KwLaw"
    ∷ "KwWhen" ∷ "KwPulse" ∷ "KwProfile" ∷ "KwImport" ∷ "KwRef" ∷ "TyQuad" ∷ "TyBool" ∷ "TyI32" ∷ "TyU32" ∷ "TyFx"
    ∷ "TyF64" ∷ "QuadN" ∷ "QuadF" ∷ "QuadT" ∷ "QuadS" ∷ "Ident" ∷ "Num" ∷ "ByteLit" ∷ "String" ∷ "AndAnd"
    ∷ "OrOr" ∷ "PipeForward" ∷ "Pipe" ∷ "AndAndAssign" ∷ "OrOrAssign" ∷ "PlusAssign" ∷ "MinusAssign" ∷ "StarAssign" ∷ "SlashAssign" ∷ "PercentAssign"
    ∷ "Plus" ∷ "Minus" ∷ "Star" ∷ "Slash" ∷ "Percent" ∷ "Bang" ∷ "Arrow" ∷ "Implies" ∷ "FatArrow" ∷ "EqEq"
    ∷ "Ne" ∷ "Le" ∷ "Ge" ∷ "DotDot" ∷ "DotDotEq" ∷ "Assign" ∷ "LBrace" ∷ "RBrace" ∷ "LParen" ∷ "RParen"
    ∷ "Semi" ∷ "Comma" ∷ "Colon" ∷ "PathSep" ∷ "Dot" ∷ "LBracket" ∷ "RBracket" ∷ "LAngle" ∷ "RAngle" ∷ "Underscore"
    ∷ "Indent" ∷ "Dedent" ∷ "Newline" ∷ []

unfoldable pub place_in : List String → String → ℕ
place_in [] name = 0
place_in (n ∷ ns) name = elim (same (ascii n) (ascii name)) [ true ↦ 0 | false ↦ suc (place_in ns name) ]

-- the kind of this name
unfoldable pub kind_named : String → ℕ
kind_named name = place_in kind_names name

unfoldable pub is_kind : ℕ → Bool
is_kind k = ltb k 93

-- the kinds that the rules speak of; `kinds-named` shows that these are their numbers
abbrev pub ident : ℕ
ident = 45

abbrev pub num : ℕ
num = 46

abbrev pub byte_lit : ℕ
byte_lit = 47

abbrev pub str : ℕ
str = 48

abbrev pub implies : ℕ
implies = 67

abbrev pub l_paren : ℕ
l_paren = 78

abbrev pub r_paren : ℕ
r_paren = 79

abbrev pub indent : ℕ
indent = 90

abbrev pub dedent : ℕ
dedent = 91

abbrev pub newline : ℕ
newline = 92
