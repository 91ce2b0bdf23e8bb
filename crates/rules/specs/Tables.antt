-- Byte classes, keyword spellings and signs.
-- Assumes nothing.
use Rattle.std.specs.Prelude.{ℕ, Bool, ◌||◌, List, [], ◌∷◌, eqb, if◌then◌else◌}
use Prim.Native.String.{String}
use Prim.Native.Char.{code}
use Rattle.rules.specs.Lists.{within, ascii, elem, same}
use Rattle.rules.specs.Utf8.{utf8_rules}
use Rattle.rules.specs.Kinds.{kind_names, place_in, kind_named, is_kind, ident}

-- Bytes.

unfoldable pub is_blank : ℕ → Bool
is_blank b = elem b (ascii " \t\r")

unfoldable pub is_cr : ℕ → Bool
is_cr b = eqb b (code "\r")

unfoldable pub is_digit : ℕ → Bool
is_digit b = within (code "0") (code "9") b

unfoldable pub is_letter : ℕ → Bool
is_letter b = within (code "A") (code "Z") b || within (code "a") (code "z") b

unfoldable pub is_hex_digit : ℕ → Bool
is_hex_digit b = is_digit b || (within (code "A") (code "F") b || within (code "a") (code "f") b)

-- the bytes that signs begin with
unfoldable pub is_sign : ℕ → Bool
is_sign b = elem b (ascii "{}()[];,:._!=<>&|+*%/-")

-- The classes of the 256 byte values.

abbrev pub blank_class : ℕ
blank_class = 0

abbrev pub hash_class : ℕ
hash_class = 1

abbrev pub letter_class : ℕ
letter_class = 2

abbrev pub digit_class : ℕ
digit_class = 3

abbrev pub quote_class : ℕ
quote_class = 4

abbrev pub sign_class : ℕ
sign_class = 5

abbrev pub other_class : ℕ
other_class = 6

unfoldable pub class_of : ℕ → ℕ
class_of b =
    if is_blank b then blank_class
    else if eqb b (code "#") then hash_class
    else if is_letter b then letter_class
    else if is_digit b then digit_class
    else if eqb b (code "\"") then quote_class
    else if is_sign b then sign_class
    else other_class

-- Spellings.

pub record Spelling : Type 0 where
  pub bytes : List ℕ
  pub kind : ℕ

infix 70 ◌is◌
abbrev pub ◌is◌ : String → String → Spelling
s is name = record { bytes = ascii s; kind = kind_named name }

-- the 46 spellings of `tokenize_line`, in its order
unfoldable pub keywords : List Spelling
keywords =
    "fn" is "KwFn" ∷ "requires" is "KwRequires" ∷ "ensures" is "KwEnsures" ∷ "invariant" is "KwInvariant"
    ∷ "record" is "KwRecord" ∷ "schema" is "KwSchema" ∷ "enum" is "KwEnum" ∷ "const" is "KwConst"
    ∷ "trait" is "KwTrait" ∷ "impl" is "KwImpl" ∷ "let" is "KwLet" ∷ "for" is "KwFor" ∷ "in" is "KwIn"
    ∷ "guard" is "KwGuard" ∷ "if" is "KwIf" ∷ "else" is "KwElse" ∷ "is" is "KwIs" ∷ "when" is "KwWhen"
    ∷ "while" is "KwWhile" ∷ "loop" is "KwLoop" ∷ "break" is "KwBreak" ∷ "continue" is "KwContinue"
    ∷ "where" is "KwWhere" ∷ "with" is "KwWith" ∷ "return" is "KwReturn" ∷ "match" is "KwMatch"
    ∷ "true" is "KwTrue" ∷ "false" is "KwFalse" ∷ "System" is "KwSystem" ∷ "Entity" is "KwEntity"
    ∷ "Law" is "KwLaw" ∷ "When" is "KwWhen" ∷ "Pulse" is "KwPulse" ∷ "Profile" is "KwProfile"
    ∷ "Import" is "KwImport" ∷ "ref" is "KwRef" ∷ "quad" is "TyQuad" ∷ "bool" is "TyBool" ∷ "i32" is "TyI32"
    ∷ "u32" is "TyU32" ∷ "fx" is "TyFx" ∷ "f64" is "TyF64" ∷ "N" is "QuadN" ∷ "F" is "QuadF" ∷ "T" is "QuadT"
    ∷ "S" is "QuadS" ∷ []

-- the signs, longest first
unfoldable pub signs : List Spelling
signs =
    "..=" is "DotDotEq" ∷ "&&=" is "AndAndAssign" ∷ "||=" is "OrOrAssign"
    ∷ "::" is "PathSep" ∷ ":=" is "Assign" ∷ ".." is "DotDot" ∷ "!=" is "Ne" ∷ "==" is "EqEq" ∷ "=>" is "FatArrow"
    ∷ "<=" is "Le" ∷ ">=" is "Ge" ∷ "&&" is "AndAnd" ∷ "||" is "OrOr" ∷ "|>" is "PipeForward" ∷ "+=" is "PlusAssign"
    ∷ "*=" is "StarAssign" ∷ "%=" is "PercentAssign" ∷ "/=" is "SlashAssign" ∷ "->" is "Implies" ∷ "-=" is "MinusAssign"
    ∷ "{" is "LBrace" ∷ "}" is "RBrace" ∷ "(" is "LParen" ∷ ")" is "RParen" ∷ "[" is "LBracket" ∷ "]" is "RBracket"
    ∷ ";" is "Semi" ∷ "," is "Comma" ∷ ":" is "Colon" ∷ "." is "Dot" ∷ "_" is "Underscore" ∷ "!" is "Bang"
    ∷ "=" is "Assign" ∷ "<" is "LAngle" ∷ ">" is "RAngle" ∷ "|" is "Pipe" ∷ "+" is "Plus" ∷ "*" is "Star"
    ∷ "%" is "Percent" ∷ "/" is "Slash" ∷ "-" is "Minus" ∷ []

-- the kind of a word: that of the first spelling which is the word, otherwise Ident
unfoldable pub word_kind : List Spelling → List ℕ → ℕ
word_kind [] w = ident
word_kind (k ∷ ks) w = if same k.bytes w then k.kind else word_kind ks w

-- opens the definitions above, and those of the modules below, where a proof says `unfolding table_rules`
unfoldable pub table_rules : Unit {0}
unfolding kind_names place_in kind_named is_kind is_blank is_cr is_digit is_letter is_hex_digit is_sign class_of keywords signs word_kind utf8_rules
table_rules = tt
