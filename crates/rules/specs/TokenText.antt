-- The text of a token: a part of the page's text or of the names, chosen by its kind.
-- Assumes nothing.
use Rattle.std.specs.Prelude.{ℕ, ◌+◌, ◌*◌, Bool, ◌||◌, not, List, [], ◌∷◌, ◌++◌, leb, ltb, eqb, length, get_or, take, drop, if◌then◌else◌}
use Rattle.std.proofs.Math.Option.{Option}
use Rattle.rules.specs.Lists.{ascii}
use Rattle.rules.specs.Kinds.{is_kind, indent, dedent, newline}
use Rattle.rules.specs.Replies.{Refusal, outside, unfit, Reply, numbered, accepted, text_buffer, names_buffer, refused_if, first_of, unless, room_test}
use Rattle.rules.specs.Records.{token_size}
use Rattle.rules.specs.Page.{Page, fits}

-- the names, one after the other
abbrev pub indent_name : List ℕ
indent_name = ascii "<INDENT>"

abbrev pub dedent_name : List ℕ
dedent_name = ascii "<DEDENT>"

abbrev pub newline_name : List ℕ
newline_name = ascii "\\n"

unfoldable pub names : List ℕ
names = indent_name ++ (dedent_name ++ newline_name)

abbrev pub names_size : ℕ
names_size = 18

-- a part of a buffer
pub record Part : Type 0 where
  pub buffer : ℕ
  pub start : ℕ
  pub size : ℕ

abbrev pub part : (buffer start size : ℕ) → Part
part b s n = record { buffer = b; start = s; size = n }

-- the kind alone decides which
unfoldable pub part_by : (kind position size : ℕ) → Part
part_by kind position size =
    if eqb kind indent then part names_buffer 0 (length indent_name)
    else if eqb kind dedent then part names_buffer (length indent_name) (length dedent_name)
    else if eqb kind newline then part names_buffer (length indent_name + length dedent_name) (length newline_name)
    else part text_buffer position size

-- word j of token i
unfoldable pub token_word : Page → (i j : ℕ) → ℕ
token_word pg i j = get_or pg.tokens (token_size * i + j) 0

-- the token has a kind above 92 or reaches past n
unfoldable pub is_unfit : Page → (i : ℕ) → Bool
is_unfit pg i = not (is_kind (token_word pg i 0)) || ltb pg.head.n (token_word pg i 1 + token_word pg i 2)

-- 7 (header), 6, 7 (token), 5 (names)
unfoldable pub part_tests : Page → (i names : ℕ) → List (Option Refusal)
part_tests pg i names =
    refused_if (not (fits pg)) unfit
    ∷ refused_if (leb pg.head.k i) outside
    ∷ refused_if (is_unfit pg i) unfit
    ∷ room_test names_buffer names names_size
    ∷ []

unfoldable pub part_of : Page → (i : ℕ) → Part
part_of pg i = part_by (token_word pg i 0) (token_word pg i 1) (token_word pg i 2)

abbrev pub part_words : Part → List ℕ
part_words p = p.buffer ∷ p.start ∷ p.size ∷ []

-- where the text of token i stands, with a names slice of this length
unfoldable pub token_text_reply : Page → (i names : ℕ) → Reply
token_text_reply pg i names = unless (first_of (part_tests pg i names)) numbered (accepted (part_words (part_of pg i)))

-- the number that this reply begins with: 0, or the refusal's
unfoldable pub token_text_number : Page → (i names : ℕ) → ℕ
token_text_number pg i names = get_or (token_text_reply pg i names) 0 0

-- the bytes of a part of the text or of the names
unfoldable pub part_bytes : (text names : List ℕ) → Part → List ℕ
part_bytes text names p = take p.size (drop p.start (if eqb p.buffer text_buffer then text else names))

-- the part itself; the empty one where the reply is a refusal
unfoldable pub token_text : Page → (i : ℕ) → (names : List ℕ) → List ℕ
token_text pg i names = unless (first_of (part_tests pg i (length names))) (λ r. []) (part_bytes pg.text names (part_of pg i))
