-- Two mistakes that pass a quick look, shut out by computing small cases.
-- Assumes nothing.
use Rattle.std.specs.Prelude.{◌≡◌, refl, List, [], ◌∷◌, ◌++◌, map, replicate}
use Rattle.rules.specs.Lists.{ascii, bit}
use Rattle.rules.specs.Kinds.{ident, str, newline}
use Rattle.rules.specs.Records.{header, header_words}
use Rattle.rules.specs.Page.{Page, Lent, sizes, is_faithful, fresh_lent}
use Rattle.rules.specs.StopRule.{Edit}
use Rattle.rules.specs.Edit.{edit_rules}
use Rattle.rules.specs.Read.{filled_by, read_into}
use Rattle.rules.specs.History.{text_after, paper_next, paper_lent}

-- positions and columns count bytes: a string of one scalar of two bytes, and a word behind it
pub columns_in_bytes : (read_into (ascii "\"" ++ (0xC3 ∷ 0xA9 ∷ ascii "\" x")) (replicate 42 0) (replicate 15 0)).tokens
    ≡ str ∷ 0 ∷ 4 ∷ 1 ∷ 1 ∷ ident ∷ 5 ∷ 1 ∷ 1 ∷ 6 ∷ newline ∷ 6 ∷ 0 ∷ 1 ∷ 7 ∷ []
unfolding read_into filled_by edit_rules
columns_in_bytes = refl

-- the fresh page, and the page after one edit and after two: 1 if it is faithful, then n, m and k
buffers : Lent
buffers =
    record {
      page = record { head = header 0 0 0; text = replicate 8 0; lines = replicate 63 0; tokens = replicate 30 0 };
      spare = replicate 8 0;
    }

line : Edit
line = record { a = 0; b = 0; w = ascii "a\n" }

pub pages_after : List Page
pages_after = map (λ (es : List Edit). (paper_lent (sizes buffers) (fresh_lent buffers) [] es).page) ([] ∷ (line ∷ []) ∷ (line ∷ line ∷ []) ∷ [])

pub mended-each_time : map (λ (pg : Page). bit (is_faithful pg) ∷ header_words pg.head) pages_after
    ≡ (1 ∷ 0 ∷ 0 ∷ 0 ∷ []) ∷ (1 ∷ 2 ∷ 1 ∷ 2 ∷ []) ∷ (1 ∷ 4 ∷ 2 ∷ 4 ∷ []) ∷ []
unfolding buffers line pages_after text_after paper_next paper_lent edit_rules
mended-each_time = refl
