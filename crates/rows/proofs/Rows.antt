-- Rows: their fields, each a label with its number, and the rows of several tokens one after another.
-- Assumes nothing.
use Prim.Native.Nat.{ℕ, zero, suc, ◌+◌, ◌-◌, ◌*◌, ◌/◌, ◌≤◌, ◌<◌}
use mathlib.Core.Path.{◌≡◌, refl, sym, ap, ◌∙◌}
use mathlib.Core.List.{List, [], ◌∷◌, ◌++◌, append_assoc, append-nil}
use native.Mathlib.Omega.{arith}
use lib.ListN.{length, get_or, take, drop, length-take, length-drop}
use lib.Seq.{drop-drop, get_or-take}
use Rattle.std.specs.Simd.{first_chunks}
use Rattle.rules.specs.Lists.{ascii, concat}
use Rattle.rules.specs.Records.{token_size, Header}
use Rattle.rules.specs.Report.{decimal}
use Rattle.rules.specs.Scan.{page_row, token_row, token_rows, refused_row}

-- The fields of each row.

abbrev pub token_fields : List ℕ → List (List ℕ)
token_fields ws =
    (ascii "(tok " ++ decimal (get_or ws 0 0)) ∷ (ascii " (at " ++ decimal (get_or ws 1 0)) ∷ (ascii " " ++ decimal (get_or ws 3 0)) ∷ (ascii " " ++ decimal (get_or ws 4 0))
    ∷ (ascii ") (len " ++ decimal (get_or ws 2 0)) ∷ ascii "))\n" ∷ []

pub token-fields : (ws : List ℕ) → token_row ws ≡ concat (token_fields ws)
unfolding token_row concat
token-fields ws = refl

abbrev pub page_fields : Header → List (List ℕ)
page_fields h =
    (ascii "(page (bytes " ++ decimal h.n) ∷ (ascii ") (lines " ++ decimal h.m) ∷ (ascii ") (tokens " ++ decimal h.k) ∷ ascii "))\n" ∷ []

pub page-fields : (h : Header) → page_row h ≡ concat (page_fields h)
unfolding page_row concat
page-fields h = refl

abbrev pub refused_fields : ℕ → List (List ℕ)
refused_fields number = (ascii "(refused " ++ decimal number) ∷ ascii ")\n" ∷ []

pub refused-fields : (number : ℕ) → refused_row number ≡ concat (refused_fields number)
unfolding refused_row concat
refused-fields number = refl

-- The rows of tokens: those of the first i, and the others.

pub rows_split : (i j : ℕ) (ws : List ℕ) → token_rows (i + j) ws ≡ token_rows i ws ++ token_rows j (drop (token_size * i) ws)
unfolding token_rows
rows_split zero j ws = let e : zero + j ≡ j = omega arith in ap (λ (n : ℕ). token_rows n ws) e
rows_split (suc i) j ws =
    let e : suc i + j ≡ suc (i + j) = omega arith in
    let d : token_size + token_size * i ≡ token_size * suc i = omega arith in
    ap (λ (n : ℕ). token_rows n ws) e ∙ ap (λ (r : List ℕ). token_row ws ++ r) (rows_split i j (drop token_size ws))
    ∙ sym (append_assoc (token_row ws) (token_rows i (drop token_size ws)) _)
    ∙ ap (λ (v : List ℕ). token_row ws ++ token_rows i (drop token_size ws) ++ token_rows j v) (drop-drop (token_size * i) token_size ws ∙ ap (λ (n : ℕ). drop n ws) d)

-- words after those of the k tokens do not matter
pub rows-front : (k : ℕ) (ws vs : List ℕ) → length ws ≡ token_size * k → token_rows k (ws ++ vs) ≡ token_rows k ws
unfolding token_rows token_row
rows-front zero ws vs h = refl
rows-front (suc k) (a ∷ b ∷ c ∷ d ∷ e ∷ ws) vs h = ap (λ (r : List ℕ). token_row (a ∷ b ∷ c ∷ d ∷ e ∷ []) ++ r) (rows-front k ws vs (omega arith))
rows-front (suc k) [] vs h = absurd (omega arith)
rows-front (suc k) (a ∷ []) vs h = absurd (omega arith)
rows-front (suc k) (a ∷ b ∷ []) vs h = absurd (omega arith)
rows-front (suc k) (a ∷ b ∷ c ∷ []) vs h = absurd (omega arith)
rows-front (suc k) (a ∷ b ∷ c ∷ d ∷ []) vs h = absurd (omega arith)

-- the record of token i
pub record_at : (n i : ℕ) (ws d : List ℕ) → i < n → get_or (first_chunks token_size n ws) i d ≡ take token_size (drop (token_size * i) ws)
record_at zero i ws d h = absurd (omega arith)
record_at (suc n) zero ws d h = refl
record_at (suc n) (suc i) ws d h =
    let e : token_size + token_size * i ≡ token_size * suc i = omega arith in
    record_at n i (drop token_size ws) d (omega arith) ∙ ap (take token_size) (drop-drop (token_size * i) token_size ws ∙ ap (λ (m : ℕ). drop m ws) e)

-- the words of a record are those of its row
pub row-of : (ws : List ℕ) → token_size ≤ length ws → token_row (take token_size ws) ≡ token_row ws
unfolding token_row
row-of (a ∷ b ∷ c ∷ d ∷ e ∷ ws) h = refl
row-of [] h = absurd (omega arith)
row-of (a ∷ []) h = absurd (omega arith)
row-of (a ∷ b ∷ []) h = absurd (omega arith)
row-of (a ∷ b ∷ c ∷ []) h = absurd (omega arith)
row-of (a ∷ b ∷ c ∷ d ∷ []) h = absurd (omega arith)

pub below : (rs : List (List ℕ)) (k i : ℕ) → i < length (take k rs) → i < k
below rs k i h = omega (arith, length-take k rs)

-- the row of token i, as it is lent
pub row_at : (ws : List ℕ) (rs : List (List ℕ)) (k i : ℕ) → rs ≡ first_chunks token_size (length ws / token_size) ws → token_size * k ≤ length ws → i < k
    → token_row (get_or (take k rs) i []) ≡ token_row (drop (token_size * i) ws)
row_at ws rs k i e l h =
    let n : i < length ws / token_size = omega arith in
    ap token_row (get_or-take k rs i [] h ∙ ap (λ (r : List (List ℕ)). get_or r i []) e ∙ record_at (length ws / token_size) i ws [] n)
    ∙ row-of (drop (token_size * i) ws) (omega (arith, length-drop (token_size * i) ws))

-- one row more
pub rows_more : (ws : List ℕ) (i : ℕ) → token_rows i ws ++ token_row (drop (token_size * i) ws) ≡ token_rows (i + 1) ws
unfolding token_rows
rows_more ws i =
    ap (λ (r : List ℕ). token_rows i ws ++ r) (sym (append-nil (token_row (drop (token_size * i) ws)))) ∙ sym (rows_split i 1 ws)

-- the rows before token i, its row, and the others
pub rows_parts : (ws : List ℕ) (k i : ℕ) → i < k
    → token_rows k ws ≡ token_rows i ws ++ (token_row (drop (token_size * i) ws) ++ token_rows (k - suc i) (drop token_size (drop (token_size * i) ws)))
unfolding token_rows
rows_parts ws k i h =
    let e : k ≡ i + suc (k - suc i) = omega arith in
    ap (λ (n : ℕ). token_rows n ws) e ∙ rows_split i (suc (k - suc i)) ws
