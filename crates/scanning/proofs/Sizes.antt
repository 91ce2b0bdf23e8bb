-- How long what `scan` prints can be: it stands in 65,536 bytes.
-- Assumes nothing.
use Prim.Native.Nat.{ℕ, zero, suc, ◌+◌, ◌-◌, ◌*◌, ◌≤◌, ◌<◌}
use mathlib.Core.Path.{ap}
use mathlib.Core.List.{List, [], ◌∷◌, ◌++◌}
use native.Mathlib.Omega.{arith}
use lib.ListN.{length, get_or, drop, length-append}
use Rattle.rules.specs.Lists.{ascii, concat}
use Rattle.rules.specs.Records.{token_size, header}
use Rattle.rules.specs.Report.{decimal}
use Rattle.rules.specs.Scan.{page_row, token_row, token_rows, refused_row}
use Rattle.rules.proofs.BoundLaws.{AllLe, word_max}
use Rattle.print.proofs.Prints.{places-le}
use Rattle.refusals.specs.declared.FailureRecord.{FailureRecord}
use Rattle.print.proofs.Prints.{length_decimal}
use Rattle.message.proofs.Whole.{message-fields, fields-small}
use Rattle.message.specs.Messages.{message_in, Printable}

-- Every word of a record has at most 7 digits.

word_small : (n : ℕ) → n ≤ word_max → length (decimal n) ≤ 7
word_small n h = omega (arith, length_decimal n, places-le 6 n n (omega arith))

get_or_all : (b : ℕ) (ws : List ℕ) (i : ℕ) → AllLe b ws → get_or ws i 0 ≤ b
get_or_all b [] i h = omega arith
get_or_all b (w ∷ ws) zero h = h.0
get_or_all b (w ∷ ws) (suc i) h = get_or_all b ws i h.1

drop_all : (b i : ℕ) (ws : List ℕ) → AllLe b ws → AllLe b (drop i ws)
drop_all b zero ws h = h
drop_all b (suc i) [] h = tt
drop_all b (suc i) (w ∷ ws) h = drop_all b i ws h.1

row_small : (ws : List ℕ) → AllLe word_max ws → length (token_row ws) ≤ 57
unfolding token_row concat
row_small ws h =
    let word : (i : ℕ) → length (decimal (get_or ws i 0)) ≤ 7 = λ i. word_small (get_or ws i 0) (get_or_all word_max ws i h) in
    simp length-append (omega (arith, word 0, word 1, word 2, word 3, word 4))

pub rows-small : (k : ℕ) (ws : List ℕ) → AllLe word_max ws → length (token_rows k ws) ≤ 57 * k
unfolding token_rows
rows-small zero ws h = omega arith
rows-small (suc k) ws h =
    omega (arith, length-append (token_row ws) (token_rows k (drop token_size ws)), row_small ws h, rows-small k (drop token_size ws) (drop_all word_max token_size ws h))

page-small : (n m k : ℕ) → n ≤ 512 → m ≤ 512 → k ≤ 1_024 → length (page_row (header n m k)) ≤ 56
unfolding page_row concat
page-small n m k hn hm hk = simp length-append (omega (arith, word_small n (omega arith), word_small m (omega arith), word_small k (omega arith)))

refused-small : (number : ℕ) → number < 10_000_000_000 → length (refused_row number) ≤ 21
unfolding refused_row concat
refused-small number h = simp length-append (omega (arith, length_decimal number, places-le 9 number number (omega arith)))

-- the message of a failure in a text of at most 512 bytes
message-small : (t : List ℕ) (f : FailureRecord) → length t ≤ 512 → Printable t f → f.line < 10_000_000_000 → length (message_in t f) ≤ 1_184
message-small t f h p l =
    let s = fields-small t f.code f.detail f.found f.line f.column (f.position + 1 - f.column) l (omega (arith, p.4, p.6)) in
    omega (arith, s, p.4, p.6, ap length (message-fields t f.code f.detail f.found f.position f.line f.column))

-- Room in 65,536 bytes.

pub refused-room : (out : List ℕ) (number : ℕ) → 65_536 ≤ length out → number < 10_000_000_000 → length (refused_row number) ≤ length out
refused-room out number h k = omega (arith, refused-small number k)

pub rows-room_in : (out : List ℕ) (n m k : ℕ) (ws : List ℕ) → 65_536 ≤ length out → n ≤ 512 → m ≤ 512 → k ≤ 1_024 → length (token_rows k ws) ≤ 57 * k
    → length (page_row (header n m k) ++ token_rows k ws) ≤ length out
rows-room_in out n m k ws h hn hm hk l =
    omega (arith, length-append (page_row (header n m k)) (token_rows k ws), page-small n m k hn hm hk)

pub message-room_in : (out t : List ℕ) (f : FailureRecord) → 65_536 ≤ length out → length t ≤ 512 → Printable t f → f.line < 10_000_000_000
    → length (message_in t f ++ ascii "\n") ≤ length out
message-room_in out t f h small p l = omega (arith, length-append (message_in t f) (ascii "\n"), message-small t f small p l)
