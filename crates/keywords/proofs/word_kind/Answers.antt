-- `keywords::word_kind` meets its contract: the rows of a letter hold the keywords that begin with it, and no other is the word.
use Prim.Native.Nat.{◌<◌}
use mathlib.Core.Path.{sym, ◌∙◌}
use native.Mathlib.Omega.{arith}
use lib.ListN.{length}
use Rattle.keywords.proofs.SearchLaws.{other_length, other_byte, same_byte, spelled, no_spelling}
use Rattle.keywords.proofs.TableLaws.{searched, begins, no_word}
use Rattle.keywords.proofs.word_kind.Goals as goal

pub returns-then-n-eq0 : goal.returns-then-n-eq0
returns-then-n-eq0 c = sym (no_word _ c.if-n-eq0.true)

pub rows-init : goal.rows-init
rows-init c = begins c.args.word.now c.keyword_start-row.ensures c.keyword_start-to.ensures

pub keyword_length-requires : goal.keyword_length-requires
keyword_length-requires c = let r = searched _ (omega arith) c.keyword_start-to.ensures c.if-to-row.false in omega (arith, r.inside)

pub rows-preserved-then-keyword_length-n : goal.rows-preserved-then-keyword_length-n
rows-preserved-then-keyword_length-n c =
    let r = searched _ (omega arith) c.keyword_start-to.ensures c.if-to-row.false in
    other_length r.at_row c.args.word.now c.rows.invariant (λ e. omega (arith, c.if-keyword_length-n.true, c.keyword_length.ensures, e))

pub overflow_add-row : goal.overflow_add-row
overflow_add-row c = let r = searched _ (omega arith) c.keyword_start-to.ensures c.if-to-row.false in omega (arith, r.inside)

pub keyword_kind-requires : goal.keyword_kind-requires
keyword_kind-requires c = let r = searched _ (omega arith) c.keyword_start-to.ensures c.if-to-row.false in omega (arith, r.inside)

pub keyword_byte-requires : goal.keyword_byte-requires
keyword_byte-requires c =
    let r = searched _ (omega arith) c.keyword_start-to.ensures c.if-to-row.false in
    (omega (arith, r.inside), omega (arith, r.narrow, c.keyword_length.ensures, c.if-keyword_length-n.false, c.loop-j.invariant.0, c.if-j-n.false))

pub rows-preserved : goal.rows-preserved
rows-preserved c =
    let r = searched _ (omega arith) c.keyword_start-to.ensures c.if-to-row.false in
    let long = sym c.keyword_length.ensures ∙ c.if-keyword_length-n.false in
    other_byte r.at_row c.args.word.now c.rows.invariant long c.loop-j.j c.loop-j.invariant.1 (omega (arith, c.loop-j.invariant.0, c.if-j-n.false))
    (λ e. c.if-keyword_byte-word.true (c.keyword_byte.ensures ∙ e))

pub loop-j-preserved : goal.loop-j-preserved
loop-j-preserved c =
    let r = searched _ (omega arith) c.keyword_start-to.ensures c.if-to-row.false in
    let long = sym c.keyword_length.ensures ∙ c.if-keyword_length-n.false in
    let here : c.loop-j.j < length c.args.word.now = omega (arith, c.loop-j.invariant.0, c.if-j-n.false) in
    (omega (arith, here), same_byte r.at_row c.args.word.now c.rows.invariant long c.loop-j.j c.loop-j.invariant.1 here (sym c.keyword_byte.ensures ∙ c.if-keyword_byte-word.false))

pub returns-then-to-row : goal.returns-then-to-row
returns-then-to-row c = sym (no_spelling _ _ _ _ c.rows.invariant c.if-to-row.true)

pub returns-then-j-n : goal.returns-then-j-n
returns-then-j-n c =
    let r = searched _ (omega arith) c.keyword_start-to.ensures c.if-to-row.false in
    let long = sym c.keyword_length.ensures ∙ c.if-keyword_length-n.false in
    c.keyword_kind.ensures ∙ sym (spelled r.at_row c.args.word.now c.rows.invariant long c.loop-j.j c.loop-j.invariant.1 c.if-j-n.true)
