-- `line::cut_line` meets its contract.
use Rattle.std.proofs.Common.{ℕ, ◌≡◌, ◌+◌, ◌-◌, ◌/◌, ◌%◌, ◌<◌, sym, ap, ◌∙◌, Bool, false, List, Ok, Err, length, take, drop, get_or, arith}
use Rattle.rules.specs.Lists.{ascii, begins, run}
use Rattle.rules.specs.Tables.{letter_class, digit_class, sign_class, class_of, keywords, word_kind}
use Rattle.rules.specs.Cut.{token, cut, scan_number}
use Rattle.rules.specs.Cut.{Cut as RulesCut}
use Rattle.cut.specs.declared.Cut.{Cut}
use Rattle.rules.specs.Line.{moved_by}
use Rattle.rules.proofs.ListLaws.{and_right}
use Rattle.tables.specs.Bytes.{reaches}
use Rattle.tables.specs.Named.{class_number}
use Rattle.tables.specs.Signs.{sign_code}
use Rattle.runs.proofs.ReachLaws.{run_inside}
use Rattle.numbers.specs.Numbers.{number_of}
use Rattle.numbers.specs.declared.Number.{Number}
use Rattle.literals.specs.Cuts.{failure_of}
use Rattle.cut.specs.Cuts.{cut_of, cut_named, kind_asked}
use Rattle.cut.proofs.Words.{blank_cut, hash_cut, word-token, number-token, sign-token}
use Rattle.cut.proofs.Plain.{named_blank, named-comment, named-fails}
use Rattle.line.proofs.Progress.{start, at-end, at-comment, at-failure, past-blank, past-token, may_pass, has_room, goes_on, over, ended, stopped, TokenAt, token-at, failure-at}
use Rattle.line.proofs.cut_line.Goals as goal

-- The tokens that the loop tells by itself: a word, a number, a sign.
module _ (w : Bool) (l : List ℕ) (at : ℕ) (h : at < length l) where
  word : class_of (get_or l at 0) ≡ letter_class → begins (ascii "b'") (drop at l) ≡ false → (end kind : ℕ) → end ≡ at + run (reaches 0) (drop at l)
      → {b : Bool} → b ≡ w → kind ≡ kind_asked b (word_kind keywords (take (end - at) (drop at l))) → TokenAt w l at kind (end - at)
  word e b end kind is a k =
      token-at w l at kind (end - at) h
      (word-token w l at h e b end is ∙ ap (λ (x : ℕ). token x (end - at)) (sym (k ∙ ap (λ (b : Bool). kind_asked b (word_kind keywords (take (end - at) (drop at l)))) a)))

  number : class_of (get_or l at 0) ≡ digit_class → (n : Number) → number_of n ≡ scan_number (drop at l) → TokenAt w l at 46 n.end
  number e n is = token-at w l at 46 n.end h (number-token w l at h e (number_of n) is)

  sign : class_of (get_or l at 0) ≡ sign_class → (c : ℕ) → c ≡ sign_code (drop at l) → 1 < c → TokenAt w l at (c % 128) (c / 128 + 1)
  sign e c is k = token-at w l at (c % 128) (c / 128 + 1) h (sign-token w l at h e c is k)

-- one that the cutter cuts, which is told whether kinds are asked for
asked : {w b : Bool} {l : List ℕ} {at kind size : ℕ} → b ≡ w → at < length l → cut_named b (cut (drop at l)) ≡ token kind size → TokenAt w l at kind size
asked {w} {b} {l} {at} {kind} {size} a h e = token-at w l at kind size h (ap (λ (x : Bool). cut_named x (cut (drop at l))) (sym a) ∙ e)

-- the cut at hand, by what the cutter answers
at_cut : {x : RulesCut} {r : Cut} (y : Cut) → cut_of (Ok r) ≡ x → r ≡ y → x ≡ cut_of (Ok y)
at_cut y e f = sym e ∙ ap (λ (r : Cut). cut_of (Ok r)) f

pub loop-t-init : goal.loop-t-init
loop-t-init g c =
    let a = c.args in
    start g.S.RecordSink.laws a.line.now a.depth a.place a.tokens.now a.spaces c.requires.spaces_value _ c.cursor_at-t.ensures

pub loop-t-preserved-in-Blank : goal.loop-t-preserved-in-Blank
loop-t-preserved-in-Blank g c =
    let h = c.loop-t-test.true in
    past-blank g.S.RecordSink.laws c.loop-t.invariant h (blank_cut _ _ h (sym c.class_of.ensures ∙ ap class_number c.in-Blank.is)) _ c.past_blank-t.ensures

pub returns-in-Hash-clause-value : goal.returns-in-Hash-clause-value
returns-in-Hash-clause-value g c = λ e.
    let h = c.loop-t-test.true in
    let v = c.loop-t.invariant in
    (ended g.S.RecordSink.laws v (at-comment g.S.RecordSink.laws v h (hash_cut _ _ h (sym c.class_of.ensures ∙ ap class_number c.in-Hash.is))) _ c.ends_at-in-Hash.ensures).value

pub returns-in-Hash-clause-taken : goal.returns-in-Hash-clause-taken
returns-in-Hash-clause-taken g c =
    let h = c.loop-t-test.true in
    let v = c.loop-t.invariant in
    (ended g.S.RecordSink.laws v (at-comment g.S.RecordSink.laws v h (hash_cut _ _ h (sym c.class_of.ensures ∙ ap class_number c.in-Hash.is))) _ c.ends_at-in-Hash.ensures).taken

pub returns-clause-value : goal.returns-clause-value
returns-clause-value g c = λ e. let v = c.loop-t.invariant in (ended g.S.RecordSink.laws v (at-end g.S.RecordSink.laws v c.loop-t-test.false) _ c.ends_at-2.ensures).value

pub returns-clause-taken : goal.returns-clause-taken
returns-clause-taken g c = let v = c.loop-t.invariant in (ended g.S.RecordSink.laws v (at-end g.S.RecordSink.laws v c.loop-t-test.false) _ c.ends_at-2.ensures).taken

pub kind_of_word-kind-requires : goal.kind_of_word-kind-requires
kind_of_word-kind-requires g c = (omega (arith, c.run_end-end.ensures), omega (arith, c.run_end-end.ensures, run_inside (reaches 0) c.args.line.now c.loop-t.t.at c.loop-t.invariant.inside))

pub past_token-t-requires : goal.past_token-t-requires
past_token-t-requires g c =
    let h = c.loop-t-test.true in
    let v = c.loop-t.invariant in
    let x = word _ _ _ h (sym c.class_of.ensures ∙ ap class_number c.in-Letter.is) (sym c.begins_literal.ensures ∙ c.if-not-begins_literal.true) c.run_end-end.result _ c.run_end-end.ensures c.asks_kinds-named.ensures c.kind_of_word-kind.ensures in
    record { size_bound = may_pass g.S.RecordSink.laws v h x c.requires.line_bound; fits = has_room g.S.RecordSink.laws v h x c.requires.room }

pub loop-t-smaller-in-Letter : goal.loop-t-smaller-in-Letter
loop-t-smaller-in-Letter g c =
    let h = c.loop-t-test.true in
    goes_on g.S.RecordSink.laws c.loop-t.invariant h (word _ _ _ h (sym c.class_of.ensures ∙ ap class_number c.in-Letter.is) (sym c.begins_literal.ensures ∙ c.if-not-begins_literal.true) c.run_end-end.result _ c.run_end-end.ensures c.asks_kinds-named.ensures c.kind_of_word-kind.ensures) _ c.past_token-t.ensures.value

pub loop-t-preserved-in-Letter : goal.loop-t-preserved-in-Letter
loop-t-preserved-in-Letter g c =
    let h = c.loop-t-test.true in
    past-token g.S.RecordSink.laws c.loop-t.invariant h (word _ _ _ h (sym c.class_of.ensures ∙ ap class_number c.in-Letter.is) (sym c.begins_literal.ensures ∙ c.if-not-begins_literal.true) c.run_end-end.result _ c.run_end-end.ensures c.asks_kinds-named.ensures c.kind_of_word-kind.ensures) _ c.past_token-t.ensures.value c.past_token-t.ensures.taken

pub past_token-t-requires-in-Digit : goal.past_token-t-requires-in-Digit
past_token-t-requires-in-Digit g c =
    let h = c.loop-t-test.true in
    let v = c.loop-t.invariant in
    let x = number _ _ _ h (sym c.class_of.ensures ∙ ap class_number c.in-Digit.is) c.scan_number-number.result c.scan_number-number.ensures in
    record { size_bound = may_pass g.S.RecordSink.laws v h x c.requires.line_bound; fits = has_room g.S.RecordSink.laws v h x c.requires.room }

pub loop-t-smaller-in-Digit : goal.loop-t-smaller-in-Digit
loop-t-smaller-in-Digit g c =
    let h = c.loop-t-test.true in
    goes_on g.S.RecordSink.laws c.loop-t.invariant h (number _ _ _ h (sym c.class_of.ensures ∙ ap class_number c.in-Digit.is) c.scan_number-number.result c.scan_number-number.ensures) _ c.past_token-t-in-Digit.ensures.value

pub loop-t-preserved-in-Digit : goal.loop-t-preserved-in-Digit
loop-t-preserved-in-Digit g c =
    let h = c.loop-t-test.true in
    past-token g.S.RecordSink.laws c.loop-t.invariant h (number _ _ _ h (sym c.class_of.ensures ∙ ap class_number c.in-Digit.is) c.scan_number-number.result c.scan_number-number.ensures) _ c.past_token-t-in-Digit.ensures.value c.past_token-t-in-Digit.ensures.taken

pub past_sign-t-requires : goal.past_sign-t-requires
past_sign-t-requires g c =
    let h = c.loop-t-test.true in
    let v = c.loop-t.invariant in
    let x = sign _ _ _ h (sym c.class_of.ensures ∙ ap class_number c.in-Sign.is) c.sign_code-code.result c.sign_code-code.ensures c.if-code-gt1.true in
    record { code_bound = may_pass g.S.RecordSink.laws v h x c.requires.line_bound; fits = has_room g.S.RecordSink.laws v h x c.requires.room }

pub loop-t-smaller-then-code-gt1 : goal.loop-t-smaller-then-code-gt1
loop-t-smaller-then-code-gt1 g c =
    let h = c.loop-t-test.true in
    goes_on g.S.RecordSink.laws c.loop-t.invariant h (sign _ _ _ h (sym c.class_of.ensures ∙ ap class_number c.in-Sign.is) c.sign_code-code.result c.sign_code-code.ensures c.if-code-gt1.true) _ c.past_sign-t.ensures.value

pub loop-t-preserved-then-code-gt1 : goal.loop-t-preserved-then-code-gt1
loop-t-preserved-then-code-gt1 g c =
    let h = c.loop-t-test.true in
    past-token g.S.RecordSink.laws c.loop-t.invariant h (sign _ _ _ h (sym c.class_of.ensures ∙ ap class_number c.in-Sign.is) c.sign_code-code.result c.sign_code-code.ensures c.if-code-gt1.true) _ c.past_sign-t.ensures.value c.past_sign-t.ensures.taken

pub loop-t-preserved-in-Ok-Blank : goal.loop-t-preserved-in-Ok-Blank
loop-t-preserved-in-Ok-Blank g c = past-blank g.S.RecordSink.laws c.loop-t.invariant c.loop-t-test.true (named_blank _ _ (at_cut _ c.in-Ok-Blank.ensures.result_value c.in-Ok-Blank.field-0-is)) _ c.past_blank-t-in-Ok-Blank.ensures

pub returns-in-Ok-Comment-clause-value : goal.returns-in-Ok-Comment-clause-value
returns-in-Ok-Comment-clause-value g c = λ e.
    let v = c.loop-t.invariant in
    (ended g.S.RecordSink.laws v (at-comment g.S.RecordSink.laws v c.loop-t-test.true (named-comment _ _ (at_cut _ c.in-Ok-Comment.ensures.result_value c.in-Ok-Comment.field-0-is))) _ c.ends_at-in-Ok-Comment.ensures).value

pub returns-in-Ok-Comment-clause-taken : goal.returns-in-Ok-Comment-clause-taken
returns-in-Ok-Comment-clause-taken g c =
    let v = c.loop-t.invariant in
    (ended g.S.RecordSink.laws v (at-comment g.S.RecordSink.laws v c.loop-t-test.true (named-comment _ _ (at_cut _ c.in-Ok-Comment.ensures.result_value c.in-Ok-Comment.field-0-is))) _ c.ends_at-in-Ok-Comment.ensures).taken

pub past_token-t-requires-in-Ok-Token : goal.past_token-t-requires-in-Ok-Token
past_token-t-requires-in-Ok-Token g c =
    let h = c.loop-t-test.true in
    let v = c.loop-t.invariant in
    let x = asked c.asks_kinds-named.ensures h (at_cut _ c.in-Ok-Token.ensures.result_value c.in-Ok-Token.field-0-is) in
    record { size_bound = may_pass g.S.RecordSink.laws v h x c.requires.line_bound; fits = has_room g.S.RecordSink.laws v h x c.requires.room }

pub loop-t-smaller-in-Ok-Token : goal.loop-t-smaller-in-Ok-Token
loop-t-smaller-in-Ok-Token g c =
    let h = c.loop-t-test.true in
    goes_on g.S.RecordSink.laws c.loop-t.invariant h (asked c.asks_kinds-named.ensures h (at_cut _ c.in-Ok-Token.ensures.result_value c.in-Ok-Token.field-0-is)) _ c.past_token-t-in-Ok-Token.ensures.value

pub loop-t-preserved-in-Ok-Token : goal.loop-t-preserved-in-Ok-Token
loop-t-preserved-in-Ok-Token g c =
    let h = c.loop-t-test.true in
    past-token g.S.RecordSink.laws c.loop-t.invariant h (asked c.asks_kinds-named.ensures h (at_cut _ c.in-Ok-Token.ensures.result_value c.in-Ok-Token.field-0-is)) _ c.past_token-t-in-Ok-Token.ensures.value c.past_token-t-in-Ok-Token.ensures.taken

pub past_token-t-requires-in-Ok-Number : goal.past_token-t-requires-in-Ok-Number
past_token-t-requires-in-Ok-Number g c =
    let h = c.loop-t-test.true in
    let v = c.loop-t.invariant in
    let x = asked c.asks_kinds-named.ensures h (at_cut _ c.in-Ok-Number.ensures.result_value c.in-Ok-Number.field-0-is) in
    record { size_bound = may_pass g.S.RecordSink.laws v h x c.requires.line_bound; fits = has_room g.S.RecordSink.laws v h x c.requires.room }

pub loop-t-smaller : goal.loop-t-smaller
loop-t-smaller g c =
    let h = c.loop-t-test.true in
    goes_on g.S.RecordSink.laws c.loop-t.invariant h (asked c.asks_kinds-named.ensures h (at_cut _ c.in-Ok-Number.ensures.result_value c.in-Ok-Number.field-0-is)) _ c.past_token-t-in-Ok-Number.ensures.value

pub loop-t-preserved : goal.loop-t-preserved
loop-t-preserved g c =
    let h = c.loop-t-test.true in
    past-token g.S.RecordSink.laws c.loop-t.invariant h (asked c.asks_kinds-named.ensures h (at_cut _ c.in-Ok-Number.ensures.result_value c.in-Ok-Number.field-0-is)) _ c.past_token-t-in-Ok-Number.ensures.value c.past_token-t-in-Ok-Number.ensures.taken

pub moved_by-requires : goal.moved_by-requires
moved_by-requires g c =
    let h = c.loop-t-test.true in
    omega (arith, c.requires.line_bound.0, failure-at _ _ (failure_of c.in-Err.f) h (named-fails _ _ (failure_of c.in-Err.f) (sym c.in-Err.ensures.result_value)))

pub returns-in-Err : goal.returns-in-Err
returns-in-Err g c =
    let h = c.loop-t-test.true in
    let v = c.loop-t.invariant in
    let f = failure_of c.in-Err.f in
    let s = stopped g.S.RecordSink.laws v (moved_by _ f) (at-failure g.S.RecordSink.laws v h f (named-fails _ _ f (sym c.in-Err.ensures.result_value))) in
    record { value = λ e. ap Err c.moved_by.ensures ∙ s.value; taken = s.taken }

pub returns-then-ends_early-clause-taken : goal.returns-then-ends_early-clause-taken
returns-then-ends_early-clause-taken g c =
    over g.S.RecordSink.laws c.loop-t.invariant (λ at xs. g.S.RecordSink.over_law _ at xs (and_right _ _ (sym c.ends_early.ensures ∙ c.if-ends_early.true)))
