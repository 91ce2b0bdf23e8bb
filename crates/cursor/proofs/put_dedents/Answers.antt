-- `cursor::put_dedents` meets its contract.
use Rattle.std.proofs.Common.{arith}
use Rattle.rules.specs.Records.{token_words}
use Rattle.records.proofs.RecordTakes.{then-takes, fits_after, fits-less}
use Rattle.cursor.proofs.Leads.{dedent_words, length_dedent_words}
use Rattle.cursor.proofs.put_dedents.Goals as goal

pub loop-j-init : goal.loop-j-init
unfolding token_words
loop-j-init g c = g.S.RecordSink.laws.taken-nothing _ _

pub put_token-requires-clause-fits : goal.put_token-requires-clause-fits
put_token-requires-clause-fits g c =
    fits_after g.S.RecordSink.laws _ c.loop-j.invariant (fits-less _ (omega (arith, c.loop-j-test.true)) c.requires.fits)

pub loop-j-preserved : goal.loop-j-preserved
loop-j-preserved g c =
    let p = c.args.place in
    then-takes g.S.RecordSink.laws c.loop-j.invariant (omega (arith, length_dedent_words p c.loop-j.j)) c.put_token.ensures (dedent_words p c.loop-j.j)
