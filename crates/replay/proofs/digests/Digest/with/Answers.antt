-- The digest so far is that of the units so far.
use Rattle.std.proofs.Common.{◌≡◌, subst, rules}
use Rattle.std.specs.List.{flat_map}
use Rattle.std.proofs.lemmas.Fn.{fold_over, slice_gives, fronts}
use Rattle.std.proofs.lemmas.List.Concat.{flat_map-append}
use Rattle.std.proofs.lemmas.List.Sums.{fold-append}
use Rattle.replay.specs.Fnv.{fnv, fnv_step}
use Rattle.replay.proofs.digests.Digest.with.Goals as goal

pub returns : goal.returns
returns g c = subst (λ units. c.fold.result.0 ≡ fnv c.args.self.0 (flat_map g.T.Unit.bytes units)) c.iter.ensures.rest
    (fold_over fronts (λ y. y.now) _ (λ ys digest. digest.0 ≡ fnv c.args.self.0 (flat_map g.T.Unit.bytes ys)) _
    (λ ys a x b f' j k. search (rules, flat_map-append g.T.Unit.bytes ys, fold-append fnv_step c.args.self.0))
    _ _ _ _ (slice_gives c.iter.result) (search rules) c.fold.ensures.ran)
