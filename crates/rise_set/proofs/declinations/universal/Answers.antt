use Rattle.book_model.specs.sky.Noon.{ahead_of}
use Rattle.rise_set.proofs.MeanMoments.{mean_dated}
use Rattle.rise_set.proofs.Measured.{local_within}
use Rattle.rise_set.proofs.declinations.universal.Goals as goal

pub returns-clause-measured : goal.returns-clause-measured
unfolding ahead_of
returns-clause-measured g c = λ p v e h.
    local_within g.E.Enclosure.shown _ v c.args.longitude c.args.t c.mul_frac.result c.sub.result e p h
    (λ r. c.mul_frac.ensures.encloses.narrow r _ (c.from_frac.ensures.encloses.narrow r))
    (λ r x y. c.sub.ensures.encloses.narrow r x y)

pub returns-clause-dated : goal.returns-clause-dated
unfolding ahead_of
returns-clause-dated g c = λ p v e h i.
    mean_dated g.E.Enclosure.shown g.E.Enclosure.proper _ v c.args.longitude c.args.t c.mul_frac.result c.sub.result e p
    (λ r. c.mul_frac.ensures.encloses.narrow r _ (c.from_frac.ensures.encloses.narrow r))
    (λ w d. c.mul_frac.ensures.encloses.holds w _ (c.from_frac.ensures.encloses.holds w d))
    (λ w x k. c.sub.ensures.encloses.holds w _ _ k
    (c.mul_frac.ensures.encloses.holds w _ (c.from_frac.ensures.encloses.holds w k.deep))) h i
