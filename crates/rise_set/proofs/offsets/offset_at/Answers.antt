use Rattle.std.proofs.Common.{arith, ◌+◌, ◌^◌}
use Rattle.std.proofs.lemmas.Result.{err_from_is_err_and}
use Rattle.rise_set.proofs.Measured.{mean_local, offset_within}
use Rattle.rise_set.proofs.offsets.offset_at.Goals as goal

pub returns-clause-measured : goal.returns-clause-measured
returns-clause-measured g c = λ p v e b h.
    let horizon = c.args.horizon.now in
    let d = c.in_ok-angle.ensures.measured (v + 2 ^ 10) e (omega (arith, b))
    (c.universal.ensures.measured p.place v e (mean_local v _ h)) in
    offset_within g.E.Enclosure.shown _ v horizon.tangent horizon.cosine horizon.sine c.in_ok-angle.angle
    c.offset_by.result e p.tangent p.cosine p.sine d
    (λ r x y z u. c.offset_by.ensures.narrow r x y z u)

pub returns-clause-dated : goal.returns-clause-dated
returns-clause-dated g c = λ p v e h. c.universal.ensures.dated p (v + 2 ^ 10) e
    (c.universal.ensures.measured p v e (mean_local v _ h))
    c.in_ok-angle.ensures.in_table

pub returns-in_err-angle-clause-measured : goal.returns-in_err-angle-clause-measured
returns-in_err-angle-clause-measured g c = λ p v e b h.
    let fails = err_from_is_err_and c.from_residual.result c.from_residual.ensures.1 in
    rw (fails.1, fails.2) (c.in_err-angle.ensures.measured (v + 2 ^ 10) e (omega (arith, b))
    (c.universal.ensures.measured p.place v e (mean_local v _ h)))
