use Rattle.std.proofs.Common.{SFits, w64, ◌+◌, ◌/◌, ◌^◌}
use Rattle.std.proofs.lemmas.Int.{to_z-of_z}
use Rattle.std.proofs.lemmas.Result.{err_from_is_err_and}
use Rattle.book_model.specs.sky.Horizon.{near_offset_of}
use Rattle.book_model.proofs.Leads.{leads_on, leads_bind_exact, leaf_within}
use Rattle.rise_set.proofs.offsets.offset_near.Goals as goal

pub returns-clause-leads : goal.returns-clause-leads
unfolding near_offset_of
returns-clause-leads g c = λ w a x h k.
    let f : SFits w64 c.args.day = c.ranges.day in
    let l = c.in_ok-there.ensures.leads w a x h k in
    let o = c.in_ok-out.ensures.leads w _ (leaf_within l) in
    leads_on _ l (leads_bind_exact _ o (simp to_z-of_z at (c.offset_or_at_edge.ensures.leads w a _ h (leaf_within l))))

pub returns-clause-measured : goal.returns-clause-measured
returns-clause-measured g c = λ p v e b h.
    let s = c.in_ok-there.ensures.measured p v e b h in
    let same = c.offset_or_at_edge.ensures.inside (c.in_ok-out.ensures.measured (v / 16 + 2 ^ 28) e s) in
    rw same s

pub returns-clause-dated : goal.returns-clause-dated
returns-clause-dated g c = λ p v e b h.
    let s = c.in_ok-there.ensures.measured p v e b h in
    let same = c.offset_or_at_edge.ensures.inside (c.in_ok-out.ensures.measured (v / 16 + 2 ^ 28) e s) in
    rw same (c.in_ok-there.ensures.dated p.place v e h)

pub returns-in_err-there-clause-measured : goal.returns-in_err-there-clause-measured
returns-in_err-there-clause-measured g c = λ p v e b h.
    let fails = err_from_is_err_and c.from_residual.result c.from_residual.ensures.1 in
    rw (fails.1, fails.2) (c.in_err-there.ensures.measured p v e b h)

pub returns-in_err-out-clause-measured : goal.returns-in_err-out-clause-measured
returns-in_err-out-clause-measured g c = λ p v e b h.
    let fails = err_from_is_err_and c.from_residual-in_err-out.result c.from_residual-in_err-out.ensures.1 in
    rw (fails.1, fails.2) (c.in_err-out.ensures.measured (v / 16 + 2 ^ 28) e (c.in_ok-there.ensures.measured p v e b h))
