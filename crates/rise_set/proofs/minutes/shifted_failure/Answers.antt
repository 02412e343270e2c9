use Rattle.std.proofs.Common.{SFits, w64}
use Rattle.std.proofs.lemmas.Int.{to_z-of_z}
use Rattle.rise_set.proofs.Sunrises.{moved_close}
use Rattle.rise_set.proofs.minutes.shifted_failure.Goals as goal

pub returns-in-Undecided-clause-close : goal.returns-in-Undecided-clause-close
returns-in-Undecided-clause-close c = λ room h.
    let f : SFits w64 c.args.whole = c.ranges.whole in
    let apart = simp to_z-of_z at c.shifted_by.ensures.apart in
    moved_close c.in-Undecided.at c.shifted_by.result (apart (rw c.in-Undecided.is at room)) c.shifted_by.ensures.site
    (rw c.in-Undecided.is at h)
