use Rattle.std.proofs.Common.{SFits, w64}
use Rattle.std.proofs.lemmas.Int.{to_z-of_z}
use Rattle.book_model.specs.sky.Crescent.{visible_of}
use Rattle.book_model.proofs.Leads.{leads_on, leaf_within}
use Rattle.rise_set.specs.Widths.{IsNarrowLocation}
use Rattle.crescent.proofs.criterion.test_visible.Goals as goal

pub returns-clause-leads : goal.returns-clause-leads
unfolding visible_of
returns-clause-leads g c = λ w d.
    let f : SFits w64 c.args.day = c.ranges.day in
    let l = simp to_z-of_z at (c.in_ok-t.ensures.leads w d) in
    leads_on _ l (rw c.location.ensures.location at (c.meets_at.ensures.leads w _ (leaf_within l)))

pub returns-clause-close : goal.returns-clause-close
returns-clause-close g c = λ e p h.
    let f : SFits w64 c.args.day = c.ranges.day in
    let q : IsNarrowLocation c.location.result = rw c.location.ensures.location p in
    let m = simp to_z-of_z at c.in_ok-t.ensures.measured in
    c.meets_at.ensures.close e q (m p h e)
