use Rattle.std.proofs.Common.{rules, SFits, w64}
use Rattle.std.proofs.lemmas.Int.{to_z-of_z}
use Rattle.book_model.proofs.Leads.{leads_bind_exact}
use Rattle.day_facts.specs.Nisan.{nisan_on_of}
use Rattle.day_facts.proofs.nisan.nisan_on.Goals as goal

pub returns-clause-leads : goal.returns-clause-leads
unfolding nisan_on_of
returns-clause-leads g c = λ w x h.
    let f : SFits w64 c.args.equinox = c.ranges.equinox in
    let n : SFits w64 c.start.result = search rules in
    let s = simp to_z-of_z at c.start.ensures.start in
    let b = rw c.location.ensures.location at (simp to_z-of_z at (c.in_ok-is_before.ensures.leads w x h)) in
    let l = simp to_z-of_z at (c.visibility_from_by.ensures.leads w h.deep) in
    leads_bind_exact _ b (rw s at l)
