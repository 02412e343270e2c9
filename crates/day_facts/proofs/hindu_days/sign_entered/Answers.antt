use Rattle.std.proofs.Common.{rules, arith, SFits, w64}
use Rattle.std.proofs.lemmas.Int.{to_z-of_z, ints}
use Rattle.book_model.specs.sky.HinduFacts.{sign_entered_of}
use Rattle.book_model.proofs.Leads.{leads_bind_exact}
use Rattle.day_facts.proofs.hindu_days.sign_entered.Goals as goal

pub returns-clause-leads : goal.returns-clause-leads
unfolding sign_entered_of
returns-clause-leads g c = λ w x h.
    let f : SFits w64 c.args.day = c.ranges.day in
    let s : SFits w64 c.start.result = search rules in
    let t : SFits w64 c.in_ok-there.there = search rules in
    let q : SFits w64 c.in_ok-degrees.degrees = search rules in
    let e = simp to_z-of_z at c.start.ensures.start in
    let l = simp to_z-of_z at (c.first_in_sign.ensures.leads w h.deep) in
    leads_bind_exact _ (c.in_ok-there.ensures.leads w x h) (leads_bind_exact _ (c.in_ok-degrees.ensures.leads w x h)
    (rw e at l))

pub returns-clause-close : goal.returns-clause-close
returns-clause-close g c = λ v e b h.
    let f : SFits w64 c.args.day = c.ranges.day in
    let s : SFits w64 c.start.result = search rules in
    let d = c.requires.day in
    let low = simp to_z-of_z at c.start.ensures.low in
    let m = simp to_z-of_z at c.first_in_sign.ensures.close in
    m (omega (arith, ints, d.0, low)) e
