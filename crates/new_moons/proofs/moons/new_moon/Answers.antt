use Rattle.std.proofs.Common.{rules, SFits, w64}
use Rattle.std.proofs.lemmas.Int.{to_z-of_z}
use Rattle.encl_core.proofs.Keeping.{taken_with_test}
use Rattle.new_moons.proofs.KeptMoons.{moon_taken_within, recent_taken_within}
use Rattle.new_moons.proofs.Measured.{found_within}
use Rattle.new_moons.proofs.moons.new_moon.Goals as goal

pub returns-in-Some-clause-leads : goal.returns-in-Some-clause-leads
returns-in-Some-clause-leads g c =
    let f : SFits w64 c.args.n = search rules in
    taken_with_test c.in-Some.moment c.args.trail.now.count c.step.new.self.count c.step.ensures.counted
    (simp to_z-of_z at c.in-Some.ensures.evaluated)
    c.from_span.ensures.holds

pub returns-in-Some-clause-measured : goal.returns-in-Some-clause-measured
returns-in-Some-clause-measured g c =
    let f : SFits w64 c.args.n = search rules in
    let m = simp to_z-of_z at c.in-Some.ensures.measured in
    moon_taken_within g.E.Enclosure.shown c.args.n _ c.in-Some.moment c.from_span.result (rw c.BITS.ensures at m)
    c.from_span.ensures.narrow

pub returns-in-Some-clause-recent : goal.returns-in-Some-clause-recent
returns-in-Some-clause-recent g c =
    let f : SFits w64 c.args.n = search rules in
    let m = simp to_z-of_z at c.in-Some.ensures.measured in
    recent_taken_within g.E.Enclosure.shown c.args.n _ c.in-Some.moment c.from_span.result (rw c.BITS.ensures at m)
    c.from_span.ensures.narrow

pub returns-in-None-clause-measured : goal.returns-in-None-clause-measured
returns-in-None-clause-measured g c = λ l h e.
    let f : SFits w64 c.args.n = search rules in
    let m = simp to_z-of_z at c.kept_moon.ensures.measured in
    found_within _ _ g.E.Enclosure.shown c.kept_moon.result (m l h e)

pub returns-in-None-clause-recent : goal.returns-in-None-clause-recent
returns-in-None-clause-recent g c = λ l h e.
    let f : SFits w64 c.args.n = search rules in
    let m = simp to_z-of_z at c.kept_moon.ensures.recent in
    found_within _ _ g.E.Enclosure.shown c.kept_moon.result (m l h e)
