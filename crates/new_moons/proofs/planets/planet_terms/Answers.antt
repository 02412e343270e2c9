use Rattle.std.proofs.Common.{arith, SFits, w64}
use Rattle.std.proofs.lemmas.Int.{to_z-of_z}
use Rattle.book_model.specs.declared.new_moon_tables.TheConstants.{PLANET_TERMS}
use Rattle.book_model.specs.numbers.Expressions.{integer}
use Rattle.book_model.specs.numbers.Polynomials.{no_periodic_term}
use Rattle.book_model.specs.numbers.Terms.{terms_of}
use Rattle.new_moons.proofs.Measured.{millionths_within}
use Rattle.new_moons.proofs.PlanetTerms.{planet_periodic_terms, planet_turns, planet_reach, planets_hold}
use Rattle.new_moons.proofs.PlanetWidths.{months_within, planets_sum_within}
use Rattle.periodic_terms.specs.Turning.{turning_term_of}
use Rattle.new_moons.proofs.planets.planet_terms.Goals as goal

pub returns-clause-holds : goal.returns-clause-holds
returns-clause-holds g c = λ w d.
    let f : SFits w64 c.args.number = c.ranges.number in
    let x = integer c.args.number in
    let i = simp to_z-of_z at (c.from_int-months.ensures.encloses.holds w d) in
    let q = terms_of (turning_term_of x) no_periodic_term (planet_periodic_terms PLANET_TERMS) in
    let t = c.sum_of_periodic_terms.ensures.holds w x (planet_periodic_terms PLANET_TERMS) planet_turns planet_reach i
    in
    planets_hold g.E.Enclosure.shown w c.args.number _ (rw c.millionth.ensures.value at
    (c.mul_frac.ensures.encloses.holds w q t))

pub returns-clause-measured : goal.returns-clause-measured
returns-clause-measured g c = λ e h.
    let f : SFits w64 c.args.number = c.ranges.number in
    let i = simp to_z-of_z at c.from_int-months.ensures.encloses.narrow in
    let z = months_within g.E.Enclosure.shown _ c.args.number c.from_int-months.result e h (λ r. i r) in
    millionths_within g.E.Enclosure.shown _ c.sum_of_periodic_terms.result c.mul_frac.result e
    (planets_sum_within _ (c.sum_of_periodic_terms.ensures.measured 0 e (omega arith) z))
    (λ r x y. rw c.millionth.ensures.value at (c.mul_frac.ensures.encloses.narrow r x y))
