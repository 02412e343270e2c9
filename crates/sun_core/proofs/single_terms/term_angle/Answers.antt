use Rattle.std.proofs.Common.{rules, SFits, w64}
use Rattle.std.proofs.lemmas.Int.{to_z-of_z}
use Rattle.book_model.specs.declared.time_tables.TheConstants.{DAY_IN_CENTURIES}
use Rattle.book_model.specs.numbers.Expressions.{constant}
use Rattle.book_model.specs.numbers.Fractions.{fraction_of, ten_millionths, daily_ten_millionths}
use Rattle.sun_core.specs.Daily.{in_centuries}
use Rattle.sun_core.proofs.Scalings.{both_hold_in_sum, daily_ten_millionths_are}
use Rattle.sun_core.proofs.single_terms.term_angle.Goals as goal

pub returns-clause-holds : goal.returns-clause-holds
unfolding in_centuries
returns-clause-holds g c = λ w x h.
    let v = c.args.periodic_term.now in
    let fp : SFits w64 v.phase = search rules in
    let fr : SFits w64 v.rate = search rules in
    let k = simp to_z-of_z at (c.angle.ensures.encloses.holds w x h) in
    both_hold_in_sum g.E.Enclosure.shown w (constant (ten_millionths v.phase)) x (fraction_of DAY_IN_CENTURIES)
    (ten_millionths v.rate)
    (daily_ten_millionths v.rate) c.angle.result (daily_ten_millionths_are v.rate) k
