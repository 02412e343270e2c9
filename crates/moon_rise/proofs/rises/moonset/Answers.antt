use Rattle.std.proofs.Common.{arith, SFits, w64}
use Rattle.std.proofs.lemmas.Int.{ints, to_z-of_z}
use Rattle.book_model.specs.programs.Widths.{close_void}
use Rattle.moon_rise.proofs.Risings.{found_is_sky}
use Rattle.moon_rise.proofs.rises.moonset.Goals as goal

pub returns-in-Some-clause-close : goal.returns-in-Some-clause-close
returns-in-Some-clause-close g c = λ d e.
    let f : SFits w64 c.args.day = c.ranges.day in
    let s = found_is_sky c.args.place c.in-Some.location c.in-Some.ensures in
    c.crossing.ensures.close (s, (grind (arith, ints, to_z-of_z, d.0), grind (arith, ints, to_z-of_z, d.1))) e

pub returns-in-Some-clause-dated : goal.returns-in-Some-clause-dated
returns-in-Some-clause-dated g c = λ d a b.
    let f : SFits w64 c.args.day = c.ranges.day in
    let s = found_is_sky c.args.place c.in-Some.location c.in-Some.ensures in
    c.crossing.ensures.dated (s, (grind (arith, ints, to_z-of_z, d.0), grind (arith, ints, to_z-of_z, d.1))) a b

pub returns-in-None-clause-close : goal.returns-in-None-clause-close
returns-in-None-clause-close g c = λ d e. close_void
