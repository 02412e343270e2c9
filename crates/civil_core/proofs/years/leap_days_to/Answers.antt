use Rattle.std.proofs.Common.{rules, arith, SFits, w64, ◌-ℤ◌}
use Rattle.std.proofs.lemmas.Int.{to_z-of_z, ints}
use Rattle.book_model.proofs.Floors.{floor_quotient_is}
use Rattle.civil_core.proofs.years.leap_days_to.Goals as goal

pub returns : goal.returns
returns c =
    let fy = c.ranges.year in
    let f4 : SFits w64 c.quotient.result = search rules in
    let f100 : SFits w64 c.quotient-2.result = search rules in
    let f400 : SFits w64 c.quotient-3.result = search rules in
    let e4 = simp to_z-of_z at c.quotient.ensures.quotient in
    let e100 = simp to_z-of_z at c.quotient-2.ensures.quotient in
    let e400 = simp to_z-of_z at c.quotient-3.ensures.quotient in
    let a = floor_quotient_is c.args.year 3 in
    let b = floor_quotient_is c.args.year 99 in
    let d = floor_quotient_is c.args.year 399 in
    let fs : SFits w64 (c.quotient.result -ℤ c.quotient-2.result) = omega
    (arith, ints, e4, e100, a.not_above, a.close, b.not_above, b.close, c.requires.from, c.requires.to) in
    simp to_z-of_z (record {
      days = omega (arith, ints, e4, e100, e400);
      near_from = omega (
        arith,
        ints,
        e4,
        e100,
        e400,
        a.not_above,
        a.close,
        b.not_above,
        b.close,
        d.not_above,
        d.close,
        c.requires.from,
      );
      near_to = omega (
        arith,
        ints,
        e4,
        e100,
        e400,
        a.not_above,
        a.close,
        b.not_above,
        b.close,
        d.not_above,
        d.close,
        c.requires.to,
      );
    })
