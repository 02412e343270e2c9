use Rattle.std.proofs.Common.{rules, arith, ◌∙◌, ap, SFits, w64, pos, ◌-ℤ◌}
use Rattle.std.specs.Int.{w128}
use Rattle.std.proofs.lemmas.Int.{ints, to_z-of_z}
use Rattle.time_scales.proofs.CorrectionRows.{fraction_is}
use Rattle.time_scales.proofs.dynamical_time.july.Goals as goal

pub overflow_sub-first_of_july : goal.overflow_sub-first_of_july
overflow_sub-first_of_july c =
    let fd : SFits w64 c.first_of_july.result = search rules in
    simp to_z-of_z (omega (arith, ints, c.first_of_july.ensures.near_from, c.first_of_july.ensures.near_to))

pub returns : goal.returns
returns c =
    let fy : SFits w64 c.args.year = c.ranges.year in
    let fd : SFits w64 c.first_of_july.result = search rules in
    let fs : SFits w64 (c.first_of_july.result -ℤ pos 693596) = omega (
      arith,
      ints,
      c.first_of_july.ensures.near_from,
      c.first_of_july.ensures.near_to,
    ) in
    let fr : SFits w128 c.from.result = search rules in
    let day = simp to_z-of_z at c.first_of_july.ensures.day in
    let days = simp to_z-of_z at c.from.ensures in
    let num = simp to_z-of_z at (rw c.unwrap.ensures at c.new.ensures.num) in
    let den = rw c.unwrap.ensures at c.new.ensures.den in
    record { value = fraction_is c.unwrap.result _ 36525 (num ∙ days ∙ ap (λ t. t -ℤ pos 693596) day) den }
