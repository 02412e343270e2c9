use Rattle.std.proofs.Common.{rules, arith, ◌∙◌, SFits, w64, pos, ◌+ℤ◌, ◌*ℤ◌}
use Rattle.std.proofs.lemmas.Int.{to_z-of_z, ints}
use Rattle.hebrew_observed.proofs.Counts.{days_halved, days_near}
use Rattle.hebrew_observed.proofs.months.days_of_months.Goals as goal

pub returns : goal.returns
returns c =
    let fm = c.ranges.months in
    let fq : SFits w64 c.quotient.result = search rules in
    let fp : SFits w64 (pos 59 *ℤ c.args.months) = omega (arith, ints, c.requires.from, c.requires.to) in
    let fs : SFits w64 (pos 59 *ℤ c.args.months +ℤ pos 1) = omega (arith, ints, c.requires.from, c.requires.to) in
    let e = simp to_z-of_z at c.quotient.ensures.quotient in
    let h = days_halved c.args.months in
    let n = days_near c.args.months c.requires.from c.requires.to in
    simp to_z-of_z
    (record {
      days = e ∙ h;
      from_first = omega (arith, ints, e, h, n.from);
      to_last = omega
          (arith, ints, e, h, n.to);
    })
