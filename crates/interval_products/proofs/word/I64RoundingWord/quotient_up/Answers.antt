use Rattle.std.proofs.Common.{ℤ, pos, ◌*ℤ◌, ◌^◌, arith, rules, SFits}
use Rattle.std.specs.Int.{w128}
use Rattle.std.proofs.lemmas.Int.{ints, to_z-of_z}
use Rattle.interval_endpoints.specs.Scales.{coarse}
use Rattle.interval_products.specs.Room.{IsDividend}
use Rattle.interval_products.proofs.word.I64RoundingWord.quotient_up.Goals as goal

raised : (n : ℤ) → IsDividend coarse n → SFits w128 (n *ℤ pos (2 ^ 36))
raised n d = omega (arith, ints, d.above, d.below)

pub overflow_mul-dividend : goal.overflow_mul-dividend
overflow_mul-dividend c =
    let fn = c.ranges.dividend in
    simp to_z-of_z (raised c.args.dividend c.requires.dividend)

pub ceil_div-requires : goal.ceil_div-requires
ceil_div-requires c =
    let fd = c.ranges.divisor in
    simp to_z-of_z c.requires.divisor

pub returns-clause-value : goal.returns-clause-value
returns-clause-value c =
    let fn = c.ranges.dividend in
    let fd = c.ranges.divisor in
    let fr = raised c.args.dividend c.requires.dividend in
    let fq : SFits w128 c.ceil_div.result = search rules in
    let q = simp to_z-of_z at c.ceil_div.ensures in
    simp to_z-of_z q

pub returns-clause-none : goal.returns-clause-none
returns-clause-none c = λ e h. cc
