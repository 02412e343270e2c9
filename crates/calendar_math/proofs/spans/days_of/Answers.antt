use Rattle.std.proofs.Common.{rules, arith, ◌≡◌, ◌∙◌, ap, sym, SFits, w64, ◌≤◌, ◌*◌, ◌*ℤ◌}
use Rattle.std.specs.Int.{w128}
use Rattle.std.proofs.lemmas.Int.{to_z-of_z, ints}
use Rattle.book_model.proofs.IntLaws.{mul_comm}
use Rattle.calendar_math.proofs.SpanLemmas.{days_as_quotient, days_lie, WithinCounts}
use Rattle.calendar_math.proofs.spans.days_of.Goals as goal

pub quotient_within-requires-clause-low : goal.quotient_within-requires-clause-low
quotient_within-requires-clause-low c =
    let fp : SFits w128 c.product.result = search rules in
    let counted : WithinCounts c.parts_of.result c.product.result =
    record { from = c.product.ensures.low; to = c.product.ensures.high } in
    let few : c.parts_of.result ≤ 1000 * c.args.span.den =
    omega (arith, ints, c.parts_of.ensures.parts, c.requires.at_most_1000_days) in
    let near = days_lie c.product.result c.parts_of.result c.args.span.den c.args.den counted few c.requires.over in
    rw (c.den.ensures, c.from.ensures) (simp to_z-of_z near.from)

pub quotient_within-requires-clause-high : goal.quotient_within-requires-clause-high
quotient_within-requires-clause-high c =
    let fp : SFits w128 c.product.result = search rules in
    let counted : WithinCounts c.parts_of.result c.product.result =
    record { from = c.product.ensures.low; to = c.product.ensures.high } in
    let few : c.parts_of.result ≤ 1000 * c.args.span.den =
    omega (arith, ints, c.parts_of.ensures.parts, c.requires.at_most_1000_days) in
    let near = days_lie c.product.result c.parts_of.result c.args.span.den c.args.den counted few c.requires.over in
    rw (c.den.ensures, c.from.ensures) (simp to_z-of_z near.to)

pub returns : goal.returns
returns c =
    let fn = c.ranges.num in
    let fp : SFits w128 c.product.result = search rules in
    let fq : SFits w64 c.quotient_within.result = search rules in
    let product = simp to_z-of_z at c.product.ensures.product in
    let number : c.product.result ≡ c.args.span.num *ℤ c.args.num = product ∙ mul_comm c.args.num _
    ∙ ap (λ x. x *ℤ c.args.num) c.parts_of.ensures.parts in
    let quotient = rw (c.den.ensures, c.from.ensures) at (simp to_z-of_z at c.quotient_within.ensures.quotient) in
    let days = days_as_quotient c.args.span.num c.args.num c.args.span.den c.args.den c.requires.span.0 c.requires.over
    in
    record { days = simp to_z-of_z (rw number at quotient ∙ sym days) }
