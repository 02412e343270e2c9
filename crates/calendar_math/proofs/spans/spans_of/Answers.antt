use Rattle.std.proofs.Common.{rules, arith, ◌≤◌, ◌<◌, ◌^◌, ◌∙◌, sym, ap, SFits, w64, ◌*◌}
use Rattle.std.specs.Int.{w128}
use Rattle.std.proofs.lemmas.Int.{to_z-of_z, ints}
use Rattle.book_model.specs.calendars.Spans.{ratio, spans_of}
use Rattle.calendar_math.proofs.SpanLemmas.{spans_as_quotient, sums_lie, sum_fits, product_above, WithinCounts}
use Rattle.calendar_math.proofs.spans.spans_of.Goals as goal

pub overflow_add-whole : goal.overflow_add-whole
overflow_add-whole c =
    let small : c.args.span.den ≤ c.parts_of-parts.result = omega (
      arith,
      ints,
      c.parts_of-parts.ensures.parts,
      c.requires.span.1,
    ) in
    let few : c.parts_of-parts.result ≤ 2 ^ 35 = omega (arith, ints, c.parts_of-parts.ensures.parts, c.requires.span.2)
    in
    let all : WithinCounts (c.den.result * c.from.result) c.product-whole.result =
    record { from = c.product-whole.ensures.low; to = c.product-whole.ensures.high } in
    let whole : WithinCounts (c.args.span.den * c.args.den) c.product-whole.result = rw (c.den.ensures, c.from.ensures)
    at all in
    let more : WithinCounts c.parts_of-parts.result c.product-more.result =
    record { from = c.product-more.ensures.low; to = c.product-more.ensures.high } in
    let near = sums_lie c.product-whole.result c.product-more.result c.parts_of-parts.result c.args.span.den c.args.den
    whole more small c.requires.over in
    let fw : SFits w128 c.product-whole.result = search rules in
    let fm : SFits w128 c.product-more.result = search rules in
    let fd = c.ranges.den in
    simp to_z-of_z (sum_fits _ c.parts_of-parts.result c.args.den near few (omega arith))

pub quotient_within-requires-clause-positive : goal.quotient_within-requires-clause-positive
quotient_within-requires-clause-positive c =
    let some : 0 < c.parts_of-parts.result = omega (
      arith,
      ints,
      c.parts_of-parts.ensures.parts,
      c.requires.span.1,
      c.requires.span.0,
    ) in
    rw c.from-2.ensures (product_above c.parts_of-parts.result c.args.den some c.requires.over)

pub quotient_within-requires-clause-low : goal.quotient_within-requires-clause-low
quotient_within-requires-clause-low c =
    let small : c.args.span.den ≤ c.parts_of-parts.result = omega (
      arith,
      ints,
      c.parts_of-parts.ensures.parts,
      c.requires.span.1,
    ) in
    let few : c.parts_of-parts.result ≤ 2 ^ 35 = omega (arith, ints, c.parts_of-parts.ensures.parts, c.requires.span.2)
    in
    let all : WithinCounts (c.den.result * c.from.result) c.product-whole.result =
    record { from = c.product-whole.ensures.low; to = c.product-whole.ensures.high } in
    let whole : WithinCounts (c.args.span.den * c.args.den) c.product-whole.result = rw (c.den.ensures, c.from.ensures)
    at all in
    let more : WithinCounts c.parts_of-parts.result c.product-more.result =
    record { from = c.product-more.ensures.low; to = c.product-more.ensures.high } in
    let near = sums_lie c.product-whole.result c.product-more.result c.parts_of-parts.result c.args.span.den c.args.den
    whole more small c.requires.over in
    let fw : SFits w128 c.product-whole.result = search rules in
    let fm : SFits w128 c.product-more.result = search rules in
    let fd = c.ranges.den in
    let fs = sum_fits _ c.parts_of-parts.result c.args.den near few (omega arith) in
    rw c.from-2.ensures (simp to_z-of_z near.from)

pub quotient_within-requires-clause-high : goal.quotient_within-requires-clause-high
quotient_within-requires-clause-high c =
    let small : c.args.span.den ≤ c.parts_of-parts.result = omega (
      arith,
      ints,
      c.parts_of-parts.ensures.parts,
      c.requires.span.1,
    ) in
    let few : c.parts_of-parts.result ≤ 2 ^ 35 = omega (arith, ints, c.parts_of-parts.ensures.parts, c.requires.span.2)
    in
    let all : WithinCounts (c.den.result * c.from.result) c.product-whole.result =
    record { from = c.product-whole.ensures.low; to = c.product-whole.ensures.high } in
    let whole : WithinCounts (c.args.span.den * c.args.den) c.product-whole.result = rw (c.den.ensures, c.from.ensures)
    at all in
    let more : WithinCounts c.parts_of-parts.result c.product-more.result =
    record { from = c.product-more.ensures.low; to = c.product-more.ensures.high } in
    let near = sums_lie c.product-whole.result c.product-more.result c.parts_of-parts.result c.args.span.den c.args.den
    whole more small c.requires.over in
    let fw : SFits w128 c.product-whole.result = search rules in
    let fm : SFits w128 c.product-more.result = search rules in
    let fd = c.ranges.den in
    let fs = sum_fits _ c.parts_of-parts.result c.args.den near few (omega arith) in
    rw c.from-2.ensures (simp to_z-of_z near.to)

pub returns : goal.returns
returns c =
    let small : c.args.span.den ≤ c.parts_of-parts.result = omega (
      arith,
      ints,
      c.parts_of-parts.ensures.parts,
      c.requires.span.1,
    ) in
    let few : c.parts_of-parts.result ≤ 2 ^ 35 = omega (arith, ints, c.parts_of-parts.ensures.parts, c.requires.span.2)
    in
    let all : WithinCounts (c.den.result * c.from.result) c.product-whole.result =
    record { from = c.product-whole.ensures.low; to = c.product-whole.ensures.high } in
    let whole : WithinCounts (c.args.span.den * c.args.den) c.product-whole.result = rw (c.den.ensures, c.from.ensures)
    at all in
    let more : WithinCounts c.parts_of-parts.result c.product-more.result =
    record { from = c.product-more.ensures.low; to = c.product-more.ensures.high } in
    let near = sums_lie c.product-whole.result c.product-more.result c.parts_of-parts.result c.args.span.den c.args.den
    whole more small c.requires.over in
    let fw : SFits w128 c.product-whole.result = search rules in
    let fm : SFits w128 c.product-more.result = search rules in
    let fd = c.ranges.den in
    let fs = sum_fits _ c.parts_of-parts.result c.args.den near few (omega arith) in
    let fy = c.ranges.days in
    let fn = c.ranges.num in
    let fq : SFits w64 c.quotient_within.result = search rules in
    let some : 0 < c.parts_of-parts.result = omega (
      arith,
      ints,
      c.parts_of-parts.ensures.parts,
      c.requires.span.1,
      c.requires.span.0,
    ) in
    let first = rw (c.den.ensures, c.from.ensures) at (simp to_z-of_z at c.product-whole.ensures.product) in
    let second = simp to_z-of_z at c.product-more.ensures.product in
    let quotient = rw (c.from-2.ensures, first, second) at (simp to_z-of_z at c.quotient_within.ensures.quotient) in
    let span = spans_as_quotient c.args.days c.args.num c.parts_of-parts.result c.args.span.den c.args.den some
    c.requires.span.0 c.requires.over in
    let same = ap (λ x. spans_of (ratio x c.args.span.den) c.args.days (ratio c.args.num c.args.den))
    c.parts_of-parts.ensures.parts in
    record { spans = simp to_z-of_z (quotient ∙ sym span ∙ same) }
