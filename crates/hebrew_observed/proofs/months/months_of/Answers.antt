use Rattle.std.proofs.Common.{rules, arith, ◌∙◌, sym, SFits, w64}
use Rattle.std.proofs.lemmas.Int.{to_z-of_z, ints}
use Rattle.hebrew_observed.proofs.Counts.{months_are_spans, months_near}
use Rattle.hebrew_observed.proofs.months.months_of.Goals as goal

pub returns : goal.returns
returns c =
    let fd = c.ranges.days in
    let fr : SFits w64 c.spans_of.result = search rules in
    let e = simp to_z-of_z at c.spans_of.ensures.spans in
    let s = months_are_spans c.args.days in
    let n = months_near c.args.days (record { from = c.requires.days.0; to = c.requires.days.1 }) in
    simp to_z-of_z
    (record { months = e ∙ sym s; near = (omega (arith, ints, e, s, n.from), omega (arith, ints, e, s, n.to)) })
