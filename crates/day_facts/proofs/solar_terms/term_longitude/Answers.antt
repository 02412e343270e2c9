use Rattle.std.proofs.Common.{rules, arith, SFits, w64, pos, ◌-ℤ◌, ◌*ℤ◌}
use Rattle.std.proofs.lemmas.Int.{to_z-of_z, ints}
use Rattle.book_model.specs.sky.Kinds.{term_longitude}
use Rattle.day_facts.proofs.solar_terms.term_longitude.Goals as goal

pub returns : goal.returns
unfolding term_longitude
returns c =
    let a : SFits w64 c.args.first = c.ranges.first in
    let b : SFits w64 c.args.spans = c.ranges.spans in
    let p : SFits w64 (pos 30 *ℤ c.args.spans) = omega (arith, ints, c.requires.span.from, c.requires.span.to) in
    let q : SFits w64 (c.args.first -ℤ pos 30 *ℤ c.args.spans) = omega
    (arith, ints, c.requires.from, c.requires.to, c.requires.span.from, c.requires.span.to) in
    let r : SFits w64 c.modulo.result = search rules in
    simp to_z-of_z (record {
      longitude = simp to_z-of_z at c.modulo.ensures.number;
      from = c.modulo.ensures.from;
      to = omega (arith, ints, c.modulo.ensures.to);
    })
