use Rattle.std.proofs.Common.{rules, SFits}
use Rattle.std.specs.Int.{w128}
use Rattle.std.proofs.lemmas.Int.{to_z-of_z}
use Rattle.book_model.proofs.Intervals.{within_trans}
use Rattle.interval_endpoints.proofs.Unpromised.{narrow_endpoints}
use Rattle.enclosure_tests.proofs.tests.rough.RoughEnclosure.from_span.Goals as goal

pub returns : goal.returns
returns c =
    let fa : SFits w128 c.args.span.lo = search rules in
    let fb : SFits w128 c.args.span.hi = search rules in
    record {
      holds = within_trans (simp to_z-of_z at c.endpoints_of_span.ensures.holds) c.roughened.ensures;
      narrow = λ w b h. narrow_endpoints w b _;
    }
