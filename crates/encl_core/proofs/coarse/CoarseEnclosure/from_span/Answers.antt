use Rattle.interval_endpoints.specs.Scales.{coarse}
use Rattle.std.proofs.Common.{rules, SFits}
use Rattle.std.specs.Int.{w128}
use Rattle.std.proofs.lemmas.Int.{to_z-of_z}
use Rattle.interval_endpoints.proofs.Following.{narrow_spanned}
use Rattle.encl_core.proofs.coarse.CoarseEnclosure.from_span.Goals as goal

pub returns : goal.returns
returns c =
    let fa : SFits w128 c.args.span.lo = search rules in
    let fb : SFits w128 c.args.span.hi = search rules in
    let h = simp to_z-of_z at c.endpoints_of_span.ensures.holds in
    let n = simp to_z-of_z at c.endpoints_of_span.ensures.narrow in
    record { holds = h; narrow = λ w b. narrow_spanned coarse w b _ _ (n w b) }
