use Rattle.std.proofs.Common.{sym, rules, SFits, true≢false}
use Rattle.std.specs.Int.{w128}
use Rattle.std.proofs.lemmas.Int.{to_z-of_z}
use Rattle.interval_endpoints.specs.Rounding.{AreQuotientsAt}
use Rattle.interval_endpoints.proofs.Divisions.{positive_enclosed}
use Rattle.interval_endpoints.proofs.Ratios.{quotient_narrow}
use Rattle.interval_endpoints.proofs.OnEndpoints.{shows, when_there, is_there}
use Rattle.interval_products.proofs.Fitting.{quotient_overflow, by_positive}
use Rattle.interval_products.proofs.Closeness.{IsCloseBy, positive_close}
use Rattle.interval_products.proofs.dividing.positive_quotients.Goals as goal

pub quotients-requires-clause-positive : goal.quotients-requires-clause-positive
quotients-requires-clause-positive g c =
    let fc : SFits w128 c.wide_endpoints-c.result.0 = search rules in
    let e = c.wide_endpoints-c.ensures.lower in
    simp to_z-of_z (rw e c.requires)

pub endpoints_of-requires : goal.endpoints_of-requires
endpoints_of-requires g c =
    let fa : SFits w128 c.wide_endpoints-a.result.0 = search rules in
    let fb : SFits w128 c.wide_endpoints-a.result.1 = search rules in
    let fc : SFits w128 c.wide_endpoints-c.result.0 = search rules in
    let fd : SFits w128 c.wide_endpoints-c.result.1 = search rules in
    let fl : SFits w128 c.in_ok-lo.lo = search rules in
    let fh : SFits w128 c.in_ok-lo.hi = search rules in
    let q = simp to_z-of_z at c.in_ok-lo.ensures.value in
    simp to_z-of_z q.ordered

pub returns-in_err-lo-clause-narrow : goal.returns-in_err-lo-clause-narrow
returns-in_err-lo-clause-narrow g c = λ w a b h n.
    let fa : SFits w128 c.wide_endpoints-a.result.0 = search rules in
    let fb : SFits w128 c.wide_endpoints-a.result.1 = search rules in
    let fc : SFits w128 c.wide_endpoints-c.result.0 = search rules in
    let fd : SFits w128 c.wide_endpoints-c.result.1 = search rules in
    let ea = c.wide_endpoints-a.ensures.lower in
    let eb = c.wide_endpoints-a.ensures.upper in
    let ec = c.wide_endpoints-c.ensures.lower in
    let ed = c.wide_endpoints-c.ensures.upper in
    let m = simp (ea, eb, ec, ed) at (simp to_z-of_z at c.in_err-lo.ensures.some) in
    quotient_overflow g.I.MachineWord.scale w a b _ _ _ _ _ h n (λ s. true≢false (sym (m s)))

pub returns-in_err-lo-clause-some : goal.returns-in_err-lo-clause-some
returns-in_err-lo-clause-some g c = λ e t.
    let fa : SFits w128 c.wide_endpoints-a.result.0 = search rules in
    let fb : SFits w128 c.wide_endpoints-a.result.1 = search rules in
    let fc : SFits w128 c.wide_endpoints-c.result.0 = search rules in
    let fd : SFits w128 c.wide_endpoints-c.result.1 = search rules in
    let ea = c.wide_endpoints-a.ensures.lower in
    let eb = c.wide_endpoints-a.ensures.upper in
    let ec = c.wide_endpoints-c.ensures.lower in
    let ed = c.wide_endpoints-c.ensures.upper in
    let m = simp (ea, eb, ec, ed) at (simp to_z-of_z at c.in_err-lo.ensures.some) in
    absurd (true≢false (sym (m (by_positive g.I.MachineWord.scale _ _ _ _ c.args.y.ordered c.requires t))))

-- the quotients are those of the endpoints
of_endpoints : (g : _) (c : goal.After-endpoints_of g)
    → AreQuotientsAt g.I.MachineWord.scale (g.I.MachineWord.value c.args.x.lo) (g.I.MachineWord.value c.args.x.hi)
    (g.I.MachineWord.value c.args.y.lo) (g.I.MachineWord.value c.args.y.hi) c.in_ok-lo.lo c.in_ok-lo.hi
of_endpoints g c =
    let fa : SFits w128 c.wide_endpoints-a.result.0 = search rules in
    let fb : SFits w128 c.wide_endpoints-a.result.1 = search rules in
    let fc : SFits w128 c.wide_endpoints-c.result.0 = search rules in
    let fd : SFits w128 c.wide_endpoints-c.result.1 = search rules in
    let fl : SFits w128 c.in_ok-lo.lo = search rules in
    let fh : SFits w128 c.in_ok-lo.hi = search rules in
    let ea = c.wide_endpoints-a.ensures.lower in
    let eb = c.wide_endpoints-a.ensures.upper in
    let ec = c.wide_endpoints-c.ensures.lower in
    let ed = c.wide_endpoints-c.ensures.upper in
    simp (ea, eb, ec, ed) at (simp to_z-of_z at c.in_ok-lo.ensures.value)

pub returns-clause-holds : goal.returns-clause-holds
returns-clause-holds g c =
    let fl : SFits w128 c.in_ok-lo.lo = search rules in
    let fh : SFits w128 c.in_ok-lo.hi = search rules in
    let e = simp to_z-of_z at c.endpoints_of.ensures.endpoints in
    positive_enclosed g.I.MachineWord.scale _ _ _ _ _ _ _ c.args.x.ordered c.requires c.args.y.ordered
    (of_endpoints g c) (shows _ _ _ e)

pub returns-clause-narrow : goal.returns-clause-narrow
returns-clause-narrow g c = λ w a b h n.
    let fl : SFits w128 c.in_ok-lo.lo = search rules in
    let fh : SFits w128 c.in_ok-lo.hi = search rules in
    let e = simp to_z-of_z at c.endpoints_of.ensures.endpoints in
    quotient_narrow g.I.MachineWord.scale w a b _ _ _ _ _ _ _ (of_endpoints g c) (shows _ _ _ e) h n

pub returns-clause-close : goal.returns-clause-close
returns-clause-close g c =
    let fl : SFits w128 c.in_ok-lo.lo = search rules in
    let fh : SFits w128 c.in_ok-lo.hi = search rules in
    let e = simp to_z-of_z at c.endpoints_of.ensures.endpoints in
    let x = g.I.MachineWord.value c.args.x.lo in
    let y = g.I.MachineWord.value c.args.x.hi in
    let d = g.I.MachineWord.value c.args.y.lo in
    let f = g.I.MachineWord.value c.args.y.hi in
    when_there _ _ _ (IsCloseBy g.I.MachineWord.scale x y d f) e
    (positive_close g.I.MachineWord.scale x y d f _ _ c.args.y.ordered c.requires (of_endpoints g c))

pub returns-clause-some : goal.returns-clause-some
returns-clause-some g c =
    let fl : SFits w128 c.in_ok-lo.lo = search rules in
    let fh : SFits w128 c.in_ok-lo.hi = search rules in
    let e = simp to_z-of_z at c.endpoints_of.ensures.endpoints in
    λ k t. is_there _ _ _ e k fl fh
