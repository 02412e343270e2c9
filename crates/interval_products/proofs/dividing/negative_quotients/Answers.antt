use Rattle.std.proofs.Common.{refl, sym, arith, rules, SFits, true≢false, pos, ◌-ℤ◌}
use Rattle.std.specs.Int.{w128}
use Rattle.std.proofs.lemmas.Int.{ints, to_z-of_z}
use Rattle.interval_endpoints.specs.Rounding.{AreQuotientsAt}
use Rattle.interval_endpoints.proofs.Divisions.{negative_enclosed}
use Rattle.interval_endpoints.proofs.OnEndpoints.{shows, when_there, is_there}
use Rattle.interval_products.proofs.Fitting.{by_negative}
use Rattle.interval_products.proofs.Closeness.{IsCloseBy, negative_close}
use Rattle.interval_products.proofs.dividing.negative_quotients.Goals as goal

pub returns-in_err-a-clause-some : goal.returns-in_err-a-clause-some
returns-in_err-a-clause-some g c = λ e t.
    let o = (by_negative g.I.MachineWord.scale _ _ _ _ c.args.y.ordered c.requires t).0 in
    absurd (c.in_err-a.ensures.none refl o.first o.second)

pub returns-in_err-c-clause-some : goal.returns-in_err-c-clause-some
returns-in_err-c-clause-some g c = λ e t.
    let o = (by_negative g.I.MachineWord.scale _ _ _ _ c.args.y.ordered c.requires t).0 in
    absurd (c.in_err-c.ensures.none refl o.third o.fourth)

pub quotients-requires-clause-positive : goal.quotients-requires-clause-positive
quotients-requires-clause-positive g c =
    let fc : SFits w128 c.in_ok-c.c = search rules in
    let e = c.in_ok-c.ensures.lower in
    simp to_z-of_z (omega (arith, ints, e, c.requires))

pub endpoints_of-requires : goal.endpoints_of-requires
endpoints_of-requires g c =
    let fa : SFits w128 c.in_ok-a.a = search rules in
    let fb : SFits w128 c.in_ok-a.b = search rules in
    let fc : SFits w128 c.in_ok-c.c = search rules in
    let fd : SFits w128 c.in_ok-c.d = search rules in
    let fl : SFits w128 c.in_ok-lo.lo = search rules in
    let fh : SFits w128 c.in_ok-lo.hi = search rules in
    let q = simp to_z-of_z at c.in_ok-lo.ensures.value in
    simp to_z-of_z q.ordered

pub returns-in_err-lo-clause-some : goal.returns-in_err-lo-clause-some
returns-in_err-lo-clause-some g c = λ e t.
    let fa : SFits w128 c.in_ok-a.a = search rules in
    let fb : SFits w128 c.in_ok-a.b = search rules in
    let fc : SFits w128 c.in_ok-c.c = search rules in
    let fd : SFits w128 c.in_ok-c.d = search rules in
    let ea = c.in_ok-a.ensures.lower in
    let eb = c.in_ok-a.ensures.upper in
    let ec = c.in_ok-c.ensures.lower in
    let ed = c.in_ok-c.ensures.upper in
    let n = simp (ea, eb, ec, ed) at (simp to_z-of_z at c.in_err-lo.ensures.some) in
    absurd (true≢false (sym (n (by_negative g.I.MachineWord.scale _ _ _ _ c.args.y.ordered c.requires t).1)))

-- the quotients are those of the opposites of the endpoints
of_opposites : (g : _) (c : goal.After-endpoints_of g)
    → AreQuotientsAt g.I.MachineWord.scale (pos 0 -ℤ g.I.MachineWord.value c.args.x.hi)
    (pos 0 -ℤ g.I.MachineWord.value c.args.x.lo) (pos 0 -ℤ g.I.MachineWord.value c.args.y.hi)
    (pos 0 -ℤ g.I.MachineWord.value c.args.y.lo) c.in_ok-lo.lo c.in_ok-lo.hi
of_opposites g c =
    let fa : SFits w128 c.in_ok-a.a = search rules in
    let fb : SFits w128 c.in_ok-a.b = search rules in
    let fc : SFits w128 c.in_ok-c.c = search rules in
    let fd : SFits w128 c.in_ok-c.d = search rules in
    let fl : SFits w128 c.in_ok-lo.lo = search rules in
    let fh : SFits w128 c.in_ok-lo.hi = search rules in
    let ea = c.in_ok-a.ensures.lower in
    let eb = c.in_ok-a.ensures.upper in
    let ec = c.in_ok-c.ensures.lower in
    let ed = c.in_ok-c.ensures.upper in
    simp (ea, eb, ec, ed) at (simp to_z-of_z at c.in_ok-lo.ensures.value)

pub returns-clause-holds : goal.returns-clause-holds
returns-clause-holds g c =
    let fl : SFits w128 c.in_ok-lo.lo = search rules in
    let fh : SFits w128 c.in_ok-lo.hi = search rules in
    let e = simp to_z-of_z at c.endpoints_of.ensures.endpoints in
    negative_enclosed g.I.MachineWord.scale _ _ _ _ _ _ _ _ _ _ _ c.args.x.ordered c.requires c.args.y.ordered
    refl refl refl refl (of_opposites g c) (shows _ _ _ e)

pub returns-clause-close : goal.returns-clause-close
returns-clause-close g c =
    let fl : SFits w128 c.in_ok-lo.lo = search rules in
    let fh : SFits w128 c.in_ok-lo.hi = search rules in
    let e = simp to_z-of_z at c.endpoints_of.ensures.endpoints in
    let x = g.I.MachineWord.value c.args.x.lo in
    let y = g.I.MachineWord.value c.args.x.hi in
    let d = g.I.MachineWord.value c.args.y.lo in
    let f = g.I.MachineWord.value c.args.y.hi in
    when_there _ _ _ (IsCloseBy g.I.MachineWord.scale x y d f) e
    (negative_close g.I.MachineWord.scale x y d f _ _ c.args.y.ordered c.requires (of_opposites g c))

pub returns-clause-some : goal.returns-clause-some
returns-clause-some g c =
    let fl : SFits w128 c.in_ok-lo.lo = search rules in
    let fh : SFits w128 c.in_ok-lo.hi = search rules in
    let e = simp to_z-of_z at c.endpoints_of.ensures.endpoints in
    λ k t. is_there _ _ _ e k fl fh
