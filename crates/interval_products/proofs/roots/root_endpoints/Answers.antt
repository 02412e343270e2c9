use Rattle.std.proofs.Common.{refl, rules, SFits, ◌≡◌, ℕ, pos, ◌+ℤ◌, ◌-ℤ◌, ◌*ℤ◌, ◌≤ℤ◌, ◌<ℤ◌}
use Rattle.std.specs.Int.{w128}
use Rattle.std.proofs.lemmas.Int.{to_z-of_z}
use Rattle.interval_endpoints.specs.Scales.{unit, limits_on}
use Rattle.interval_endpoints.proofs.RootWidths.{AreRoots, root_narrow, root_of_all}
use Rattle.interval_endpoints.proofs.RootEndpoints.{roots_order, root_holds}
use Rattle.interval_endpoints.proofs.OnEndpoints.{shows, when_there, is_there}
use Rattle.interval_products.proofs.Fitting.{root_overflow, lesser_root}
use Rattle.interval_products.proofs.Closeness.{root_close}
use Rattle.interval_products.proofs.roots.root_endpoints.Goals as goal

pub returns-in_err-x-clause-narrow : goal.returns-in_err-x-clause-narrow
returns-in_err-x-clause-narrow g c = λ w a h. root_of_all w (limits_on g.I.MachineWord.scale) a _
    (rw c.in_err-x.was at h)

pub returns-in_err-lo-clause-narrow : goal.returns-in_err-lo-clause-narrow
returns-in_err-lo-clause-narrow g c = λ w a h.
    root_overflow g.I.MachineWord.scale w a _ _ _ (rw c.in_ok-x.was at h)
    (λ l. c.in_err-lo.ensures.none refl (lesser_root g.I.MachineWord.scale _ _ c.in_ok-x.x.ordered l))

pub returns-in_err-hi-clause-narrow : goal.returns-in_err-hi-clause-narrow
returns-in_err-hi-clause-narrow g c = λ w a h. root_overflow g.I.MachineWord.scale w a _ _ _ (rw c.in_ok-x.was at h)
    (λ l. c.in_err-hi.ensures.none refl l)

pub returns-in_err-lo-clause-some : goal.returns-in_err-lo-clause-some
returns-in_err-lo-clause-some g c = rw c.in_ok-x.was (λ e l. absurd
    (c.in_err-lo.ensures.none refl (lesser_root g.I.MachineWord.scale _ _ c.in_ok-x.x.ordered l)))

pub returns-in_err-hi-clause-some : goal.returns-in_err-hi-clause-some
returns-in_err-hi-clause-some g c = rw c.in_ok-x.was (λ e l. absurd (c.in_err-hi.ensures.none refl l))

pub endpoints_of-requires : goal.endpoints_of-requires
endpoints_of-requires g c =
    let fr : SFits w128 c.in_ok-lo.lo = search rules in
    let fs : SFits w128 c.in_ok-hi.hi = search rules in
    let l = c.in_ok-lo.ensures in
    let m = c.in_ok-hi.ensures in
    simp to_z-of_z (roots_order g.I.MachineWord.scale _ _ c.in_ok-lo.lo c.in_ok-hi.hi c.in_ok-x.x.ordered l.natural
    m.natural l.square m.square)

are_roots : (g : _) (c : goal.After-endpoints_of g)
    → AreRoots g.I.MachineWord.scale (g.I.MachineWord.value c.in_ok-x.x.lo) (g.I.MachineWord.value c.in_ok-x.x.hi)
    c.in_ok-lo.lo c.in_ok-hi.hi
are_roots g c =
    let l = c.in_ok-lo.ensures in
    let m = c.in_ok-hi.ensures in
    record {
      ordered = roots_order g.I.MachineWord.scale _ _ c.in_ok-lo.lo c.in_ok-hi.hi c.in_ok-x.x.ordered l.natural
          m.natural l.square m.square;
      natural = l.natural;
      above = l.close;
      below = m.close;
    }

pub returns-clause-holds : goal.returns-clause-holds
returns-clause-holds g c = λ n d.
    let fr : SFits w128 c.in_ok-lo.lo = search rules in
    let fs : SFits w128 c.in_ok-hi.hi = search rules in
    let l = c.in_ok-lo.ensures in
    let m = c.in_ok-hi.ensures in
    let e = simp to_z-of_z at c.endpoints_of.ensures.endpoints in
    rw c.in_ok-x.was (root_holds g.I.MachineWord.scale n _ _ c.in_ok-lo.lo c.in_ok-hi.hi _ d c.in_ok-x.x.ordered
    l.natural m.natural l.square m.square
    (shows _ _ _ e))

pub returns-clause-narrow : goal.returns-clause-narrow
returns-clause-narrow g c = λ w a h.
    let fr : SFits w128 c.in_ok-lo.lo = search rules in
    let fs : SFits w128 c.in_ok-hi.hi = search rules in
    let e = simp to_z-of_z at c.endpoints_of.ensures.endpoints in
    root_narrow g.I.MachineWord.scale w a _ _ c.in_ok-lo.lo c.in_ok-hi.hi _ (are_roots g c) (shows _ _ _ e)
    (rw c.in_ok-x.was at h)

pub returns-clause-close : goal.returns-clause-close
returns-clause-close g c =
    let fr : SFits w128 c.in_ok-lo.lo = search rules in
    let fs : SFits w128 c.in_ok-hi.hi = search rules in
    let e = simp to_z-of_z at c.endpoints_of.ensures.endpoints in
    let a = g.I.MachineWord.value c.in_ok-x.x.lo in
    let b = g.I.MachineWord.value c.in_ok-x.x.hi in
    rw c.in_ok-x.was
    (when_there _ _ _ (λ z. pos 0 <ℤ a → (n : ℕ) → z ≡ pos 2 +ℤ pos n → (pos 4 *ℤ ((pos n *ℤ pos n) *ℤ a))
    ≤ℤ (((b -ℤ a) *ℤ (b -ℤ a)) *ℤ unit g.I.MachineWord.scale)) e
    (root_close g.I.MachineWord.scale a b c.in_ok-lo.lo c.in_ok-hi.hi c.in_ok-x.x.ordered (are_roots g c)))

pub returns-clause-some : goal.returns-clause-some
returns-clause-some g c =
    let fr : SFits w128 c.in_ok-lo.lo = search rules in
    let fs : SFits w128 c.in_ok-hi.hi = search rules in
    let e = simp to_z-of_z at c.endpoints_of.ensures.endpoints in
    rw c.in_ok-x.was (λ k l. is_there _ _ _ e k fr fs)
