use Rattle.std.specs.Prelude.{unsigned_abs}
use Rattle.std.proofs.Common.{◌^◌, rules, arith, SFits, ℤ, pos, neg_ℤ, ◌+ℤ◌, ◌-ℤ◌, ◌*ℤ◌, ◌≤ℤ◌}
use Rattle.std.specs.Int.{w128}
use Rattle.std.proofs.lemmas.Int.{ints, to_z-of_z}
use Rattle.book_model.specs.numbers.Octants.{octant_of_turn}
use Rattle.encl_core.specs.parts.TheConstants.{OCTANT}
use Rattle.trig_series.specs.Points.{IsPart}
use Rattle.trig_series.proofs.PartLemmas.{turned_part, within_holds, part_small, part_crest}
use Rattle.trig_series.proofs.octants.sine_within_octant.Goals as goal

-- there is room for the edge of an octant, and for how far numbers that lie in it are from there
record HasRoom (octant lo hi : ℤ) : Type 0 where
  edge : SFits w128 (octant *ℤ pos OCTANT)
  low : SFits w128 (lo -ℤ octant *ℤ pos OCTANT)
  high : SFits w128 (hi -ℤ octant *ℤ pos OCTANT)

room : (octant lo hi : ℤ) → neg_ℤ (pos (2 ^ 60)) ≤ℤ octant → octant ≤ℤ pos (2 ^ 60) → (octant *ℤ pos OCTANT) ≤ℤ lo
    → lo ≤ℤ hi
    → hi ≤ℤ (octant *ℤ pos OCTANT +ℤ pos OCTANT) → HasRoom octant lo hi
room octant lo hi from to begun ordered ended =
    record { edge = omega (arith, ints); low = omega (arith, ints); high = omega (arith, ints) }

pub returns-clause-holds : goal.returns-clause-holds
returns-clause-holds c =
    let fo = c.ranges.octant in
    let fl = c.ranges.lo in
    let fh = c.ranges.hi in
    let ft : SFits w128 c.octant_in_turn.result = search rules in
    let r = room c.args.octant c.args.lo c.args.hi c.requires.from c.requires.to c.requires.begun c.requires.ordered
    c.requires.ended in
    let fe = r.edge in
    let fa = r.low in
    let fb = r.high in
    let v = simp to_z-of_z at c.octant_in_turn.ensures.value in
    let h = simp to_z-of_z at c.part_of_turn.ensures.holds in
    λ n l. within_holds n c.args.octant c.octant_in_turn.result c.args.lo c.args.hi _ _ v c.requires.begun
    c.requires.ordered c.requires.ended
    (λ d y from to same. h n d y l from to same)

pub returns-clause-narrow : goal.returns-clause-narrow
returns-clause-narrow c =
    let fo = c.ranges.octant in
    let fl = c.ranges.lo in
    let fh = c.ranges.hi in
    let ft : SFits w128 c.octant_in_turn.result = search rules in
    let r = room c.args.octant c.args.lo c.args.hi c.requires.from c.requires.to c.requires.begun c.requires.ordered
    c.requires.ended in
    let fe = r.edge in
    let fa = r.low in
    let fb = r.high in
    let n = simp to_z-of_z at c.part_of_turn.ensures.narrow in
    omega (arith, ints, n, c.requires.begun, c.requires.ordered)

-- the part of the octant as one of its turn
of_turn : (c : goal.After-part_of_turn)
    → IsPart (octant_of_turn c.args.octant) (unsigned_abs (c.args.lo -ℤ c.args.octant *ℤ pos OCTANT))
    (unsigned_abs (c.args.hi -ℤ c.args.octant *ℤ pos OCTANT)) c.part_of_turn.result.lo c.part_of_turn.result.hi
of_turn c =
    let fo = c.ranges.octant in
    let fl = c.ranges.lo in
    let fh = c.ranges.hi in
    let ft : SFits w128 c.octant_in_turn.result = search rules in
    let r = room c.args.octant c.args.lo c.args.hi c.requires.from c.requires.to c.requires.begun c.requires.ordered
    c.requires.ended in
    let fe = r.edge in
    let fa = r.low in
    let fb = r.high in
    let v = simp to_z-of_z at c.octant_in_turn.ensures.value in
    let p = simp to_z-of_z at c.part_of_turn.ensures.near in
    turned_part c.args.octant c.octant_in_turn.result _ _ _ _ v p

pub returns-clause-near : goal.returns-clause-near
returns-clause-near c = of_turn c

pub returns-clause-small : goal.returns-clause-small
returns-clause-small c =
    part_small c.args.octant c.args.lo c.args.hi _ _ (of_turn c) c.requires.begun c.requires.ordered c.requires.ended

pub returns-clause-crest : goal.returns-clause-crest
returns-clause-crest c =
    part_crest c.args.octant c.args.lo c.args.hi _ _ (of_turn c) c.requires.begun c.requires.ordered c.requires.ended
