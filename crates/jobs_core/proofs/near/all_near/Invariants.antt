use Rattle.std.proofs.Common.{◌≡◌, map, take, All}
use Rattle.jobs_core.specs.Near.{near_pair, IsNear}
use Rattle.jobs_core.proofs.near.all_near.Given as goal

-- the facts so far
abbrev pub invariant-loop-pair : goal.invariant-loop-pair
invariant-loop-pair l = (map (near_pair l.first) l.all.items ≡ take l.pair-index l.pairs)
    × All (IsNear l.first) l.all.items
