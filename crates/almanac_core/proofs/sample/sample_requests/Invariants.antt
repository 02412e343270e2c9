use Rattle.std.proofs.Common.{◌≡◌, ◌-◌, ◌++◌}
use Rattle.almanac_core.specs.Sample.{sample_from, sample_requests}
use Rattle.almanac_core.proofs.sample.sample_requests.Given as goal

-- the requests so far, and those that are left
abbrev pub invariant-loop-index : goal.invariant-loop-index
invariant-loop-index l = l.requests.items ++ sample_from l.state l.index (l.count - l.index) ≡ sample_requests l.count
    l.seed
