use Rattle.std.proofs.Common.{rules, SFits}
use Rattle.std.specs.Int.{w128}
use Rattle.std.proofs.lemmas.Int.{to_z-of_z}
use Rattle.interval_endpoints.proofs.Testing.{endpoints_between, endpoints_everything}
use Rattle.interval_endpoints.proofs.comparing.undecided_test_at.Goals as goal

pub returns-in-Some-clause-endpoints : goal.returns-in-Some-clause-endpoints
returns-in-Some-clause-endpoints g c =
    let fl : SFits w128 c.at_fine_scale.result = search rules in
    let fh : SFits w128 c.at_fine_scale-in-Some.result = search rules in
    rw c.in-Some.is
    (simp to_z-of_z (endpoints_between g.I.MachineWord.scale _ _ _ _ c.at_fine_scale.ensures.value
    c.at_fine_scale-in-Some.ensures.value))

pub returns-in-None-clause-endpoints : goal.returns-in-None-clause-endpoints
returns-in-None-clause-endpoints g c = rw c.in-None.is endpoints_everything
