use Rattle.std.specs.Prelude.{Ok}
use Rattle.std.proofs.Common.{rules, SFits, w64}
use Rattle.std.proofs.lemmas.Int.{to_z-of_z}
use Rattle.day_facts.proofs.HinduRuns.{signs_found}
use Rattle.moon_core.proofs.PhaseRanges.{within_world}
use Rattle.day_facts.proofs.zodiac.signs_passed.Goals as goal

pub returns-in-Ok-clause-near : goal.returns-in-Ok-clause-near
returns-in-Ok-clause-near g c =
    let shown = g.E.Enclosure.shown in
    let p = g.E.Enclosure.proper in
    let f : SFits w64 c.in-Ok.passed = search rules in
    simp to_z-of_z (signs_found shown p c.args.t (Ok c.in-Ok.passed)
    (c.in-Ok.ensures.leads _ _ (within_world shown p c.args.t)))

pub returns-in-Err-clause-near : goal.returns-in-Err-clause-near
returns-in-Err-clause-near g c =
    let shown = g.E.Enclosure.shown in
    let p = g.E.Enclosure.proper in
    signs_found shown p c.args.t c.signs_passed_at.result
    (c.signs_passed_at.ensures.leads _ _ (within_world shown p c.args.t))
