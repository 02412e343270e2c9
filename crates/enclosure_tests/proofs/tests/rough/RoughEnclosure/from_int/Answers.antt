use Rattle.std.proofs.Common.{SFits, w64}
use Rattle.std.proofs.lemmas.Int.{to_z-of_z}
use Rattle.interval_endpoints.proofs.Following.{within_integer}
use Rattle.interval_endpoints.proofs.Unpromised.{narrow_integer}
use Rattle.enclosure_tests.proofs.tests.rough.RoughEnclosure.from_int.Goals as goal

pub returns : goal.returns
returns c =
    let f : SFits w64 c.args.value = c.ranges.value in
    let h = simp to_z-of_z at c.int_endpoints.ensures.holds in
    record { encloses = record { holds = λ w d. within_integer _ w _ _ d h; narrow = λ r. narrow_integer _ r _ _ } }
