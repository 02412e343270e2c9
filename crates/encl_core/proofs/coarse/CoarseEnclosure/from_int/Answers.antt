use Rattle.interval_endpoints.specs.Scales.{coarse}
use Rattle.std.proofs.Common.{SFits, w64}
use Rattle.std.proofs.lemmas.Int.{to_z-of_z}
use Rattle.encl_core.specs.Shown.{shown_coarse}
use Rattle.interval_endpoints.proofs.Following.{within_integer, narrow_integer}
use Rattle.encl_core.proofs.coarse.CoarseEnclosure.from_int.Goals as goal

pub returns : goal.returns
returns c =
    let f : SFits w64 c.args.value = c.ranges.value in
    let h = simp to_z-of_z at c.int_endpoints.ensures.holds in
    let n = simp to_z-of_z at c.int_endpoints.ensures.narrow in
    record {
      encloses = record {
        holds = λ w d. within_integer shown_coarse w _ _ d h;
        narrow = λ r. narrow_integer
            coarse shown_coarse r _ _ n;
      };
    }
