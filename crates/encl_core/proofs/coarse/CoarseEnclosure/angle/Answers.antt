use Rattle.interval_endpoints.specs.Scales.{coarse}
use Rattle.std.proofs.lemmas.Int.{to_z-of_z}
use Rattle.encl_core.specs.Shown.{shown_coarse}
use Rattle.interval_endpoints.proofs.Following.{within_angle, narrow_angle}
use Rattle.encl_core.proofs.coarse.CoarseEnclosure.angle.Goals as goal

pub returns : goal.returns
returns c =
    let fp = c.ranges.phase in
    let fr = c.ranges.rate in
    let h = simp to_z-of_z at c.angle_endpoints.ensures.holds in
    let n = simp to_z-of_z at c.angle_endpoints.ensures.narrow in
    record {
      encloses = record {
        holds = λ w x. within_angle shown_coarse w _ _ x c.args.self _ h;
        narrow = λ r x.
            narrow_angle coarse shown_coarse r _ _ x c.args.self _ n;
      };
    }
