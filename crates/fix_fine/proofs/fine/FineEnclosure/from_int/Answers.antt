use Rattle.interval_endpoints.specs.Scales.{fine}
use Rattle.std.proofs.Common.{SFits, w64}
use Rattle.std.proofs.lemmas.Int.{to_z-of_z}
use Rattle.fix_fine.specs.Shown.{shown_fine}
use Rattle.interval_endpoints.proofs.Following.{within_integer, narrow_integer}
use Rattle.fix_fine.proofs.Rows.{integer_of_endpoints}
use Rattle.fix_fine.proofs.fine.FineEnclosure.from_int.Goals as goal

pub returns : goal.returns
returns c =
    let f : SFits w64 c.args.value = c.ranges.value in
    let h = simp to_z-of_z at c.int_endpoints.ensures.holds in
    let n = simp to_z-of_z at c.int_endpoints.ensures.narrow in
    record {
      encloses = record {
        holds = λ w d. within_integer shown_fine w _ _ d h;
        narrow = λ r. narrow_integer fine
            shown_fine r _ _ n;
      };
      table = integer_of_endpoints c.args.value c.int_endpoints.result f n;
    }
