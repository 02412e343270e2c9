use Rattle.std.proofs.Common.{arith, ◌≡◌, w32, w64, to_z, of_z}
use Rattle.std.proofs.lemmas.Int.{ints}
use Rattle.jobs_core.specs.Near.{near_pair}
use Rattle.jobs_core.proofs.NearLemmas.{same_pair}
use Rattle.jobs_core.proofs.near.pair_of.Goals as goal

pub returns : goal.returns
returns c =
    let kind = rw c.unwrap-fact.ensures at c.new.ensures.kind in
    let place = rw c.unwrap-fact.ensures at c.new.ensures.place in
    let day = rw c.unwrap-fact.ensures at c.new.ensures.day in
    record {
      pair = same_pair _ (near_pair c.args.first c.args.near) kind place
          (omega (arith, ints, day, c.day_of.ensures)) (omega (arith, ints, c.from.ensures));
    }
