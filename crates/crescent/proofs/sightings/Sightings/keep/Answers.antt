use Rattle.std.proofs.Common.{SFits, w64, Some}
use Rattle.std.proofs.lemmas.Int.{to_z-of_z}
use Rattle.crescent.proofs.KnownEvenings.{written}
use Rattle.crescent.proofs.sightings.Sightings.keep.Goals as goal

pub store-requires : goal.store-requires
store-requires c =
    let f : SFits w64 c.args.day = c.ranges.day in
    let d = simp to_z-of_z at c.in-Some.ensures.day in
    written (Some c.in-Some.word) c.args.place c.args.day c.args.sighting.tests c.args.sighting.is_seen c.requires.right
    c.in-Some.ensures.number d c.in-Some.ensures.tests c.in-Some.ensures.seen
