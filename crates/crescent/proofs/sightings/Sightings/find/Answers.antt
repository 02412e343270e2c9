use Rattle.std.proofs.Common.{SFits, w64, refl}
use Rattle.std.proofs.lemmas.Int.{to_z-of_z}
use Rattle.crescent.proofs.KnownEvenings.{read}
use Rattle.crescent.proofs.sightings.Sightings.find.Goals as goal

pub returns-then-is_of : goal.returns-then-is_of
returns-then-is_of c =
    let f : SFits w64 c.args.day = c.ranges.day in
    let n = c.if-is_of.ensures.number refl in
    let d = simp to_z-of_z at (c.if-is_of.ensures.day refl) in
    let r = read c.load-word.result c.args.place c.args.day c.load-word.ensures c.if-word-ne0.true n d in
    record {
      right = rw (c.sighting_of.ensures.seen, c.sighting_of.ensures.tests) r;
    }
