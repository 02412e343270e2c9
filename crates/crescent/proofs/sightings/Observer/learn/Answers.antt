use Rattle.std.proofs.Common.{SFits, w64}
use Rattle.std.proofs.lemmas.Int.{to_z-of_z}
use Rattle.crescent.proofs.KnownEvenings.{decided, one_location}
use Rattle.crescent.proofs.sightings.Observer.learn.Goals as goal

pub keep-requires : goal.keep-requires
keep-requires c =
    let f : SFits w64 c.args.day = c.ranges.day in
    let h = rw (← c.self.view_is) at c.requires.decided in
    record {
      right = λ l e. simp to_z-of_z
          (rw (c.saturating_sub-tests.ensures, one_location _ _ l c.self.invariant e)
          (decided c.self.inside.location c.args.day c.args.before c.args.after c.args.is_seen
          c.if-after-lt4294967295.true h));
    }
