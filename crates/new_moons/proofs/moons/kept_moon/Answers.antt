use Rattle.new_moons.proofs.KeptMoons.{moon_kept, moon_kept_within}
use Rattle.new_moons.proofs.moons.kept_moon.Goals as goal

pub keep-requires : goal.keep-requires
keep-requires g c = record {
  evaluated = moon_kept _ c.span.result c.in_ok-moment.ensures.leads c.span.ensures.holds;
  measured = moon_kept_within g.E.Enclosure.shown _ _ c.span.result _
      (λ l u p. c.in_ok-moment.ensures.measured l u (rw c.BITS.ensures at p))
      (λ l u p. c.in_ok-moment.ensures.recent l u (rw c.BITS.ensures at p)) c.span.ensures.holds c.span.ensures.tight;
}
