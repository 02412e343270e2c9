use Rattle.std.specs.Prelude.{pos}
use Rattle.book_model.specs.numbers.Expressions.{integer}
use Rattle.rise_set.proofs.Places.{level_within}
use Rattle.rise_set.proofs.hindu.HinduSunsets.new.Goals as goal

pub invariant_of-result : goal.invariant_of-result
invariant_of-result g c = (
  c.horizon_at.ensures.location,
  c.horizon_at.ensures.whole (integer (pos 0)) (λ w d. c.from_int.ensures.encloses.holds w d)
      (λ e p. level_within g.E.Enclosure.shown _ c.from_int.result e (λ r. c.from_int.ensures.encloses.narrow r)),
)
