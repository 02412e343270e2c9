use Rattle.book_model.specs.sky.Horizon.{sunset_depression_of}
use Rattle.rise_set.proofs.sunsets.Sunsets.new.Goals as goal

pub invariant_of-result : goal.invariant_of-result
invariant_of-result g c =
    c.horizon_at.ensures.whole (sunset_depression_of c.horizon_at.result.location)
    (λ w d. rw c.horizon_at.ensures.location (c.sunset_depression-depression.ensures.holds w d))
    (λ e p. c.sunset_depression-depression.ensures.measured e p)
