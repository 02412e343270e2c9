use Rattle.std.proofs.Common.{◌+◌}
use Rattle.book_model.specs.programs.Bisection.{angle_past_of}
use Rattle.angle_search.proofs.Measured.{apart_within}
use Rattle.angle_search.proofs.bisection.angle_past.Goals as goal

pub returns-clause-leads : goal.returns-clause-leads
unfolding angle_past_of
returns-clause-leads g c = λ w v y h k. c.wrap_step.ensures.leads w _ (c.sub.ensures.encloses.holds w v y h k)

pub returns-clause-measured : goal.returns-clause-measured
returns-clause-measured g c = λ v u e b h k.
    let d = apart_within g.E.Enclosure.shown _ v u c.args.angle c.args.target c.sub.result e h k
    (λ r p q. c.sub.ensures.encloses.narrow r p q) in
    c.wrap_step.ensures.measured (v + u) e b d
