use Rattle.book_model.specs.programs.Bisection.{has_passed_at}
use Rattle.angle_search.proofs.Passed.{answer_decides, passed_decides}
use Rattle.angle_search.proofs.tries.has_passed_near.Goals as goal

pub returns : goal.returns
returns g c = record {
  leads =
      let shown = g.E.Enclosure.shown in
      let f = g.F.Angular.angle_of in
      answer_decides shown (has_passed_at f) c.args.target c.args.x _ _ c.has_passed.result
      (passed_decides shown f c.args.target c.args.x c.in_ok-angle.angle _ _ _ c.has_passed.result
      c.in_ok-angle.ensures.leads c.has_passed.ensures.leads);
}
