use Rattle.book_model.proofs.Intervals.{within_trans}
use Rattle.book_model.specs.numbers.Relations.{Lies}
use Rattle.periodic_terms.proofs.angle_turns.is_known.Goals as goal

pub returns-in-Some : goal.returns-in-Some
unfolding Lies
returns-in-Some g c = record {
  known = λ w x h e. record {
    lo = _;
    hi = _;
    inside =
        within_trans h.inside c.in-Some.ensures.holds;
  };
}
