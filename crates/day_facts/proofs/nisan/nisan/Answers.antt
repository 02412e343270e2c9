use Rattle.book_model.specs.programs.Widths.{close_void}
use Rattle.day_facts.proofs.SunsetWidths.{found_is_narrow}
use Rattle.day_facts.proofs.nisan.nisan.Goals as goal

pub returns-in-Some-clause-close : goal.returns-in-Some-clause-close
returns-in-Some-clause-close g c = λ e.
    rw c.new-observer.ensures.location at c.nisan_at.ensures.close e
    (found_is_narrow c.args.place c.in-Some.location c.in-Some.ensures)

pub returns-in-None-clause-close : goal.returns-in-None-clause-close
returns-in-None-clause-close g c = λ e. close_void
