use Rattle.std.proofs.Common.{rules, ◌≡◌, refl, arith}
use Rattle.std.specs.Prelude.{Some}
use Rattle.book_model.specs.lines.Words.{from_word_in, to_word_in}
use Rattle.line_core.proofs.line.asked.Goals as goal

pub returns-clause-asked : goal.returns-clause-asked
returns-clause-asked c =
    let from : from_word_in c.args.version c.args.words.from.now ≡ Some c.in_ok-from.from = search rules in
    let to : to_word_in c.args.version c.args.words.to.now ≡ Some c.in_ok-to.to = search rules in
    let date = rw (c.reach_of-reach.ensures.reach, c.calendar.ensures.calendar) at c.in_ok-date.ensures.date in
    rw (from, to, ← date) refl

pub returns-in_err-from-clause-asked : goal.returns-in_err-from-clause-asked
returns-in_err-from-clause-asked c = grind arith

pub returns-in_err-to-clause-asked : goal.returns-in_err-to-clause-asked
returns-in_err-to-clause-asked c = grind arith

pub returns-in_err-date-clause-asked : goal.returns-in_err-date-clause-asked
returns-in_err-date-clause-asked c = grind arith
