use Rattle.std.proofs.Common.{rules, ◌≡◌, true, refl}
use Rattle.book_model.specs.calendars.Versions.{has_since}
use Rattle.book_model.specs.lines.Words.{from_since, to_since}
use Rattle.line_core.proofs.request.checked_request.Goals as goal

pub returns-in_err-date-clause-request : goal.returns-in_err-date-clause-request
returns-in_err-date-clause-request c =
    let from : has_since c.args.version (from_since c.args.request.now.from) ≡ true = search rules in
    let to : has_since c.args.version (to_since c.args.request.now.to) ≡ true = search rules in
    let date = rw (c.reach_of-reach.ensures.reach, c.calendar.ensures.calendar) at c.in_err-date.ensures.date in
    rw (from, to, ← date) (search rules)

pub returns-clause-request : goal.returns-clause-request
returns-clause-request c =
    let from : has_since c.args.version (from_since c.args.request.now.from) ≡ true = search rules in
    let to : has_since c.args.version (to_since c.args.request.now.to) ≡ true = search rules in
    let date = rw (c.reach_of-reach.ensures.reach, c.calendar.ensures.calendar) at c.in_ok-date.ensures.date in
    rw (from, to, ← date) refl
