use Rattle.std.proofs.Common.{◌≡◌, refl, rules, SFits, w64}
use Rattle.std.proofs.lemmas.Int.{to_z-of_z}
use Rattle.book_model.specs.declared.calendar.Calendar.TheVariants.{Gregorian}
use Rattle.book_model.specs.calendars.Dates.{gregorian_day}
use Rattle.book_model.specs.lines.Reach.{reach_of}
use Rattle.book_model.specs.lines.Words.{calendar_of}
use Rattle.book_model.specs.sky.Facts.{IsFactDay}
use Rattle.line_core.specs.Days.{known_day}
use Rattle.line_core.proofs.VersionDays.{asked_date, asked_day}
use Rattle.line_core.proofs.result.day_of_request.Goals as goal

pub named_day-requires : goal.named_day-requires
named_day-requires g c =
    let checked = c.args.checked.now in
    let asked = checked.request in
    let fits : SFits w64 checked.day = search rules in
    let same : calendar_of asked.from ≡ c.in-Date.calendar = rw (← c.in-Date.ensures.named) refl in
    let known : checked.day ≡ known_day c.in-Date.calendar asked.date = rw same at checked.known in
    let reach = reach_of checked.version asked.from asked.to in
    record {
      known = simp to_z-of_z known;
      askable = asked_date checked.version reach c.in-Date.calendar (calendar_of asked.from) asked.date same
          checked.possible checked.answered;
    }

pub named_fact-fact-requires-clause-day : goal.named_fact-fact-requires-clause-day
named_fact-fact-requires-clause-day g c =
    let checked = c.args.checked.now in
    let asked = checked.request in
    let fits : SFits w64 checked.day = search rules in
    let same : calendar_of asked.from ≡ Gregorian = rw (← c.in-Value.ensures.named) refl in
    let known : checked.day ≡ gregorian_day asked.date = rw same at checked.known in
    let day = asked_day checked.version asked.from asked.to (calendar_of asked.from) asked.date same checked.answered in
    let told : IsFactDay checked.day = rw known day in
    simp to_z-of_z told
