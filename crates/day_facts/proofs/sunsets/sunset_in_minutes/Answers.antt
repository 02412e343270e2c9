use Rattle.std.proofs.Common.{SFits, w64}
use Rattle.std.proofs.lemmas.Int.{to_z-of_z}
use Rattle.book_model.specs.programs.Widths.{close_void}
use Rattle.day_facts.proofs.Measured.{fact_day}
use Rattle.day_facts.proofs.SunsetValues.{sunset_is_value}
use Rattle.day_facts.proofs.SunsetWidths.{found_is_narrow}
use Rattle.day_facts.proofs.sunsets.sunset_in_minutes.Goals as goal

pub returns-in-Some-clause-value : goal.returns-in-Some-clause-value
returns-in-Some-clause-value g c =
    let f : SFits w64 c.args.day = c.ranges.day in
    sunset_is_value c.args.place c.in-Some.location c.args.day _ _ _ c.in-Some.ensures
    (λ w d. simp to_z-of_z at (c.minutes_of_sunset.ensures.leads w d))

pub returns-in-Some-clause-close : goal.returns-in-Some-clause-close
returns-in-Some-clause-close g c = λ e.
    let f : SFits w64 c.args.day = c.ranges.day in
    let m = simp to_z-of_z at c.minutes_of_sunset.ensures.close in
    m e (found_is_narrow c.args.place c.in-Some.location c.in-Some.ensures) (fact_day _ c.requires.day)

pub returns-in-None-clause-close : goal.returns-in-None-clause-close
returns-in-None-clause-close g c = λ e. close_void
