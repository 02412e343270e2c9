use Rattle.std.proofs.Common.{rules, ◌∙◌, sym, SFits, w64}
use Rattle.std.proofs.lemmas.Int.{to_z-of_z}
use Rattle.calendar_math.proofs.SpanLemmas.{years_have_days}
use Rattle.calendar_math.proofs.spans.days_of_years.Goals as goal

pub returns : goal.returns
returns c =
    let fn = c.ranges.years in
    let fq : SFits w64 c.days_of.result = search rules in
    record { days = simp to_z-of_z ((simp to_z-of_z at c.days_of.ensures.days) ∙ sym (years_have_days c.args.years)) }
