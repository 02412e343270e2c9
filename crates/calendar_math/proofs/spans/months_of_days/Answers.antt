use Rattle.std.proofs.Common.{rules, ◌∙◌, sym, SFits, w64}
use Rattle.std.proofs.lemmas.Int.{to_z-of_z}
use Rattle.calendar_math.proofs.SpanLemmas.{months_are_spans}
use Rattle.calendar_math.proofs.spans.months_of_days.Goals as goal

pub returns : goal.returns
returns c =
    let fn = c.ranges.days in
    let fq : SFits w64 c.spans_of.result = search rules in
    record {
      months = simp to_z-of_z ((simp to_z-of_z at c.spans_of.ensures.spans)
          ∙ sym (months_are_spans c.args.days));
    }
