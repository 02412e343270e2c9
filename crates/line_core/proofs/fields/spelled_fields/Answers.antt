use Rattle.line_core.proofs.FieldText.{cut_parts, fails, sixth, spelled}
use Rattle.line_core.proofs.fields.spelled_fields.Goals as goal

pub returns-then-count-eq5 : goal.returns-then-count-eq5
returns-then-count-eq5 c =
    let spells = rw (c.if-count-eq5.true, c.in-Some.is) at c.loop-rest.invariant.spells in
    record { fields = λ calendar. sixth c.loop-rest.values c.args.date.now c.in-Some.word.now calendar spells }

pub returns-in_err-values : goal.returns-in_err-values
returns-in_err-values c =
    let parts = cut_parts c.in-Some.word.now c.cut_part.result.0.now c.cut_part.result.1 c.cut_part.ensures.cut in
    let spells = rw (c.in-Some.is, parts) at c.loop-rest.invariant.spells in
    record {
      fields = rw c.from_residual.ensures (λ calendar.
          fails c.loop-rest.count c.loop-rest.values c.args.date.now c.cut_part.result.0.now c.cut_part.result.1
          calendar c.in_err-values.ensures.number spells);
    }

pub returns : goal.returns
returns c =
    let spells = rw c.in_default.is at c.loop-rest.invariant.spells in
    record {
      fields = λ calendar. spelled c.loop-rest.count c.loop-rest.values c.args.date.now calendar
          c.loop-rest.invariant.few spells;
    }
