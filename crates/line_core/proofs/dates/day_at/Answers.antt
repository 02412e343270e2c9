use Rattle.std.proofs.Common.{rules}
use Rattle.moved_oracle.proofs.Passing.{asked_moved}
use Rattle.line_core.proofs.dates.day_at.Goals as goal

pub returns : goal.returns
returns g c =
    let h = rw (c.new.ensures.inner, c.new.ensures.place, c.new.ensures.same_reference) at c.day_by.ensures.day in
    record {
      day = asked_moved g.O.Oracle _ c.args.oracle.now _ c.args.place _ c.day_by.new.oracle c.day_by.result h
          (search rules);
    }
