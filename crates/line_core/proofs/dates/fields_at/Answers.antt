use Rattle.std.proofs.Common.{rules, ◌≡◌, w64, to_z, of_z}
use Rattle.moved_oracle.proofs.Passing.{asked_moved}
use Rattle.line_core.proofs.dates.fields_at.Goals as goal

pub returns : goal.returns
returns g c =
    let day : to_z w64 (of_z w64 c.args.day) ≡ c.args.day = search rules in
    let h = rw (c.new.ensures.inner, c.new.ensures.place, c.new.ensures.same_reference, day) at c.fields_on.ensures.date
    in
    record {
      date = asked_moved g.O.Oracle _ c.args.oracle.now _ c.args.place _ c.fields_on.new.oracle
          c.fields_on.result h (search rules);
    }
