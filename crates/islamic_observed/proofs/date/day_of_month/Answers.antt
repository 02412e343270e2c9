use Rattle.std.proofs.Common.{arith}
use Rattle.std.proofs.lemmas.Int.{ints}
use Rattle.islamic_observed.proofs.date.day_of_month.Goals as goal

pub returns : goal.returns
returns c = record {
  day = omega (
    arith,
    ints,
    c.ranges.day,
    c.ranges.first,
    c.requires.day.0,
    c.requires.day.1,
    c.requires.value.0,
    c.requires.value.1,
  );
}
