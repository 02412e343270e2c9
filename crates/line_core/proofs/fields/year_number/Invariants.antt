use Rattle.std.proofs.Common.{◌≡◌, ◌≤◌, ◌+◌, ◌*◌, ◌^◌, unsigned_abs}
use Rattle.book_model.specs.calendars.Dates.{counted}
use Rattle.line_core.proofs.fields.year_number.Given as goal

-- what the fields so far count, which is small
abbrev pub invariant-loop-index : goal.invariant-loop-index
invariant-loop-index l = record {
  so_far : l.year ≡ counted l.row l.date l.index;
  small : unsigned_abs l.year ≤ 2 ^ 31
      + l.index * 2 ^ 63;
}
