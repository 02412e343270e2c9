use Rattle.std.proofs.Common.{◌≡◌, ◌≤◌, ◌-◌, length}
use Rattle.book_model.specs.lines.Lines.{parts_of}
use Rattle.book_model.specs.lines.Requests.{numbers_of}
use Rattle.line_core.proofs.FieldText.{followed, parts_left, no_values}
use Rattle.line_core.proofs.fields.spelled_fields.Given as goal

-- what is read and what is left spell the same fields
abbrev pub invariant-loop-rest : goal.invariant-loop-rest
invariant-loop-rest l = record {
  spells : followed l.count l.values (numbers_of (parts_left l.rest)) ≡ followed 0 no_values
      (numbers_of (parts_of l.date));
  few : l.count ≤ 5;
  five : length l.values ≡ 5;
}

abbrev pub decreases-loop-rest : goal.decreases-loop-rest
decreases-loop-rest l = 5 - l.count
