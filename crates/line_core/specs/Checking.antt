-- What was checked, as what it is without what was found beside it.
use Rattle.std.specs.Prelude.{ℤ, Result, Ok, Err}
use Rattle.book_model.specs.declared.request.Fields.{Fields}
use Rattle.book_model.specs.declared.request.Request.{Request}
use Rattle.book_model.specs.declared.request.Rule.{Rule}
use Rattle.line_core.specs.declared.checked.Checked.{Checked}

-- the date of what was found of one, or the rule that it breaks
abbrev pub date_in : Result (Fields × ℤ) Rule → Result Fields Rule
date_in (Ok found) = Ok found.0
date_in (Err rule) = Err rule

-- the request of what was found of a line, or the rule that it breaks
abbrev pub request_in : Result Checked Rule → Result Request Rule
request_in (Ok found) = Ok found.request
request_in (Err rule) = Err rule
