-- What a line says of the request that it is the line of.
use Rattle.std.specs.Prelude.{◌≡◌}
use Rattle.book_model.specs.declared.request.Request.{Request}
use Rattle.book_model.specs.declared.version.Version.{Version}
use Rattle.book_model.specs.lines.Requests.{request_of, checked_request, IsSpelled}
use Rattle.book_model.specs.lines.Text.{line_text}

-- the line of a request that lines can spell asks the request, or breaks the rule that the request breaks
abbrev pub IsReadAgain : Version → Request → Type 0
IsReadAgain version r = IsSpelled r → request_of version (line_text r) ≡ checked_request version r
