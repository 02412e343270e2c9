use Rattle.std.proofs.Common.{◌≡◌, ◌<◌, [], arith, length, map}
use Rattle.std.proofs.lemmas.List.{length-map}
use Rattle.book_model.specs.lines.Text.{line_text}
use Rattle.conversion.specs.Rows.{line_at}
use Rattle.conversion.proofs.RowLemmas.{map_at, spelled_at, request_echoed}
use Rattle.conversion.proofs.rows.Rows.write_echo.Goals as goal

pub returns-in-Made : goal.returns-in-Made
returns-in-Made g c =
    let requests = c.in-Made.requests.items in
    let request = c.index-in-Made.result.now in
    let mapped : c.args.index < length (map line_text requests) = rw c.in-Made.is at c.requires.within in
    let within : c.args.index < length requests = omega (arith, length-map requests line_text) in
    let spelled = spelled_at requests c.args.index request within (rw c.in-Made.is at c.requires.spelled)
    c.index-in-Made.ensures in
    let line : line_at c.args.self.now c.args.index ≡ line_text request =
    rw (c.in-Made.is, map_at line_text requests c.args.index request [] within, ← c.index-in-Made.ensures) in
    rw (line, ← request_echoed c.args.number request spelled) c.write_request.ensures
