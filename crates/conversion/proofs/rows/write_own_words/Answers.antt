use Rattle.conversion.proofs.SpacedLines.{line_echoed}
use Rattle.conversion.proofs.rows.write_own_words.Goals as goal

pub returns-in-Some : goal.returns-in-Some
returns-in-Some g c =
    let found = c.in-Some.ensures in
    rw (← line_echoed c.args.number c.args.line.now _ _ _ found.line found.from found.date found.to)
    c.write_prefix.ensures
