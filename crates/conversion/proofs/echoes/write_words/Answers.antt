use Rattle.conversion.proofs.EchoLemmas.{echo_echoed}
use Rattle.conversion.proofs.echoes.write_words.Goals as goal

pub returns : goal.returns
returns g c =
    let w = c.words_of_echo.ensures in
    let words = c.words_of_echo.result in
    rw (
      ← w.from,
      ← w.date,
      ← w.to,
      ← echo_echoed c.args.number words.from.now words.date.now words.to.now
          w.from_printed w.date_printed w.to_printed,
    )
    c.write_three.ensures
