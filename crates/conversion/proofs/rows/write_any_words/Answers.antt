use Rattle.conversion.proofs.RowLemmas.{words_echoed}
use Rattle.conversion.proofs.rows.write_any_words.Goals as goal

pub returns : goal.returns
returns g c =
    let words = c.in-Some.words in
    rw (c.in-Some.ensures.words, ← words_echoed c.args.number words.from.now words.date.now words.to.now)
    c.write_three.ensures
