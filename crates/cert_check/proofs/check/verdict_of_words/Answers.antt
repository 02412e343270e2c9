use Rattle.std.proofs.Common.{◌≡◌}
use Rattle.std.specs.Prelude.{Ok, Err}
use Rattle.book_model.specs.lines.Requests.{request_of}
use Rattle.cert_check.specs.Verdicts.{verdict_on, words_of_echo}
use Rattle.cert_check.proofs.check.verdict_of_words.Goals as goal

pub returns-in-Ok : goal.returns-in-Ok
unfolding verdict_on
returns-in-Ok c =
    let asked : Ok c.in-Ok.checked.request ≡ request_of c.args.file.now.version (words_of_echo c.args.echo.now) = rw
    (c.from.ensures.word, c.date.ensures.word, c.to.ensures.word) at c.in-Ok.ensures.request in
    record { verdict = rw (← asked) c.verdict_for.ensures.verdict }

pub returns-in-Err : goal.returns-in-Err
unfolding verdict_on
returns-in-Err c =
    let asked : Err c.in-Err.rule ≡ request_of c.args.file.now.version (words_of_echo c.args.echo.now) = rw
    (c.from.ensures.word, c.date.ensures.word, c.to.ensures.word) at c.in-Err.ensures.request in
    record { verdict = rw (← asked, c.number.ensures.number) }
