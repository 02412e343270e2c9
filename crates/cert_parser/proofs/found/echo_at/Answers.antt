use Rattle.cert_parser.proofs.TakenWords.{after_word}
use Rattle.cert_parser.proofs.found.echo_at.Goals as goal

pub of-requires-clause-from : goal.of-requires-clause-from
of-requires-clause-from c =
    let first = after_word c.args.line.now c.in_ok-from.from c.in_ok-from.rest c.word_at.result c.requires
    c.word_at.ensures c.in_ok-from.ensures.ok_part in
    first.word_is

pub of-requires-clause-date : goal.of-requires-clause-date
of-requires-clause-date c =
    let first = after_word c.args.line.now c.in_ok-from.from c.in_ok-from.rest c.word_at.result c.requires
    c.word_at.ensures c.in_ok-from.ensures.ok_part in
    let second = after_word c.in_ok-from.rest.now c.in_ok-date.date c.in_ok-date.rest c.word_at-2.result first.rest_are
    c.word_at-2.ensures
    c.in_ok-date.ensures.ok_part in
    second.word_is

pub of-requires-clause-to : goal.of-requires-clause-to
of-requires-clause-to c =
    let first = after_word c.args.line.now c.in_ok-from.from c.in_ok-from.rest c.word_at.result c.requires
    c.word_at.ensures c.in_ok-from.ensures.ok_part in
    let second = after_word c.in_ok-from.rest.now c.in_ok-date.date c.in_ok-date.rest c.word_at-2.result first.rest_are
    c.word_at-2.ensures
    c.in_ok-date.ensures.ok_part in
    let third = after_word c.in_ok-date.rest.now c.in_ok-to.to c.in_ok-to.rest c.word_at-3.result second.rest_are
    c.word_at-3.ensures
    c.in_ok-to.ensures.ok_part in
    third.word_is
