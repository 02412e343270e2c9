use Rattle.std.proofs.Common.{arith, ◌≡◌, ◌<◌, ◌≤◌, length}
use Rattle.byte_streams.proofs.Flow.{at_any_err}
use Rattle.conversion.specs.Echoes.{echoed_lines}
use Rattle.conversion.proofs.EchoLemmas.{stands_at}
use Rattle.conversion.proofs.TextLemmas.{text_on, text_prefix, text_end, text_ended, text_cut}
use Rattle.conversion.proofs.text.write_rows.Goals as goal

pub write_row-requires-clause-stands : goal.write_row-requires-clause-stands
write_row-requires-clause-stands g c =
    let within : c.loop-index.index < length (echoed_lines c.args.echoes.now) = omega arith in
    stands_at (echoed_lines c.args.echoes.now) c.args.outcomes.now c.loop-index.index _ _ within c.loop-index-test.true
    c.index-outcomes-index.is c.requires.stand

pub returns-in_err-write_row-clause-err : goal.returns-in_err-write_row-clause-err
returns-in_err-write_row-clause-err g c =
    let within : c.loop-index.index < length (echoed_lines c.args.echoes.now) = omega arith in
    at_any_err _ (text_prefix _ _ _ _ c.loop-index.page.pending.bytes.items c.loop-index.page.seen c.loop-index.index
    (echoed_lines c.args.echoes.now)
    c.args.outcomes.now _ _ within c.loop-index-test.true c.index-outcomes-index.is
    c.loop-index.invariant.wrote c.in_err-write_row.ensures.err)

pub loop-index-preserved : goal.loop-index-preserved
loop-index-preserved g c =
    let within : c.loop-index.index < length (echoed_lines c.args.echoes.now) = omega arith in
    record {
      wrote = text_on _ _ _ _ c.loop-index.page.pending.bytes.items _ c.loop-index.page.seen _ c.loop-index.index
          (echoed_lines c.args.echoes.now)
          c.args.outcomes.now _ _ within c.loop-index-test.true c.index-outcomes-index.is
          c.loop-index.invariant.wrote c.in_ok-write_row.ensures.seen c.in_ok-write_row.ensures.ok;
      later = omega (arith, c.in_ok-write_row.ensures.later);
    }

pub returns-clause-ok : goal.returns-clause-ok
returns-clause-ok g c =
    let over : length (echoed_lines c.args.echoes.now) ≤ c.loop-index.index = omega arith in
    let all : c.loop-index.index ≡ length c.args.outcomes.now = omega arith in
    let left = text_end _ _ _ c.loop-index.page.pending.bytes.items c.loop-index.page.seen c.loop-index.index _ _
    (echoed_lines c.args.echoes.now)
    _ over all
    c.len-facts.ensures.len c.loop-index.invariant.wrote in
    text_ended c.put_end.result _ _ _ _ _ left c.put_end.ensures.ok

pub returns-clause-err : goal.returns-clause-err
returns-clause-err g c =
    let over : length (echoed_lines c.args.echoes.now) ≤ c.loop-index.index = omega arith in
    let all : c.loop-index.index ≡ length c.args.outcomes.now = omega arith in
    let left = text_end _ _ _ c.loop-index.page.pending.bytes.items c.loop-index.page.seen c.loop-index.index _ _
    (echoed_lines c.args.echoes.now)
    _ over all
    c.len-facts.ensures.len c.loop-index.invariant.wrote in
    text_cut c.put_end.result _ _ _ _ _ left c.put_end.ensures.err
