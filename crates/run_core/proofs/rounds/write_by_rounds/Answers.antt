use Rattle.std.proofs.Common.{arith, ◌≡◌, ◌≤◌, ◌+◌, length}
use Rattle.byte_streams.proofs.Flow.{at_any_err, prefix_then}
use Rattle.run_core.specs.Checking.{is_yes, is_no, is_skip, verdicts_of}
use Rattle.run_core.proofs.CheckLemmas.{round_next, round_on, round_prefix, round_counted}
use Rattle.run_core.proofs.CheckLemmas.{no_verdict, verdicts_end, all_counted, all_yes}
use Rattle.run_core.proofs.rounds.write_by_rounds.Goals as goal

pub returns-in_err-put_verdicts-clause-err : goal.returns-in_err-put_verdicts-clause-err
returns-in_err-put_verdicts-clause-err g c =
    let within : c.loop-first.first + c.min-count.result ≤ length c.args.file.now.lines = omega arith in
    let next = round_next c.args.file.now c.args.answers.now c.loop-first.first c.min-count.result c.deref.result.now
    c.in_ok-verdicts.verdicts.items c.deref.ensures.value c.in_ok-verdicts.ensures.verdicts c.in_ok-verdicts.ensures.len
    within in
    at_any_err _ (round_prefix _ _ _ _ c.loop-first.pending.bytes.items c.loop-first.first _ _ c.deref.result.now _ next
    c.loop-first.invariant.wrote
    c.in_err-put_verdicts.ensures.err)

pub loop-first-preserved : goal.loop-first-preserved
loop-first-preserved g c =
    let within : c.loop-first.first + c.min-count.result ≤ length c.args.file.now.lines = omega arith in
    let many : length c.deref.result.now ≡ c.min-count.result = rw c.deref.ensures.value c.in_ok-verdicts.ensures.len in
    let next = round_next c.args.file.now c.args.answers.now c.loop-first.first c.min-count.result c.deref.result.now
    c.in_ok-verdicts.verdicts.items c.deref.ensures.value c.in_ok-verdicts.ensures.verdicts c.in_ok-verdicts.ensures.len
    within in
    let before = c.loop-first.invariant in
    record {
      wrote = round_on _ _ _ _ c.loop-first.pending.bytes.items _ c.loop-first.first _ _ _ c.deref.result.now _ next
          (omega (arith, many)) before.wrote
          c.in_ok-put_verdicts.ensures.ok;
      yes = round_counted is_yes _ _ _ _ _ c.deref.result.now next before.yes c.in_ok-put_verdicts.ensures.yes;
      no = round_counted is_no _ _ _ _ _ c.deref.result.now next before.no c.in_ok-put_verdicts.ensures.no;
      skip = round_counted is_skip _ _ _ _ _ c.deref.result.now next before.skip c.in_ok-put_verdicts.ensures.skip;
      few_yes = omega (arith, many, c.in_ok-put_verdicts.ensures.few_yes);
      few_no = omega (arith, many, c.in_ok-put_verdicts.ensures.few_no);
      few_skip = omega (arith, many, c.in_ok-put_verdicts.ensures.few_skip);
      within = within;
      later = omega (arith, before.later, c.in_ok-put_verdicts.ensures.later);
    }

pub returns-in_err-put_counts-clause-err : goal.returns-in_err-put_counts-clause-err
returns-in_err-put_counts-clause-err g c =
    let over : length c.args.file.now.lines ≤ c.loop-first.first = omega arith in
    let none = no_verdict c.args.file.now c.args.answers.now c.loop-first.first over in
    let yes = all_counted is_yes _ _ _ none c.loop-first.invariant.yes in
    let no = all_counted is_no _ _ _ none c.loop-first.invariant.no in
    let skip = all_counted is_skip _ _ _ none c.loop-first.invariant.skip in
    let left = verdicts_end _ _ _ c.loop-first.pending.bytes.items c.loop-first.first _ _ none
    c.loop-first.invariant.wrote in
    at_any_err _ (prefix_then _ _ _ _ _ left (rw (yes, no, skip) at c.in_err-put_counts.ensures.err))

pub returns-clause-yes : goal.returns-clause-yes
returns-clause-yes g c =
    let over : length c.args.file.now.lines ≤ c.loop-first.first = omega arith in
    let none = no_verdict c.args.file.now c.args.answers.now c.loop-first.first over in
    let no = all_counted is_no _ _ _ none c.loop-first.invariant.no in
    let skip = all_counted is_skip _ _ _ none c.loop-first.invariant.skip in
    rw (c.are_all_yes.ensures.only, no, skip) (all_yes (verdicts_of c.args.file.now c.args.answers.now))
