use Rattle.std.proofs.Common.{arith, ◌<◌, ◌≤◌, length}
use Rattle.byte_streams.proofs.Flow.{at_any_err, prefix_then, wrote_flushed}
use Rattle.run_core.specs.Checking.{is_yes, is_no, is_skip, verdicts_of}
use Rattle.run_core.proofs.CheckLemmas.{next_verdict, no_verdict, verdicts_on, verdicts_prefix, verdicts_end, counted}
use Rattle.run_core.proofs.CheckLemmas.{one_more, all_counted, all_yes, prefix_written}
use Rattle.run_core.proofs.check.write_verdicts.Goals as goal

pub returns-in_err-verdict-clause-err : goal.returns-in_err-verdict-clause-err
returns-in_err-verdict-clause-err g c = at_any_err _ (prefix_written _ _ _ _ c.loop-index.invariant.wrote)

pub returns-in_err-put_verdict-clause-err : goal.returns-in_err-put_verdict-clause-err
returns-in_err-put_verdict-clause-err g c =
    let within : c.loop-index.index < length c.args.file.now.lines = omega arith in
    let next = next_verdict c.args.file.now c.args.answers.now c.loop-index.index _ within
    c.in_ok-verdict.ensures.verdict in
    at_any_err _ (verdicts_prefix _ _ _ _ c.loop-index.pending.bytes.items c.loop-index.index _ _ _ _ next
    c.loop-index.invariant.wrote
    c.in_err-put_verdict.ensures.err)

pub loop-index-preserved : goal.loop-index-preserved
loop-index-preserved g c =
    let within : c.loop-index.index < length c.args.file.now.lines = omega arith in
    let next = next_verdict c.args.file.now c.args.answers.now c.loop-index.index _ within
    c.in_ok-verdict.ensures.verdict in
    let before = c.loop-index.invariant in
    record {
      wrote = verdicts_on _ _ _ _ c.loop-index.pending.bytes.items _ c.loop-index.index _ _ _ _ next before.wrote
          c.in_ok-put_verdict.ensures.ok;
      yes = counted is_yes _ _ _ _ _ _ next before.yes c.add.ensures.yes;
      no = counted is_no _ _ _ _ _ _ next before.no c.add.ensures.no;
      skip = counted is_skip _ _ _ _ _ _ next before.skip c.add.ensures.skip;
      few_yes = one_more _ _ _ _ before.few_yes c.add.ensures.yes;
      few_no = one_more _ _ _ _ before.few_no c.add.ensures.no;
      few_skip = one_more _ _ _ _ before.few_skip c.add.ensures.skip;
      later = omega (arith, c.in_ok-put_verdict.ensures.later);
    }

pub returns-in_err-put_counts-clause-err : goal.returns-in_err-put_counts-clause-err
returns-in_err-put_counts-clause-err g c =
    let over : length c.args.file.now.lines ≤ c.loop-index.index = omega arith in
    let none = no_verdict c.args.file.now c.args.answers.now c.loop-index.index over in
    let yes = all_counted is_yes _ _ _ none c.loop-index.invariant.yes in
    let no = all_counted is_no _ _ _ none c.loop-index.invariant.no in
    let skip = all_counted is_skip _ _ _ none c.loop-index.invariant.skip in
    let left = verdicts_end _ _ _ c.loop-index.pending.bytes.items c.loop-index.index _ _ none
    c.loop-index.invariant.wrote in
    at_any_err _ (prefix_then _ _ _ _ _ left (rw (yes, no, skip) at c.in_err-put_counts.ensures.err))

pub returns : goal.returns
returns g c =
    let over : length c.args.file.now.lines ≤ c.loop-index.index = omega arith in
    let none = no_verdict c.args.file.now c.args.answers.now c.loop-index.index over in
    let yes = all_counted is_yes _ _ _ none c.loop-index.invariant.yes in
    let no = all_counted is_no _ _ _ none c.loop-index.invariant.no in
    let skip = all_counted is_skip _ _ _ none c.loop-index.invariant.skip in
    let left = verdicts_end _ _ _ c.loop-index.pending.bytes.items c.loop-index.index _ _ none
    c.loop-index.invariant.wrote in
    record {
      ok = wrote_flushed _ _ _ _ _ left (rw (yes, no, skip) at c.in_ok-put_counts.ensures.ok);
      yes = rw (c.are_all_yes.ensures.only, no, skip) (all_yes (verdicts_of c.args.file.now c.args.answers.now));
      err = tt;
      fault = λ e. absurd (cc);
      later = omega (arith, c.loop-index.invariant.later, c.in_ok-put_counts.ensures.later);
    }
