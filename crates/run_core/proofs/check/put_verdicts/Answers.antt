use Rattle.std.proofs.Common.{arith, ◌<◌, ◌+◌, length}
use Rattle.std.proofs.lemmas.List.{drop_more}
use Rattle.byte_streams.proofs.Flow.{at_any_err}
use Rattle.run_core.specs.Checking.{is_yes, is_no, is_skip}
use Rattle.run_core.proofs.CheckLemmas.{verdict_on, verdict_prefix, counted, one_more}
use Rattle.run_core.proofs.check.put_verdicts.Goals as goal

pub returns-in_err-put_verdict-clause-err : goal.returns-in_err-put_verdict-clause-err
returns-in_err-put_verdict-clause-err g c =
    let within : c.loop-index.index < length c.args.verdicts.now = omega arith in
    at_any_err _ (verdict_prefix _ _ _ _ c.loop-index.pending.bytes.items c.args.count c.loop-index.index _ _ _
    (drop_more c.args.verdicts.now c.loop-index.index _ within) c.loop-index.invariant.wrote
    c.in_err-put_verdict.ensures.err)

pub loop-index-preserved : goal.loop-index-preserved
loop-index-preserved g c =
    let within : c.loop-index.index < length c.args.verdicts.now = omega arith in
    let before = c.loop-index.invariant in
    record {
      wrote = verdict_on _ _ _ _ c.loop-index.pending.bytes.items _ c.args.count c.loop-index.index _ _ _
          (drop_more c.args.verdicts.now c.loop-index.index _ within) before.wrote c.in_ok-put_verdict.ensures.ok;
      yes = counted is_yes _ _ _ _ _ _ (drop_more c.args.verdicts.now c.loop-index.index _ within) before.yes
          c.add.ensures.yes;
      no = counted is_no _ _ _ _ _ _ (drop_more c.args.verdicts.now c.loop-index.index _ within) before.no
          c.add.ensures.no;
      skip = counted is_skip _ _ _ _ _ _ (drop_more c.args.verdicts.now c.loop-index.index _ within) before.skip
          c.add.ensures.skip;
      few_yes = omega (arith, one_more _ _ _ (c.args.count + c.loop-index.index) before.few_yes c.add.ensures.yes);
      few_no = omega (arith, one_more _ _ _ (c.args.count + c.loop-index.index) before.few_no c.add.ensures.no);
      few_skip = omega (arith, one_more _ _ _ (c.args.count + c.loop-index.index) before.few_skip c.add.ensures.skip);
      later = omega (arith, before.later, c.in_ok-put_verdict.ensures.later);
    }
