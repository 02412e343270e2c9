use Rattle.std.proofs.Common.{◌≡◌, length, refl, sym, arith}
use Rattle.cert_check.proofs.Comparing.{same_on, differs_at, same_all}
use Rattle.cert_check.proofs.compare.first_difference.Goals as goal

pub loop-index-init : goal.loop-index-init
loop-index-init c = record { same = refl; later = refl }

pub loop-index-preserved : goal.loop-index-preserved
loop-index-preserved c = same_on _ _ _ _ c.loop-index-test.true (sym c.if-not-stands_at.ensures.stands)
    c.loop-index.invariant

pub returns-then-not-stands_at : goal.returns-then-not-stands_at
returns-then-not-stands_at c =
    record {
      place = differs_at _ _ _ _ c.loop-index-test.true (sym c.if-not-stands_at.ensures.stands)
          c.loop-index.invariant;
    }

pub returns : goal.returns
returns c =
    let end : c.loop-index.index ≡ length c.args.listed.now = omega arith in
    record {
      place = same_all c.args.asked.now c.args.listed.now c.loop-index.index end c.requires.within
          c.loop-index.invariant;
    }
