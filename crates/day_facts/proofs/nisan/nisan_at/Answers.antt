use Rattle.std.proofs.Common.{rules, arith, SFits, w64, ◌^◌}
use Rattle.std.proofs.lemmas.Result.{err_from_is_err_and}
use Rattle.std.proofs.lemmas.Int.{to_z-of_z}
use Rattle.book_model.specs.declared.site.Site.TheVariants.{DayFloor}
use Rattle.book_model.specs.programs.Programs.{answer, cell, integers}
use Rattle.book_model.specs.sky.Facts.{at_depth}
use Rattle.book_model.specs.sky.Nisan.{nisan_of, nisan_by_of}
use Rattle.book_model.proofs.Early.{three_made}
use Rattle.book_model.proofs.Leads.{leads_on, leads_bind_exact, leaf_within}
use Rattle.encl_core.proofs.Measuring.{moment_about}
use Rattle.moon_core.proofs.UndecidedTests.{late_is_not_early}
use Rattle.day_facts.specs.Nisan.{next_equinox_of, nisan_on_of}
use Rattle.book_model.proofs.Early.{least_first}
use Rattle.day_facts.proofs.Equinoxes.{equinox_least, equinox_near}
use Rattle.day_facts.proofs.nisan.nisan_at.Goals as goal

pub nisan_on-requires : goal.nisan_on-requires
nisan_on-requires g c =
    let f : SFits w64 c.args.day = c.ranges.day in
    let t = simp to_z-of_z at (c.in_ok-t.ensures.leads (at_depth 40) (omega arith)) in
    let n : SFits w64 c.in_ok-equinox.equinox = search rules in
    record {
      day = simp to_z-of_z
          (equinox_near (at_depth 40) c.args.day _ t (c.in_ok-equinox.ensures.leads (at_depth 40) _ (leaf_within t)));
    }

pub returns-clause-leads : goal.returns-clause-leads
unfolding nisan_of nisan_by_of next_equinox_of nisan_on_of
returns-clause-leads g c = λ w d.
    let f : SFits w64 c.args.day = c.ranges.day in
    let n : SFits w64 c.in_ok-equinox.equinox = search rules in
    let t = simp to_z-of_z at (c.in_ok-t.ensures.leads w d) in
    let q = c.in_ok-equinox.ensures.leads w _ (leaf_within t) in
    let l = simp to_z-of_z at (c.nisan_on.ensures.leads w _ (leaf_within t)) in
    leads_on _ t (leads_bind_exact _ q l)

pub returns-clause-early : goal.returns-clause-early
returns-clause-early g c = λ z p q.
    let f : SFits w64 c.args.day = c.ranges.day in
    let t = simp to_z-of_z at (c.in_ok-t.ensures.leads (at_depth 40) (omega arith)) in
    let both = leads_on (λ x. cell DayFloor integers x answer) t
    (c.in_ok-equinox.ensures.leads (at_depth 40) _ (leaf_within t)) in
    late_is_not_early c.nisan_on.result (three_made (at_depth 40) (least_first _ (equinox_least c.args.day)) z both)
    (c.nisan_on.ensures.leads (at_depth 40) _ (leaf_within t))

pub returns-clause-close : goal.returns-clause-close
returns-clause-close g c = λ e l. c.nisan_on.ensures.close e l (c.in_ok-t.ensures.measured e)

pub returns-in_err-equinox-clause-close : goal.returns-in_err-equinox-clause-close
returns-in_err-equinox-clause-close g c = λ e l.
    let fails = err_from_is_err_and c.from_residual-in_err-equinox.result c.from_residual-in_err-equinox.ensures.1 in
    rw (fails.1, fails.2) (c.in_err-equinox.ensures.close (2 ^ 33) (omega arith)
    (moment_about _ _ (c.in_ok-t.ensures.measured e)))
