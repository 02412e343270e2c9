use Rattle.std.proofs.Common.{sym}
use Rattle.std.proofs.lemmas.Int.{to_z-of_z}
use Rattle.book_model.specs.programs.Widths.{close_void}
use Rattle.book_model.specs.sky.Time.{correction_of_year}
use Rattle.book_model.proofs.Leads.{leads_answer, leads_void}
use Rattle.time_scales.specs.Corrections.{computed_of, units_of_year}
use Rattle.time_scales.proofs.CorrectionRows.{form_year}
use Rattle.time_scales.proofs.CorrectionWidths.{year_is_close}
use Rattle.time_scales.proofs.TableWidths.{correction_within}
use Rattle.time_scales.proofs.dynamical_time.correction.Goals as goal

pub by_form-requires : goal.by_form-requires
by_form-requires g c =
    let f = c.ranges.year in
    let e = simp to_z-of_z at c.in-Some.ensures.row in
    record { year = simp to_z-of_z (form_year c.args.year _ (sym e)) }

pub returns-in-Some-clause-leads : goal.returns-in-Some-clause-leads
unfolding correction_of_year
returns-in-Some-clause-leads g c = λ w d.
    let f = c.ranges.year in
    let e = simp to_z-of_z at c.in-Some.ensures.row in
    let h = simp to_z-of_z at c.by_form.ensures.holds in
    rw (← e) (leads_answer (h w d))

pub returns-in-Some-clause-narrow : goal.returns-in-Some-clause-narrow
unfolding computed_of
returns-in-Some-clause-narrow g c = λ r.
    let f = c.ranges.year in
    let e = simp to_z-of_z at c.in-Some.ensures.row in
    let h = simp to_z-of_z at c.by_form.ensures.narrow in
    rw (← e) (h r)

pub returns-in-Some-clause-close : goal.returns-in-Some-clause-close
unfolding units_of_year
returns-in-Some-clause-close g c = λ coarsest finest.
    let f = c.ranges.year in
    let e = simp to_z-of_z at c.in-Some.ensures.row in
    let h = simp to_z-of_z at c.by_form.ensures.narrow in
    rw (← e) (year_is_close g.E.Enclosure.shown _ c.args.year _ _ (sym e) coarsest finest (λ r. h r))

pub returns-in-None-clause-leads : goal.returns-in-None-clause-leads
unfolding correction_of_year
returns-in-None-clause-leads g c = λ w d.
    let f = c.ranges.year in
    let e = simp to_z-of_z at c.in-None.ensures.row in
    rw (← e) leads_void

pub returns-in-Some-clause-measured : goal.returns-in-Some-clause-measured
returns-in-Some-clause-measured g c = λ p.
    let f = c.ranges.year in
    let e = simp to_z-of_z at c.in-Some.ensures.row in
    let h = simp to_z-of_z at c.by_form.ensures.narrow in
    correction_within g.E.Enclosure.shown _ c.args.year _ _ p (sym e) (λ r. h r)

pub returns-in-None-clause-measured : goal.returns-in-None-clause-measured
returns-in-None-clause-measured g c = λ p. close_void
