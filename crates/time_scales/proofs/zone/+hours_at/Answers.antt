use Rattle.std.proofs.Common.{rules, arith, ◌-◌, if◌then◌else◌, slice_index_or, SFits, w64}
use Rattle.std.proofs.lemmas.Int.{to_z-of_z}
use Rattle.std.proofs.lemmas.Result.{err_from_is_err_and}
use Rattle.book_model.proofs.Leads.{leads_bind_exact, leads_fail_exact, leads_answer}
use Rattle.encl_core.proofs.Measuring.{moment_about}
use Rattle.book_model.proofs.CorrectionRows.{both}
use Rattle.time_scales.proofs.ZoneWidths.{none, no_step, first_step, kept_steps, last_kept, hours_within, step_within}
use Rattle.time_scales.proofs.zone.+hours_at.Goals as goal

pub returns-in-empty-clause-leads : goal.returns-in-empty-clause-leads
returns-in-empty-clause-leads g t c = λ w x h.
    rw (no_step c.args.steps.now c.args.last x c.in-empty.len_below)
    (leads_answer (c.from_frac.ensures.encloses.holds w h.deep))

pub returns-in-empty-clause-measured : goal.returns-in-empty-clause-measured
returns-in-empty-clause-measured g t c = λ m k v e b h.
    hours_within g.E.Enclosure.shown _ m c.args.last c.from_frac.result e (last_kept m c.args.steps.now c.args.last k)
    (λ r. c.from_frac.ensures.encloses.narrow r)

pub returns-then-branch-clause-leads : goal.returns-then-branch-clause-leads
returns-then-branch-clause-leads g t c = λ w x h.
    let f : SFits w64 (slice_index_or c.args.steps.now 0 none).before = search rules in
    let i = simp to_z-of_z at (c.from_int.ensures.encloses.holds w h.deep) in
    let l = c.in_ok-less_step-in-len1-up.ensures.leads w x _ h i in
    rw (first_step none c.args.steps.now c.args.last x c.in-len1-up.len_at_least)
    (leads_bind_exact _ (rw c.if-branch.true at l)
    (leads_answer (c.from_frac-then-branch.ensures.encloses.holds w h.deep)))

pub returns-then-branch-clause-measured : goal.returns-then-branch-clause-measured
returns-then-branch-clause-measured g t c = λ m k v e b h.
    let s = kept_steps none m c.args.steps.now c.args.last c.in-len1-up.len_at_least k in
    hours_within g.E.Enclosure.shown _ m (slice_index_or c.args.steps.now 0 none).hours c.from_frac-then-branch.result e
    (both _ _ s.first).0
    (λ r. c.from_frac-then-branch.ensures.encloses.narrow r)

pub returns-else-branch-clause-leads : goal.returns-else-branch-clause-leads
returns-else-branch-clause-leads g t c = λ w x h.
    let f : SFits w64 (slice_index_or c.args.steps.now 0 none).before = search rules in
    let i = simp to_z-of_z at (c.from_int.ensures.encloses.holds w h.deep) in
    let l = c.in_ok-less_step-in-len1-up.ensures.leads w x _ h i in
    rw (first_step none c.args.steps.now c.args.last x c.in-len1-up.len_at_least)
    (leads_bind_exact _ (rw c.if-branch.false at l) (c.hours_at.ensures.leads w x h))

pub returns-in_err-less_step-in-len1-up-clause-leads : goal.returns-in_err-less_step-in-len1-up-clause-leads
returns-in_err-less_step-in-len1-up-clause-leads g t c = λ w x h.
    let f : SFits w64 (slice_index_or c.args.steps.now 0 none).before = search rules in
    let i = simp to_z-of_z at (c.from_int.ensures.encloses.holds w h.deep) in
    let l = c.in_err-less_step-in-len1-up.ensures.leads w x _ h i in
    let fails = err_from_is_err_and c.from_residual.result c.from_residual.ensures.1 in
    rw (first_step none c.args.steps.now c.args.last x c.in-len1-up.len_at_least)
    (rw (fails.1, fails.2) (leads_fail_exact _ l))

pub returns-in_err-less_step-in-len1-up-clause-measured : goal.returns-in_err-less_step-in-len1-up-clause-measured
returns-in_err-less_step-in-len1-up-clause-measured g t c = λ m k v e b h.
    let f : SFits w64 (slice_index_or c.args.steps.now 0 none).before = search rules in
    let j = simp to_z-of_z at c.from_int.ensures.encloses.narrow in
    let s = kept_steps none m c.args.steps.now c.args.last c.in-len1-up.len_at_least k in
    let n = step_within g.E.Enclosure.shown _ m (slice_index_or c.args.steps.now 0 none) c.from_int.result e s.first j
    in
    let fails = err_from_is_err_and c.from_residual.result c.from_residual.ensures.1 in
    rw (fails.1, fails.2) (c.in_err-less_step-in-len1-up.ensures.close v 0 (omega (arith, b)) (moment_about v _ h) n)

pub returns-else-branch-clause-measured : goal.returns-else-branch-clause-measured
returns-else-branch-clause-measured g t c = λ m k v e b h.
    let s = kept_steps none m c.args.steps.now c.args.last c.in-len1-up.len_at_least k in
    c.hours_at.ensures.measured m s.later v e b h
