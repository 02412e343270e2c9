use Rattle.std.proofs.Common.{rules, SFits, w64, arith, ◌*◌, ◌^◌}
use Rattle.std.proofs.lemmas.Int.{to_z-of_z, ints}
use Rattle.std.proofs.lemmas.Result.{err_from_is_err_and}
use Rattle.book_model.specs.sky.Kinds.{longitude_at_midnight_of, spans_short_of, term_day_of}
use Rattle.book_model.proofs.Leads.{leads_bind_exact, leads_fail, leads_fail_exact}
use Rattle.day_facts.proofs.Measured.{midnight_day}
use Rattle.day_facts.proofs.TermDays.{term_day_is_value}
use Rattle.day_facts.proofs.solar_terms.term_day.Goals as goal

pub returns-clause-leads : goal.returns-clause-leads
unfolding term_day_of longitude_at_midnight_of
returns-clause-leads g c = λ w d.
    let e : SFits w64 c.args.first = c.ranges.first in
    let f : SFits w64 c.args.day = c.ranges.day in
    let n : SFits w64 c.in_ok-spans.spans = search rules in
    let q : SFits w64 c.term_longitude.result = search rules in
    let k = simp to_z-of_z at c.term_longitude.ensures.longitude in
    let m = simp to_z-of_z at (c.midnight-t.ensures.encloses.holds w d) in
    let r = simp to_z-of_z at (c.in_ok-spans.ensures.leads w) in
    let s = r _ (c.in_ok-there.ensures.leads w _ m) in
    let h = simp to_z-of_z at (c.longitude_day.ensures.leads w) in
    let l = h _ m (c.in_ok-there.ensures.again w _ m) in
    leads_bind_exact _ s (rw k at l)

pub returns-in_err-there-clause-leads : goal.returns-in_err-there-clause-leads
unfolding term_day_of spans_short_of longitude_at_midnight_of
returns-in_err-there-clause-leads g c = λ w d.
    let f : SFits w64 c.args.day = c.ranges.day in
    let m = simp to_z-of_z at (c.midnight-t.ensures.encloses.holds w d) in
    let fails = err_from_is_err_and c.from_residual.result c.from_residual.ensures.1 in
    rw (fails.1, fails.2) (leads_fail_exact _ (leads_fail _ (c.in_err-there.ensures.leads w _ m)))

pub returns-in_err-spans-clause-leads : goal.returns-in_err-spans-clause-leads
unfolding term_day_of longitude_at_midnight_of
returns-in_err-spans-clause-leads g c = λ w d.
    let e : SFits w64 c.args.first = c.ranges.first in
    let f : SFits w64 c.args.day = c.ranges.day in
    let m = simp to_z-of_z at (c.midnight-t.ensures.encloses.holds w d) in
    let r = simp to_z-of_z at (c.in_err-spans.ensures.leads w) in
    let fails = err_from_is_err_and c.from_residual-in_err-spans.result c.from_residual-in_err-spans.ensures.1 in
    rw (fails.1, fails.2) (leads_fail_exact _ (r _ (c.in_ok-there.ensures.leads w _ m)))

pub term_longitude-requires-clause-span : goal.term_longitude-requires-clause-span
unfolding longitude_at_midnight_of
term_longitude-requires-clause-span g c =
    let e : SFits w64 c.args.first = c.ranges.first in
    let f : SFits w64 c.args.day = c.ranges.day in
    let n : SFits w64 c.in_ok-spans.spans = search rules in
    let near = simp to_z-of_z at c.in_ok-spans.ensures.near in
    let m = simp to_z-of_z at c.midnight-t.ensures.encloses.holds in
    simp to_z-of_z (near _ (λ w d. c.in_ok-there.ensures.leads w _ (m w d)))

pub returns-clause-value : goal.returns-clause-value
returns-clause-value g c = term_day_is_value c.args.place c.args.first c.args.day _ _ _ (returns-clause-leads g c)

pub returns-clause-close : goal.returns-clause-close
returns-clause-close g c = λ e.
    let f : SFits w64 c.args.day = c.ranges.day in
    let q : SFits w64 c.term_longitude.result = search rules in
    let t = simp to_z-of_z at c.midnight-t.ensures.measured in
    let m = t e (midnight_day _ c.requires.day) in
    let l = simp to_z-of_z at c.longitude_day.ensures.close in
    l e (omega (arith, ints, c.term_longitude.ensures.from), omega (arith, ints, c.term_longitude.ensures.to)) m
    c.in_ok-there.ensures.in_table (c.in_ok-there.ensures.measured (3 * 2 ^ 8) e (omega arith) m)

pub returns-in_err-there-clause-close : goal.returns-in_err-there-clause-close
returns-in_err-there-clause-close g c = λ e.
    let f : SFits w64 c.args.day = c.ranges.day in
    let t = simp to_z-of_z at c.midnight-t.ensures.measured in
    let fails = err_from_is_err_and c.from_residual.result c.from_residual.ensures.1 in
    rw (fails.1, fails.2) (c.in_err-there.ensures.measured (3 * 2 ^ 8) e (omega arith)
    (t e (midnight_day _ c.requires.day)))

pub returns-in_err-spans-clause-close : goal.returns-in_err-spans-clause-close
returns-in_err-spans-clause-close g c = λ e.
    let f : SFits w64 c.args.day = c.ranges.day in
    let t = simp to_z-of_z at c.midnight-t.ensures.measured in
    let m = t e (midnight_day _ c.requires.day) in
    let fails = err_from_is_err_and c.from_residual-in_err-spans.result c.from_residual-in_err-spans.ensures.1 in
    rw (fails.1, fails.2) (c.in_err-spans.ensures.close e
    (c.in_ok-there.ensures.measured (3 * 2 ^ 8) e (omega arith) m))
