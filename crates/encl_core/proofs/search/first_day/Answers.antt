use Rattle.std.proofs.Common.{rules, ◌≡◌, ◌+ℤ◌, pos, w64, to_z, of_z, arith, refl}
use Rattle.std.proofs.lemmas.Int.{ints}
use Rattle.std.proofs.lemmas.Result.{err_from_is_err_and}
use Rattle.book_model.specs.programs.Widths.{close_void}
use Rattle.encl_core.proofs.Searching.{search_hit, search_miss, search_fails, search_is_over, first_is}
use Rattle.encl_core.proofs.search.first_day.Goals as goal

pub loop-later-init : goal.loop-later-init
loop-later-init g c =
    let start : to_z w64 (of_z w64 c.args.start) ≡ c.args.start = search rules in
    λ w deep. rw start (first_is _ c.args.start)

pub returns-then-branch-clause-leads : goal.returns-then-branch-clause-leads
returns-then-branch-clause-leads g c =
    let start : to_z w64 (of_z w64 c.args.start) ≡ c.args.start = search rules in
    let later : to_z w64 (of_z w64 c.from.result) ≡ pos c.loop-later.later = search rules in
    let day : to_z w64 (of_z w64 (c.args.start +ℤ pos c.loop-later.later)) ≡ c.args.start +ℤ pos c.loop-later.later =
    search rules in
    λ w deep. rw (start, later, day)
    (search_hit _ c.args.start _ 46 c.loop-later.later c.loop-later-test.true refl
    (rw start at (c.loop-later.invariant w deep))
    (rw (start, later, day, c.if-branch.true) at (c.in_ok-holds.ensures.leads w deep)))

pub returns-in_err-holds-clause-leads : goal.returns-in_err-holds-clause-leads
returns-in_err-holds-clause-leads g c =
    let start : to_z w64 (of_z w64 c.args.start) ≡ c.args.start = search rules in
    let later : to_z w64 (of_z w64 c.from.result) ≡ pos c.loop-later.later = search rules in
    let day : to_z w64 (of_z w64 (c.args.start +ℤ pos c.loop-later.later)) ≡ c.args.start +ℤ pos c.loop-later.later =
    search rules in
    let fails = err_from_is_err_and c.from_residual.result c.from_residual.ensures.1 in
    λ w deep. rw (fails.1, fails.2) (search_fails _ c.args.start _ 46 c.loop-later.later c.loop-later-test.true refl
    (rw start at (c.loop-later.invariant w deep)) (rw (start, later, day) at (c.in_err-holds.ensures.leads w deep)))

pub loop-later-preserved : goal.loop-later-preserved
loop-later-preserved g c =
    let start : to_z w64 (of_z w64 c.args.start) ≡ c.args.start = search rules in
    let later : to_z w64 (of_z w64 c.from.result) ≡ pos c.loop-later.later = search rules in
    let day : to_z w64 (of_z w64 (c.args.start +ℤ pos c.loop-later.later)) ≡ c.args.start +ℤ pos c.loop-later.later =
    search rules in
    λ w deep. rw start
    (search_miss _ c.args.start _ 46 c.loop-later.later c.loop-later-test.true refl
    (rw start at (c.loop-later.invariant w deep))
    (rw (start, later, day, c.if-branch.false) at (c.in_ok-holds.ensures.leads w deep)))

pub returns-clause-leads : goal.returns-clause-leads
returns-clause-leads g c =
    let start : to_z w64 (of_z w64 c.args.start) ≡ c.args.start = search rules in
    λ w deep. search_is_over _ (c.args.start +ℤ pos c.loop-later.later) 46 c.loop-later.later
    (omega (arith, c.loop-later-test.false))
    (rw start at (c.loop-later.invariant w deep))

pub returns-clause-close : goal.returns-clause-close
returns-clause-close g c = λ n e. close_void

pub returns-in_err-holds-clause-close : goal.returns-in_err-holds-clause-close
returns-in_err-holds-clause-close g c = λ n e.
    let start : to_z w64 (of_z w64 c.args.start) ≡ c.args.start = search rules in
    let later : to_z w64 (of_z w64 c.from.result) ≡ pos c.loop-later.later = search rules in
    let day : to_z w64 (of_z w64 (c.args.start +ℤ pos c.loop-later.later)) ≡ c.args.start +ℤ pos c.loop-later.later =
    search rules in
    let fails = err_from_is_err_and c.from_residual.result c.from_residual.ensures.1 in
    let m = rw (start, later, day) at c.in_err-holds.ensures.close in
    rw (fails.1, fails.2)
    (m (n (c.args.start +ℤ pos c.loop-later.later) (omega (arith, ints))
    (omega (arith, ints, c.loop-later-test.true))) e)
