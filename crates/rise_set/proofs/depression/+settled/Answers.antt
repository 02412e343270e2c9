use Rattle.std.proofs.Common.{arith, ◌+◌, ◌*◌, ◌/◌, ◌^◌}
use Rattle.std.proofs.lemmas.Result.{err_from_is_err_and}
use Rattle.book_model.specs.programs.Widths.{close_void}
use Rattle.book_model.proofs.Leads.{leads_on, leads_bind_exact, leads_answer, leaf_within}
use Rattle.rise_set.proofs.Measured.{turn_settles}
use Rattle.rise_set.proofs.Settling.{settled_more}
use Rattle.rise_set.proofs.depression.+settled.Goals as goal

pub returns-then-branch-clause-leads : goal.returns-then-branch-clause-leads
returns-then-branch-clause-leads g r c = λ w a x h k.
    let l = c.in_ok-new.ensures.leads w a x h k in
    let s = rw c.if-branch.true at (c.in_ok-has_settled.ensures.leads w x _ k (leaf_within l)) in
    rw (settled_more c.args.more _ _ a x (omega (arith, c.if-more-eq0.false)))
    (leads_on _ l (leads_bind_exact _ s (leads_answer (leaf_within l))))

pub returns-then-branch-clause-measured : goal.returns-then-branch-clause-measured
returns-then-branch-clause-measured g r c = λ p h e.
    turn_settles (17 * 2 ^ 28 / 20 + 2 ^ 32) _ (omega arith) (c.in_ok-new.ensures.measured p (17 * 2 ^ 28) e
    (omega arith) h)

pub returns-clause-leads : goal.returns-clause-leads
returns-clause-leads g r c = λ w a x h k.
    let l = c.in_ok-new.ensures.leads w a x h k in
    let s = rw c.if-branch.false at (c.in_ok-has_settled.ensures.leads w x _ k (leaf_within l)) in
    rw (settled_more c.args.more _ _ a x (omega (arith, c.if-more-eq0.false)))
    (leads_on _ l (leads_bind_exact _ s (c.settled.ensures.leads w a _ h (leaf_within l))))

pub returns-clause-measured : goal.returns-clause-measured
returns-clause-measured g r c = λ p h e.
    let new = turn_settles (17 * 2 ^ 28 / 20 + 2 ^ 32) _ (omega arith) (c.in_ok-new.ensures.measured p (17 * 2 ^ 28) e
    (omega arith) h) in
    c.settled.ensures.measured p new e

pub returns-in_err-has_settled-clause-measured : goal.returns-in_err-has_settled-clause-measured
returns-in_err-has_settled-clause-measured g r c = λ p h e.
    let new = turn_settles (17 * 2 ^ 28 / 20 + 2 ^ 32) _ (omega arith) (c.in_ok-new.ensures.measured p (17 * 2 ^ 28) e
    (omega arith) h) in
    let fails = err_from_is_err_and c.from_residual-in_err-has_settled.result
    c.from_residual-in_err-has_settled.ensures.1 in
    rw (fails.1, fails.2) (c.in_err-has_settled.ensures.close e h new)

pub returns-in_err-new-clause-measured : goal.returns-in_err-new-clause-measured
returns-in_err-new-clause-measured g r c = λ p h e.
    let fails = err_from_is_err_and c.from_residual.result c.from_residual.ensures.1 in
    rw (fails.1, fails.2) (c.in_err-new.ensures.measured p (17 * 2 ^ 28) e (omega arith) h)

pub returns-then-more-eq0-clause-measured : goal.returns-then-more-eq0-clause-measured
returns-then-more-eq0-clause-measured g r c = λ p h e. close_void
