use Rattle.std.proofs.Common.{arith, ◌+◌, ◌^◌}
use Rattle.std.proofs.lemmas.Result.{err_from_is_err_and}
use Rattle.book_model.specs.programs.Widths.{close_void}
use Rattle.book_model.proofs.Leads.{leads_bind_exact, leads_answer}
use Rattle.angle_search.proofs.Turns.{turn_is, when_near, next_turn}
use Rattle.angle_search.proofs.Measured.{middle_within, moment_wider}
use Rattle.angle_search.proofs.bisection.+bisected.Goals as goal

pub returns-then-branch-clause-leads : goal.returns-then-branch-clause-leads
returns-then-branch-clause-leads g t c = λ w y l u k m n.
    let f = g.F.Angular.angle_of in
    let e = rw c.if-branch.true at (c.in_ok-are_near.ensures.leads w l u m n) in
    rw (turn_is c.args.more f y l u)
    (leads_bind_exact _ e
    (rw (when_near c.args.more f y l u) (leads_answer (c.middle.ensures.encloses.holds w l u m n))))

pub returns-then-branch-2-clause-leads : goal.returns-then-branch-2-clause-leads
returns-then-branch-2-clause-leads g t c = λ w y l u k m n.
    let f = g.F.Angular.angle_of in
    let e = rw c.if-branch.false at (c.in_ok-are_near.ensures.leads w l u m n) in
    let x = c.middle-center.ensures.encloses.holds w l u m n in
    let p = rw c.if-branch-2.true at (c.in_ok-turned.ensures.leads w y _ k x) in
    rw (turn_is c.args.more f y l u)
    (leads_bind_exact _ e (rw (next_turn c.args.more f y l u (omega (arith, c.if-more-eq0.false)))
    (leads_bind_exact _ p (c.bisected.ensures.leads w y l _ k m x))))

pub returns-else-branch-2-clause-leads : goal.returns-else-branch-2-clause-leads
returns-else-branch-2-clause-leads g t c = λ w y l u k m n.
    let f = g.F.Angular.angle_of in
    let e = rw c.if-branch.false at (c.in_ok-are_near.ensures.leads w l u m n) in
    let x = c.middle-center.ensures.encloses.holds w l u m n in
    let p = rw c.if-branch-2.false at (c.in_ok-turned.ensures.leads w y _ k x) in
    rw (turn_is c.args.more f y l u)
    (leads_bind_exact _ e (rw (next_turn c.args.more f y l u (omega (arith, c.if-more-eq0.false)))
    (leads_bind_exact _ p (c.bisected-else-branch-2.ensures.leads w y _ u k x n))))

pub returns-then-branch-clause-measured : goal.returns-then-branch-clause-measured
returns-then-branch-clause-measured g t c = λ v m u e a b d h k l.
    moment_wider (v + 2 ^ 9) (m + 2 ^ 9) _ (omega (arith, a))
    (middle_within g.E.Enclosure.shown _ v c.args.low c.args.high c.middle.result e k l
    (λ r p q. c.middle.ensures.encloses.narrow r p q))

pub returns-then-branch-2-clause-measured : goal.returns-then-branch-2-clause-measured
returns-then-branch-2-clause-measured g t c = λ v m u e a b d h k l.
    let x = middle_within g.E.Enclosure.shown _ v c.args.low c.args.high c.middle-center.result e k l
    (λ r p q. c.middle-center.ensures.encloses.narrow r p q) in
    c.bisected.ensures.measured (v + 2 ^ 9) m u e (omega (arith, a, c.if-more-eq0.false)) b d h
    (moment_wider v (v + 2 ^ 9) _ (omega arith) k) x

pub returns-else-branch-2-clause-measured : goal.returns-else-branch-2-clause-measured
returns-else-branch-2-clause-measured g t c = λ v m u e a b d h k l.
    let x = middle_within g.E.Enclosure.shown _ v c.args.low c.args.high c.middle-center.result e k l
    (λ r p q. c.middle-center.ensures.encloses.narrow r p q) in
    c.bisected-else-branch-2.ensures.measured (v + 2 ^ 9) m u e (omega (arith, a, c.if-more-eq0.false)) b d h x
    (moment_wider v (v + 2 ^ 9) _ (omega arith) l)

pub returns-then-more-eq0-clause-measured : goal.returns-then-more-eq0-clause-measured
returns-then-more-eq0-clause-measured g t c = λ v m u e a b d h k l. close_void

pub returns-in_err-turned-clause-measured : goal.returns-in_err-turned-clause-measured
returns-in_err-turned-clause-measured g t c = λ v m u e a b d h k l.
    let x = middle_within g.E.Enclosure.shown _ v c.args.low c.args.high c.middle-center.result e k l
    (λ r p q. c.middle-center.ensures.encloses.narrow r p q) in
    let fails = err_from_is_err_and c.from_residual-in_err-turned.result c.from_residual-in_err-turned.ensures.1 in
    rw (fails.1, fails.2) (c.in_err-turned.ensures.close m u e (omega (arith, b)) d
    (moment_wider (v + 2 ^ 9) m _ (omega (arith, a, c.if-more-eq0.false)) x) h)
