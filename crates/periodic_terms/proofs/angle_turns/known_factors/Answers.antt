use Rattle.periodic_terms.proofs.FoundTurns.{first_found, second_found}
use Rattle.periodic_terms.proofs.Narrowing.{square_within, usual_within}
use Rattle.periodic_terms.proofs.angle_turns.known_factors.Goals as goal

pub returns-clause-first : goal.returns-clause-first
returns-clause-first g c =
    first_found g.E.Enclosure.shown c.args.factor _ _ c.both_factors.result c.in_ok-first.ensures.near
    c.both_factors.ensures.first c.both_factors.ensures.first_wide

pub returns-clause-second : goal.returns-clause-second
returns-clause-second g c =
    second_found g.E.Enclosure.shown c.args.factor _ _ c.both_factors.result (λ w x h. c.in_ok-second.ensures.near w _
    (c.square.ensures.encloses.holds w x h)) c.both_factors.ensures.second c.both_factors.ensures.second_wide

pub returns-in_err-first-clause-some : goal.returns-in_err-first-clause-some
returns-in_err-first-clause-some g c = λ e h. absurd (c.in_err-first.ensures.some (usual_within _ h))

pub returns-in_err-second-clause-some : goal.returns-in_err-second-clause-some
returns-in_err-second-clause-some g c = λ e h.
    absurd (c.in_err-second.ensures.some (square_within g.E.Enclosure.shown _ c.args.factor c.square.result e h
    (λ r x. c.square.ensures.encloses.narrow r x)))

pub returns-clause-some : goal.returns-clause-some
returns-clause-some g c = λ e h.
    c.both_factors.ensures.some (c.in_ok-first.ensures.some (usual_within _ h))
    (c.in_ok-second.ensures.some (square_within g.E.Enclosure.shown _ c.args.factor c.square.result e h
    (λ r x. c.square.ensures.encloses.narrow r x)))
