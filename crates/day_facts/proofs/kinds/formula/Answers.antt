use Rattle.day_facts.proofs.kinds.formula.Goals as goal

pub returns-in-SignBefore-clause-close : goal.returns-in-SignBefore-clause-close
returns-in-SignBefore-clause-close g c = λ e. c.sign_before.ensures.close e
