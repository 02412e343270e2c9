use Rattle.command_line.proofs.OrderLemmas.{accepted_by, matched, refused_by}
use Rattle.command_line.proofs.words.matches_in.Goals as goal

pub returns-in-Ok-try_get_matches_from-clause-accepted : goal.returns-in-Ok-try_get_matches_from-clause-accepted
returns-in-Ok-try_get_matches_from-clause-accepted c =
    accepted_by _ _ c.in-Ok.ensures.app c.in-Ok-try_get_matches_from.ensures.kinds

pub returns-in-Ok-try_get_matches_from-clause-matches : goal.returns-in-Ok-try_get_matches_from-clause-matches
returns-in-Ok-try_get_matches_from-clause-matches c =
    matched _ _ _ c.in-Ok.ensures.app c.in-Ok-try_get_matches_from.ensures.matches

pub returns-in-Err-clause-form : goal.returns-in-Err-clause-form
returns-in-Err-clause-form c =
    λ e. refused_by _ _ c.in-Err.error c.in-Ok.ensures.app c.in-Err.ensures.kinds (c.reason.ensures.memory (cc))
