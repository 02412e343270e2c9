use Rattle.book_model.specs.declared.sun_tables.TheConstants.{SUN_TERMS}
use Rattle.sun_core.proofs.SunTerms.{sun_turns, sun_reach, sun_terms_within}
use Rattle.sun_core.proofs.turns.sun_terms.Goals as goal

pub returns : goal.returns
returns g c =
    let s = c.sum_of_periodic_terms.ensures in
    record {
      holds = λ w x h. sun_terms_within g.E.Enclosure.shown w x SUN_TERMS c.sum_of_periodic_terms.result
          (s.holds w x SUN_TERMS sun_turns sun_reach h);
      measured = s.measured;
    }
