use Rattle.std.specs.Prelude.{length, slice_range}
use Rattle.book_model.specs.declared.sun_tables.TheConstants.{SUN_TERMS}
use Rattle.sun_core.specs.LinearModels.{other_sun_terms_of}
use Rattle.sun_core.specs.declared.linear_models.TheConstants.{GREATEST_SUN_TERMS}
use Rattle.sun_core.proofs.SunTerms.{other_turns, other_reach, sun_terms_within}
use Rattle.sun_core.proofs.turns.other_sun_terms.Goals as goal

pub returns : goal.returns
unfolding other_sun_terms_of
returns g c =
    let vs = slice_range SUN_TERMS GREATEST_SUN_TERMS (length SUN_TERMS) in
    record {
      holds = λ w x h. sun_terms_within g.E.Enclosure.shown w x vs c.sum_of_periodic_terms.result
          (c.sum_of_periodic_terms.ensures.holds w x vs other_turns other_reach h);
    }
