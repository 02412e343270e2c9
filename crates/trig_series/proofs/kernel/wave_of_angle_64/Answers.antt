use Rattle.encl_core.proofs.HighHalves.{high_is}
use Rattle.trig_series.proofs.CosineChain.{cosine_chain, cosine_near}
use Rattle.trig_series.proofs.SineChain.{Steps, sine_chain, sine_constant, sine_near}
use Rattle.trig_series.proofs.kernel.wave_of_angle_64.Goals as goal

pub returns : goal.returns
returns k =
    let steps : Steps k.coefficients-series.result.now k.high_half-square.result k.step-i.result k.step-h.result k.step-g.result
    k.step-f.result k.step-e.result k.step-d.result k.step-c.result k.step-b.result k.step-a.result = record {
      eighth = k.step-i.ensures.near;
      seventh = k.step-h.ensures.near;
      sixth = k.step-g.ensures.near;
      fifth = k.step-f.ensures.near;
      fourth = k.step-e.ensures.near;
      third = k.step-d.ensures.near;
      second = k.step-c.ensures.near;
      first = k.step-b.ensures.near;
      constant = k.step-a.ensures.near;
    } in
    record {
      sine = λ e n x l t.
          sine_near n k.args.angle _ _ _ _ _ _ _ _ _ _ k.of_sum.result x l k.requires.small
          (sine_constant _ _ (k.coefficients-series.ensures.sine e) k.step-a.ensures.below)
          (high_is _ _ _ k.high_half-square.ensures.value) (high_is _ _ _ (k.of_sum.ensures.sine e)) t
          (sine_chain _ _ _ _ _ _ _ _ _ _ _ (k.coefficients-series.ensures.sine e) steps);
      cosine = λ e n x l t.
          rw (k.of_sum.ensures.cosine e)
          (cosine_near n k.args.angle _ _ _ _ _ _ _ _ _ _ _ x l k.requires.small
          (high_is _ _ _ k.high_half-square.ensures.value) t
          (cosine_chain _ _ _ _ _ _ _ _ _ _ _ (k.coefficients-series.ensures.cosine e) steps));
    }
