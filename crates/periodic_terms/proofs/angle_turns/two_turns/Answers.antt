use Rattle.periodic_terms.proofs.angle_turns.two_turns.Goals as goal

pub returns : goal.returns
returns g c = record {
  holds = λ w a h.
      record {
        elongation = c.mean_turn.ensures.near w a.elongation h.elongation;
        sun_anomaly = c.unused_turn.ensures.known w a.sun_anomaly h.sun_anomaly;
        moon_anomaly = c.mean_turn-2.ensures.near w a.moon_anomaly h.moon_anomaly;
        latitude_argument = c.unused_turn-2.ensures.known w a.latitude_argument h.latitude_argument;
      };
}
