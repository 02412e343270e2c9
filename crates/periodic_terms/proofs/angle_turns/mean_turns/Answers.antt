use Rattle.periodic_terms.proofs.angle_turns.mean_turns.Goals as goal

pub returns : goal.returns
returns g c = record {
  holds = λ w a h.
      record {
        elongation = c.mean_turn.ensures.near w a.elongation h.elongation;
        sun_anomaly = c.mean_turn-2.ensures.near w a.sun_anomaly h.sun_anomaly;
        moon_anomaly = c.mean_turn-3.ensures.near w a.moon_anomaly h.moon_anomaly;
        latitude_argument = c.mean_turn-4.ensures.near w a.latitude_argument h.latitude_argument;
        first = c.in_ok-factors.ensures.first w a.eccentricity h.eccentricity;
        second = c.in_ok-factors.ensures.second w a.eccentricity h.eccentricity;
      };
  narrow = λ v e l h.
      record {
        elongation = c.mean_turn.ensures.narrow v l h.elongation;
        sun_anomaly = c.mean_turn-2.ensures.narrow v l h.sun_anomaly;
        moon_anomaly = c.mean_turn-3.ensures.narrow v l h.moon_anomaly;
        latitude_argument = c.mean_turn-4.ensures.narrow v l h.latitude_argument;
        factors = c.in_ok-factors.ensures.some e h.eccentricity;
      };
}
