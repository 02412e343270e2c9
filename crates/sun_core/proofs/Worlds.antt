-- A depth, and two enclosures as arguments. A world whose first two arguments are the intervals that two enclosures
-- show is one in which each enclosure holds its own argument: so what a call says of every expression that an enclosure
-- holds may be used of the enclosure's own interval.
use Rattle.std.specs.Prelude.{◌==◌, Bool, true, false, if◌then◌else◌}
use Rattle.std.proofs.Common.{arith}
use Rattle.book_model.specs.Interval.{Interval, IsProper}
use Rattle.book_model.proofs.Intervals.{within_refl}
use Rattle.book_model.specs.numbers.Expressions.{World, value, argument}
use Rattle.book_model.specs.numbers.Relations.{Lies, Within}

-- one of two intervals is proper
either_proper : (i j : Interval) (t : Bool) → IsProper i → IsProper j → IsProper (if t then i else j)
either_proper i j true p q = p
either_proper i j false p q = q

pub world_of_two : (i j : Interval) → IsProper i → IsProper j → World
world_of_two i j p q = record {
  depth = 40;
  arguments = λ k. if k == 0 then i else j;
  proper = λ k. either_proper i j
      (k == 0) p q;
}

pub within_first : {E : Type 0} (shown : E → Interval) (p : (e : E) → IsProper (shown e)) (e f : E)
    → Within shown (world_of_two (shown e) (shown f) (p e) (p f)) (argument 0) e
unfolding Lies value world_of_two
within_first shown p e f = record { deep = omega arith; inside = within_refl _ }

pub within_second : {E : Type 0} (shown : E → Interval) (p : (e : E) → IsProper (shown e)) (e f : E)
    → Within shown (world_of_two (shown e) (shown f) (p e) (p f)) (argument 1) f
unfolding Lies value world_of_two
within_second shown p e f = record { deep = omega arith; inside = within_refl _ }
