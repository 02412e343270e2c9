use Rattle.std.proofs.Common.{◌≡◌, length}
use Rattle.chinese_cal.specs.Keeping.{kept_value}
use Rattle.chinese_cal.proofs.kept.find.Given as goal

-- the places before these hold other facts
abbrev pub invariant-loop-places : goal.invariant-loop-places
invariant-loop-places l = kept_value l.places l.fact ≡ kept_value l.initial.places l.fact

abbrev pub decreases-loop-places : goal.decreases-loop-places
decreases-loop-places l = length l.places
