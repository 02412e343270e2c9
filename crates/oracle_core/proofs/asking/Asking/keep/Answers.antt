use Rattle.std.proofs.Common.{rules, ◌≡◌, to_z, of_z, w64}
use Rattle.oracle_core.proofs.Keeping.{stand_pushed}
use Rattle.oracle_core.proofs.asking.Asking.keep.Goals as goal

pub invariant_of-self-2 : goal.invariant_of-self-2
invariant_of-self-2 g c =
    let value : to_z w64 (of_z w64 c.args.value) ≡ c.args.value = search rules in
    stand_pushed _ _ _ _ (rw value at c.in_ok-push.ensures.ok) c.self.invariant c.requires.stands
