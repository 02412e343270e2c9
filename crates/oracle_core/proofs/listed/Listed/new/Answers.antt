use Rattle.oracle_core.proofs.listed.Listed.new.Goals as goal

pub invariant_of-result : goal.invariant_of-result
invariant_of-result c = record {
  same = c.requires.same;
  known = c.requires.known;
  listed = λ f h. cc (rw c.new.ensures.empty at h);
}
