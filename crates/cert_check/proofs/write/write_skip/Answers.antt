use Rattle.std.proofs.Common.{rules}
use Rattle.cert_check.specs.Text.{skip_text}
use Rattle.cert_check.proofs.write.write_skip.Goals as goal

pub part_none-buffer : goal.part_none-buffer
part_none-buffer g c = search rules

pub slice_bounds-write_parts-end-3 : goal.slice_bounds-write_parts-end-3
slice_bounds-write_parts-end-3 g c = search rules

pub returns : goal.returns
unfolding skip_text
returns g c = search rules
