use Rattle.std.proofs.Common.{rules}
use Rattle.cert_check.specs.Text.{counts_text}
use Rattle.cert_check.proofs.write.write_counts.Goals as goal

pub part_none-yes_buffer : goal.part_none-yes_buffer
part_none-yes_buffer g c = search rules

pub part_none-no_buffer : goal.part_none-no_buffer
part_none-no_buffer g c = search rules

pub part_none-skip_buffer : goal.part_none-skip_buffer
part_none-skip_buffer g c = search rules

pub slice_bounds-write_parts-end-5 : goal.slice_bounds-write_parts-end-5
slice_bounds-write_parts-end-5 g c = search rules

pub returns : goal.returns
unfolding counts_text
returns g c = search rules
