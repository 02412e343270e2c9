use Rattle.std.proofs.Common.{rules}
use Rattle.cert_check.specs.Text.{missing_text}
use Rattle.cert_check.proofs.write.write_missing.Goals as goal

pub part_none-number_buffer : goal.part_none-number_buffer
part_none-number_buffer g c = search rules

pub part_none-day_buffer : goal.part_none-day_buffer
part_none-day_buffer g c = search rules

pub slice_bounds-write_parts-end-6 : goal.slice_bounds-write_parts-end-6
slice_bounds-write_parts-end-6 g c = search rules

pub returns : goal.returns
unfolding missing_text
returns g c = search rules
