use Rattle.std.proofs.Common.{rules}
use Rattle.cert_check.specs.Text.{value_text}
use Rattle.cert_check.proofs.write.write_value.Goals as goal

pub part_none-number_buffer : goal.part_none-number_buffer
part_none-number_buffer g c = search rules

pub part_none-fact_buffer : goal.part_none-fact_buffer
part_none-fact_buffer g c = search rules

pub part_none-listed_buffer : goal.part_none-listed_buffer
part_none-listed_buffer g c = search rules

pub part_none-found_buffer : goal.part_none-found_buffer
part_none-found_buffer g c = search rules

pub slice_bounds-write_parts-end-6 : goal.slice_bounds-write_parts-end-6
slice_bounds-write_parts-end-6 g c = search rules

pub returns : goal.returns
unfolding value_text
returns g c = search rules
