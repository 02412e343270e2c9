use Rattle.book_model.specs.lines.LineRules.{result_of_day}
use Rattle.oracle_core.proofs.Inquiring.{asking}
use Rattle.std.proofs.Common.{SFits, w64, sym, arith}
use Rattle.std.proofs.lemmas.Int.{to_z-of_z}
use Rattle.book_model.proofs.VersionTables.{later_days}
use Rattle.line_core.proofs.result.resolve_day.Goals as goal

pub resolve_within-requires : goal.resolve_within-requires
resolve_within-requires g c =
    let fits : SFits w64 c.args.day = c.ranges.day in
    let asked = c.args.checked.now.request in
    let range = rw c.args.checked.now.reached at (simp to_z-of_z at c.if-is_within.ensures.within) in
    let reached = later_days c.args.checked.now.version asked.from asked.to c.args.day (sym range) in
    record { reached = simp to_z-of_z reached }

pub returns-then-is_within : goal.returns-then-is_within
unfolding result_of_day
returns-then-is_within g c = record { comes = grind (arith, asking) }

pub returns-else-is_within : goal.returns-else-is_within
unfolding result_of_day
returns-else-is_within g c = record { comes = grind (arith, asking) }
