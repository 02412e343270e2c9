use Rattle.book_model.specs.lines.LineRules.{result_within}
use Rattle.oracle_core.proofs.Inquiring.{asking}
use Rattle.std.proofs.Common.{SFits, w64, arith}
use Rattle.std.proofs.lemmas.Int.{to_z-of_z}
use Rattle.line_core.proofs.VersionDays.{named_told, shown_told}
use Rattle.line_core.proofs.result.resolve_within.Goals as goal

pub confirm-requires : goal.confirm-requires
confirm-requires g c =
    let fits : SFits w64 c.args.day = c.ranges.day in
    record {
      told = simp to_z-of_z (shown_told c.args.request.now.from c.args.request.now.to c.args.day
          c.requires.reached);
    }

pub resolve_on-requires : goal.resolve_on-requires
resolve_on-requires g c =
    let fits : SFits w64 c.args.day = c.ranges.day in
    record {
      told = simp to_z-of_z (shown_told c.args.request.now.from c.args.request.now.to c.args.day
          c.requires.reached);
    }

pub returns-then-not-row : goal.returns-then-not-row
unfolding result_within
returns-then-not-row g c = record { comes = grind (arith, asking) }

pub date_on-requires : goal.date_on-requires
date_on-requires g c =
    let fits : SFits w64 c.args.day = c.ranges.day in
    let told = named_told c.args.request.now.from c.args.request.now.to c.args.day c.requires.reached in
    record { told = simp to_z-of_z (rw c.calendar-calendar.ensures.calendar told) }

pub returns-in_err-back : goal.returns-in_err-back
unfolding result_within
returns-in_err-back g c = record { comes = grind (arith, asking) }

pub returns : goal.returns
unfolding result_within
returns g c = record { comes = grind (arith, asking) }
