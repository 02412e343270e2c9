use Rattle.std.proofs.Common.{arith, ◌-◌, Bool, if◌then◌else◌, true, SFits, w64, pos, length, take, drop}
use Rattle.std.proofs.Common.{slice_index_or}
use Rattle.std.proofs.lemmas.Int.{ints, to_z-of_z}
use Rattle.book_model.specs.calendars.Inquiries.{done}
use Rattle.oracle_core.proofs.Inquiring.{asking, inquires_done, inquires_then}
use Rattle.chinese_cal.specs.Walks.{one_bare}
use Rattle.chinese_cal.proofs.WalkLemmas.{none_bare, first_bare}
use Rattle.chinese_cal.proofs.walk.+is_one_bare.Goals as goal

pub returns-in-empty-clause-bare : goal.returns-in-empty-clause-bare
returns-in-empty-clause-bare g t c = rw (none_bare c.args.months.now c.in-empty.len_below) inquires_done

pub returns-else-branch-clause-bare : goal.returns-else-branch-clause-bare
returns-else-branch-clause-bare g t c =
    let n = c.requires.near 0 (pos 0) (omega (arith, c.in-len1-up.len_at_least)) in
    let f : SFits w64 (slice_index_or c.args.months.now 0 (pos 0)) = omega (arith, ints, n.0, n.1) in
    let next = λ (is_bare : Bool). if is_bare then done true
    else one_bare (take (length c.args.months.now - 1) (drop 1 c.args.months.now)) in
    let b = rw (to_z-of_z w64 (slice_index_or c.args.months.now 0 (pos 0)) f, c.if-branch.false) at
    (c.in_ok-is_bare-in-len1-up.ensures {u = tt}).bare in
    rw (first_bare c.args.months.now c.in-len1-up.len_at_least) (inquires_then next b c.is_one_bare.ensures.bare)

pub returns-in_err-is_bare-in-len1-up-clause-bare : goal.returns-in_err-is_bare-in-len1-up-clause-bare
unfolding one_bare
returns-in_err-is_bare-in-len1-up-clause-bare g t c = grind (arith, asking)

pub returns-then-branch-clause-bare : goal.returns-then-branch-clause-bare
unfolding one_bare
returns-then-branch-clause-bare g t c = grind (arith, asking)
