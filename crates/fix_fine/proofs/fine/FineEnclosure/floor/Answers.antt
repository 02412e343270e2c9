use Rattle.std.proofs.Common.{rules, SFits, sym}
use Rattle.std.specs.Int.{w128}
use Rattle.std.proofs.lemmas.Int.{to_z-of_z}
use Rattle.fix_fine.proofs.FarCells.{far_open}
use Rattle.fix_fine.proofs.fine.FineEnclosure.floor.Goals as goal

pub returns-in-Err-clause-undecided : goal.returns-in-Err-clause-undecided
returns-in-Err-clause-undecided c =
    let f : SFits w128 c.in-Some.cell = search rules in
    let n = simp to_z-of_z at c.in-Err.ensures in
    far_open _ _ _ c.in-Some.cell (sym c.in-Some.ensures.value) n c.undecided_test_at.ensures.endpoints
