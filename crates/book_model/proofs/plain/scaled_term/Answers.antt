use Rattle.std.proofs.Common.{arith, ◌≡◌, ◌-◌, ◌*ℤ◌, pos}
use Rattle.std.proofs.lemmas.Int.{to_z-of_z}
use Rattle.book_model.proofs.Exactly.{term_is, checked_holds}
use Rattle.book_model.proofs.plain.scaled_term.Goals as goal

pub returns : goal.returns
returns c =
    checked_holds c.checked_mul-2.result _ _ _ c.checked_mul-2.ensures
    (λ n e.
    let q = c.in_ok-units.field-0 in
    let r : n ≡ (c.args.coefficient.num *ℤ pos q) *ℤ c.args.power =
    grind (arith, to_z-of_z, c.in_ok-scaled.ensures, c.from.ensures, c.from-units.ensures) in
    term_is c.args.coefficient.num c.args.power n q (c.args.coefficient.den - 1) r c.in_ok-units.ensures)
