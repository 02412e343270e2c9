use Rattle.std.proofs.Common.{rules, arith, refl, SFits, w64, ◌≡◌}
use Rattle.std.specs.Int.{w128}
use Rattle.std.proofs.lemmas.Int.{to_z-of_z, ints}
use Rattle.book_model.specs.programs.Leading.{between_cells}
use Rattle.time_scales.proofs.Years.{year_same, year_apart, own_endpoints}
use Rattle.time_scales.proofs.moment.year_between.Goals as goal

pub returns-then-first-year_beside-clause-decided : goal.returns-then-first-year_beside-clause-decided
returns-then-first-year_beside-clause-decided c =
    let fl : SFits w128 c.args.span.lo = search rules in
    let fh : SFits w128 c.args.span.hi = search rules in
    let fp : SFits w64 c.year_at-first.result = search rules in
    let fq : SFits w64 c.year_beside.result = search rules in
    let p = simp to_z-of_z at c.year_at-first.ensures.year in
    let q = simp to_z-of_z at c.year_beside.ensures.year in
    let same : c.year_at-first.result ≡ c.year_beside.result =
    grind (arith, ints, to_z-of_z, c.if-first-year_beside.true) in
    simp to_z-of_z (year_same c.args.span.lo c.args.span.hi _ _ p q same)

pub returns-clause-open : goal.returns-clause-open
returns-clause-open c =
    let fl : SFits w128 c.args.span.lo = search rules in
    let fh : SFits w128 c.args.span.hi = search rules in
    let fp : SFits w64 c.year_at-first.result = search rules in
    let fq : SFits w64 c.year_beside.result = search rules in
    let p = simp to_z-of_z at c.year_at-first.ensures.year in
    let q = simp to_z-of_z at c.year_beside.ensures.year in
    let apart : (c.year_at-first.result ≡ c.year_beside.result → ⊥) =
    λ e. grind (arith, ints, to_z-of_z, c.if-first-year_beside.false) in
    simp to_z-of_z (
      between_cells (year_apart c.args.span.lo c.args.span.hi _ _ p q apart)
          (own_endpoints c.args.span.lo c.args.span.hi),
      refl,
      refl,
    )
