use Rattle.std.proofs.Common.{rules, sym, SFits, w64}
use Rattle.std.proofs.lemmas.Int.{to_z-of_z}
use Rattle.book_model.specs.sky.Time.{correction_by, correction_of_year}
use Rattle.book_model.proofs.Exactly.{seconds_exactly, some_weaker}
use Rattle.book_model.proofs.plain.exact_correction.Goals as goal

pub returns-in_ok-checked_sub-in-SecondsSince : goal.returns-in_ok-checked_sub-in-SecondsSince
unfolding correction_of_year correction_by
returns-in_ok-checked_sub-in-SecondsSince c =
    let f : SFits w64 c.args.year = c.ranges.year in
    let e = sym (simp to_z-of_z at c.in_ok-row.ensures.row) in
    let d : SFits w64 c.in_ok-checked_sub-in-SecondsSince.field-0 = search rules in
    let p : SFits w64 c.in-SecondsSince.origin = search rules in
    let s = simp to_z-of_z at c.in_ok-checked_sub-in-SecondsSince.ensures.1 in
    let h = rw s at (simp to_z-of_z at c.exact_polynomial.ensures) in
    some_weaker c.exact_polynomial.result _ _
    (λ n g w. rw (e, c.in-SecondsSince.is) (seconds_exactly w _ c.in-SecondsSince.origin c.args.year n g)) h
