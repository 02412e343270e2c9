use Rattle.arc_series.proofs.Coefficients.{cut_29, cut_31, cut_33, cut_35, cut_37, cut_39, cut_41, cut_43, cut_45}
use Rattle.arc_series.proofs.Coefficients.{cut_47, cut_49, cut_51, cut_53, cut_55}
use Rattle.arc_series.proofs.Coefficients.{cut_57}
use Rattle.arc_series.proofs.KernelSteps.{innermost, next}
use Rattle.arc_series.proofs.kernel.inner_terms.Goals as goal

pub returns-clause-near : goal.returns-clause-near
returns-clause-near c = λ u s.
    let n57 = innermost 323627089012448273 56 u cut_57 in
    let n55 = next 54 0 335395346794719120 _ _ _ u c.step-over_55.ensures.near cut_55 s n57 in
    let n53 = next 52 1 348051774975651917 _ _ _ u c.step-over_53.ensures.near cut_53 s n55 in
    let n51 = next 50 2 361700864190383365 _ _ _ u c.step-over_51.ensures.near cut_51 s n53 in
    let n49 = next 48 3 376464164769582686 _ _ _ u c.step-over_49.ensures.near cut_49 s n51 in
    let n47 = next 46 4 392483916461905353 _ _ _ u c.step-over_47.ensures.near cut_47 s n49 in
    let n45 = next 44 5 409927646082434480 _ _ _ u c.step-over_45.ensures.near cut_45 s n47 in
    let n43 = next 42 6 428994048225803525 _ _ _ u c.step-over_43.ensures.near cut_43 s n45 in
    let n41 = next 40 7 449920587163647600 _ _ _ u c.step-over_41.ensures.near cut_41 s n43 in
    let n39 = next 38 8 472993437787424400 _ _ _ u c.step-over_39.ensures.near cut_39 s n41 in
    let n37 = next 36 9 498560650640798692 _ _ _ u c.step-over_37.ensures.near cut_37 s n39 in
    let n35 = next 34 10 527049830677415760 _ _ _ u c.step-over_35.ensures.near cut_35 s n37 in
    let n33 = next 32 11 558992244657865200 _ _ _ u c.step-over_33.ensures.near cut_33 s n35 in
    let n31 = next 30 12 595056260442243600 _ _ _ u c.step-over_31.ensures.near cut_31 s n33 in
    next 28 13 636094623231363848 _ _ _ u c.step.ensures.near cut_29 s n31
