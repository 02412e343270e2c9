use Rattle.arc_series.proofs.Coefficients.{cut_1, cut_3, cut_5, cut_7, cut_9, cut_11, cut_13, cut_15, cut_17, cut_19}
use Rattle.arc_series.proofs.Coefficients.{cut_21, cut_23, cut_25, cut_27}
use Rattle.arc_series.proofs.KernelSteps.{next}
use Rattle.arc_series.proofs.kernel.terms.Goals as goal

pub returns-clause-near : goal.returns-clause-near
returns-clause-near c = λ u s.
    let n29 = c.inner_terms-over_29.ensures.near u s in
    let n27 = next 26 14 683212743470724133 _ _ _ u c.step-over_27.ensures.near cut_27 s n29 in
    let n25 = next 24 15 737869762948382064 _ _ _ u c.step-over_25.ensures.near cut_25 s n27 in
    let n23 = next 22 16 802032351030850070 _ _ _ u c.step-over_23.ensures.near cut_23 s n25 in
    let n21 = next 20 17 878416384462359600 _ _ _ u c.step-over_21.ensures.near cut_21 s n23 in
    let n19 = next 18 18 970881267037344821 _ _ _ u c.step-over_19.ensures.near cut_19 s n21 in
    let n17 = next 16 19 1085102592571150095 _ _ _ u c.step-over_17.ensures.near cut_17 s n19 in
    let n15 = next 14 20 1229782938247303441 _ _ _ u c.step-over_15.ensures.near cut_15 s n17 in
    let n13 = next 12 21 1418980313362273201 _ _ _ u c.step-over_13.ensures.near cut_13 s n15 in
    let n11 = next 10 22 1676976733973595601 _ _ _ u c.step-over_11.ensures.near cut_11 s n13 in
    let n9 = next 8 23 2049638230412172401 _ _ _ u c.step-over_9.ensures.near cut_9 s n11 in
    let n7 = next 6 24 2635249153387078802 _ _ _ u c.step-over_7.ensures.near cut_7 s n9 in
    let n5 = next 4 25 3689348814741910323 _ _ _ u c.step-over_5.ensures.near cut_5 s n7 in
    let n3 = next 2 26 6148914691236517205 _ _ _ u c.step-over_3.ensures.near cut_3 s n5 in
    next 0 27 18446744073709551615 _ _ _ u c.step.ensures.near cut_1 s n3
