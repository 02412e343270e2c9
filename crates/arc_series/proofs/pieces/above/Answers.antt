use Rattle.std.proofs.Common.{arith}
use Rattle.std.proofs.lemmas.Int.{ints}
use Rattle.arc_series.proofs.PieceArcs.{above_one, below_one}
use Rattle.arc_series.proofs.pieces.above.Goals as goal

pub returns-then-number-lt-NATURAL_ONE-clause-holds : goal.returns-then-number-lt-NATURAL_ONE-clause-holds
returns-then-number-lt-NATURAL_ONE-clause-holds c =
    let g = simp c.from-sum.ensures at c.quotient_64.ensures.near in
    let s = c.quotient_64.ensures.some
    (omega (arith, ints, c.from-sum.ensures, c.if-number-lt-NATURAL_ONE.true, c.requires.from)) in
    λ n x d e. below_one n c.args.number c.quotient_64.result x _ _ _ _ d c.requires.from
    (omega (arith, c.if-number-lt-NATURAL_ONE.true)) s e g
    c.arc_of_number_64.ensures.mirrored c.less.ensures.low c.less.ensures.high

pub returns-clause-holds : goal.returns-clause-holds
returns-clause-holds c =
    let g = simp c.from-sum.ensures at c.quotient_64-2.ensures.near in
    λ n x d e. above_one n c.args.number c.quotient_64-2.result x _ _ _ _ d c.requires.from
    (omega (arith, c.if-number-lt-NATURAL_ONE.false)) e g
    c.arc_of_number_64-2.ensures.holds c.more.ensures.low c.more.ensures.high
