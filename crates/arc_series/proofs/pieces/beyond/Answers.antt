use Rattle.arc_series.proofs.PieceArcs.{beyond_three}
use Rattle.arc_series.proofs.pieces.beyond.Goals as goal

pub returns-clause-holds : goal.returns-clause-holds
returns-clause-holds c =
    λ n x d e. beyond_three n c.args.number c.quotient_64.result x _ _ _ _ d c.requires.from e
    c.quotient_64.ensures.near c.arc_of_number_64.ensures.holds
    c.less.ensures.low c.less.ensures.high
