use Rattle.arc_series.proofs.PieceArcs.{near_arc, near_opposite}
use Rattle.arc_series.proofs.pieces.near.Goals as goal

pub returns-clause-holds : goal.returns-clause-holds
returns-clause-holds c = λ n x d e. near_arc n c.args.number x _ _ d c.requires.half e c.arc_of_number_64.ensures.holds

pub returns-clause-mirrored : goal.returns-clause-mirrored
returns-clause-mirrored c = λ n x d l e. near_opposite n c.args.number x _ _ d c.requires.half l e
    c.arc_of_number_64.ensures.mirrored
