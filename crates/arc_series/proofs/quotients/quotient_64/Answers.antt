use Rattle.std.proofs.Common.{refl}
use Rattle.arc_series.proofs.QuotientLemmas.{number_from, quotient_is}
use Rattle.arc_series.proofs.quotients.quotient_64.Goals as goal

pub returns-clause-near : goal.returns-clause-near
returns-clause-near c =
    λ x e. number_from _ c.args.number c.args.divisor x c.requires.there
    (quotient_is _ c.args.number c.args.divisor c.requires.there (rw c.from.ensures refl))
    c.requires.half e
