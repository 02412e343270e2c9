use Rattle.std.proofs.Common.{arith, refl, ◌≡◌, w16, w32, w64, to_z, of_z, ◌+ℤ◌}
use Rattle.std.proofs.lemmas.Int.{ints}
use Rattle.jobs_core.proofs.NearLemmas.{same_pair, same_fact}
use Rattle.jobs_core.proofs.near.near_of.Goals as goal

pub returns-clause-pair : goal.returns-clause-pair
returns-clause-pair c =
    let day : c.args.first.day +ℤ to_z w16 (of_z w16 c.in_ok-days.days) ≡ c.args.pair.0.day =
    omega (arith, ints, c.in_ok-days.ensures) in
    let value : to_z w32 (of_z w32 c.in_ok-value.value) ≡ c.args.pair.1 = omega (arith, ints, c.in_ok-value.ensures) in
    let kind : c.kind-2.result ≡ c.args.pair.0.kind = cc (c.in_ok-fact.ensures.kind, c.kind.ensures) in
    let place : c.place-2.result ≡ c.args.pair.0.place = cc (c.in_ok-fact.ensures.place, c.place.ensures) in
    same_pair _ c.args.pair kind place day value

pub returns-clause-near : goal.returns-clause-near
returns-clause-near c =
    let day : c.args.first.day +ℤ to_z w16 (of_z w16 c.in_ok-days.days) ≡ to_z w64 (of_z w64 c.day.result)
    = omega (arith, ints, c.in_ok-days.ensures, c.day.ensures) in
    let kind : c.kind-2.result ≡ c.kind.result = cc (c.in_ok-fact.ensures.kind) in
    let place : c.place-2.result ≡ c.place.result = cc (c.in_ok-fact.ensures.place) in
    same_fact c.kind.result c.kind-2.result c.place.result c.place-2.result _ _ kind place day
    (c.in_ok-fact.ensures.some.0 refl)
