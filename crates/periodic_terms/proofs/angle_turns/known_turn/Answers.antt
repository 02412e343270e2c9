use Rattle.std.proofs.Common.{arith, neg_ℤ, pos, ◌^◌, refl}
use Rattle.std.proofs.lemmas.Int.{ints}
use Rattle.periodic_terms.proofs.FoundTurns.{turn_found}
use Rattle.periodic_terms.proofs.Narrowing.{endpoints_of, some_span}
use Rattle.periodic_terms.proofs.angle_turns.known_turn.Goals as goal

pub returns-in_err-span-clause-narrow : goal.returns-in_err-span-clause-narrow
returns-in_err-span-clause-narrow g c = λ v l h. absurd (some_span _ _ v _ (c.in_err-span.ensures.none refl) h)

pub returns : goal.returns
returns g c = record {
  near = turn_found g.E.Enclosure.shown c.args.angle _ _ c.turn_of_span.result c.in_ok-span.ensures.holds
      c.turn_of_span.ensures.near;
  narrow = λ v l h.
      let k = endpoints_of (neg_ℤ (pos (2 ^ 57))) (pos (2 ^ 57)) v _ _ _ c.in_ok-span.span.ordered
      c.in_ok-span.ensures.holds
      c.in_ok-span.ensures.tight h in
      c.turn_of_span.ensures.narrow v l (omega (arith, ints, k.low)) (omega (arith, ints, k.high))
      (omega (arith, ints, k.close));
}
