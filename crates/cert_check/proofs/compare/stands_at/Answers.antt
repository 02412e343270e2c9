use Rattle.std.proofs.Common.{◌≡◌, ◌≤◌, ℕ, suc, zero, false, List, [], ◌∷◌, length, refl, rules, arith}
use Rattle.std.specs.List.{slice_get}
use Rattle.std.proofs.lemmas.Grind.{common_steps}
use Rattle.book_model.specs.declared.fact.Fact.{Fact}
use Rattle.cert_check.specs.Listed.{is_fact_at}
use Rattle.cert_check.proofs.compare.stands_at.Goals as goal

-- past the end there is no fact
none_past : (facts : List Fact) (i : ℕ) (f : Fact) → length facts ≤ i → is_fact_at (slice_get facts i) f ≡ false
none_past [] i f over = refl
none_past (g ∷ gs) zero f over = absurd (omega (arith, over))
none_past (g ∷ gs) (suc i) f over = none_past gs i f (omega (arith, over))

pub item-requires : goal.item-requires
item-requires c = search rules

pub returns-then-index-len : goal.returns-then-index-len
returns-then-index-len c = grind (arith, common_steps)

pub returns-else-index-len : goal.returns-else-index-len
returns-else-index-len c =
    let past = none_past c.args.facts.now c.args.index c.args.fact (omega arith) in
    grind (arith, common_steps, past)
