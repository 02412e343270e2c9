-- What a shelf is: which slots are set, and the steps by which that changes. A step sets one slot; nothing else changes
-- a shelf, whoever works on it.
use Rattle.std.specs.Prelude.{◌≡◌, ℕ, List, [], ◌∷◌, Option, Some, None, IfSome}
use Rattle.std.specs.Ordering.{nat_cmp}
use Rattle.std.specs.FinMap as map
use Rattle.book_model.specs.declared.fact.Fact.{Fact}
use Rattle.oracle_core.specs.declared.evaluator.Answer.{Answer}
use Rattle.oracle_core.specs.Answers.{IsRightAnswer}

-- an entry is a fact and an answer
abbrev pub Entry : Type 0
Entry = Fact × Answer

-- it is right where the answer is right for the fact
abbrev pub IsRight : Entry → Type 0
IsRight entry = IsRightAnswer entry.0 entry.1

-- a finite map from the numbers of slots to entries: a slot is set where it has one, and else it is empty
abbrev pub Slots : Type 0
Slots = map.FinMap nat_cmp Entry

-- each entry is right
abbrev pub AllRight : Slots → Type 0
AllRight slots = (slot : ℕ) (entry : Entry) → map.get slots slot ≡ Some entry → IsRight entry

-- what a slot holds after an entry was offered to it: what it held, if it was set, else that entry
abbrev pub settled : Option Entry → Entry → Entry
settled None offered = offered
settled (Some held) offered = held

-- the slots after one step: an empty slot is set to the entry; where the slot is set nothing changes
abbrev pub set_once : Slots → ℕ → Entry → Slots
set_once slots slot entry = set_where (map.get slots slot)
  where
    set_where : Option Entry → Slots
    set_where None = map.insert slots slot entry
    set_where (Some held) = slots

-- a step of a worker
pub record Step : Type 0 where
  pub worker : ℕ
  pub slot : ℕ
  pub entry : Entry

-- each step offers a right entry
abbrev pub OfferRight : List Step → Type 0
OfferRight [] = Unit {0}
OfferRight (step ∷ steps) = IsRight step.entry × OfferRight steps

-- the slots after steps, one after the other
abbrev pub after : Slots → List Step → Slots
after slots [] = slots
after slots (step ∷ steps) = after (set_once slots step.slot step.entry) steps

-- What a call shows of its step, by what its pass had seen of the slot before: whatever others did meanwhile, the slot
-- held something, or nothing, that the pass could see so, and after the step it holds the entry that is given.
pub record IsStep (seen : Option Entry) (offered given : Entry) : Type 0 where
  pub held : Option Entry
  pub as_seen : IfSome seen (λ entry. held ≡ Some entry)
  pub settles : settled held offered ≡ given
