-- Steps on the slots of a shelf: what one sets, what it leaves, and that entries stay and stay right.
use Rattle.std.proofs.Common.{◌≡◌, Bool, true, false, ℕ, List, [], ◌∷◌, refl, sym, ap, ◌∙◌, subst, ◌⊎◌, inl, inr, arith}
use Rattle.std.proofs.Common.{rules, cond}
use Rattle.std.specs.Prelude.{Option, Some, None}
use Rattle.std.specs.Ordering.{nat_cmp, eq_by_cmp}
use Rattle.std.specs.Cmp.{nat_cmp_total}
use Rattle.std.specs.FinMap as map
use Rattle.std.specs.FinMap.{gets}
use Rattle.shelf_core.specs.Shelves.{Entry, IsRight, Slots, AllRight, set_once, settled, Step, OfferRight, after}

-- a step on an empty slot sets it
pub sets : (slots : Slots) (slot : ℕ) (entry : Entry) → map.get slots slot ≡ None
    → map.get (set_once slots slot entry) slot ≡ Some entry
sets slots slot entry empty = rw empty (grind (gets, rules))

-- a step on a slot that is set changes nothing
pub keeps : (slots : Slots) (slot : ℕ) (entry held : Entry) → map.get slots slot ≡ Some held
    → set_once slots slot entry ≡ slots
keeps slots slot entry held set = rw set refl

-- a step leaves every other slot
pub leaves : (slots : Slots) (slot other : ℕ) (entry : Entry) → ¬ (other ≡ slot)
    → map.get (set_once slots slot entry) other ≡ map.get slots other
leaves slots slot other entry apart = by (map.get slots slot) refl
  where
    by : (held : Option Entry) → map.get slots slot ≡ held → map.get (set_once slots slot entry) other ≡ map.get
        slots other
    by None e = rw e (grind (gets, rules, apart))
    by (Some h) e = rw e refl

-- after a step the slot holds what it held, or else the entry
pub settles : (slots : Slots) (slot : ℕ) (entry : Entry) → map.get (set_once slots slot entry) slot ≡ Some
    (settled (map.get slots slot) entry)
settles slots slot entry = by (map.get slots slot) refl
  where
    by : (held : Option Entry) → map.get slots slot ≡ held → map.get (set_once slots slot entry) slot ≡ Some
        (settled (map.get slots slot) entry)
    by None e = sets slots slot entry e ∙ ap (λ o. Some (settled o entry)) (sym e)
    by (Some h) e = rw e e

-- after a step on an empty slot a slot holds the entry or what it held
after_set : (slots : Slots) (slot other : ℕ) (entry held : Entry) → map.get slots slot ≡ None
    → map.get (map.insert slots slot entry) other ≡ Some held
    → (held ≡ entry) ⊎ (map.get slots other ≡ Some held)
after_set slots slot other entry held empty set = by (eq_by_cmp nat_cmp other slot)
    (sym (map.get-insert nat_cmp_total slots slot entry other) ∙ set)
  where
    by : (same : Bool) → cond same (Some entry) (map.get slots other) ≡ Some held → (held ≡ entry)
        ⊎ (map.get slots other ≡ Some held)
    by true e = inl cc
    by false e = inr e

-- a step that offers a right entry leaves each entry right
pub right_once : (slots : Slots) (slot : ℕ) (entry : Entry) → AllRight slots → IsRight entry
    → AllRight (set_once slots slot entry)
right_once slots slot entry all right other held set = by (map.get slots slot) refl
  where
    chosen : (held ≡ entry) ⊎ (map.get slots other ≡ Some held) → IsRight held
    chosen (inl e) = subst IsRight (sym e) right
    chosen (inr e) = all other held e

    by : (o : Option Entry) → map.get slots slot ≡ o → IsRight held
    by None e = let s : map.get (map.insert slots slot entry) other ≡ Some held = rw e at set in
        chosen (after_set slots slot other entry held e s)
    by (Some h) e = let s : map.get slots other ≡ Some held = rw e at set in all other held s

-- an entry stays in its slot at a step
stays_once : (slots : Slots) (slot other : ℕ) (entry held : Entry) → map.get slots other ≡ Some held
    → map.get (set_once slots slot entry) other ≡ Some held
stays_once slots slot other entry held set = by (map.get slots slot) refl
  where
    same : (b : Bool) → eq_by_cmp nat_cmp other slot ≡ b → map.get slots slot ≡ None
        → cond b (Some entry) (map.get slots other) ≡ Some held
    same true b e = absurd (grind (gets, rules, arith, b, e, set))
    same false b e = set

    by : (o : Option Entry) → map.get slots slot ≡ o → map.get (set_once slots slot entry) other ≡ Some held
    by None e = rw e (map.get-insert nat_cmp_total slots slot entry other ∙ same (eq_by_cmp nat_cmp other slot) refl e)
    by (Some h) e = rw e set

-- steps that offer right entries leave each entry right
pub stay_right : (slots : Slots) (steps : List Step) → AllRight slots → OfferRight steps → AllRight (after slots steps)
stay_right slots [] all offered = all
stay_right slots (step ∷ steps) all offered = stay_right (set_once slots step.slot step.entry) steps
    (right_once slots step.slot step.entry all offered.0)
    offered.1

-- an entry stays in its slot after any steps
pub stays : (slots : Slots) (steps : List Step) (slot : ℕ) (held : Entry) → map.get slots slot ≡ Some held
    → map.get (after slots steps) slot ≡ Some held
stays slots [] slot held set = set
stays slots (step ∷ steps) slot held set = stays (set_once slots step.slot step.entry) steps slot held
    (stays_once slots step.slot slot step.entry held set)
