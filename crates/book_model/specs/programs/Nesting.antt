-- The law of nesting: what a run decides, a run at a greater depth with narrower arguments decides alike.
use Rattle.std.specs.Prelude.{◌≡◌, ◌↔◌, ℕ, ◌≤◌, ℤ, pos, ◌+ℤ◌, ◌≤ℤ◌}
use Rattle.exact_math.specs.Fraction.{Fraction, ◌≤F◌}
use Rattle.exact_math.specs.Interval.{Interval, IsProper, ◌⊆◌}
use Rattle.book_model.specs.numbers.Octants.{octant_edge, first_octant, last_octant}
use Rattle.book_model.specs.numbers.Arcs.{all_around}
use Rattle.book_model.specs.declared.site.Site.{Site}
use Rattle.book_model.specs.numbers.Expressions.{Expression, World, value}
use Rattle.book_model.specs.programs.Programs.{Program, run, outcome, valued, void_at, Refines}

-- a world that is at least as deep, with arguments that lie within the other's
pub record IsNarrower (v w : World) : Type 0 where
  pub deeper : w.depth ≤ v.depth
  pub inner : (k : ℕ) → v.arguments k ⊆ w.arguments k

-- the value of every expression lies within its value in a wider world
pub record ValuesNest : Type 0 where
  pub within : (v w : World) → IsNarrower v w → (x : Expression) → value v x ⊆ value w x

-- every program's run in a narrower world makes the same tests, as far as the other decides them, with the same
-- answers and within its sides; so it has the value, and the void, that the other has
pub record RunsNest (A : Type 0) : Type 0 where
  pub refines : (v w : World) → IsNarrower v w → (p : Program A) → Refines (run v p) (run w p)
  pub value_stays : (v w : World) → IsNarrower v w → (p : Program A) (a : A) → outcome (run w p) ≡ valued a
      → outcome (run v p) ≡ valued a
  pub void_stays : (v w : World) → IsNarrower v w → (p : Program A) (s : Site) → outcome (run w p) ≡ void_at s
      → outcome (run v p) ≡ void_at s

-- an interval for each depth that lies within those for lesser depths
pub record IsNestedByDepth (c : ℕ → Interval) : Type 0 where
  pub within : (n m : ℕ) → n ≤ m → c m ⊆ c n

-- a function that, at a depth at least as great and of an interval that lies within another, lies within what it is of
-- that
pub record IsNested (f : ℕ → Interval → Interval) : Type 0 where
  pub within : (n m : ℕ) (i j : Interval) → n ≤ m → IsProper i → i ⊆ j → f m i ⊆ f n j

-- the same of two intervals; and it lies from -180 to 180
pub record IsNestedOfTwo (f : ℕ → Interval → Interval → Interval) : Type 0 where
  pub within : (n m : ℕ) (i i' j j' : Interval) → n ≤ m → IsProper i → IsProper j → i ⊆ i' → j ⊆ j'
      → f m i j ⊆ f n i' j'
  pub inside : (n : ℕ) (i j : Interval) → IsProper i → IsProper j → f n i j ⊆ all_around

-- the octants from the first to the last are those that have a point in common with a .. b
pub record AreOctantsMet : Type 0 where
  pub met : (a b : Fraction) (k : ℤ) → ((first_octant a ≤ℤ k) × (k ≤ℤ last_octant b))
      ↔ ((a ≤F octant_edge (k +ℤ pos 1)) × (octant_edge k ≤F b))
  pub some : (a b : Fraction) → a ≤F b → first_octant a ≤ℤ last_octant b
