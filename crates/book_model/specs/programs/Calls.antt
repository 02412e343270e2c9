-- What a call says of its formula, in one word for each number of enclosed numbers that it takes.
use Rattle.std.specs.Prelude.{ℕ, ◌≤◌, Result}
use Rattle.exact_math.specs.Interval.{Interval}
use Rattle.book_model.specs.declared.fail.Fail.{Fail}
use Rattle.book_model.specs.numbers.Bounds.{Reach, limits_of}
use Rattle.book_model.specs.numbers.Depth.{DEPTH}
use Rattle.book_model.specs.numbers.Expressions.{Expression, World}
use Rattle.book_model.specs.numbers.Relations.{Within, Narrow}
use Rattle.book_model.specs.programs.Leading.{Leads, Exact}
use Rattle.book_model.specs.programs.Programs.{Program}

-- the result holds an expression of the numbers that the arguments enclose
abbrev pub Holds : {E : Type 0} → (E → Interval) → Expression → E → Type 0
Holds shown f e = (w : World) → DEPTH ≤ w.depth → Within shown w f e

abbrev pub Holds1 : {E : Type 0} → (E → Interval) → (Expression → Expression) → E → E → Type 0
Holds1 shown f a e = (w : World) (x : Expression) → Within shown w x a → Within shown w (f x) e

abbrev pub Holds2 : {E : Type 0} → (E → Interval) → (Expression → Expression → Expression) → E → E → E → Type 0
Holds2 shown f a b e = (w : World) (x y : Expression) → Within shown w x a → Within shown w y b
    → Within shown w (f x y) e

abbrev pub Holds3 : {E : Type 0} → (E → Interval) → (Expression → Expression → Expression → Expression) → E → E → E
    → E → Type 0
Holds3 shown f a b c e = (w : World) (x y z : Expression) → Within shown w x a → Within shown w y b → Within shown w z c
    → Within shown w (f x y z) e

abbrev pub Holds4 : {E : Type 0} → (E → Interval) → (Expression → Expression → Expression → Expression → Expression) → E
    → E → E → E → E → Type 0
Holds4 shown f a b c d e = (w : World) (x y z u : Expression) → Within shown w x a → Within shown w y b
    → Within shown w z c → Within shown w u d
    → Within shown w (f x y z u) e

-- the result keeps the bound of the expression
abbrev pub Narrows : {E : Type 0} → (E → Interval) → ℕ → Expression → E → Type 0
Narrows shown bits f e = (r : Reach) → Narrow shown (limits_of bits) r f e

abbrev pub Narrows1 : {E : Type 0} → (E → Interval) → ℕ → (Expression → Expression) → E → E → Type 0
Narrows1 shown bits f a e = (r : Reach) (x : Expression) → Narrow shown (limits_of bits) r x a
    → Narrow shown (limits_of bits) r (f x) e

abbrev pub Narrows2 : {E : Type 0} → (E → Interval) → ℕ → (Expression → Expression → Expression) → E → E → E → Type 0
Narrows2 shown bits f a b e = (r : Reach) (x y : Expression) → Narrow shown (limits_of bits) r x a
    → Narrow shown (limits_of bits) r y b
    → Narrow shown (limits_of bits) r (f x y) e

abbrev pub Narrows3 : {E : Type 0} → (E → Interval) → ℕ → (Expression → Expression → Expression → Expression) → E → E
    → E → E → Type 0
Narrows3 shown bits f a b c e = (r : Reach) (x y z : Expression) → Narrow shown (limits_of bits) r x a
    → Narrow shown (limits_of bits) r y b
    → Narrow shown (limits_of bits) r z c → Narrow shown (limits_of bits) r (f x y z) e

abbrev pub Narrows4 : {E : Type 0} → (E → Interval) → ℕ → (Expression → Expression → Expression → Expression
    → Expression) → E → E → E → E → E → Type 0
Narrows4 shown bits f a b c d e = (r : Reach) (x y z u : Expression) → Narrow shown (limits_of bits) r x a
    → Narrow shown (limits_of bits) r y b
    → Narrow shown (limits_of bits) r z c → Narrow shown (limits_of bits) r u d
    → Narrow shown (limits_of bits) r (f x y z u) e

-- the result holds an expression of the numbers that the arguments enclose, and keeps its bound
pub record Encloses {E : Type 0} (shown : E → Interval) (bits : ℕ) (f : Expression) (e : E) : Type 0 where
  pub holds : Holds shown f e
  pub narrow : Narrows shown bits f e

pub record Encloses1 {E : Type 0} (shown : E → Interval) (bits : ℕ) (f : Expression → Expression) (a e : E) : Type 0
  where
    pub holds : Holds1 shown f a e
    pub narrow : Narrows1 shown bits f a e

pub record Encloses2 {E : Type 0} (shown : E → Interval) (bits : ℕ) (f : Expression → Expression → Expression)
    (a b e : E) : Type 0 where
  pub holds : Holds2 shown f a b e
  pub narrow : Narrows2 shown bits f a b e

pub record Encloses3 {E : Type 0} (shown : E → Interval) (bits : ℕ) (f : Expression → Expression → Expression
    → Expression) (a b c e : E) : Type 0 where
  pub holds : Holds3 shown f a b c e
  pub narrow : Narrows3 shown bits f a b c e

pub record Encloses4 {E : Type 0} (shown : E → Interval) (bits : ℕ) (f : Expression → Expression → Expression
    → Expression → Expression) (a b c d e : E) : Type
    0 where
  pub holds : Holds4 shown f a b c d e
  pub narrow : Narrows4 shown bits f a b c d e

-- the call makes the tests of a program of the enclosed numbers, and its answer holds the program's
abbrev pub Follows : {E : Type 0} → (E → Interval) → (Program Expression) → ℕ → ℕ → Result E Fail → Type 0
Follows shown p before after result = (w : World) → DEPTH ≤ w.depth → Leads w (Within shown w) p before after result

abbrev pub Follows1 : {E : Type 0} → (E → Interval) → (Expression → Program Expression) → E → ℕ → ℕ → Result E Fail
    → Type 0
Follows1 shown p a before after result = (w : World) (x : Expression) → Within shown w x a
    → Leads w (Within shown w) (p x) before after result

abbrev pub Follows2 : {E : Type 0} → (E → Interval) → (Expression → Expression → Program Expression) → E → E → ℕ → ℕ
    → Result E Fail → Type 0
Follows2 shown p a b before after result = (w : World) (x y : Expression) → Within shown w x a → Within shown w y b
    → Leads w (Within shown w) (p x y) before after result

abbrev pub Follows3 : {E : Type 0} → (E → Interval) → (Expression → Expression → Expression → Program Expression) → E
    → E → E → ℕ → ℕ → Result E Fail → Type 0
Follows3 shown p a b c before after result = (w : World) (x y z : Expression) → Within shown w x a → Within shown w y b
    → Within shown w z c
    → Leads w (Within shown w) (p x y z) before after result

abbrev pub Follows4 : {E : Type 0} → (E → Interval) → (Expression → Expression → Expression → Expression
    → Program Expression) → E → E → E → E → ℕ → ℕ
    → Result E Fail → Type 0
Follows4 shown p a b c d before after result = (w : World) (x y z u : Expression) → Within shown w x a
    → Within shown w y b → Within shown w z c
    → Within shown w u d → Leads w (Within shown w) (p x y z u) before after result

-- the same, where the answer is one that the code has too
abbrev pub Decides : {A : Type 0} → (Program A) → ℕ → ℕ → Result A Fail → Type 0
Decides p before after result = (w : World) → DEPTH ≤ w.depth → Leads w Exact p before after result

abbrev pub Decides1 : {A E : Type 0} → (E → Interval) → (Expression → Program A) → E → ℕ → ℕ → Result A Fail → Type 0
Decides1 shown p a before after result = (w : World) (x : Expression) → Within shown w x a
    → Leads w Exact (p x) before after result

abbrev pub Decides2 : {A E : Type 0} → (E → Interval) → (Expression → Expression → Program A) → E → E → ℕ → ℕ
    → Result A Fail → Type 0
Decides2 shown p a b before after result = (w : World) (x y : Expression) → Within shown w x a → Within shown w y b
    → Leads w Exact (p x y) before after result

abbrev pub Decides3 : {A E : Type 0} → (E → Interval) → (Expression → Expression → Expression → Program A) → E → E → E
    → ℕ → ℕ → Result A Fail → Type 0
Decides3 shown p a b c before after result = (w : World) (x y z : Expression) → Within shown w x a → Within shown w y b
    → Within shown w z c
    → Leads w Exact (p x y z) before after result

abbrev pub Decides4 : {A E : Type 0} → (E → Interval) → (Expression → Expression → Expression → Expression → Program A)
    → E → E → E → E → ℕ → ℕ → Result A Fail
    → Type 0
Decides4 shown p a b c d before after result = (w : World) (x y z u : Expression) → Within shown w x a
    → Within shown w y b → Within shown w z c
    → Within shown w u d → Leads w Exact (p x y z u) before after result
