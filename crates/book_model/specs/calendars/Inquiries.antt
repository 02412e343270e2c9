-- Inquiries: the facts that a rule asks, in order, and its result over their values.
use Rattle.std.specs.Prelude.{◌≡◌, ℕ, ◌-◌, ◌^◌, ◌&&◌, ◌==◌, if◌then◌else◌, Bool, List, [], ◌∷◌, ◌++◌, ℤ, pos, negsuc}
use Rattle.std.specs.Prelude.{int_le, slice_index_or}
use Rattle.std.specs.Ordering.{int_eq}
use Rattle.std.specs.List.{list_any}
use Rattle.book_model.specs.declared.fact.Fact.{Fact}
use Rattle.book_model.specs.declared.request.Fields.{Fields}
use Rattle.book_model.specs.sky.Facts.{run_of}
use Rattle.book_model.specs.sky.Names.{kind_number, place_number}
use Rattle.book_model.specs.programs.Programs.{Outcome, valued, void_at, undecided_test_at, outcome}

-- what is asked of a table of facts, one fact at a time
pub data Inquiry (A : Type 0) : Type 0 where
  done : A → Inquiry A
  ask : Fact → (ℤ → Inquiry A) → Inquiry A

-- one inquiry, and then the one that its result leads to
unfoldable pub and_then : {A B : Type 0} → Inquiry A → (A → Inquiry B) → Inquiry B
and_then (done a) next = next a
and_then (ask f more) next = ask f (λ v. and_then (more v) next)

-- the inquiry for the value of one fact
unfoldable pub ask_once : Fact → Inquiry ℤ
ask_once f = ask f done

-- the first of some days of which an inquiry answers yes, else another day
unfoldable pub first_of : List ℤ → (ℤ → Inquiry Bool) → ℤ → Inquiry ℤ
first_of [] holds other = done other
first_of (day ∷ days) holds other =
    and_then (holds day) λ here.
    if here then done day else first_of days holds other

-- a field of a date, from 0
abbrev pub field_at : Fields → ℕ → ℤ
field_at date k = slice_index_or date.values k (pos 0)

-- 1 where something is so, else 0
abbrev pub flag : Bool → ℤ
flag b = if b then pos 1 else pos 0

-- the nearest number of 32 bits
abbrev pub to_32_bits : ℤ → ℤ
to_32_bits z = if int_le z (negsuc (2 ^ 31 - 1)) then negsuc (2 ^ 31 - 1)
    else (if int_le (pos (2 ^ 31 - 1)) z then pos (2 ^ 31 - 1) else z)

-- the nearest number of 8 bits
abbrev pub to_8_bits : ℤ → ℤ
to_8_bits z = if int_le z (pos 0) then pos 0 else (if int_le (pos 255) z then pos 255 else z)

-- the result of an inquiry over a table of the values of facts
abbrev pub result_over : {A : Type 0} → (Fact → ℤ) → Inquiry A → A
result_over table (done a) = a
result_over table (ask f next) = result_over table (next (table f))

-- the facts that it asks of the table, in order
abbrev pub facts_over : {A : Type 0} → (Fact → ℤ) → Inquiry A → List Fact
facts_over table (done a) = []
facts_over table (ask f next) = f ∷ facts_over table (next (table f))

-- whether two facts are one
abbrev pub fact_eq : Fact → Fact → Bool
fact_eq f g = (kind_number f.kind == kind_number g.kind) && (place_number f.place == place_number g.place) && int_eq
    f.day g.day

-- facts, each once, and this one
abbrev pub with_fact : List Fact → Fact → List Fact
with_fact seen f = if list_any (fact_eq f) seen then seen else seen ++ f ∷ []

-- facts, each once, and all these in order, each as the fact under which it is stored
abbrev pub with_kept : (Fact → Fact) → List Fact → List Fact → List Fact
with_kept kept_as seen [] = seen
with_kept kept_as seen (f ∷ fs) = with_kept kept_as (with_fact seen (kept_as f)) fs

-- the facts that were asked, each once with its value, and this one
abbrev pub with_entry : List (Fact × ℤ) → Fact → ℤ → List (Fact × ℤ)
with_entry seen f v = if list_any (λ e. fact_eq f e.0) seen then seen else seen ++ (f, v) ∷ []

-- what comes of an inquiry: a result with the facts that were asked, or the first that is undecided or void
pub data Finding (A : Type 0) : Type 0 where
  found : A → List (Fact × ℤ) → Finding A
  stopped : Fact → Finding A

abbrev pub found_at : {A : Type 0} → Fact → Outcome ℤ → (ℤ → Finding A) → Finding A
found_at f (valued v) next = next v
found_at f (void_at s) next = stopped f
found_at f (undecided_test_at s) next = stopped f

-- the finding over the runs of the facts at a depth, after these facts
unfoldable pub finding_after : {A : Type 0} → ℕ → List (Fact × ℤ) → Inquiry A → Finding A
finding_after n seen (done a) = found a seen
finding_after n seen (ask f next) = found_at f (outcome (run_of n f))
    (λ v. finding_after n (with_entry seen f v) (next v))

abbrev pub finding : {A : Type 0} → ℕ → Inquiry A → Finding A
finding n i = finding_after n [] i

-- at a depth the inquiry asks a fact
pub data AsksAt {A : Type 0} (n : ℕ) : Inquiry A → Fact → Type 0 where
  asks_here : {f : Fact} {next : ℤ → Inquiry A} → AsksAt n (ask f next) f
  asks_after : {f g : Fact} {v : ℤ} {next : ℤ → Inquiry A} → outcome (run_of n g) ≡ valued v → AsksAt n (next v) f
      → AsksAt n (ask g next) f
