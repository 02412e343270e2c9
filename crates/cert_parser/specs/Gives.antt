-- What a reader of words answers, beside what the grammar says.
use Rattle.std.specs.Prelude.{◌≡◌, Some, None, Option, Result, Ok, Err}
use Rattle.cert_parser.specs.declared.words.NoForm.{NoForm}
use Rattle.cert_parser.specs.declared.words.NoForm.TheVariants.{Broken, Memory}

-- the answer, seen by the view, is what is read
abbrev pub Gives : {X Y : Type 0} → (X → Y) → Option X → Option Y → Type 0
Gives view None read = read ≡ None
Gives view (Some x) read = read ≡ Some (view x)

-- and so it is unless memory ran out
abbrev pub Stops : {Y : Type 0} → NoForm → Option Y → Type 0
Stops Broken read = read ≡ None
Stops Memory read = Unit {0}

abbrev pub Yields : {X Y : Type 0} → (X → Y) → Result X NoForm → Option Y → Type 0
Yields view (Ok x) read = read ≡ Some (view x)
Yields view (Err e) read = Stops e read
