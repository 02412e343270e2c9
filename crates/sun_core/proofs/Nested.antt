-- Programs one after another: what follows an answer may be taken together, by the cases of a program. So a function of
-- the code that makes the first two of three steps joins a definition that binds the steps one by one.
use Rattle.std.specs.Prelude.{◌≡◌, refl}
use Rattle.book_model.specs.programs.Programs.{Program, answer, void, cell, compare, bind}

-- what follows an answer may be taken together
pub bind_nested : {A B C : Type 0} (p : Program A) (f : A → Program B) (h : B → Program C)
    → bind (bind p f) h ≡ bind p (λ v. bind (f v) h)
unfolding bind
bind_nested (answer v) f h = refl
bind_nested (void s) f h = refl
bind_nested (cell s g x next) f h = λ i. cell s g x (λ q. bind_nested (next q) f h i)
bind_nested (compare s x y next) f h = λ i. compare s x y (λ t. bind_nested (next t) f h i)
