-- What rows ask is what their lines ask.
use Rattle.std.proofs.Common.{◌≡◌, ℕ, zero, suc, ◌<◌, List, [], ◌∷◌, length, get_or, map, append_assoc, refl, ap, arith}
use Rattle.book_model.specs.declared.request.Request.{Request}
use Rattle.book_model.specs.declared.version.TheConstants.{WRITTEN}
use Rattle.book_model.specs.lines.Requests.{request_of, checked_request, AreSpelled, IsSpelled}
use Rattle.book_model.specs.lines.Text.{date_text, echo_text, line_text}
use Rattle.book_model.specs.lines.Lines.{words_of}
use Rattle.book_model.specs.lines.Words.{calendar_of, text_of_from, text_of_to}
use Rattle.line_core.proofs.TextRead.{line_words, text_is_read}
use Rattle.conversion.specs.Rows.{words_echo, request_echo}

-- a map over a map
pub map_twice : {X Y Z : Type 0} (f : X → Y) (g : Y → Z) (xs : List X) → map (λ x. g (f x)) xs ≡ map g (map f xs)
map_twice f g [] = refl
map_twice f g (x ∷ xs) = ap (λ ys. g (f x) ∷ ys) (map_twice f g xs)

-- requests that lines can spell, checked by themselves, are what their lines ask
pub made_asked : (rs : List Request) → AreSpelled rs → map (checked_request WRITTEN) rs ≡ map (request_of WRITTEN)
    (map line_text rs)
made_asked [] h = refl
made_asked (r ∷ rs) h = rw (text_is_read WRITTEN r h.0)
    (ap (λ rows. checked_request WRITTEN r ∷ rows) (made_asked rs h.1))

-- and each of them is such a request
pub spelled_at : (rs : List Request) (i : ℕ) (r : Request) → i < length rs → AreSpelled rs → r ≡ get_or rs i r
    → IsSpelled r
spelled_at [] i r within h e = absurd (omega arith)
spelled_at (s ∷ rs) zero r within h e = rw e h.0
spelled_at (s ∷ rs) (suc i) r within h e = spelled_at rs i r (omega arith) h.1 e

-- three words are echoed as the definitions say
pub words_echoed : (number : ℕ) (from date to : List ℕ) → words_echo number from date to ≡ echo_text number
    (from ∷ date ∷ to ∷ [])
unfolding echo_text
words_echoed number from date to = simp append_assoc

-- the words of a request are those of its line
pub request_echoed : (number : ℕ) (r : Request) → IsSpelled r → request_echo number r ≡ echo_text number
    (words_of (line_text r))
request_echoed number r h = rw (line_words r h)
    (words_echoed number (text_of_from r.from) (date_text (calendar_of r.from) r.date) (text_of_to r.to))

-- the image at a place
pub map_at : {X Y : Type 0} (f : X → Y) (xs : List X) (i : ℕ) (d : X) (e : Y) → i < length xs
    → get_or (map f xs) i e ≡ f (get_or xs i d)
map_at f [] i d e within = absurd (omega arith)
map_at f (x ∷ xs) zero d e within = refl
map_at f (x ∷ xs) (suc i) d e within = map_at f xs i d e (omega arith)
