-- What a line asks, by its words. The definition tests the line, cuts its words and asks whether they are three: each
-- lemma takes one outcome of a test as its premise, rewrites by it, and the rest computes. What a request says of its
-- line is read off by cases of the same tests.
use Rattle.std.specs.Prelude.{◌≡◌, ℕ, ◌&&◌, nat_le, Bool, true, false, List, [], ◌∷◌, length, Ok, Err, if◌then◌else◌}
use Rattle.std.specs.Prelude.{refl}
use Rattle.std.specs.List.{list_all}
use Rattle.book_model.specs.declared.request.Request.{Request}
use Rattle.book_model.specs.declared.request.Rule.TheVariants.{Syntax}
use Rattle.book_model.specs.declared.version.Version.{Version}
use Rattle.book_model.specs.lines.Lines.{is_plain, words_of}
use Rattle.book_model.specs.lines.Requests.{request_of, asked_by, with_words}
use Rattle.book_model.specs.lines.Words.{from_word_in, to_word_in}

-- a line is short and plain
abbrev pub is_readable : List ℕ → Bool
is_readable line = nat_le (length line) 200 && list_all is_plain line

-- a line that can't be read breaks the first rule
pub asked_unreadable : (version : Version) (line : List ℕ) → is_readable line ≡ false
    → Err Syntax ≡ request_of version line
unfolding request_of
asked_unreadable version line e = rw e refl

-- words that aren't three ask nothing
not_three : (version : Version) (words : List (List ℕ)) → (length words ≡ 3 → ⊥) → Err Syntax ≡ asked_by version words
not_three version [] h = refl
not_three version (a ∷ []) h = refl
not_three version (a ∷ b ∷ []) h = refl
not_three version (a ∷ b ∷ c ∷ []) h = absurd (h refl)
not_three version (a ∷ b ∷ c ∷ d ∷ words) h = refl

-- so does one that hasn't three words
pub asked_other : (version : Version) (line : List ℕ) → is_readable line ≡ true → (length (words_of line) ≡ 3 → ⊥)
    → Err Syntax ≡ request_of version line
unfolding request_of
asked_other version line e h = rw e (not_three version (words_of line) h)

-- a line of three words asks what they ask
pub asked_three : (version : Version) (line from date to : List ℕ) → is_readable line ≡ true
    → words_of line ≡ from ∷ date ∷ to ∷ []
    → with_words version (from_word_in version from) date (to_word_in version to) ≡ request_of version line
unfolding request_of
asked_three version line from date to e words = rw (e, words) refl

-- a line that breaks no rule is short and plain
pub asked_readable : (version : Version) (line : List ℕ) (r : Request) → request_of version line ≡ Ok r
    → is_readable line ≡ true
unfolding request_of
asked_readable version line r h = step (is_readable line) h
  where
    step : (t : Bool) → (if t then asked_by version (words_of line) else Err Syntax) ≡ Ok r → t ≡ true
    step true e = refl
    step false e = absurd (cc)

-- and has three words
three_asked : (version : Version) (words : List (List ℕ)) (r : Request) → asked_by version words ≡ Ok r
    → length words ≡ 3
three_asked version [] r h = absurd (cc)
three_asked version (a ∷ []) r h = absurd (cc)
three_asked version (a ∷ b ∷ []) r h = absurd (cc)
three_asked version (a ∷ b ∷ c ∷ []) r h = refl
three_asked version (a ∷ b ∷ c ∷ d ∷ words) r h = absurd (cc)

pub asked_has_three : (version : Version) (line : List ℕ) (r : Request) → request_of version line ≡ Ok r
    → length (words_of line) ≡ 3
unfolding request_of
asked_has_three version line r h = step (is_readable line) h
  where
    step : (t : Bool) → (if t then asked_by version (words_of line) else Err Syntax) ≡ Ok r → length (words_of line) ≡ 3
    step true e = three_asked version (words_of line) r e
    step false e = absurd (cc)
