-- Lines as they come. The lines that end in bytes, and the one that has begun, are told byte by byte; what is kept of
-- them is told in the same way. Both are carried on over more bytes, and at the end of an input they are its lines, and
-- the prefixes of these.
use Rattle.std.proofs.Common.{◌≡◌, ◌∙◌, sym, ap, refl, ℕ, ◌<◌, ◌≤◌, ◌==◌, Bool, true, false, List, [], ◌∷◌, ◌++◌}
use Rattle.std.proofs.Common.{length, map, take, append_assoc, append-nil, length-append, arith}
use Rattle.std.proofs.lemmas.List.{length-take, map-append, take_all, take-append-le}
use Rattle.std.specs.Prelude.{if◌then◌else◌, nat_lt}
use borrow.Author.Tests.{ltb-true, ltb-false}
use Rattle.book_model.specs.lines.Lines.{onto_first, raw_lines}
use Rattle.answered_lines.specs.Lines.{FEED, PREFIX, ended_lines, begun_line, last_line, with_byte, kept_lines}
use Rattle.answered_lines.specs.Lines.{kept_prefix}

-- ---- over bytes, and then more
pub kept_lines-append : (kept xs ys : List ℕ) → kept_lines kept (xs ++ ys) ≡ kept_lines kept xs ++ kept_lines
    (kept_prefix kept xs) ys
kept_lines-append kept [] ys = refl
kept_lines-append kept (b ∷ xs) ys = by (b == FEED) (kept_lines-append [] xs ys)
    (kept_lines-append (with_byte kept b) xs ys)
  where
    by : (t : Bool) → kept_lines [] (xs ++ ys) ≡ kept_lines [] xs ++ kept_lines (kept_prefix [] xs) ys
        → kept_lines (with_byte kept b) (xs ++ ys) ≡ kept_lines (with_byte kept b) xs ++ kept_lines
        (kept_prefix (with_byte kept b) xs) ys
        → (if t then kept ∷ kept_lines [] (xs ++ ys) else kept_lines (with_byte kept b) (xs ++ ys))
        ≡ (if t then kept ∷ kept_lines [] xs else kept_lines (with_byte kept b) xs)
        ++ kept_lines (if t then kept_prefix [] xs else kept_prefix (with_byte kept b) xs) ys
    by true ended begun = ap (λ ls. kept ∷ ls) ended
    by false ended begun = begun

pub kept_prefix-append : (kept xs ys : List ℕ) → kept_prefix kept (xs ++ ys) ≡ kept_prefix (kept_prefix kept xs) ys
kept_prefix-append kept [] ys = refl
kept_prefix-append kept (b ∷ xs) ys = by (b == FEED) (kept_prefix-append [] xs ys)
    (kept_prefix-append (with_byte kept b) xs ys)
  where
    by : (t : Bool) → kept_prefix [] (xs ++ ys) ≡ kept_prefix (kept_prefix [] xs) ys
        → kept_prefix (with_byte kept b) (xs ++ ys) ≡ kept_prefix (kept_prefix (with_byte kept b) xs) ys
        → (if t then kept_prefix [] (xs ++ ys) else kept_prefix (with_byte kept b) (xs ++ ys))
        ≡ kept_prefix (if t then kept_prefix [] xs else kept_prefix (with_byte kept b) xs) ys
    by true ended begun = ended
    by false ended begun = begun

-- ---- at the end of an input
-- no line feed stands in them
HasNoFeed : List ℕ → Type 0
HasNoFeed [] = Unit {0}
HasNoFeed (b ∷ bs) = ((b == FEED) ≡ false) × HasNoFeed bs

no_feed_on : (begun : List ℕ) (b : ℕ) → HasNoFeed begun → (b == FEED) ≡ false → HasNoFeed (begun ++ b ∷ [])
unfolding HasNoFeed
no_feed_on [] b h e = (e, tt)
no_feed_on (a ∷ begun) b h e = (h.0, no_feed_on begun b h.1 e)

onto_last : (b : ℕ) (bs : List ℕ) → onto_first b (last_line bs) ≡ (b ∷ bs) ∷ []
onto_last b [] = refl
onto_last b (c ∷ bs) = refl

-- bytes without a line feed are a last line, or none
raw_none : (begun : List ℕ) → HasNoFeed begun → raw_lines begun ≡ last_line begun
unfolding HasNoFeed
raw_none [] h = refl
raw_none (b ∷ bs) h = rw (h.0, raw_none bs h.1) (onto_last b bs)

-- a line feed behind them ends a line
raw_feed : (begun : List ℕ) (b : ℕ) (bytes : List ℕ) → HasNoFeed begun → (b == FEED) ≡ true
    → raw_lines (begun ++ b ∷ bytes) ≡ begun ∷ raw_lines bytes
unfolding HasNoFeed
raw_feed [] b bytes h e = rw e refl
raw_feed (a ∷ begun) b bytes h e = rw (h.0, raw_feed begun b bytes h.1 e) refl

raw-ended : (begun bytes : List ℕ) → HasNoFeed begun → raw_lines (begun ++ bytes) ≡ ended_lines begun bytes ++ last_line
    (begun_line begun bytes)
unfolding HasNoFeed
raw-ended begun [] h = ap raw_lines (append-nil begun) ∙ raw_none begun h
raw-ended begun (b ∷ bytes) h = by (b == FEED) refl (raw-ended [] bytes tt)
    (λ e. raw-ended (begun ++ b ∷ []) bytes (no_feed_on begun b h e))
  where
    by : (t : Bool) → (b == FEED) ≡ t → raw_lines bytes ≡ ended_lines [] bytes ++ last_line (begun_line [] bytes)
        → ((b == FEED) ≡ false → raw_lines ((begun ++ b ∷ []) ++ bytes) ≡ ended_lines (begun ++ b ∷ []) bytes
        ++ last_line (begun_line (begun ++ b ∷ []) bytes))
        → raw_lines (begun ++ b ∷ bytes) ≡ (if t then begun ∷ ended_lines [] bytes
        else ended_lines (begun ++ b ∷ []) bytes)
        ++ last_line (if t then begun_line [] bytes else begun_line (begun ++ b ∷ []) bytes)
    by true e ended more = raw_feed begun b bytes h e ∙ ap (λ ls. begun ∷ ls) ended
    by false e ended more = ap raw_lines (sym (append_assoc begun (b ∷ []) bytes)) ∙ more e

-- the lines of an input are those that line feeds end, and a last one
pub raw_split : (input : List ℕ) → raw_lines input ≡ ended_lines [] input ++ last_line (begun_line [] input)
unfolding HasNoFeed
raw_split input = raw-ended [] input tt

-- ---- what is kept is a prefix of each
-- the prefix of bytes, with a byte more where it is short, is the prefix of them and the byte
prefix_on : (n : ℕ) (bytes : List ℕ) (b : ℕ) → (if nat_lt (length (take n bytes)) n then take n bytes ++ b ∷ []
    else take n bytes) ≡ take n (bytes ++ b ∷ [])
prefix_on n bytes b = by (nat_lt (length (take n bytes)) n) refl
  where
    by : (t : Bool) → nat_lt (length (take n bytes)) n ≡ t → (if t then take n bytes ++ b ∷ [] else take n bytes) ≡ take
        n (bytes ++ b ∷ [])
    by true e =
        let short : length (take n bytes) < n = ltb-true _ _ e in
        let all : length bytes ≤ n = omega (arith, length-take n bytes) in
        let fits : length (bytes ++ b ∷ []) ≤ n = omega (arith, length-take n bytes, length-append bytes (b ∷ [])) in
        ap (λ l. l ++ b ∷ []) (take_all n bytes all) ∙ sym (take_all n (bytes ++ b ∷ []) fits)
    by false e =
        let full : n ≤ length (take n bytes) = ltb-false _ _ e in
        let long : n ≤ length bytes = omega (arith, length-take n bytes) in
        sym (take-append-le n bytes (b ∷ []) long)

pub kept-ended : (begun bytes : List ℕ) → kept_lines (take PREFIX begun) bytes ≡ map (take PREFIX)
    (ended_lines begun bytes)
kept-ended begun [] = refl
kept-ended begun (b ∷ bytes) = by (b == FEED) (kept-ended [] bytes) (kept-ended (begun ++ b ∷ []) bytes)
  where
    by : (t : Bool) → kept_lines [] bytes ≡ map (take PREFIX) (ended_lines [] bytes)
        → kept_lines (take PREFIX (begun ++ b ∷ [])) bytes ≡ map (take PREFIX) (ended_lines (begun ++ b ∷ []) bytes)
        → (if t then take PREFIX begun ∷ kept_lines [] bytes else kept_lines (with_byte (take PREFIX begun) b) bytes)
        ≡ map (take PREFIX) (if t then begun ∷ ended_lines [] bytes else ended_lines (begun ++ b ∷ []) bytes)
    by true ended more = ap (λ ls. take PREFIX begun ∷ ls) ended
    by false ended more = ap (λ k. kept_lines k bytes) (prefix_on PREFIX begun b) ∙ more

pub kept-begun : (begun bytes : List ℕ) → kept_prefix (take PREFIX begun) bytes ≡ take PREFIX (begun_line begun bytes)
kept-begun begun [] = refl
kept-begun begun (b ∷ bytes) = by (b == FEED) (kept-begun [] bytes) (kept-begun (begun ++ b ∷ []) bytes)
  where
    by : (t : Bool) → kept_prefix [] bytes ≡ take PREFIX (begun_line [] bytes)
        → kept_prefix (take PREFIX (begun ++ b ∷ [])) bytes ≡ take PREFIX (begun_line (begun ++ b ∷ []) bytes)
        → (if t then kept_prefix [] bytes else kept_prefix (with_byte (take PREFIX begun) b) bytes)
        ≡ take PREFIX (if t then begun_line [] bytes else begun_line (begun ++ b ∷ []) bytes)
    by true ended more = ended
    by false ended more = ap (λ k. kept_prefix k bytes) (prefix_on PREFIX begun b) ∙ more

last-prefix : (begun : List ℕ) → last_line (take PREFIX begun) ≡ map (take PREFIX) (last_line begun)
last-prefix [] = refl
last-prefix (b ∷ begun) = refl

-- what is kept of the lines of an input
pub kept_input : (input : List ℕ) → kept_lines [] input ++ last_line (kept_prefix [] input) ≡ map (take PREFIX)
    (raw_lines input)
kept_input input =
    let ended : kept_lines [] input ≡ map (take PREFIX) (ended_lines [] input) = kept-ended [] input in
    let begun : kept_prefix [] input ≡ take PREFIX (begun_line [] input) = kept-begun [] input in
    rw (
      ended,
      begun,
      last-prefix (begun_line [] input),
      ← map-append (take PREFIX) (ended_lines [] input)
          (last_line (begun_line [] input)),
      ← raw_split input,
    ) refl
