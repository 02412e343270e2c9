-- Texts that are written part by part.
use Rattle.std.proofs.Common.{◌≡◌, ◌≤◌, ℕ, ◌+◌, ◌<◌, ℤ, List, length, drop, get_or, arith}
use Rattle.std.proofs.lemmas.List.{drop_more}
use Rattle.std.specs.Prelude.{Result, Err, IsErr}
use Rattle.std.specs.declared.option.Option.{Option}
use Rattle.std.specs.Io.KnownBytes.{Appends}
use Rattle.byte_streams.specs.Stream.{Wrote, AppendsPrefix, Writes}
use Rattle.byte_streams.proofs.Flow.{wrote_on, wrote_prefix, writes_failed}
use Rattle.book_model.specs.declared.fact.Fact.{Fact}
use Rattle.book_model.specs.lines.Text.{fact_text}
use Rattle.cert_text.specs.Text.{fact_texts}

-- the next fact is written
pub wrote_fact : (a b c : Option (List ℕ)) (t : List ℕ) (first : ℕ) (es : List (Fact × ℤ)) (i : ℕ) (d : Fact × ℤ)
    → i < length es
    → Wrote a b t (fact_texts (first + i) (drop i es))
    → Appends b c (fact_text (first + i) (get_or es i d).0 (get_or es i d).1)
    → Wrote a c t (fact_texts (first + (i + 1)) (drop (i + 1) es))
wrote_fact a b c t first es i d h w k =
    let next : first + i + 1 ≡ first + (i + 1) = omega arith in
    rw (← next) (wrote_on a b c t (fact_text (first + i) (get_or es i d).0 (get_or es i d).1)
    (fact_texts (first + i + 1) (drop (i + 1) es))
    (rw (drop_more es i d h) at w) k)

-- a prefix of the next fact is written
wrote_fact_prefix : (a b c : Option (List ℕ)) (t : List ℕ) (first : ℕ) (es : List (Fact × ℤ)) (i : ℕ) (d : Fact × ℤ)
    → i < length es
    → Wrote a b t (fact_texts (first + i) (drop i es))
    → AppendsPrefix b c (fact_text (first + i) (get_or es i d).0 (get_or es i d).1) → AppendsPrefix a c t
wrote_fact_prefix a b c t first es i d h w k =
    wrote_prefix a b c t (fact_text (first + i) (get_or es i d).0 (get_or es i d).1)
    (fact_texts (first + i + 1) (drop (i + 1) es))
    (rw (drop_more es i d h) at w) k

-- facts were written up to one of which a prefix is written
pub writes_up_to_fact : {S T U E F : Type 0} {w : S → Option (List ℕ)} {f : S → ℕ} {a b c : S} {t : List ℕ} {e : E}
    {r : Result U F} (first : ℕ)
    (es : List (Fact × ℤ)) (i : ℕ) (d : Fact × ℤ)
    → IsErr r → i < length es → Wrote (w a) (w b) t (fact_texts (first + i) (drop i es)) → f a ≤ f b
    → Writes {S = S} {T = T} {E = E} w f b c (fact_text (first + i) (get_or es i d).0 (get_or es i d).1) (Err e)
    → Writes w f a c t r
writes_up_to_fact {w = w} {f = f} {a = a} {b = b} {c = c} {t = t} first es i d n h old later new =
    writes_failed n (wrote_fact_prefix (w a) (w b) (w c) t first es i d h old new.err) later new.cause
