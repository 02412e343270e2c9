-- Bytes that are read or written in chunks.
use Rattle.std.proofs.Common.{arith, ◌≡◌, ◌∙◌, ℕ, List, [], ◌++◌, ap, sym, refl, append_assoc, append-nil, take, drop}
use Rattle.std.proofs.Common.{get_or, length, ◌<◌, ◌+◌}
use Rattle.std.proofs.lemmas.List.{take-append-drop, drop_more}
use Rattle.std.specs.Prelude.{None, Some, Ok, Err, Result, OnErr, IsErr, ◌≤◌}
use Rattle.std.specs.List.{flat_map}
use Rattle.std.specs.declared.option.Option.{Option}
use Rattle.std.specs.Io.KnownBytes.{Appends, Consumes, Keeps}
use Rattle.byte_streams.specs.Stream.{Wrote, AppendsPrefix, HasCause, Writes}

-- nothing was taken
pub consumes_none : (a : Option (List ℕ)) → Consumes a a []
consumes_none None = tt
consumes_none (Some xs) = refl

-- one chunk was taken, and then the next
pub consumes_on : (a b c : Option (List ℕ)) (p q : List ℕ) → Consumes a b p → Consumes b c q → Consumes a c (p ++ q)
consumes_on None b c p q h k = tt
consumes_on (Some xs) None c p q h k = absurd h
consumes_on (Some xs) (Some ys) None p q h k = absurd k
consumes_on (Some xs) (Some ys) (Some zs) p q h k = h ∙ ap (λ t. p ++ t) k ∙ sym (append_assoc p q zs)

-- nothing was written
pub appends_none : (a : Option (List ℕ)) → Appends a a []
appends_none None = tt
appends_none (Some xs) = sym (append-nil xs)

-- one chunk was written, and then the next
pub appends_on : (a b c : Option (List ℕ)) (p q : List ℕ) → Appends a b p → Appends b c q → Appends a c (p ++ q)
appends_on None b c p q h k = tt
appends_on (Some xs) None c p q h k = absurd h
appends_on (Some xs) (Some ys) None p q h k = absurd k
appends_on (Some xs) (Some ys) (Some zs) p q h k = k ∙ ap (λ t. t ++ q) h ∙ append_assoc xs p q

-- a chunk was written, and then nothing
pub appends_kept : (a b c : Option (List ℕ)) (p : List ℕ) → Appends a b p → Keeps b c → Appends a c p
appends_kept None b c p h k = tt
appends_kept (Some xs) None c p h k = absurd h
appends_kept (Some xs) (Some ys) None p h k = absurd k
appends_kept (Some xs) (Some ys) (Some zs) p h k = k ∙ h

-- nothing of a text is written yet
pub wrote_none : (a : Option (List ℕ)) (t : List ℕ) → Wrote a a t t
wrote_none a t = record { prefix = []; appended = appends_none a; whole = refl }

-- a chunk more is written
pub wrote_on : (a b c : Option (List ℕ)) (t p r : List ℕ) → Wrote a b t (p ++ r) → Appends b c p → Wrote a c t r
wrote_on a b c t p r w k = record {
  prefix = w.prefix ++ p;
  appended = appends_on a b c w.prefix p w.appended k;
  whole = w.whole ∙ sym (append_assoc w.prefix p r);
}

-- a call wrote nothing
pub wrote_kept : (a b c : Option (List ℕ)) (t r : List ℕ) → Wrote a b t r → Keeps b c → Wrote a c t r
wrote_kept a b c t r w k = record {
  prefix = w.prefix;
  appended = appends_kept a b c w.prefix w.appended k;
  whole = w.whole;
}

-- a prefix of a chunk more is written
pub wrote_prefix : (a b c : Option (List ℕ)) (t p r : List ℕ) → Wrote a b t (p ++ r) → AppendsPrefix b c p
    → AppendsPrefix a c t
wrote_prefix a b c t p r w k = record {
  rest = k.rest ++ r;
  wrote = record {
    prefix = w.prefix ++ k.wrote.prefix;
    appended = appends_on a b c w.prefix k.wrote.prefix w.appended k.wrote.appended;
    whole = w.whole ∙ ap (λ x. w.prefix ++ (x ++ r)) k.wrote.whole ∙ ap (λ x. w.prefix ++ x)
        (append_assoc k.wrote.prefix k.rest r)
        ∙ sym (append_assoc w.prefix k.wrote.prefix (k.rest ++ r));
  };
}

-- nothing is left to write
pub wrote_all : (a b : Option (List ℕ)) (t : List ℕ) → Wrote a b t [] → Appends a b t
wrote_all None b t w = tt
wrote_all (Some xs) None t w = absurd w.appended
wrote_all (Some xs) (Some ys) t w = w.appended ∙ ap (λ x. xs ++ x) (sym (append-nil w.prefix) ∙ sym w.whole)

-- a call took n of the bytes that were left
pub wrote_take : (a b c : Option (List ℕ)) (t r : List ℕ) (n : ℕ) → Wrote a b t r → Appends b c (take n r)
    → Wrote a c t (drop n r)
wrote_take a b c t r n w k = wrote_on a b c t (take n r) (drop n r) (rw take-append-drop w) k

-- a fact that stands at any answer
pub at_any_err : {T E P : Type 0} (r : Result T E) → P → OnErr r P
at_any_err (Ok x) p = tt
at_any_err (Err e) p = p

-- nothing of a text is written, which is a prefix of it
pub prefix_none : (a : Option (List ℕ)) (t : List ℕ) → AppendsPrefix a a t
prefix_none a t = record { rest = t; wrote = wrote_none a t }

-- a prefix of the first part is a prefix of both
pub prefix_first : (a b : Option (List ℕ)) (p q : List ℕ) → AppendsPrefix a b p → AppendsPrefix a b (p ++ q)
prefix_first a b p q k = wrote_prefix a a b (p ++ q) p q (wrote_none a (p ++ q)) k

-- all is written, and nothing waits
pub wrote_whole : (a b : Option (List ℕ)) (t r : List ℕ) → r ≡ [] → Appends a b t → Wrote a b t r
wrote_whole a b t r e h = rw e (record { prefix = t; appended = h; whole = sym (append-nil t) })

-- a part more was put, of which w' waits
pub buffered_on : (a b c : Option (List ℕ)) (t w p w' r : List ℕ) → Wrote a b t (w ++ (p ++ r)) → Wrote b c (w ++ p) w'
    → Wrote a c t (w' ++ r)
buffered_on a b c t w p w' r old new =
    let grouped : Wrote a b t ((w ++ p) ++ r) = rw append_assoc old in
    let split : Wrote a b t (new.prefix ++ (w' ++ r)) = rw (← append_assoc) (rw new.whole at grouped) in
    wrote_on a b c t new.prefix (w' ++ r) split new.appended

-- a prefix of a part more was put
pub buffered_prefix : (a b c : Option (List ℕ)) (t w p r : List ℕ) → Wrote a b t (w ++ (p ++ r))
    → AppendsPrefix b c (w ++ p) → AppendsPrefix a c t
buffered_prefix a b c t w p r old new =
    let grouped : Wrote a b t ((w ++ p) ++ r) = rw append_assoc old in
    wrote_prefix a b c t (w ++ p) r grouped new

-- the next of the parts that were left is put
pub put_part : {X : Type 0} (f : X → List ℕ) (a b c : Option (List ℕ)) (t w w' : List ℕ) (xs : List X) (i : ℕ) (d : X)
    → i < length xs
    → Wrote a b t (w ++ flat_map f (drop i xs)) → Wrote b c (w ++ f (get_or xs i d)) w'
    → Wrote a c t (w' ++ flat_map f (drop (i + 1) xs))
put_part f a b c t w w' xs i d h old new = buffered_on a b c t w (f (get_or xs i d)) w' (flat_map f (drop (i + 1) xs))
    (rw (drop_more xs i d h) at old) new

-- a prefix of the next of the parts is put
pub put_part_prefix : {X : Type 0} (f : X → List ℕ) (a b c : Option (List ℕ)) (t w : List ℕ) (xs : List X) (i : ℕ)
    (d : X) → i < length xs
    → Wrote a b t (w ++ flat_map f (drop i xs)) → AppendsPrefix b c (w ++ f (get_or xs i d)) → AppendsPrefix a c t
put_part_prefix f a b c t w xs i d h old new = buffered_prefix a b c t w (f (get_or xs i d))
    (flat_map f (drop (i + 1) xs)) (rw (drop_more xs i d h) at old) new

-- what was left to write is written but for the rest
pub wrote_then : (a b c : Option (List ℕ)) (t r s : List ℕ) → Wrote a b t r → Wrote b c r s → Wrote a c t s
wrote_then a b c t r s old new = wrote_on a b c t new.prefix s (rw new.whole at old) new.appended

-- more bytes wait, behind the others
pub wrote_more : (a b : Option (List ℕ)) (t r q : List ℕ) → Wrote a b t r → Wrote a b (t ++ q) (r ++ q)
wrote_more a b t r q w = record {
  prefix = w.prefix;
  appended = w.appended;
  whole = ap (λ x. x ++ q) w.whole
      ∙ append_assoc w.prefix r q;
}

-- two parts were put
pub put_both : (a b c : Option (List ℕ)) (w p w' q w'' : List ℕ) → Wrote a b (w ++ p) w' → Wrote b c (w' ++ q) w''
    → Wrote a c (w ++ (p ++ q)) w''
put_both a b c w p w' q w'' h k =
    let more : Wrote a b ((w ++ p) ++ q) (w' ++ q) = wrote_more a b (w ++ p) w' q h in
    wrote_then a b c (w ++ (p ++ q)) (w' ++ q) w'' (rw append_assoc at more) k

-- a prefix of the first of two parts was put
pub put_first_prefix : (a b : Option (List ℕ)) (w p q : List ℕ) → AppendsPrefix a b (w ++ p)
    → AppendsPrefix a b (w ++ (p ++ q))
put_first_prefix a b w p q k = let more = prefix_first a b (w ++ p) q k in rw append_assoc at more

-- the first of two parts was put, and a prefix of the second
pub put_second_prefix : (a b c : Option (List ℕ)) (w p w' q : List ℕ) → Wrote a b (w ++ p) w'
    → AppendsPrefix b c (w' ++ q) → AppendsPrefix a c (w ++ (p ++ q))
put_second_prefix a b c w p w' q h k = record { rest = k.rest; wrote = put_both a b c w p w' q k.rest h k.wrote }

-- a prefix of what was left is written
pub prefix_then : (a b c : Option (List ℕ)) (t r : List ℕ) → Wrote a b t r → AppendsPrefix b c r → AppendsPrefix a c t
prefix_then a b c t r w k = record { rest = k.rest; wrote = wrote_then a b c t r k.rest w k.wrote }

-- all that waited is written
pub wrote_flushed : (a b c : Option (List ℕ)) (t r : List ℕ) → Wrote a b t r → Appends b c r → Appends a c t
wrote_flushed a b c t r w k = wrote_all a c t (wrote_on a b c t r [] (rw (append-nil r) w) k)

-- the first of two parts was written, and a prefix of the second
pub prefix_second : (a b c : Option (List ℕ)) (p q : List ℕ) → Appends a b p → AppendsPrefix b c q
    → AppendsPrefix a c (p ++ q)
prefix_second a b c p q h k = record {
  rest = k.rest;
  wrote = wrote_then a b c (p ++ q) q k.rest
      (record { prefix = p; appended = h; whole = refl }) k.wrote;
}

-- the next of the parts that were left is written
pub wrote_part : {X : Type 0} (f : X → List ℕ) (a b c : Option (List ℕ)) (t : List ℕ) (xs : List X) (i : ℕ) (d : X)
    → i < length xs
    → Wrote a b t (flat_map f (drop i xs)) → Appends b c (f (get_or xs i d))
    → Wrote a c t (flat_map f (drop (i + 1) xs))
wrote_part f a b c t xs i d h old new = wrote_on a b c t (f (get_or xs i d)) (flat_map f (drop (i + 1) xs))
    (rw (drop_more xs i d h) at old) new

-- a prefix of the next of the parts is written
pub wrote_part_prefix : {X : Type 0} (f : X → List ℕ) (a b c : Option (List ℕ)) (t : List ℕ) (xs : List X) (i : ℕ)
    (d : X) → i < length xs
    → Wrote a b t (flat_map f (drop i xs)) → AppendsPrefix b c (f (get_or xs i d)) → AppendsPrefix a c t
wrote_part_prefix f a b c t xs i d h old new = wrote_prefix a b c t (f (get_or xs i d)) (flat_map f (drop (i + 1) xs))
    (rw (drop_more xs i d h) at old) new

-- a call failed, as one within it did, and a prefix of its text is written
pub writes_failed : {S T U E F : Type 0} {w : S → Option (List ℕ)} {f : S → ℕ} {a c : S} {count : ℕ} {t : List ℕ}
    {e : E} {r : Result U F}
    → IsErr r → AppendsPrefix (w a) (w c) t → f a ≤ count → HasCause {T = T} {E = E} count (f c) (Err e)
    → Writes w f a c t r
writes_failed {r = Ok y} n prefix later cause = absurd (cc)
writes_failed {r = Err d} n prefix later cause =
    record {
      ok = tt;
      err = prefix;
      cause = record {
        later = omega (arith, cause.later);
        failed = omega
            (arith, cause.failed);
      };
    }

-- the first of two texts failed, and a prefix of it is written
pub writes_first : {S T U E F : Type 0} {w : S → Option (List ℕ)} {f : S → ℕ} {a b : S} {p : List ℕ} {e : E}
    {r : Result U F} (q : List ℕ)
    → IsErr r → Writes {S = S} {T = T} {E = E} w f a b p (Err e) → Writes w f a b (p ++ q) r
writes_first {w = w} {f = f} {a = a} {b = b} {p = p} q n h = writes_failed n (prefix_first (w a) (w b) p q h.err)
    (omega arith) h.cause

-- the first of two texts was written, and then the second, or a prefix of it
pub writes_then : {S T U E F : Type 0} {w : S → Option (List ℕ)} {f : S → ℕ} {a b c : S} {p q : List ℕ} {x : T}
    {r : Result U F}
    → Writes {S = S} {T = T} {E = E} w f a b p (Ok x) → Writes w f b c q r → Writes w f a c (p ++ q) r
writes_then {w = w} {f = f} {a = a} {b = b} {c = c} {p = p} {q = q} {r = Ok y} h k =
    record {
      ok = appends_on (w a) (w b) (w c) p q h.ok k.ok;
      err = tt;
      cause = record { later = omega (arith, h.cause.later, k.cause.later); failed = tt };
    }
writes_then {w = w} {f = f} {a = a} {b = b} {c = c} {p = p} {q = q} {r = Err e} h k =
    writes_failed refl (prefix_second (w a) (w b) (w c) p q h.ok k.err) h.cause.later k.cause

-- a text was written up to one of its parts, of which a prefix is written
pub writes_up_to : {X S T U E F : Type 0} {w : S → Option (List ℕ)} {f : S → ℕ} {a b c : S} {t : List ℕ} {e : E}
    {r : Result U F} (g : X → List ℕ) (xs : List X)
    (i : ℕ) (d : X)
    → IsErr r → i < length xs → Wrote (w a) (w b) t (flat_map g (drop i xs)) → f a ≤ f b
    → Writes {S = S} {T = T} {E = E} w f b c (g (get_or xs i d)) (Err e) → Writes w f a c t r
writes_up_to {w = w} {f = f} {a = a} {b = b} {c = c} {t = t} g xs i d n h old later new =
    writes_failed n (wrote_part_prefix g (w a) (w b) (w c) t xs i d h old new.err) later new.cause

-- a call failed at the first of two parts, at the second, or before any
pub failed_first : {T E : Type 0} (r : Result T E) (a b : Option (List ℕ)) (p q : List ℕ) → AppendsPrefix a b p
    → OnErr r (AppendsPrefix a b (p ++ q))
failed_first r a b p q k = at_any_err r (prefix_first a b p q k)

pub failed_second : {T E : Type 0} (r : Result T E) (a b c : Option (List ℕ)) (p q : List ℕ) → Appends a b p
    → AppendsPrefix b c q
    → OnErr r (AppendsPrefix a c (p ++ q))
failed_second r a b c p q h k = at_any_err r (prefix_second a b c p q h k)

pub failed_before : {T E : Type 0} (r : Result T E) (a : Option (List ℕ)) (t : List ℕ) → OnErr r (AppendsPrefix a a t)
failed_before r a t = at_any_err r (prefix_none a t)

-- one text written after another, in full or up to a prefix
pub ruleset writing = (appends_on, failed_first, failed_second, failed_before, prefix_none)
