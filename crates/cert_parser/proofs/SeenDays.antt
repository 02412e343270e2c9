-- Days that were seen, for each kind and place.
use Rattle.std.proofs.Common.{◌≡◌, ℕ, zero, suc, ap, sym, ◌⊎◌, inl, inr, ◌≤◌, ◌+◌, ◌*◌, ◌<◌, ◌==◌, Bool, true, false}
use Rattle.std.proofs.Common.{cond, ◌&&◌, ◌||◌, refl, List, [], ◌∷◌}
use Rattle.std.proofs.Common.{◌++◌, length, get_or, arith, ℤ}
use Rattle.std.specs.Prelude.{slice_set}
use Rattle.std.specs.List.{slice_get}
use Rattle.std.specs.Ordering.{int_cmp, int_eq}
use Rattle.std.specs.BTreeSet.{BTreeSet, contains}
use Rattle.std.specs.BTreeMap.{is_at}
use Rattle.std.proofs.lemmas.Bool.Decides.{nat_tests}
use Rattle.std.proofs.lemmas.Int.{ints}
use Rattle.std.proofs.Math.Nat.{mul-le-mul_right}
use Rattle.std.proofs.lemmas.Option.{slice_get-get_or}
use Rattle.std.proofs.lemmas.List.{get_or-set_same, length-set}
use Rattle.book_model.specs.declared.fact.TheConstants.{PLACES}
use Rattle.book_model.specs.declared.fact.Fact.{Fact}
use Rattle.book_model.specs.calendars.Inquiries.{fact_eq}
use Rattle.book_model.specs.sky.Names.{kind_number, place_number}
use denote.Enum.Enum.{tag_below}
use denote.Enum.Declared.{variants}
use Rattle.book_model.specs.contracts.fact.Place.{the_type as place_type}
use Rattle.cert_parser.specs.Seen.{row_of, has_day, has_fact, HasMore}

-- the greater of two numbers of groups has the greater number, where each is a number of groups of n and a rest below n
in_order : (n a b c d : ℕ) → d < n → a * n + b ≡ c * n + d → a ≤ c
in_order n a b c d h e = go (compare_with a c)
  where
    compare_with : (p q : ℕ) → (p ≤ q) ⊎ (q + 1 ≤ p)
    compare_with p q = grind arith

    go : ((a ≤ c) ⊎ (c + 1 ≤ a)) → a ≤ c
    go (inl k) = k
    go (inr k) = let l = mul-le-mul_right n k in absurd (omega (arith, h, e, l))

-- and where the numbers of groups are the same, so are the rests
same_rest : (n a b c d : ℕ) → a ≡ c → a * n + b ≡ c * n + d → b ≡ d
same_rest n a b c d h e = omega (arith, rw h at e)

-- facts of one row have one kind and one place
pub same_row : (f g : Fact) → row_of f ≡ row_of g → (kind_number f.kind ≡ kind_number g.kind)
    × (place_number f.place ≡ place_number g.place)
same_row f g h =
    let p : place_number f.place < length PLACES = tag_below (variants place_type) (place_type.to f.place) in
    let q : place_number g.place < length PLACES = tag_below (variants place_type) (place_type.to g.place) in
    let up = in_order (length PLACES) _ _ _ _ q h in
    let down = in_order (length PLACES) _ _ _ _ p (sym h) in
    let kind : kind_number f.kind ≡ kind_number g.kind = omega (arith, up, down) in
    (kind, same_rest (length PLACES) _ _ _ _ kind h)

-- the test of two days takes them in either order
either_day : (d e : ℤ) → int_eq d e ≡ int_eq e d
either_day d e = grind (arith, ints)

-- a row more without a day
pub none_more : (rows : List (BTreeSet ℤ)) (days : BTreeSet ℤ) → days.keys ≡ [] → ((f : Fact) → has_fact rows f ≡ false)
    → (f : Fact)
    → has_fact (rows ++ days ∷ []) f ≡ false
none_more rows days empty none f = by rows (row_of f) (none f)
  where
    by : (xs : List (BTreeSet ℤ)) (i : ℕ) → has_day (slice_get xs i) f.day ≡ false
        → has_day (slice_get (xs ++ days ∷ []) i) f.day ≡ false
    by [] zero h = rw empty refl
    by [] (suc i) h = refl
    by (x ∷ xs) zero h = h
    by (x ∷ xs) (suc i) h = by xs i h

module _ (rows : List (BTreeSet ℤ)) (fact : Fact) (d : BTreeSet ℤ) (within : row_of fact < length rows) where
  -- a fact was seen where its row has its day
  pub seen_here : has_fact rows fact ≡ contains int_cmp (get_or rows (row_of fact) d) fact.day
  seen_here = rw (slice_get-get_or rows (row_of fact) d within) refl

  -- the row of a fact with one more day
  pub one_more : (days : BTreeSet ℤ) → ((q : ℤ) → contains int_cmp days q
      ≡ cond (is_at (int_cmp fact.day) q) true (contains int_cmp (get_or rows (row_of fact) d) q))
      → HasMore rows fact (slice_set rows (row_of fact) days)
  one_more days more f = by (row_of f == row_of fact) refl
    where
      longer : row_of fact < length (slice_set rows (row_of fact) days)
      longer = rw (length-set rows (row_of fact) days) within

      by : (t : Bool) → (row_of f == row_of fact) ≡ t → has_fact (slice_set rows (row_of fact) days) f
          ≡ (fact_eq f fact || has_fact rows f)
      by true e =
          let same : row_of f ≡ row_of fact = grind (arith, nat_tests, e) in
          let parts = same_row f fact same in
          let kinds : (kind_number f.kind == kind_number fact.kind) ≡ true = grind (arith, nat_tests, parts.0) in
          let places : (place_number f.place == place_number fact.place) ≡ true = grind (arith, nat_tests, parts.1) in
          let new : has_fact (slice_set rows (row_of fact) days) f
          ≡ contains int_cmp days f.day = rw (
            same,
            slice_get-get_or (slice_set rows (row_of fact) days) (row_of fact) d longer,
            get_or-set_same rows (row_of fact) days d within,
          ) refl in
          let old : has_fact rows f ≡ contains int_cmp (get_or rows (row_of fact) d) f.day =
          rw (same, slice_get-get_or rows (row_of fact) d within) refl in
          rw (new, old, kinds, places, more f.day, either_day f.day fact.day)
          (chosen (int_eq fact.day f.day) (contains int_cmp (get_or rows (row_of fact) d) f.day))
        where
          chosen : (t b : Bool) → cond t true b ≡ (t || b)
          chosen true b = refl
          chosen false b = refl
      by false e =
          let apart : row_of f ≡ row_of fact → ⊥ = λ h. grind (arith, nat_tests, e, h) in
          let other : fact_eq f fact ≡ false = not_same (kind_number f.kind == kind_number fact.kind) refl
          (place_number f.place == place_number fact.place)
          refl apart in
          let there : slice_get (slice_set rows (row_of fact) days) (row_of f)
          ≡ slice_get rows (row_of f) = get-set_other rows (row_of fact) (row_of f) days apart in
          rw (there, other) refl
        where
          not_same : (a : Bool) → (kind_number f.kind == kind_number fact.kind) ≡ a → (b : Bool)
              → (place_number f.place == place_number fact.place) ≡ b
              → (row_of f ≡ row_of fact → ⊥) → (a && b && int_eq f.day fact.day) ≡ false
          not_same true h true k apart =
              let kinds : kind_number f.kind ≡ kind_number fact.kind = grind (arith, nat_tests, h) in
              let places : place_number f.place ≡ place_number fact.place = grind (arith, nat_tests, k) in
              absurd (apart (rw (kinds, places) refl))
          not_same true h false k apart = refl
          not_same false h b k apart = refl

          get-set_other : {X : Type 0} (xs : List X) (i j : ℕ) (x : X) → (j ≡ i → ⊥)
              → slice_get (slice_set xs i x) j ≡ slice_get xs j
          get-set_other [] i j x h = refl
          get-set_other (y ∷ ys) zero zero x h = absurd (h refl)
          get-set_other (y ∷ ys) zero (suc j) x h = refl
          get-set_other (y ∷ ys) (suc i) zero x h = refl
          get-set_other (y ∷ ys) (suc i) (suc j) x h = get-set_other ys i j x (λ e. h (ap suc e))
