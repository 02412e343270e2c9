-- The results of chunks, taken in turn.
use Rattle.std.proofs.Common.{◌≡◌, ◌∙◌, ℕ, ◌+◌, ◌-◌, ◌<◌, ◌≤◌, ◌⊎◌, inl, inr, List, [], ◌∷◌, ◌++◌, length, drop, get_or}
use Rattle.std.proofs.Common.{refl, ap, sym, arith, length-append, length-drop}
use Rattle.std.specs.Prelude.{◌≢◌}
use Rattle.std.proofs.lemmas.Bool.{cases_lt, cases_eq}
use Rattle.std.proofs.lemmas.Grind.{common_steps}
use Rattle.std.proofs.lemmas.List.{drop_more, get_or_append_left, get_or-append_right}
use Rattle.jobs_core.specs.Pieces.{piece_of, number_of}
use Rattle.jobs_core.proofs.Dealing.{dealt, dealt_here, dealt_own, dealt_other, dealt_none}

-- where something is left from a place on, the first of it stands there, and the others behind it
record IsNextOf {X : Type 0} (t : ℕ) (ys zs : List X) (x : X) : Type 0 where
  pub first : (d : X) → get_or ys t d ≡ x
  pub others : drop (t + 1) ys ≡ zs

next_of : {X : Type 0} (t : ℕ) (ys zs : List X) (x : X) → drop t ys ≡ x ∷ zs → IsNextOf t ys zs x
next_of t ys zs x h = by (cases_lt t (length ys))
  where
    by : (t < length ys) ⊎ (length ys ≤ t) → IsNextOf t ys zs x
    by (inl lt) = record { first = λ d. let e = drop_more ys t d lt in cc; others = let e = drop_more ys t x lt in cc }
    by (inr ge) = let over : drop t ys ≡ [] = grind (arith, common_steps) in absurd (cc)

-- as many are left as the list without its first has
pub one_less : {X : Type 0} (xs ys : List X) (x : X) (m n : ℕ) → xs ≡ x ∷ ys → n + 1 ≡ m → m ≡ length xs → n ≡ length ys
one_less xs ys x m n is fewer all = let long : length xs ≡ length ys + 1 = rw is (omega arith) in omega arith

-- the chunks that were opened, and those that are left
pub record IsOpened {X R V : Type 0} (rest : R → List X) (items : V → List X) (Done : V → Type 0) (pieces : List V)
    (opened : List R) (left : List V) : Type 0
  where
    pub few : length opened ≤ length pieces
    pub behind : drop (length opened) pieces ≡ left
    pub done : (p : ℕ) (e : V) → p < length opened → Done (get_or pieces p e)
    pub each : (p : ℕ) (d : R) (e : V) → p < length opened → rest (get_or opened p d) ≡ items (get_or pieces p e)

pub opened_on : {X R V : Type 0} (rest : R → List X) (items : V → List X) (Done : V → Type 0) (pieces : List V)
    (opened : List R) (v : V) (left : List V)
    (r : R)
    → Done v → rest r ≡ items v → IsOpened rest items Done pieces opened (v ∷ left)
    → IsOpened rest items Done pieces (opened ++ r ∷ []) left
opened_on {R = R} {V = V} rest items Done pieces opened v left r done same h = record {
  few = omega (arith, more, long);
  behind = rw more next.others;
  done = λ p e lt. finished p e (omega (arith, more, lt)) (cases_lt p (length opened));
  each = λ p d e lt. by p d e (omega (arith, more, lt)) (cases_lt p (length opened));
}
  where
    next : IsNextOf (length opened) pieces left v
    next = next_of (length opened) pieces left v h.behind

    more : length (opened ++ r ∷ []) ≡ length opened + 1
    more = length-append opened (r ∷ [])

    long : length opened < length pieces
    long = within (cases_lt (length opened) (length pieces))
      where
        within : (length opened < length pieces) ⊎ (length pieces ≤ length opened) → length opened < length pieces
        within (inl lt) = lt
        within (inr ge) = let over : drop (length opened) pieces ≡ [] = grind (arith, common_steps) in
            let there = h.behind in absurd (cc)

    here : (p : ℕ) (e : V) → p ≡ length opened → get_or pieces p e ≡ v
    here p e last = rw last (next.first e)

    finished : (p : ℕ) (e : V) → p < length opened + 1 → (p < length opened) ⊎ (length opened ≤ p)
        → Done (get_or pieces p e)
    finished p e few (inl lt) = h.done p e lt
    finished p e few (inr ge) = let last : p ≡ length opened = omega arith in rw (here p e last) done

    by : (p : ℕ) (d : R) (e : V) → p < length opened + 1 → (p < length opened) ⊎ (length opened ≤ p)
        → rest (get_or (opened ++ r ∷ []) p d)
        ≡ items (get_or pieces p e)
    by p d e few (inl lt) = rw (get_or_append_left opened (r ∷ []) d p lt) (h.each p d e lt)
    by p d e few (inr ge) =
        let last : p ≡ length opened = omega arith in
        let none : p - length opened ≡ 0 = omega arith in
        let end : get_or (opened ++ r ∷ []) p d ≡ r = get_or-append_right opened (r ∷ []) (length opened) p d refl ge
        ∙ (rw none refl) in
        rw (here p e last, end) same

-- where none is left, all were opened
pub opened_all : {X R V : Type 0} (rest : R → List X) (items : V → List X) (Done : V → Type 0) (pieces : List V)
    (opened : List R) (left : List V)
    → length left ≡ 0 → IsOpened rest items Done pieces opened left → length opened ≡ length pieces
opened_all rest items Done pieces opened left none h =
    omega (arith, length-drop (length opened) pieces, ap length h.behind, h.few)

module _ {X R V : Type 0} (rest : R → List X) (items : V → List X) (n k : ℕ) where
  -- of each chunk that is left which isn't dealt before place i
  abbrev pub AreLeft : ℕ → List V → List R → Type 0
  AreLeft i pieces rests = (p : ℕ) (d : R) (e : V) → p < k → rest (get_or rests p d) ≡ drop (dealt n k i p)
      (items (get_or pieces p e))

  -- at each of the first i places stands what its chunk has for it
  abbrev pub AreJoined : ℕ → List V → List X → Type 0
  AreJoined i pieces all = (j : ℕ) (d : X) (e : V) → j < i
      → get_or all j d ≡ get_or (items (get_or pieces (piece_of n k j) e)) (number_of n k j) d

  pub left_first : (pieces : List V) (rests : List R) → 0 < k
      → ((p : ℕ) (d : R) (e : V) → p < k → rest (get_or rests p d) ≡ items (get_or pieces p e))
      → AreLeft 0 pieces rests
  left_first pieces rests some same p d e within = rw (dealt_none n k p some) (same p d e within)

  pub left_on : (i : ℕ) (pieces : List V) (old new : List R) (x : X) → 0 < k → AreLeft i pieces old
      → ((p : ℕ) (d : R) → p ≢ piece_of n k i → get_or new p d ≡ get_or old p d)
      → ((d : R) → rest (get_or old (piece_of n k i) d) ≡ x ∷ rest (get_or new (piece_of n k i) d))
      → AreLeft (i + 1) pieces new
  left_on i pieces old new x some left others next p d e within = by (cases_eq p (piece_of n k i))
    where
      by : (p ≡ piece_of n k i) ⊎ (p ≢ piece_of n k i) → rest (get_or new p d) ≡ drop (dealt n k (i + 1) p)
          (items (get_or pieces p e))
      by (inl same) =
          let before : dealt n k i p ≡ number_of n k i = rw same (dealt_here n k i) in
          let after : dealt n k (i + 1) p ≡ number_of n k i + 1 = rw same (dealt_own n k i some) in
          let there : drop (number_of n k i) (items (get_or pieces p e))
          ≡ x ∷ rest (get_or new p d) = rw before at (sym (left p d e within)) ∙ rw same (next d) in
          rw after (sym (next_of (number_of n k i) (items (get_or pieces p e)) (rest (get_or new p d)) x there).others)
      by (inr other) = rw (others p d other, dealt_other n k i p some within other) (left p d e within)

  first_of : (rests : List R) → 0 < length rests → R
  first_of [] h = absurd (omega arith)
  first_of (r ∷ rs) h = r

  pub joined_on : (i : ℕ) (pieces : List V) (old new : List R) (all : List X) (x : X) → 0 < k → piece_of n k i < k
      → length all ≡ i → AreLeft i pieces old
      → ((d : R) → rest (get_or old (piece_of n k i) d) ≡ x ∷ rest (get_or new (piece_of n k i) d)) → 0 < length old
      → AreJoined i pieces all
      → AreJoined (i + 1) pieces (all ++ x ∷ [])
  joined_on i pieces old new all x some within long left next opened joined j d e below = by (cases_lt j i)
    where
      r : R
      r = first_of old opened

      by : (j < i) ⊎ (i ≤ j) → get_or (all ++ x ∷ []) j d ≡ get_or (items (get_or pieces (piece_of n k j) e))
          (number_of n k j) d
      by (inl lt) = get_or_append_left all (x ∷ []) d j (omega arith) ∙ joined j d e lt
      by (inr ge) =
          let same : j ≡ i = omega arith in
          let here : drop (number_of n k i) (items (get_or pieces (piece_of n k i) e)) ≡ x
          ∷ rest (get_or new (piece_of n k i) r) =
          rw (dealt_here n k i) at (sym (left (piece_of n k i) r e within)) ∙ next r in
          let last : get_or (all ++ x ∷ []) j d ≡ x = get_or-append_right all (x ∷ []) (length all) j d refl
          (omega arith) ∙
          (let none : j - length all ≡ 0 = omega arith in rw none refl) in
          last ∙ rw same
          (sym ((next_of (number_of n k i) (items (get_or pieces (piece_of n k i) e))
          (rest (get_or new (piece_of n k i) r)) x here).first d))
