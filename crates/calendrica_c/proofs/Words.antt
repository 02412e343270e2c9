-- The machine values of what C holds, and of the parts of a box: what is owned tells them, and is made of nothing.
use Rattle.std.proofs.Common.{◌≡◌, List, [], ◌∷◌, ◌++◌, refl, ◌∙◌, lit<}
use seplogic.Ra.Ura.{Ura}
use mir.Syntax.{ty_ptr, ty_unit, ty_struct, tcons, tnil}
use mir.Val.{Val, vunit, vstruct, vcons, vnil, of_list}
use base.Logic.{ent, emp}
use base.Fml.{Fml}
use types.Logic.{Logic, sem}
use denote.RattleType.{RattleType}
use denote.RawPtr.{Ptr, RawPtr, block_ptr, null_ptr, ptr_val}
use denote.Shadow.{shadow, makes_shadow}
use denote.Struct.Struct.{Struct}
use Rattle.std.proofs.cell.Inside.{Good}
use Rattle.std.specs.contracts.alloc.Global as global

-- a struct by its fields alone: what it owns does not read its name
abbrev pub plainly : List RattleType → RattleType
plainly Rs = Struct (record { name = []; args = []; types = []; fields = Rs })

-- a pointer has its type
pub ptr_typed : (p : Ptr) → Good ty_ptr (ptr_val p)
ptr_typed (block_ptr b o) = (tt, tt)
ptr_typed null_ptr = (tt, record { fits = lit< tt })

-- a struct of a pointer
abbrev pub word_val : Ptr → Val
word_val p = vstruct (vcons (ptr_val p) vnil)

abbrev pub word_own : Ptr → List Val → Fml
word_own p = (plainly (RawPtr ∷ [])).own_val (p, tt)

pub word_told : (p : Ptr) (vs : List Val) → shadow (word_own p vs) → vs ≡ word_val p ∷ []
word_told p vs s = s.1.0 ∙ (λ i. vstruct (of_list (s.1.1.0 i ++ [])) ∷ [])

pub word_made : {M : Type 1} {𝓤 : Ura M} (𝓛 : Logic 𝓤) (p : Ptr) → ent 𝓤 (emp 𝓤) (sem 𝓛 (word_own p (word_val p ∷ [])))
word_made 𝓛 p = makes_shadow 𝓛 (word_own p (word_val p ∷ [])) (λ _. (tt, (tt, tt)))
    ((ptr_val p ∷ [], tt), (refl, (refl, tt)))

pub word_typed : (p : Ptr) → Good (ty_struct [] (tcons ty_ptr tnil)) (word_val p)
word_typed (block_ptr b o) = (tt, (tt, tt))
word_typed null_ptr = (tt, (record { fits = lit< tt }, tt))

-- the C library's heap, as a handle
abbrev pub heap_val : Val
heap_val = vstruct (vcons (vstruct (vcons vunit vnil)) vnil)

pub heap_told : (h : (global.the_row).Denot) (vs : List Val) → shadow ((global.the_row).own_val h vs)
    → vs ≡ heap_val ∷ []
heap_told h vs s =
    s.1.0 ∙ (λ i. vstruct (of_list ((s.1.1.0.1.0 ∙ (λ j. vstruct (of_list (s.1.1.0.1.1.0 j ++ [])) ∷ [])) i ++ []))
    ∷ [])

-- the parts of a box: a pointer and that handle
abbrev pub pair_val : Ptr → Val
pair_val p = vstruct (vcons (ptr_val p) (vcons heap_val vnil))

abbrev pub pair_own : Ptr → (global.the_row).Denot → List Val → Fml
pair_own p h = (plainly (RawPtr ∷ global.the_row ∷ [])).own_val (p, (h, tt))

pub pair_told : (p : Ptr) (h : (global.the_row).Denot) (vs : List Val) → shadow (pair_own p h vs) → vs ≡ pair_val p ∷ []
pair_told p h vs s = s.1.0 ∙ (λ i. vstruct (of_list (s.1.1.0 i ++ (heap_told h s.0.1.0 s.1.1.1.0 i ++ []))) ∷ [])

pub pair_typed : (p : Ptr)
    → Good (ty_struct [] (tcons ty_ptr (tcons (ty_struct [] (tcons (ty_struct [] (tcons ty_unit tnil)) tnil)) tnil)))
    (pair_val p)
pair_typed (block_ptr b o) = (tt, (tt, (((tt, tt), tt), tt)))
pair_typed null_ptr = (tt, (record { fits = lit< tt }, (((tt, tt), tt), tt)))

pub heap_typed : Good (ty_struct [] (tcons (ty_struct [] (tcons ty_unit tnil)) tnil)) heap_val
heap_typed = (tt, ((tt, tt), tt))

pub pair_made : {M : Type 1} {𝓤 : Ura M} (𝓛 : Logic 𝓤) (p : Ptr) (h : (global.the_row).Denot)
    → ent 𝓤 (emp 𝓤) (sem 𝓛 (pair_own p h (pair_val p ∷ [])))
pair_made 𝓛 p h = makes_shadow 𝓛 (pair_own p h (pair_val p ∷ []))
    (λ _. (tt, (tt, ((λ _. (tt, ((λ _. (tt, (tt, tt))), tt))), tt)))) (
      (ptr_val p ∷ [], (heap_val ∷ [], tt)),
      (
        refl,
        (
          refl,
          (
            ((vstruct (vcons vunit vnil) ∷ [], tt), (refl, (((vunit ∷ [], tt), (refl, (refl, tt))), tt))),
            tt,
          ),
        ),
      ),
    )
