-- Both notes are looked into, and what they know is of one name.
use Rattle.std.proofs.Common.{◌≡◌, ℕ, List, [], ◌∷◌, refl, IfSome}
use mir.Syntax.{a_type, named}
use mir.Val.{Val, vunit, vptr}
use mir.MapTy.{inst_fn}
use base.Logic.{SProp}
use base.Fml.{ftrue, fsep, flft}
use types.Kit.{‵, raw, ◌⊛◌, ◌$◌, ◌∵◌, !, qed, by, move, keep, split, join, fsplit, fsplit3, fjoin, use1, use2, rewrite}
use types.Kit.{feq_i}
use types.Run.{of_opd, returns, enter, unit_lit}
use types.ByLocal.{alloc_all, pass_all, free_all, look_at, sets}
use contract.Running.{tables}
use contract.Monad.{fact}
use denote.Exit.{yes}
use denote.RattleType.{RattleType, owns}
use denote.Signature.{types_at, plain}
use denote.Steps.{nothing, heard}
use denote.Memory.{part_at, shared_of}
use denote.Opens.{shr_open, shr_Shut}
use denote.Param.{param, layouts}
use denote.Builtin.{RefOf}
use denote.Ref.{shr_vals, shr_Tells}
use denote.Triple.Walked.{Stays, stay_dropped, walk_of, Goes-dropped}
use Rattle.std.proofs.raw_atomic.Walks.{proved, leaves}
use Rattle.once_cell.specs.Once.{Agrees, noted}
use Rattle.once_cell.proofs.Notes.{noted_agree}
use Rattle.shelf_core.proofs.NoteReads as reads
use Rattle.shelf_core.specs.contracts.notes.know_the_same.{ended, clauses}
use Rattle.shelf_core.specs.contracts.notes.know_the_same.Key.{name as #self}
use Rattle.shelf_core.proofs.notes.know_the_same.Statement.{statement}
use Rattle.shelf_core.proofs.notes.know_the_same.Code as code

pub know_the_same_spec : {M : Type 1} → statement M
know_the_same_spec 𝓤 𝓛 𝓜 𝓡 wired T L =
    let H = 𝓛.H in let 𝓣 = tables 𝓤 H 𝓜 𝓡 𝓡.env in let R : RattleType = param 0 T in let En = ended T in
    let S : RattleType = reads.NoteRow R in
    let inst = layouts (a_type ∷ []) (T, tt) in let fn = inst_fn inst code.function in
    let c = clauses T 𝓛 𝓜.mem 𝓡.returns in
    let one = RefOf (0 ∷ []) tt (plain (λ _. S)) (λ _. tt) in let other = RefOf (1 ∷ []) tt (plain (λ _. S)) (λ _. tt)
    in let hs : Stays En.signature.params
    En.kept = (stay_dropped one yes, (stay_dropped other yes, tt)) in
    proved 𝓛 En hs c 𝓜 𝓡 (Goes-dropped 𝓛 3 one yes (λ κs x f. refl), (Goes-dropped 𝓛 3 other yes (λ κs x f. refl), tt))
    (#self inst) fn
    (code.unfolded 𝓤 H 𝓜 𝓡 wired (T, tt))
    (λ κs. (shr_vals, (shr_vals, tt))) (λ κs. (shr_Tells (named 0) κs.0 S, (shr_Tells (named 1) κs.1.0 S, tt)))
    (λ κs qs bounds a gh are.
    let b₀ : ℕ = a.0.ref_ptr.0 in let o₀ : ℕ = a.0.ref_ptr.1 in let b₁ : ℕ = a.1.0.ref_ptr.0 in
    let o₁ : ℕ = a.1.0.ref_ptr.1 in let p : Val = vptr b₀ o₀ in
    let p' : Val = vptr b₁ o₁ in
    let n = a.0.now in let m = a.1.0.now in let γ : ℕ = n.cell in let So : Type 0 = IfSome m.known (Agrees n.known) in
    let y : (walk_of 𝓛 En hs c).Ghost = ((κs, qs, bounds, a, (p ∷ [], (p' ∷ [], tt))), gh) in let Post : Val
    → SProp 𝓤 = (walk_of 𝓛 En hs c).post y in
    qed 𝓛 (((‵ (flft κs.0 qs.0) ⊛ ‵ (fsep (flft κs.1.0 qs.1.0) (fsep (flft κs.1.1.0 qs.1.1.0) ftrue))) ⊛ ‵
    (owns (types_at En.signature.params κs) a y.0.4)) ∷
    raw (fact 𝓤 _) ∷ raw (fact 𝓤 (m.cell ≡ γ)) ∷ []) ∵ keep ! (2 ∷ 0 ∷ []) $ heard ! (m.cell ≡ γ) (λ same.
    split ! $ split ! $ move ! (1 ∷ []) $ fsplit ! $ move ! (3 ∷ []) $ fsplit3 ! $ fsplit ! $ move ! (2 ∷ []) $ fsplit !
    $ keep ! (3 ∷ 7 ∷ 1 ∷ 5 ∷ 6 ∷ []) $
    enter ! 𝓣.C 𝓣.Λ fn (p ∷ p' ∷ []) Post $ alloc_all ! (λ l. pass_all ! refl ((tt, tt), ((tt, tt), tt)) $
    shr_open ! tt (λ q. part_at S q n b₀ o₀) (shared_of S n b₀ o₀) (reads.note_opened R 𝓛 n b₀ o₀)
    (λ q. move ! (1 ∷ []) $ use1 𝓛 (‵ (noted R n.cell n.known) ⊛ ‵ (part_at S q n b₀ o₀)) (reads.known_of R 𝓛 q n b₀ o₀)
    $ split ! $ move ! (2 ∷ 1 ∷ []) $
    shr_Shut ! tt $ move ! (2 ∷ 3 ∷ []) $
    shr_open ! tt (λ q. part_at S q m b₁ o₁) (shared_of S m b₁ o₁) (reads.note_opened R 𝓛 m b₁ o₁)
    (λ q'. move ! (1 ∷ []) $ use1 𝓛 (‵ (noted R m.cell m.known) ⊛ ‵ (part_at S q' m b₁ o₁))
    (reads.known_of R 𝓛 q' m b₁ o₁) $ split ! $ move ! (2 ∷ 1 ∷ [])
    $ shr_Shut ! tt $
    move ! (1 ∷ []) $ rewrite ! 0 (λ (j : ℕ). ‵ (noted R j m.known)) same refl $ move ! (3 ∷ 0 ∷ []) $ use2 𝓛
    (raw (fact 𝓤 So))
    (noted_agree 𝓛 R γ n.known m.known) $
    move ! (1 ∷ 3 ∷ []) $ fjoin ! $ move ! (2 ∷ 0 ∷ []) $ join ! $ move ! (1 ∷ 0 ∷ []) $
    sets ! (of_opd ! (unit_lit !)) refl (tt, tt) $ feq_i ! (List Val) (vunit ∷ []) (vunit ∷ []) refl $ nothing ! $
    nothing ! $ fjoin ! $ nothing ! $ fjoin ! $
    returns ! (look_at ! 0 refl) $ free_all ! refl $ keep ! (3 ∷ 0 ∷ 1 ∷ 2 ∷ []) $ by !
    (leaves 𝓛 En hs c y vunit tt (tt, (tt, tt)) (tt, (tt, tt))))))))
