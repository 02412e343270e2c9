-- `into_parts` takes an open evaluator apart, and the parts own what it owned.
use Rattle.std.proofs.Common.{◌≡◌, List, [], ◌∷◌, ◌++◌, refl, true}
use mir.Syntax.{Fn}
use mir.Val.{Val}
use base.Logic.{SProp}
use prog.Wp.{WpFn}
use contract.Monad.{fact}
use contract.Running.{tables}
use types.Kit.{‵, raw, ◌⊛◌, prop, ◌$◌, ◌∵◌, !, qed, by, move, drop, use0, split, regoal, rewrite, fsplit, fjoin}
use types.Part.{whole, sub, agg}
use types.Run.{stop, fld, of_opd, no_more, and_then, returns, enter}
use types.ByLocal.{alloc_all, pass_all, free_all, look_at, get, get_in, sets}
use denote.RattleType.{owns}
use denote.Signature.{types_at, plain}
use denote.Steps.{nothing, heard}
use denote.Triple.Entry.{alive}
use denote.Triple.Walked.{Stays, stay_dropped, walk_of}
use Rattle.std.proofs.alloc.Calls.{Goes-blank}
use Rattle.std.proofs.raw_atomic.Walks.{proved_at, leaves}
use Rattle.std.specs.contracts.alloc.Global as global
use Rattle.std.specs.contracts.impls.GlobalAllocator.TheImpl.{ghosts}
use Rattle.calendrica_c.specs.Evaluators.{kept_owns}
use Rattle.calendrica_c.proofs.Words.{ptr_typed, word_val, word_told, word_typed, heap_val, heap_told, heap_typed}
use Rattle.calendrica_c.proofs.Words.{pair_val, pair_own, pair_made, pair_typed}
use Rattle.calendrica_c.specs.contracts.kept.Kept as kept
use Rattle.calendrica_c.specs.contracts.parts.Parts as parts
use Rattle.calendrica_c.specs.contracts.evaluator.Evaluator as evaluator
use Rattle.calendrica_c.specs.contracts.evaluator.Evaluator.into_parts.{ended, clauses}
use Rattle.calendrica_c.specs.contracts.evaluator.Evaluator.into_parts.Key.{name as #self}
use Rattle.calendrica_c.proofs.evaluator.Evaluator.into_parts.Statement.{statement}
use Rattle.calendrica_c.proofs.evaluator.Evaluator.into_parts.Code as code

pub into_parts_spec : {M : Type 1} → statement M
into_parts_spec 𝓤 𝓛 𝓜 𝓡 wired =
    let H = 𝓛.H in let c = clauses 𝓛 𝓜.mem 𝓡.returns in let fn : Fn = code.function in
    let C = (tables 𝓤 H 𝓜 𝓡 𝓡.env).C in let Λ = (tables 𝓤 H 𝓜 𝓡 𝓡.env).Λ in
    let Row = evaluator.the_row in
    let stays : Stays ended.signature.params ended.kept =
    (stay_dropped (plain (λ _. Row)) ended.kept.0, (stay_dropped (plain (λ _. global.the_row)) ended.kept.1.0, tt))
    in
    proved_at 𝓛 ended stays c 𝓜 𝓡 (
      Goes-blank 𝓛 0 (plain (λ _. Row)) ended.kept.0 (λ κs x f. tt),
      (Goes-blank 𝓛 0 (plain (λ _. global.the_row)) ended.kept.1.0 (λ κs x f. tt), tt),
    ) #self fn
    (code.unfolded 𝓤 H 𝓜 𝓡 wired) (λ z are.
    let Post : Val → SProp 𝓤 = (walk_of 𝓛 ended stays c).post z in
    let e = z.0.3.0 in let h = z.0.3.1.0 in let p = e.at in
    let told = word_told p z.0.4.0 are.0.0 in let heap = heap_told h z.0.4.1.0 are.1.0 in
    let made : (parts.the_row kept.the_row global.the_row ghosts).Denot = record { ptr = p; alloc = h; value = tt } in
    qed 𝓛 ((raw (alive 𝓛 ended.signature z.0.0 z.0.1) ⊛ ‵ (owns (types_at ended.signature.params z.0.0) z.0.3 z.0.4))
    ∷ raw (fact 𝓤 (e.is_open ≡ true)) ∷ []) ∵ move ! (1 ∷ []) $ heard ! (e.is_open ≡ true)
    (λ open_is. split ! $ move ! (1 ∷ []) $
    fsplit ! $ fsplit ! $ drop ! $ move ! (1 ∷ []) $ drop ! $
    -- [what it owned besides its pointer; the tokens]
    rewrite ! 0 (λ (t : _). ‵ (kept_owns t p)) open_is refl $
    regoal ! (λ (us : List Val). prop (WpFn 𝓤 H C Λ fn us Post)) (λ i. told i ++ (heap i ++ [])) refl $
    enter ! C Λ fn (word_val p ∷ heap_val ∷ []) Post $ alloc_all !
    (λ l. pass_all ! refl (word_typed p, (heap_typed, tt)) $
    sets ! (of_opd ! (get_in ! (fld ! refl (stop !)) (sub ! 0 refl (whole !)))) refl (ptr_typed p) $
    sets ! (of_opd ! (get ! refl)) refl (ptr_typed p) $
    sets ! (agg ! (and_then ! (get ! refl) (and_then ! (get ! refl) (no_more !)))) refl (pair_typed p) $
    returns ! (look_at ! 0 refl) $ free_all ! refl $
    use0 𝓛 (‵ (pair_own p h (pair_val p ∷ []))) (pair_made 𝓛 p h) $ fjoin ! $
    nothing ! $ nothing ! $ nothing ! $ fjoin ! $ nothing ! $ fjoin ! $ move ! (3 ∷ 0 ∷ 2 ∷ 1 ∷ []) $
    by ! (leaves 𝓛 ended stays c z (pair_val p) made (tt, (tt, tt)) (tt, (tt, tt))))))
