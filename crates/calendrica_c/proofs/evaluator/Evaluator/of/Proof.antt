-- `of` takes the parts apart, and the evaluator owns what they owned.
use Rattle.std.proofs.Common.{◌≡◌, List, [], ◌∷◌, ◌++◌, refl, true}
use mir.Syntax.{Fn}
use mir.Val.{Val}
use base.Logic.{SProp, emp}
use base.Fml.{ftrue}
use prog.Wp.{WpFn}
use contract.Monad.{fact, fact_i}
use contract.Running.{tables}
use types.Kit.{‵, raw, ◌⊛◌, prop, ◌$◌, ◌∵◌, !, qed, by, move, drop, use0, split, regoal, fsplit, fjoin}
use types.Part.{whole, sub, agg}
use types.Run.{stop, fld, of_opd, no_more, and_then, returns, enter}
use types.ByLocal.{alloc_all, pass_all, free_all, look_at, get, get_in, sets}
use denote.RattleType.{owns}
use denote.Signature.{types_at, plain}
use denote.Steps.{nothing}
use denote.Triple.Entry.{alive}
use denote.Triple.Walked.{Stays, stay_dropped, walk_of}
use Rattle.std.proofs.alloc.Calls.{Goes-blank}
use Rattle.std.proofs.raw_atomic.Walks.{proved_at, leaves}
use Rattle.std.specs.contracts.alloc.Global as global
use Rattle.std.specs.contracts.impls.GlobalAllocator.TheImpl.{ghosts}
use Rattle.calendrica_c.proofs.Words.{ptr_typed, word_val, word_own, word_made, word_typed, pair_val, pair_told}
use Rattle.calendrica_c.proofs.Words.{pair_typed}
use Rattle.calendrica_c.specs.contracts.kept.Kept as kept
use Rattle.calendrica_c.specs.contracts.parts.Parts as parts
use Rattle.calendrica_c.specs.contracts.evaluator.Evaluator as evaluator
use Rattle.calendrica_c.specs.contracts.evaluator.Evaluator.of.{ended, clauses}
use Rattle.calendrica_c.specs.contracts.evaluator.Evaluator.of.Key.{name as #self}
use Rattle.calendrica_c.proofs.evaluator.Evaluator.of.Statement.{statement}
use Rattle.calendrica_c.proofs.evaluator.Evaluator.of.Code as code

pub of_spec : {M : Type 1} → statement M
of_spec 𝓤 𝓛 𝓜 𝓡 wired =
    let H = 𝓛.H in let c = clauses 𝓛 𝓜.mem 𝓡.returns in let fn : Fn = code.function in
    let C = (tables 𝓤 H 𝓜 𝓡 𝓡.env).C in let Λ = (tables 𝓤 H 𝓜 𝓡 𝓡.env).Λ in
    let Row = parts.the_row kept.the_row global.the_row ghosts in
    let stays : Stays ended.signature.params ended.kept = (stay_dropped (plain (λ _. Row)) ended.kept.0, tt) in
    proved_at 𝓛 ended stays c 𝓜 𝓡 (Goes-blank 𝓛 0 (plain (λ _. Row)) ended.kept.0 (λ κs x f. tt), tt) #self fn
    (code.unfolded 𝓤 H 𝓜 𝓡 wired) (λ z are.
    let Post : Val → SProp 𝓤 = (walk_of 𝓛 ended stays c).post z in
    let x = z.0.3.0 in let p = x.ptr in
    let told = pair_told p x.alloc z.0.4.0 are.0.0 in
    let made : (evaluator.the_row).Denot = record { at = p; is_open = true } in
    qed 𝓛 ((raw (alive 𝓛 ended.signature z.0.0 z.0.1) ⊛ ‵ (owns (types_at ended.signature.params z.0.0) z.0.3 z.0.4))
    ∷ ‵ ftrue ∷ []) ∵ move ! (1 ∷ []) $ drop ! $ split ! $ move ! (1 ∷ []) $
    fsplit ! $ fsplit ! $ drop ! $ move ! (1 ∷ []) $ drop ! $
    regoal ! (λ (us : List Val). prop (WpFn 𝓤 H C Λ fn us Post)) (λ i. told i ++ []) refl $
    enter ! C Λ fn (pair_val p ∷ []) Post $ alloc_all ! (λ l. pass_all ! refl (pair_typed p, tt) $
    sets ! (of_opd ! (get_in ! (fld ! refl (stop !)) (sub ! 0 refl (whole !)))) refl (ptr_typed p) $
    sets ! (of_opd ! (get ! refl)) refl (ptr_typed p) $
    sets ! (agg ! (and_then ! (get ! refl) (no_more !))) refl (word_typed p) $
    returns ! (look_at ! 0 refl) $ free_all ! refl $
    use0 𝓛 (‵ (word_own p (word_val p ∷ []))) (word_made 𝓛 p) $ fjoin ! $
    use0 𝓛 (raw (fact 𝓤 (true ≡ true))) (fact_i 𝓤 (true ≡ true) (emp 𝓤) refl) $ nothing ! $ nothing ! $ fjoin ! $ move !
    (3 ∷ 0 ∷ 2 ∷ 1 ∷ []) $
    by ! (leaves 𝓛 ended stays c z (word_val p) made (tt, tt) (tt, tt))))
