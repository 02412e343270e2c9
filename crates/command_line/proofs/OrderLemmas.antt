-- What arguments tell where clap accepts them.
use Rattle.std.proofs.Common.{◌≡◌, ◌∙◌, ap, sym, subst, refl, if◌then◌else◌, Bool, true, false, List, [], ◌∷◌, inl, inr}
use Rattle.std.proofs.Common.{rules}
use Rattle.std.specs.Prelude.{Option, Some, None, option_map, ok_or, Result, Ok, Err, IfOk, IfSome}
use Rattle.clap.specs.Walk.{Row, Text, is_empty, rows_of}
use Rattle.clap.specs.Matches.{found_of}
use Rattle.clap.specs.Simple.{App, HasMatchesOf, matches_of}
use Rattle.clap.specs.Faults.{fault_of, is_simple_and_free}
use Rattle.clap.specs.Kinds.{HasKind, Kinds}
use Rattle.clap.specs.Values.{kind_of}
use Rattle.clap.specs.declared.error.Error.{Error}
use Rattle.clap.specs.declared.error.kind.ErrorKind.TheVariants.{OutOfMemory}
use Rattle.clap.specs.declared.parser.matches.ArgMatches.{ArgMatches}
use Rattle.command_line.specs.declared.command.Command.{Command}
use Rattle.command_line.specs.declared.command.NoCommand.{NoCommand}
use Rattle.command_line.specs.declared.command.NoCommand.TheVariants.{Form}
use Rattle.command_line.specs.declared.command.Order.{Order}
use Rattle.command_line.specs.Words.{is_accepted, program}

-- accepted arguments tell what the rows tell that were read of them
pub told_on : {A : Type 0} (told : List Row → Option A) (accepted : Bool) (rows read : List Row)
    → accepted ≡ true → read ≡ rows → (if accepted then told rows else None) ≡ told read
told_on told true rows read a e = ap told (sym e)
told_on told false rows read a e = cc

-- what holds of an order
pub ordered : (P Q : Order → Type 0) (o : Option Order) (r : Result Order NoCommand)
    → r ≡ ok_or o Form → ((t : Order) → P t → Q t) → IfSome o P → IfOk r Q
ordered P Q None r e f h = rw e tt
ordered P Q (Some t) r e f h = rw e (f t h)

-- the command of an order
pub commanded : (o : Option Order) (r : Result Order NoCommand) (whole told : Option Command)
    → r ≡ ok_or o Form → option_map (λ t. t.command) o ≡ told → whole ≡ told → IfOk r (λ t. whole ≡ Some t.command)
commanded None r whole told e h w = rw e tt
commanded (Some t) r whole told e h w = rw e (w ∙ sym h)

-- where there is no order there is no command
pub uncommanded : (o : Option Order) (r : Result Order NoCommand) (whole told : Option Command)
    → r ≡ ok_or o Form → option_map (λ t. t.command) o ≡ told → whole ≡ told → r ≡ Err Form → whole ≡ None
uncommanded None r whole told e h w f = w ∙ sym h
uncommanded (Some t) r whole told e h w f = absurd (cc)

-- arguments in which no fault is found are accepted
pub accepted_by : (a : App) (words : List Text)
    → a ≡ program → (is_simple_and_free a ≡ true → fault_of a words ≡ []) → is_accepted words ≡ true
accepted_by a words e h =
    let at_program : is_simple_and_free program ≡ true → fault_of program words ≡ [] = rw e at h in
    ap is_empty (at_program refl)

-- what is found in arguments is what their rows tell
pub matched : (a : App) (words : List Text) (m : ArgMatches)
    → a ≡ program → HasMatchesOf a words m → rows_of (found_of m) ≡ matches_of program words
matched a words m e h =
    let at_program : HasMatchesOf program words m = subst (λ b. HasMatchesOf b words m) e h in
    (at_program refl).0

some_fault : (kinds : Kinds) (e : Error) → HasKind kinds e → (kind_of e ≡ OutOfMemory → ⊥) → is_empty kinds ≡ false
some_fault [] e (inl m) f = absurd (f m)
some_fault [] e (inr m) f = absurd m
some_fault (k ∷ ks) e h f = search rules

-- arguments in which a fault is found aren't accepted
pub refused_by : (a : App) (words : List Text) (e : Error)
    → a ≡ program → (is_simple_and_free a ≡ true → HasKind (fault_of a words) e) → (kind_of e ≡ OutOfMemory → ⊥)
    → is_accepted words ≡ false
refused_by a words e p h f =
    let at_program : is_simple_and_free program ≡ true → HasKind (fault_of program words) e = rw p at h in
    some_fault (fault_of program words) e (at_program refl) f
