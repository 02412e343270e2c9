-- A file of which no line with words is undecided is upgraded to one text. A line with words has one outcome by
-- book_model's law on lines, taken at a list of this line alone, and a line without words keeps its own; so two lists
-- of outcomes are equal, by induction over the lines, and with them the texts.
use Rattle.std.proofs.Common.{◌≡◌, sym, ℕ, false, List, [], ◌∷◌, map, refl}
use Rattle.std.specs.List.{AllZip}
use Rattle.book_model.specs.declared.version.TheConstants.{WRITTEN}
use Rattle.book_model.specs.lines.Outcomes.{LineOutcome, IsRightFor}
use Rattle.book_model.specs.lines.Text.{text}
use Rattle.cert_text.specs.declared.line.CertLine.{CertLine}
use Rattle.cert_text.specs.declared.line.CertLine.TheVariants as line
use Rattle.cert_text.specs.Laws.{HasNoneUndecided, is_undecided}
use Rattle.cert_text.proofs.OneText.{one_list}
use Rattle.cert_parser.specs.declared.lines.CertFile.{CertFile}
use Rattle.cert_parser.specs.Reading.{file}
use Rattle.conversion.specs.Echoes.{echo_line, words_in}
use Rattle.conversion.specs.Renewing.{Renews}
use Rattle.run_core.specs.Laws.{HasOneUpgrade, IsSettled}
use Rattle.run_core.specs.Upgrading.{upgradable}

-- none of one outcome is undecided
none_of_one : (o : LineOutcome) → is_undecided o ≡ false → HasNoneUndecided (o ∷ [])
none_of_one o e = rw e refl

-- two outcomes that are right for words, neither of them undecided, are one
one_of_words : (words : List ℕ) (o p : LineOutcome) → IsRightFor WRITTEN words o → IsRightFor WRITTEN words p
    → is_undecided o ≡ false → is_undecided p ≡ false → o ≡ p
one_of_words words o p h k a b =
    let none = none_of_one o a in
    let none_either = none_of_one p b in
    let lists : o ∷ [] ≡ p ∷ [] = one_list WRITTEN (words ∷ []) (o ∷ []) (p ∷ []) (h, tt) (k, tt) none none_either in
    cc

-- an upgrade makes one outcome of a line: its words settle it where it has words, and else it is the line's own
one_renewed : (l : CertLine) (o p : LineOutcome) → Renews l o → Renews l p → IsSettled l o → IsSettled l p → o ≡ p
one_renewed (line.Shown echo result facts) o p h k a b = one_of_words (echo_line echo) o p h k a b
one_renewed (line.TooFar echo day facts) o p h k a b = one_of_words (echo_line echo) o p h k a b
one_renewed (line.NoDate echo back facts) o p h k a b = one_of_words (echo_line echo) o p h k a b
one_renewed (line.Refused number) o p h k a b = rw (h, k) refl
one_renewed (line.Undecided fact at) o p h k a b = rw (h, k) refl
one_renewed (line.Void fact site) o p h k a b = rw (h, k) refl

-- and of lines one list of outcomes
one_renewal : (ls : List CertLine) (os ps : List LineOutcome) → AllZip Renews ls os → AllZip Renews ls ps
    → AllZip IsSettled ls os → AllZip IsSettled ls ps → os ≡ ps
one_renewal [] [] [] h k a b = refl
one_renewal [] [] (p ∷ ps) h k a b = absurd k
one_renewal [] (o ∷ os) ps h k a b = absurd h
one_renewal (l ∷ ls) [] ps h k a b = absurd h
one_renewal (l ∷ ls) (o ∷ os) [] h k a b = absurd k
one_renewal (l ∷ ls) (o ∷ os) (p ∷ ps) h k a b =
    let first : o ≡ p = one_renewed l o p h.0 k.0 a.0 b.0 in
    let rest : os ≡ ps = one_renewal ls os ps h.1 k.1 a.1 b.1 in
    rw (first, rest) refl

-- and so their text is one
one_text_of : (ls ms : List CertLine) (os ps : List LineOutcome) → ls ≡ ms → AllZip Renews ls os → AllZip Renews ms ps
    → AllZip IsSettled ls os → AllZip IsSettled ms ps → text (map words_in ls) os ≡ text (map words_in ms) ps
one_text_of ls ms os ps e h k a b =
    let renews : AllZip Renews ls ps = rw (sym e) at k in
    let settled : AllZip IsSettled ls ps = rw (sym e) at b in
    let same : os ≡ ps = one_renewal ls os ps h renews a settled in
    rw (e, same) refl

-- two files that bytes are have the same lines
same_lines : (input : List ℕ) (f g : CertFile) → upgradable input ≡ file f → upgradable input ≡ file g
    → f.lines ≡ g.lines
same_lines input f g h k =
    let files : file f ≡ file g = cc in
    let same : f ≡ g = cc in
    rw same refl

-- bytes are upgraded to one text
pub one_upgrade : (input : List ℕ) → HasOneUpgrade input
one_upgrade input = λ old new before after all each u v a b.
    one_text_of u.of.lines v.of.lines u.renewed.outcomes v.renewed.outcomes
    (same_lines input u.of v.of u.read v.read) u.renewed.renews v.renewed.renews a b
