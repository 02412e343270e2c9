-- Inquiries of the sky of another place: what the Chinese rules ask of the sky of Beijing is asked of that place
-- instead.
use Rattle.std.specs.Prelude.{◌&&◌, ◌==◌, if◌then◌else◌, Bool, true, false}
use Rattle.book_model.specs.declared.fact.Fact.{Fact}
use Rattle.book_model.specs.declared.fact.Kind.{Kind}
use Rattle.book_model.specs.declared.fact.Kind.TheVariants.{Solstice, NewMoonBefore, NewMoonFrom, Major}
use Rattle.book_model.specs.declared.fact.Place.{Place}
use Rattle.book_model.specs.declared.fact.Place.TheVariants.{Beijing}
use Rattle.book_model.specs.calendars.Inquiries.{Inquiry, done, ask}
use Rattle.book_model.specs.sky.Names.{place_number}

-- the kinds of facts on which the Chinese rules rest
abbrev pub is_eastern : Kind → Bool
is_eastern Solstice = true
is_eastern NewMoonBefore = true
is_eastern NewMoonFrom = true
is_eastern Major = true
is_eastern kind = false

-- the fact of the same kind and day at another place, where it is one of these of the sky of Beijing; any other fact
-- stays
unfoldable pub moved_fact : Place → Fact → Fact
moved_fact place f = if is_eastern f.kind && (place_number f.place == place_number Beijing)
    then record f { place = place } else f

-- an inquiry, with each fact that it asks moved
unfoldable pub moved : {A : Type 0} → (Fact → Fact) → Inquiry A → Inquiry A
moved move (done a) = done a
moved move (ask f next) = ask (move f) (λ v. moved move (next v))

-- an inquiry of the sky of another place
abbrev pub at_place : {A : Type 0} → Place → Inquiry A → Inquiry A
at_place place i = moved (moved_fact place) i
