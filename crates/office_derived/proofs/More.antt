-- What one entry more does to what a history says.
use Rattle.std.proofs.Common.{◌≡◌, ℕ, ◌||◌, List, [], ◌∷◌, ◌++◌, refl, ap, ◌∙◌, map, fold, max}
use Rattle.std.proofs.Common.{Bool, true, false}
use Rattle.std.specs.List.{flat_map}
use Rattle.std.proofs.lemmas.List.{append-nil}
use Rattle.std.proofs.lemmas.List.Folds.{list_any-append}
use Rattle.std.proofs.lemmas.Grind.{flat_map-append, fold-append}
use Rattle.sample_book.specs.declared.Row.{Row}
use Rattle.sample_book.specs.History.{Arrival, Came, Changed}
use Rattle.sample_book.specs.History as book
use Rattle.record_form.specs.declared.Command.{Command}
use Rattle.record_form.specs.declared.Command.TheVariants.{Define, Remove, PutZone}
use Rattle.record_form.specs.declared.Command.TheVariants.{Samples}
use Rattle.record_form.specs.declared.Command.TheVariants.{Exclude, Lift, Tick}
use Rattle.record_form.specs.declared.Command.TheVariants.{Take, Upgrade}
use Rattle.record_form.specs.declared.Entry.{Entry}
use Rattle.office_history.specs.History.{Office, with_entry, present, rows_of}
use Rattle.office_history.specs.History.{rows_in, changes_of}
use Rattle.office_history.specs.History.{changes_in, arrivals_of, arrivals_in}
use Rattle.office_history.specs.Catalog.{catalog_in, definitions_of, definitions_in}
use Rattle.office_history.specs.Catalog.{members_after}
use Rattle.office_history.specs.Zones.{zones_of, zones_in}
use Rattle.office_history.specs.Notices.{is_taking, tick_of, ticks_in, told_at}
use Rattle.office_history.specs.Notices.{told_in}
use Rattle.office_history.specs.Notices.{is_taken}
use Rattle.office_history.specs.Versions.{is_upgrade, is_upgraded}
use Rattle.office_derived.proofs.Lists.{flat-push}

-- what is made of each entry gains what is made of one more
pub flat_more : {B : Type 0} (f : Entry → List B) (h : List Entry) (e : Entry)
    → flat_map f (h ++ e ∷ []) ≡ flat_map f h ++ f e
flat_more f h e = flat_map-append f h (e ∷ []) ∙ ap (λ ys. flat_map f h ++ ys) (append-nil (f e))

pub rows_more : (h : List Entry) (e : Entry)
    → rows_in (h ++ e ∷ []) ≡ rows_in h ++ rows_of e.command
rows_more h e = flat_more (λ (e : Entry). rows_of e.command) h e

pub changes_more : (h : List Entry) (e : Entry)
    → changes_in (h ++ e ∷ []) ≡ changes_in h ++ changes_of e.command
changes_more h e = flat_more (λ (e : Entry). changes_of e.command) h e

pub events_more : (h : List Entry) (e : Entry)
    → arrivals_in (h ++ e ∷ []) ≡ arrivals_in h ++ arrivals_of e.command
events_more h e = flat_more (λ (e : Entry). arrivals_of e.command) h e

pub zones_more : (h : List Entry) (e : Entry)
    → zones_in (h ++ e ∷ []) ≡ zones_in h ++ zones_of e.command
zones_more h e = flat_more (λ (e : Entry). zones_of e.command) h e

pub definitions_more : (h : List Entry) (e : Entry)
    → definitions_in (h ++ e ∷ []) ≡ definitions_in h ++ definitions_of e.command
definitions_more h e = flat_more (λ (e : Entry). definitions_of e.command) h e

pub catalog_more : (h : List Entry) (e : Entry)
    → catalog_in (h ++ e ∷ []) ≡ fold members_after (catalog_in h) (definitions_of e.command)
catalog_more h e =
    ap (fold members_after []) (definitions_more h e)
    ∙ fold-append members_after [] (definitions_in h) (definitions_of e.command)

pub present_more : (o : Office) (e : Entry) → present (with_entry o e) ≡ max (present o) e.moment
present_more o e =
    fold-append (λ greatest (e : Entry). max greatest e.moment) o.origin o.history (e ∷ [])

pub told_more : (o : Office) (e : Entry) → told_in (with_entry o e) ≡ told_in o ++ told_at o e
told_more o e = flat-push (λ (p : List Entry × Entry).
    told_at (record { origin = o.origin; history = p.0 }) p.1) o.history e

pub ticks_more : (o : Office) (e : Entry)
    → ticks_in (with_entry o e) ≡ ticks_in o ++ tick_of o.origin o.history e
ticks_more o e = flat-push (λ (p : List Entry × Entry). tick_of o.origin p.0 p.1) o.history e

pub taken_more : (h : List Entry) (e : Entry) (number : ℕ)
    → is_taken (h ++ e ∷ []) number ≡ (is_taken h number || is_taking number e.command)
taken_more h e number = list_any-append (λ (e : Entry). is_taking number e.command) h (e ∷ [])
    ∙ ap (λ b. is_taken h number || b) (or-false (is_taking number e.command))
  where
    or-false : (b : Bool) → (b || false) ≡ b
    or-false true = refl
    or-false false = refl

pub upgraded_more : (h : List Entry) (e : Entry)
    → is_upgraded (h ++ e ∷ []) ≡ (is_upgrade e.command || is_upgraded h)
upgraded_more h e = list_any-append (λ (e : Entry). is_upgrade e.command) h (e ∷ [])
    ∙ either (is_upgraded h) (is_upgrade e.command)
  where
    either : (a b : Bool) → (a || (b || false)) ≡ (b || a)
    either true true = refl
    either true false = refl
    either false true = refl
    either false false = refl

-- what the arrivals of a history come to for its rows and exclusions
of_rows : (rows : List Row) → book.rows_in (map Came rows) ≡ rows
of_rows [] = refl
of_rows (row ∷ rows) = ap (λ rs. row ∷ rs) (of_rows rows)

no_changes : (rows : List Row) → book.changes_in (map Came rows) ≡ []
no_changes [] = refl
no_changes (row ∷ rows) = no_changes rows

rows-append : (xs ys : List Arrival) → book.rows_in (xs ++ ys) ≡ book.rows_in xs ++ book.rows_in ys
rows-append [] ys = refl
rows-append (Came row ∷ xs) ys = ap (λ rs. row ∷ rs) (rows-append xs ys)
rows-append (Changed change ∷ xs) ys = rows-append xs ys

changes-append : (xs ys : List Arrival)
    → book.changes_in (xs ++ ys) ≡ book.changes_in xs ++ book.changes_in ys
changes-append [] ys = refl
changes-append (Came row ∷ xs) ys = changes-append xs ys
changes-append (Changed change ∷ xs) ys = ap (λ cs. change ∷ cs) (changes-append xs ys)

command_rows : (c : Command) → book.rows_in (arrivals_of c) ≡ rows_of c
command_rows (Samples rows) = of_rows rows
command_rows (Exclude value) = refl
command_rows (Lift id) = refl
command_rows (Define text) = refl
command_rows (Remove kind name) = refl
command_rows (PutZone name bytes) = refl
command_rows Tick = refl
command_rows (Take number) = refl
command_rows Upgrade = refl

command_changes : (c : Command) → book.changes_in (arrivals_of c) ≡ changes_of c
command_changes (Samples rows) = no_changes rows
command_changes (Exclude value) = refl
command_changes (Lift id) = refl
command_changes (Define text) = refl
command_changes (Remove kind name) = refl
command_changes (PutZone name bytes) = refl
command_changes Tick = refl
command_changes (Take number) = refl
command_changes Upgrade = refl

pub event_rows : (h : List Entry) → book.rows_in (arrivals_in h) ≡ rows_in h
event_rows [] = refl
event_rows (e ∷ h) = rows-append (arrivals_of e.command) (arrivals_in h)
    ∙ (λ i. command_rows e.command i ++ event_rows h i)

pub event_changes : (h : List Entry) → book.changes_in (arrivals_in h) ≡ changes_in h
event_changes [] = refl
event_changes (e ∷ h) = changes-append (arrivals_of e.command) (arrivals_in h)
    ∙ (λ i. command_changes e.command i ++ event_changes h i)
