-- What an entry that is no tick and no taking leaves of notices and states, and what is kept then.
use Rattle.std.proofs.Common.{◌≡◌, ℕ, ◌+◌, ◌<◌, ◌≤◌, ◌||◌, List, [], ◌∷◌, ◌++◌, refl, ap, sym}
use Rattle.std.proofs.Common.{subst, ◌∙◌, map, fold, max, Bool, true, false, not, cond, length}
use Rattle.std.proofs.Common.{length-append, arith}
use Rattle.std.proofs.lemmas.List.{append-nil}
use Rattle.sample_book.specs.History.{Holds}
use Rattle.sample_book.specs.Rows.{current_rows}
use Rattle.sample_book.specs.History as book
use Rattle.sample_book.proofs.HistoryLemmas.{rows-held, exclusions-held}
use Rattle.record_form.specs.declared.Command.{Command}
use Rattle.record_form.specs.declared.Entry.{Entry}
use Rattle.notice_box.specs.declared.Notice.{Notice}
use Rattle.office_history.specs.History.{Office, with_entry, present, rows_of}
use Rattle.office_history.specs.History.{rows_in, arrivals_of}
use Rattle.office_history.specs.History.{arrivals_in, accepted_rows}
use Rattle.office_history.specs.Catalog.{definitions_of, members_after}
use Rattle.office_history.specs.Zones.{zones_of}
use Rattle.office_history.specs.Notices.{is_tick, tick_of, ticks_in, last_states}
use Rattle.office_history.specs.Notices.{told_at, told_in}
use Rattle.office_history.specs.Notices.{is_taken, is_taking, notices_from}
use Rattle.office_history.specs.Notices.{notices_in}
use Rattle.office_history.specs.Notices.{states_of_tick}
use Rattle.office_history.specs.Notices.{tick_changes}
use Rattle.office_history.specs.Lists.{last_of}
use Rattle.office_history.specs.Versions.{is_upgrade}
use Rattle.office_derived.specs.declared.derived.Derived.{Derived}
use Rattle.office_derived.specs.declared.work.Work.{Work}
use Rattle.office_derived.specs.Derived.{Reflects, command_of, entry_of}
use Rattle.office_derived.proofs.Lists.{map_ext}
use Rattle.office_derived.proofs.More.{rows_more, events_more, zones_more, catalog_more}
use Rattle.office_derived.proofs.More.{present_more, told_more, ticks_more, taken_more, event_rows}
use Rattle.office_derived.proofs.More.{event_changes, upgraded_more}

-- a command that neither ticks nor takes
pub record IsStill (c : Command) : Type 0 where
  pub no_tick : is_tick c ≡ false
  pub no_taking : (number : ℕ) → is_taking number c ≡ false

nothing_told : (o : Office) (e : Entry) → is_tick e.command ≡ false → told_at o e ≡ []
nothing_told o e h = ap (λ b.
    cond b (map (λ c. (e.moment, c)) (tick_changes (last_states o) (with_entry o e) e.moment)) []) h

pub told_still : (o : Office) (e : Entry) → is_tick e.command ≡ false
    → told_in (with_entry o e) ≡ told_in o
told_still o e h = told_more o e ∙ ap (λ ts. told_in o ++ ts) (nothing_told o e h)
    ∙ append-nil (told_in o)

no_tick_of : (o : Office) (e : Entry) → is_tick e.command ≡ false
    → tick_of o.origin o.history e ≡ []
no_tick_of o e h = ap (λ b.
    cond b ((record { origin = o.origin; history = o.history ++ e ∷ [] }, e.moment) ∷ []) []) h

pub ticks_still : (o : Office) (e : Entry) → is_tick e.command ≡ false
    → ticks_in (with_entry o e) ≡ ticks_in o
ticks_still o e h = ticks_more o e ∙ ap (λ ts. ticks_in o ++ ts) (no_tick_of o e h)
    ∙ append-nil (ticks_in o)

pub states_still : (o : Office) (e : Entry) → is_tick e.command ≡ false
    → last_states (with_entry o e) ≡ last_states o
states_still o e h = ap (λ ts. states_of_tick (last_of ts)) (ticks_still o e h)

pub taken_still : (h : List Entry) (e : Entry) (number : ℕ) → is_taking number e.command ≡ false
    → is_taken (h ++ e ∷ []) number ≡ is_taken h number
taken_still h e number not-taken = taken_more h e number
    ∙ ap (λ b. is_taken h number || b) not-taken ∙ or-false (is_taken h number)
  where
    or-false : (b : Bool) → (b || false) ≡ b
    or-false true = refl
    or-false false = refl

pub notices_still : (o : Office) (e : Entry) → IsStill e.command
    → notices_in (with_entry o e) ≡ notices_in o
notices_still o e still =
    ap (λ ts. map (λ (n : Notice). (n, not (is_taken (o.history ++ e ∷ []) n.number)))
    (notices_from 1 ts)) (told_still o e still.no_tick)
    ∙ map_ext (λ (n : Notice). (n, not (is_taken (o.history ++ e ∷ []) n.number)))
    (λ (n : Notice). (n, not (is_taken o.history n.number)))
    (λ n. ap (λ b. (n, not b)) (taken_still o.history e n.number (still.no_taking n.number)))
    (notices_from 1 (told_in o))

-- what is kept is what the history with one entry more says, for an entry that is no tick
-- and no taking
pub reflects_still : (d d' : Derived) (o : Office) (moment : ℕ) (work : Work) → Reflects d o →
    present o ≤ moment → IsStill (command_of work) →
    d'.origin ≡ d.origin → d'.entries ≡ d.entries + 1 → d'.present ≡ moment →
    d'.upgraded ≡ (is_upgrade (command_of work) || d.upgraded) →
    d'.notices.made ≡ d.notices.made → d'.states.items ≡ d.states.items →
    d'.catalog ≡ fold members_after d.catalog (definitions_of (command_of work)) →
    d'.zones.kept ≡ d.zones.kept ++ zones_of (command_of work) →
    Holds (arrivals_in o.history ++ arrivals_of (command_of work)) d'.book.rows d'.book.exclusions →
    d'.accepted ≡ accepted_rows (rows_in o.history ++ rows_of (command_of work)) →
    Reflects d' (with_entry o (entry_of moment work))
reflects_still d d' o moment work r later still origin entries now upgraded notices states
    catalog zones held accepted =
    let e = entry_of moment work in
    let holds : Holds (arrivals_in (o.history ++ e ∷ [])) d'.book.rows d'.book.exclusions =
    subst (λ es. Holds es d'.book.rows d'.book.exclusions) (sym (events_more o.history e)) held in
    record {
      origin = origin ∙ r.origin;
      entries = entries ∙ ap (λ n. n + 1) r.entries ∙ sym (length-append o.history (e ∷ []));
      present = now ∙ sym (present_more o e ∙ greater (present o) moment later);
      catalog =
          catalog ∙ ap (λ os. fold members_after os (definitions_of (command_of work))) r.catalog
          ∙ sym (catalog_more o.history e);
      zones = zones ∙ ap (λ zs. zs ++ zones_of (command_of work)) r.zones
          ∙ sym (zones_more o.history e);
      rows = rows-held (arrivals_in (o.history ++ e ∷ [])) d'.book.rows d'.book.exclusions holds
          ∙ ap current_rows (event_rows (o.history ++ e ∷ []));
      exclusions =
          exclusions-held (arrivals_in (o.history ++ e ∷ [])) d'.book.rows d'.book.exclusions holds
          ∙ ap book.exclusions_of (event_changes (o.history ++ e ∷ []));
      held = holds;
      accepted = accepted ∙ ap accepted_rows (sym (rows_more o.history e));
      upgraded = upgraded ∙ ap (λ b. is_upgrade (command_of work) || b) r.upgraded
          ∙ sym (upgraded_more o.history e);
      notices = notices ∙ r.notices ∙ sym (notices_still o e still);
      states = states ∙ r.states ∙ sym (states_still o e still.no_tick);
      numbers = λ number above. taken_still o.history e number (still.no_taking number) ∙ r.numbers
          number (subst (λ ts. length ts < number) (told_still o e still.no_tick) above);
    }
  where
    greater : (a b : ℕ) → a ≤ b → max a b ≡ b
    greater a b h = omega (arith, h)
