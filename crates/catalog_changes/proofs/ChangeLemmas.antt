-- What is kept after a definition, a removal and a zone.
use Rattle.std.proofs.Common.{◌≡◌, ℕ, ◌+◌, ◌<◌, ◌≤◌, ◌^◌, ◌||◌, Bool, true, false, cond, nat_lt}
use Rattle.std.proofs.Common.{List, []}
use Rattle.std.proofs.Common.{◌∷◌, ◌++◌, Option, Some, None, Result, Ok, Err, IfOk, length, map}
use Rattle.std.proofs.Common.{fold, bytes_eq, refl, sym, ap, ◌∙◌, subst, append-nil, arith}
use Rattle.std.specs.List.{All}
use Rattle.std.proofs.lemmas.Bool.Decides.{nat_tests}
use Rattle.slo_limits.specs.declared.TheConstants as most
use Rattle.sample_book.specs.declared.Row.{Row}
use Rattle.sample_book.specs.declared.Exclusion.{Exclusion}
use Rattle.notice_box.specs.declared.Notice.{Notice}
use Rattle.zone_calendar.specs.Zone.{ZoneText}
use Rattle.sample_book.specs.History as book
use Rattle.object_terms.specs.declared.kind.Kind.{Kind}
use Rattle.object_terms.specs.declared.Object.{Object}
use Rattle.catalog_terms.specs.Catalog.{with_members, without}
use Rattle.catalog_terms.specs.Keys.{member_of}
use Rattle.catalog_terms.specs.References.{first_referrer}
use Rattle.catalog_terms.specs.Remove.{remaining_members, unless_used, where_found}
use Rattle.catalog_terms.specs.declared.RemoveFault.{RemoveFault}
use Rattle.zone_calendar.specs.ZoneBytes.{zone_of}
use Rattle.office_history.specs.Definitions.{Definition, Known, known, IsDefinition}
use Rattle.definition_verdict.specs.declared.Definition.{Definition as Answered}
use Rattle.definition_verdict.specs.Made.{in_words, IsDefinition as IsAnswered}
use Rattle.office_history.specs.Readings.{first_read_anew}
use Rattle.record_form.specs.declared.Command.{Command}
use Rattle.record_form.specs.declared.Command.TheVariants.{Define, Remove, PutZone}
use Rattle.record_form.specs.declared.Refusal.{Refusal}
use Rattle.record_form.specs.declared.Refusal.TheVariants as refusals
use Rattle.record_form.specs.declared.LimitName.TheVariants as limits
use Rattle.record_form.specs.declared.Outcome.TheVariants as outcomes
use Rattle.office_history.specs.declared.Judgement.{Judgement}
use Rattle.office_history.specs.declared.Judgement.TheVariants.{Accepted, Same, Refused}
use Rattle.office_history.specs.Batches.{when, objective_days}
use Rattle.office_history.specs.History.{Office, with_entry, present, end_of, rows_of, rows_in}
use Rattle.office_history.specs.History.{arrivals_of, arrivals_in, current_in, accepted_rows}
use Rattle.office_history.specs.Catalog.{catalog_in, definitions_of, members_after, text_objects}
use Rattle.office_history.specs.Judges.{Judges, JudgesText, refused, defined}
use Rattle.catalog_changes.specs.Judging.{defined_verdict}
use Rattle.office_history.specs.Judges.{known_of}
use Rattle.office_history.specs.Verdicts.{unless_refused, accepted, unless_removal, unless_sampled}
use Rattle.office_history.specs.Verdicts.{first_row_of, remove_verdict, zone_verdict_beside}
use Rattle.office_history.specs.Verdicts.{zone_verdict, new_zone_fault}
use Rattle.office_history.specs.Versions.{is_upgrade}
use Rattle.office_history.specs.Zones.{zones_of, zones_in, bytes_named, utc}
use Rattle.office_history.specs.Lists.{first_some}
use Rattle.office_derived.specs.declared.Derived.{Derived}
use Rattle.office_derived.specs.declared.Work.{Work}
use Rattle.office_derived.specs.declared.Work.TheVariants as works
use Rattle.office_derived.specs.declared.Verdict.{Verdict}
use Rattle.office_derived.specs.declared.Verdict.TheVariants as judged
use Rattle.office_history.specs.Notices.{waiting}
use Rattle.office_derived.specs.Zones.{KeptZones}
use Rattle.kept_sums.specs.declared.SumsPlan.{SumsPlan}
use Rattle.kept_sums.specs.Objectives.{KeepsSums, KeptObjectives}
use Rattle.kept_sums.specs.Plans.{IsPlan}
use Rattle.office_derived.specs.Derived.{HasPlan, RowIsRead, IsPlaced, IsSound, Reflects, IsNext}
use Rattle.office_derived.specs.Derived.{IsFound, IsJudged, command_of, entry_of}
use Rattle.office_derived.proofs.More.{catalog_more}
use Rattle.office_derived.proofs.Sound.{within_cells, within_rows}
use Rattle.office_derived.proofs.Still.{IsStill, reflects_still}
use Rattle.catalog_changes.specs.Judging.{known_by, IsJudgedBy, IsPlanOver, IsTextWork, IsRemoval}
use Rattle.catalog_changes.specs.Judging.{IsZoneWork}
use Rattle.catalog_changes.specs.Kinds.{TextsHaveKinds}
use Rattle.catalog_changes.proofs.DefineLemmas.{made_of_text, kinds_of_text, changes_put}
use Rattle.catalog_changes.proofs.ReadingLemmas.{define_read, remove_read}

-- JUDGING

-- a judgement over what is kept is one over the history
pub judged_over : (o : Office) (moment : ℕ) (command : Command) (J : Judgement → Type 0)
    (P : Work → Type 0) (result : Verdict Work) →
    ((j : Judgement) → J j → Judges o moment command j) →
    ((w : Work) → P w → (command_of w ≡ command) × IsFound o moment w) →
    IsJudgedBy J P result → IsJudged o moment command result
judged_over o moment command J P (judged.Ready work) over found h = let f = found work h.1 in
    (over Accepted h.0, f.0, f.1)
judged_over o moment command J P (judged.Same outcome) over found h = over (Same outcome) h
judged_over o moment command J P (judged.Refused refusal) over found h = over (Refused refusal) h
judged_over o moment command J P judged.NoMemory over found h = tt

known_over : (d : Derived) (o : Office) → Reflects d o → known_by d ≡ known_of o
known_over d o r i = known (r.catalog i) (map (λ (kept : List ℕ × List ℕ). kept.0) (r.zones i))
    (r.rows i) (end_of (r.origin i))

pub text_over : (d : Derived) (o : Office) (moment : ℕ) (text : List ℕ) → Reflects d o
    → (j : Judgement) → JudgesText (known_by d) d.entries text j → Judges o moment (Define text) j
text_over d o moment text r j h =
    subst (λ (p : Known × ℕ). JudgesText p.0 p.1 text j) (λ i. (known_over d o r i, r.entries i)) h

-- a plan over what is kept is one over the history
plan_over : (d : Derived) (o : Office) → Reflects d o → (catalog : List Object) (plan : SumsPlan) →
    IsPlanOver d catalog plan → HasPlan o catalog plan
plan_over d o r catalog plan h =
    subst (λ (p : List (Exclusion × Bool) × List Row). IsPlan catalog p.0 p.1 plan)
    (λ i. (r.exclusions i, r.rows i)) h

-- a plan over the history is one over what is kept
plan_here : (d : Derived) (o : Office) → Reflects d o → (catalog : List Object) (plan : SumsPlan) →
    HasPlan o catalog plan → IsPlanOver d catalog plan
plan_here d o r catalog plan h =
    subst (λ (p : List (Exclusion × Bool) × List Row). IsPlan catalog p.0 p.1 plan)
    (λ i. (sym r.exclusions i, sym r.rows i)) h

pub text_found : (d : Derived) (o : Office) (moment : ℕ) (text : List ℕ) → Reflects d o →
    (w : Work) → IsTextWork d text w → (command_of w ≡ Define text) × IsFound o moment w
text_found d o moment text r (works.Define copy catalog applied plan) h = (
  ap Define h.0,
  (
    h.1 ∙ (λ i. with_members (text_objects (sym h.0 i)) (r.catalog i))
        ∙ sym (changes_put (text_objects copy) (catalog_in o.history))
        ∙ sym (catalog_more o.history (entry_of moment (works.Define copy catalog applied plan))),
    h.2 ∙ ap (λ (t : List ℕ). length (text_objects t)) (sym h.0),
    plan_over d o r catalog plan h.3,
  ),
)
text_found d o moment text r (works.Remove kind name catalog plan) h = absurd h
text_found d o moment text r (works.PutZone name bytes zone) h = absurd h
text_found d o moment text r (works.Samples rows tally becomes) h = absurd h
text_found d o moment text r (works.Exclude value) h = absurd h
text_found d o moment text r (works.Lift id) h = absurd h
text_found d o moment text r (works.Tick states told) h = absurd h
text_found d o moment text r (works.Take number) h = absurd h
text_found d o moment text r works.Upgrade h = absurd h

pub removal_over : (d : Derived) (o : Office) (moment : ℕ) (kind : Kind) (name : List ℕ) →
    Reflects d o → (j : Judgement) →
    j ≡ remove_verdict d.catalog d.book.rows d.entries kind name →
    Judges o moment (Remove kind name) j
removal_over d o moment kind name r j h = h
    ∙ (λ i. remove_verdict (r.catalog i) (r.rows i) (r.entries i) kind name)

pub removal_found : (d : Derived) (o : Office) (moment : ℕ) (kind : Kind) (name : List ℕ) →
    Reflects d o → (w : Work) → IsRemoval d kind name w →
    (command_of w ≡ Remove kind name) × IsFound o moment w
removal_found d o moment kind name r (works.Remove k n catalog plan) h = (
  (λ i. Remove (h.0 i) (h.1 i)),
  (
    h.2 ∙ (λ i. without (sym h.0 i) (sym h.1 i) (r.catalog i))
        ∙ sym (catalog_more o.history (entry_of moment (works.Remove k n catalog plan))),
    plan_over d o r catalog plan h.3,
  ),
)
removal_found d o moment kind name r (works.Define copy catalog applied plan) h = absurd h
removal_found d o moment kind name r (works.PutZone n bytes zone) h = absurd h
removal_found d o moment kind name r (works.Samples rows tally becomes) h = absurd h
removal_found d o moment kind name r (works.Exclude value) h = absurd h
removal_found d o moment kind name r (works.Lift id) h = absurd h
removal_found d o moment kind name r (works.Tick states told) h = absurd h
removal_found d o moment kind name r (works.Take number) h = absurd h
removal_found d o moment kind name r works.Upgrade h = absurd h

pub zone_over : (d : Derived) (o : Office) (moment : ℕ) (name bytes : List ℕ) → Reflects d o →
    (j : Judgement) →
    j ≡ zone_verdict d.zones.kept d.entries name bytes → Judges o moment (PutZone name bytes) j
zone_over d o moment name bytes r j h = h ∙ (λ i. zone_verdict (r.zones i) (r.entries i) name bytes)

pub zone_found : (o : Office) (moment : ℕ) (name bytes : List ℕ) → (w : Work)
    → IsZoneWork name bytes w → (command_of w ≡ PutZone name bytes) × IsFound o moment w
zone_found o moment name bytes (works.PutZone n copy zone) h =
    ((λ i. PutZone (h.0 i) (h.1 i)), ap zone_of h.1 ∙ h.2)
zone_found o moment name bytes (works.Define copy catalog applied plan) h = absurd h
zone_found o moment name bytes (works.Remove kind n catalog plan) h = absurd h
zone_found o moment name bytes (works.Samples rows tally becomes) h = absurd h
zone_found o moment name bytes (works.Exclude value) h = absurd h
zone_found o moment name bytes (works.Lift id) h = absurd h
zone_found o moment name bytes (works.Tick states told) h = absurd h
zone_found o moment name bytes (works.Take number) h = absurd h
zone_found o moment name bytes works.Upgrade h = absurd h

-- what a text that is defined comes to
pub text_judged : (known : Known) (entries : ℕ) (text : List ℕ) (made : Answered) (j : Judgement)
    → IsAnswered known text made → j ≡ defined_verdict known entries made
    → JudgesText known entries text j
text_judged known entries text made j h e =
    subst (JudgesText known entries text) (sym e) (defined h)

pub text_put : {E : Type 0} (known : Known) (text : List ℕ) (r : Result Answered E)
    → IfOk r (λ made. IsAnswered known text made)
    → IfOk r (λ made. made.catalog ≡ with_members (text_objects text) known.members)
text_put known text (Ok made) h = (made_of_text known text (in_words made) h).catalog_is
text_put known text (Err e) h = tt

pub text_counted : {E : Type 0} (known : Known) (text : List ℕ) (r : Result Answered E)
    → IfOk r (λ made. IsAnswered known text made)
    → IfOk r (λ made. made.objects ≡ length (text_objects text))
text_counted known text (Ok made) h = (made_of_text known text (in_words made) h).counted
text_counted known text (Err e) h = tt

-- WHAT IS ACCEPTED

fits : (entries : ℕ) → accepted entries ≡ Accepted → entries < most.MAX_ENTRIES
fits entries e = by (nat_lt entries most.MAX_ENTRIES) refl e
  where
    by : (b : Bool) → nat_lt entries most.MAX_ENTRIES ≡ b
        → cond b Accepted (Refused (refusals.Limit limits.Entries)) ≡ Accepted
        → entries < most.MAX_ENTRIES
    by true f g = grind (arith, nat_tests)
    by false f g = cc g

-- what is known of a text that was accepted
pub record IsAcceptedText (known : Known) (entries : ℕ) (text : List ℕ) : Type 0 where
  pub made : Definition
  pub is : IsDefinition known text made
  pub fits : entries < most.MAX_ENTRIES

pub accepted_text : (known : Known) (entries : ℕ) (text : List ℕ) (j : Judgement)
    → JudgesText known entries text j → j ≡ Accepted → IsAcceptedText known entries text
accepted_text known entries text _ (refused h) e = cc e
accepted_text known entries text _ (defined {made = made} h) e = record {
  made = made;
  is = h;
  fits = by (nat_lt most.MAX_DAYS (objective_days made.catalog known.rows)) made.same e;
}
  where
    by : (a b : Bool) → unless_refused (when a (refusals.Limit limits.Days))
        (cond b (Same (outcomes.Defined made.objects None)) (accepted entries)) ≡ Accepted
        → entries < most.MAX_ENTRIES
    by true b g = cc g
    by false true g = cc g
    by false false g = fits entries g

-- what is known of a removal that was accepted
pub record IsAcceptedRemoval (rows : List Row) (entries : ℕ) (kind : Kind)
    (name : List ℕ) : Type 0 where
  pub no_rows : first_row_of rows kind name ≡ None
  pub fits : entries < most.MAX_ENTRIES

pub accepted_removal : (members : List Object) (rows : List Row) (entries : ℕ) (kind : Kind)
    (name : List ℕ) → Accepted ≡ remove_verdict members rows entries kind name →
    IsAcceptedRemoval rows entries kind name
accepted_removal members rows entries kind name e =
    by (remaining_members members kind name) (first_row_of rows kind name) refl e
  where
    by : (r : Result (List Object) RemoveFault) (o : Option Row) → first_row_of rows kind name ≡ o →
        Accepted ≡ unless_removal r (unless_sampled o (accepted entries)) →
        IsAcceptedRemoval rows entries kind name
    by (Err fault) o f g = cc g
    by (Ok left) (Some row) f g = cc g
    by (Ok left) None f g = record { no_rows = f; fits = fits entries (sym g) }

pub accepted_zone : (zones : List (List ℕ × List ℕ)) (entries : ℕ) (name bytes : List ℕ)
    → Accepted ≡ zone_verdict zones entries name bytes → entries < most.MAX_ENTRIES
accepted_zone zones entries name bytes e =
    unrefused (first_some (when (bytes_eq name utc) (refusals.ReservedZone name)
    ∷ when (nat_lt most.MAX_ZONE_BYTES (length bytes)) (refusals.Limit limits.ZoneBytes) ∷ []))
    (bytes_named zones name) e
  where
    known : (old : List ℕ) (b : Bool)
        → Accepted ≡ cond b (Same (outcomes.Changed None)) (Refused (refusals.ZoneDiffers name))
        → entries < most.MAX_ENTRIES
    known old true g = cc g
    known old false g = cc g

    new : (f : Option Refusal) → Accepted ≡ unless_refused f (accepted entries)
        → entries < most.MAX_ENTRIES
    new None g = fits entries (sym g)
    new (Some refusal) g = cc g

    unrefused : (f : Option Refusal) (o : Option (List ℕ))
        → Accepted ≡ unless_refused f (zone_verdict_beside o (length zones) entries name bytes)
        → entries < most.MAX_ENTRIES
    unrefused (Some refusal) o g = cc g
    unrefused None (Some old) g = known old (bytes_eq old bytes) g
    unrefused None None g = new (new_zone_fault (length zones) name bytes) g

-- WHAT IS KEPT

-- what is kept with one entry more agrees in itself where the rows are read, and the sums are those
-- of the objectives
pub sound_with : (d d' : Derived) → IsSound d → d.entries < most.MAX_ENTRIES →
    d'.origin ≡ d.origin → d'.entries ≡ d.entries + 1 → d'.book.rows ≡ d.book.rows →
    d'.accepted ≡ d.accepted → d'.upgraded ≡ d.upgraded → d'.notices.made ≡ d.notices.made →
    All (RowIsRead d'.catalog) d.book.rows →
    KeepsSums d'.catalog d'.book.exclusions d'.book.rows d'.sums → IsSound d'
sound_with d d' s few origin entries rows puts upgraded notices read sums = record {
  origin = subst (λ n. n ≤ most.MAX_MINUTE) (sym origin) s.origin;
  entries = omega (arith, entries, few);
  cells = within_cells d.upgraded d'.upgraded (length d.book.rows) (length d'.book.rows)
      (sym upgraded) (ap length rows) s.cells;
  summed = omega (arith, ap length rows, s.summed);
  accepted = within_rows d.upgraded d'.upgraded d.accepted d'.accepted (sym upgraded) puts
      s.accepted;
  few_waiting =
      subst (λ (made : List (Notice × Bool)). waiting made ≤ most.MAX_NOTICES) (sym notices)
      s.few_waiting;
  made =
      subst (λ (made : List (Notice × Bool)). length made ≤ waiting made + d'.entries)
      (sym notices) (let whole = s.made in omega (arith, entries, whole));
  read = subst (All (RowIsRead d'.catalog)) (sym rows) read;
  placed =
      subst (λ (p : ℕ × List Row). All (IsPlaced p.0) p.1) (λ i. (sym origin i, sym rows i))
      s.placed;
  sums = sums;
}

-- an entry that brings no rows and no exclusions
unsampled : (d d' : Derived) (o : Office) (m : ℕ) (w : Work) → Reflects d o → present o ≤ m →
    IsStill (command_of w) → arrivals_of (command_of w) ≡ [] → rows_of (command_of w) ≡ [] →
    d'.origin ≡ d.origin → d'.entries ≡ d.entries + 1 → d'.present ≡ m →
    d'.upgraded ≡ (is_upgrade (command_of w) || d.upgraded) →
    d'.notices.made ≡ d.notices.made → d'.states.items ≡ d.states.items →
    d'.catalog ≡ fold members_after d.catalog (definitions_of (command_of w)) →
    d'.zones.kept ≡ d.zones.kept ++ zones_of (command_of w) →
    d'.book.rows ≡ d.book.rows → d'.book.exclusions ≡ d.book.exclusions → d'.accepted ≡ d.accepted →
    Reflects d' (with_entry o (entry_of m w))
unsampled d d' o m w r later still no_events no_rows origin entries now upgraded notices states
    catalog zones rows exclusions puts =
    reflects_still d d' o m w r later still origin entries now upgraded notices states catalog zones
    (subst (λ (p : List book.Arrival × List Row × List (Exclusion × Bool)). book.Holds p.0 p.1 p.2)
    (λ i. (
      (sym (append-nil (arrivals_in o.history)) ∙ ap (λ es. arrivals_in o.history ++ es)
          (sym no_events)) i,
      sym rows i,
      sym exclusions i,
    )) r.held)
    (puts ∙ r.accepted ∙ ap accepted_rows
    (sym (append-nil (rows_in o.history)) ∙ ap (λ rs. rows_in o.history ++ rs) (sym no_rows)))

no_zones : (d : Derived) → d.zones.kept ≡ d.zones.kept ++ []
no_zones d = sym (append-nil d.zones.kept)

-- what is kept with one entry more, and with this catalog and these sums
abbrev pub with_catalog : Derived → ℕ → List Object → KeptObjectives → Derived
with_catalog d m catalog sums =
    record d { entries = d.entries + 1; present = m; catalog = catalog; sums = sums }

pub define_reflects : (d : Derived) (o : Office) (m : ℕ) (text : List ℕ) (catalog : List Object)
    (applied : ℕ) (plan : SumsPlan) (sums : KeptObjectives) →
    IsNext d o m (works.Define text catalog applied plan) →
    Reflects (with_catalog d m catalog sums)
    (with_entry o (entry_of m (works.Define text catalog applied plan)))
define_reflects d o m text catalog applied plan sums n =
    unsampled d (with_catalog d m catalog sums) o m (works.Define text catalog applied plan)
    n.reflects n.later (record { no_tick = refl; no_taking = λ number. refl }) refl refl
    refl refl refl refl refl refl
    (n.found.0 ∙ catalog_more o.history (entry_of m (works.Define text catalog applied plan))
    ∙ ap (λ ms. fold members_after ms (definitions_of (Define text))) (sym n.reflects.catalog))
    (no_zones d) refl refl refl

-- each row is read as before by the catalog of a text that is defined
pub text_read : TextsHaveKinds → (d : Derived) (text : List ℕ) (made : Definition) → IsSound d →
    IsDefinition (known_by d) text made → All (RowIsRead made.catalog) d.book.rows
text_read law d text made s is =
    let m = made_of_text (known_by d) text made is in
    subst (λ (members : List Object). All (RowIsRead members) d.book.rows) (sym m.catalog_is)
    (define_read d.catalog d.book.rows (text_objects text) s.read
    (kinds_of_text law (known_by d) text made is) m.same_readings)

pub texts_read : {E : Type 0} → TextsHaveKinds → (d : Derived) (text : List ℕ)
    (r : Result Answered E) → IsSound d → IfOk r (λ made. IsAnswered (known_by d) text made) →
    IfOk r (λ made. All (RowIsRead made.catalog) d.book.rows)
texts_read law d text (Ok made) s h = text_read law d text (in_words made) s h
texts_read law d text (Err e) s h = tt

pub define_sound : TextsHaveKinds → (d : Derived) (o : Office) (m : ℕ) (text : List ℕ)
    (catalog : List Object) (applied : ℕ) (plan : SumsPlan) (sums : KeptObjectives) → IsSound d →
    IsNext d o m (works.Define text catalog applied plan) →
    (IsPlanOver d catalog plan → KeepsSums catalog d.book.exclusions d.book.rows sums) →
    IsSound (with_catalog d m catalog sums)
define_sound law d o m text catalog applied plan sums s n keeps =
    let r = n.reflects in
    let a = accepted_text (known_of o) (length o.history) text Accepted n.accepted refl in
    let made = made_of_text (known_of o) text a.made a.is in
    let is : catalog ≡ with_members (text_objects text) d.catalog =
    n.found.0 ∙ catalog_more o.history (entry_of m (works.Define text catalog applied plan))
    ∙ changes_put (text_objects text) (catalog_in o.history)
    ∙ ap (with_members (text_objects text)) (sym r.catalog) in
    let anew : first_read_anew d.catalog d.book.rows (text_objects text) ≡ None =
    (λ i. first_read_anew (r.catalog i) (r.rows i) (text_objects text)) ∙ made.same_readings in
    let read : All (RowIsRead catalog) d.book.rows =
    subst (λ (members : List Object). All (RowIsRead members) d.book.rows) (sym is)
    (define_read d.catalog d.book.rows (text_objects text) s.read
    (kinds_of_text law (known_of o) text a.made a.is) anew) in
    sound_with d (with_catalog d m catalog sums) s
    (let few = a.fits in omega (arith, few, r.entries)) refl refl refl refl refl refl read
    (keeps (plan_here d o r catalog plan n.found.2))

pub remove_reflects : (d : Derived) (o : Office) (m : ℕ) (kind : Kind) (name : List ℕ)
    (catalog : List Object) (plan : SumsPlan) (sums : KeptObjectives) →
    IsNext d o m (works.Remove kind name catalog plan) →
    Reflects (with_catalog d m catalog sums)
    (with_entry o (entry_of m (works.Remove kind name catalog plan)))
remove_reflects d o m kind name catalog plan sums n =
    unsampled d (with_catalog d m catalog sums) o m (works.Remove kind name catalog plan)
    n.reflects n.later (record { no_tick = refl; no_taking = λ number. refl }) refl refl
    refl refl refl refl refl refl
    (n.found.0 ∙ catalog_more o.history (entry_of m (works.Remove kind name catalog plan))
    ∙ ap (λ ms. fold members_after ms (definitions_of (Remove kind name))) (sym n.reflects.catalog))
    (no_zones d) refl refl refl

-- each row is read as before without an object that has no rows
pub removal_read : (d : Derived) (kind : Kind) (name : List ℕ) → IsSound d →
    first_row_of d.book.rows kind name ≡ None →
    All (RowIsRead (without kind name d.catalog)) d.book.rows
removal_read d kind name s none =
    remove_read d.catalog d.book.rows kind name s.read
    (λ sli. sym (ap (λ (k : Kind). first_row_of d.book.rows k name) sli) ∙ none)

what_is_left : (old catalog : List Object) (kind : Kind) (name : List ℕ) →
    remaining_members old kind name ≡ Ok catalog → without kind name old ≡ catalog
what_is_left old catalog kind name e =
    by (member_of old kind name) (first_referrer old kind name) e
  where
    by : (found user : Option Object) →
        where_found found (unless_used user (without kind name old)) ≡ Ok catalog →
        without kind name old ≡ catalog
    by None user e = cc e
    by (Some o) (Some p) e = cc e
    by (Some o) None e = cc e

no_first_row : (first : Option Row) (otherwise : Judgement) →
    Accepted ≡ unless_sampled first otherwise → first ≡ None
no_first_row None otherwise e = refl
no_first_row (Some row) otherwise e = cc e

-- each row is read as before by the catalog of a removal that is accepted
pub left_read : (d : Derived) (kind : Kind) (name : List ℕ) (catalog : List Object)
    (j : Judgement) →
    IsSound d → remaining_members d.catalog kind name ≡ Ok catalog →
    j ≡ unless_sampled (first_row_of d.book.rows kind name) (accepted d.entries) → j ≡ Accepted →
    All (RowIsRead catalog) d.book.rows
left_read d kind name catalog j s left verdict is =
    subst (λ (members : List Object). All (RowIsRead members) d.book.rows)
    (what_is_left d.catalog catalog kind name left)
    (removal_read d kind name s
    (no_first_row (first_row_of d.book.rows kind name) (accepted d.entries) (sym is ∙ verdict)))

pub remove_sound : (d : Derived) (o : Office) (m : ℕ) (kind : Kind) (name : List ℕ)
    (catalog : List Object) (plan : SumsPlan) (sums : KeptObjectives) → IsSound d →
    IsNext d o m (works.Remove kind name catalog plan) →
    (IsPlanOver d catalog plan → KeepsSums catalog d.book.exclusions d.book.rows sums) →
    IsSound (with_catalog d m catalog sums)
remove_sound d o m kind name catalog plan sums s n keeps =
    let r = n.reflects in
    let a = accepted_removal (catalog_in o.history) (current_in o.history) (length o.history) kind
    name n.accepted in
    let is : catalog ≡ without kind name d.catalog =
    n.found.0 ∙ catalog_more o.history (entry_of m (works.Remove kind name catalog plan))
    ∙ ap (without kind name) (sym r.catalog) in
    let none : first_row_of d.book.rows kind name ≡ None =
    ap (λ (rows : List Row). first_row_of rows kind name) r.rows ∙ a.no_rows in
    let read : All (RowIsRead catalog) d.book.rows =
    subst (λ (members : List Object). All (RowIsRead members) d.book.rows) (sym is)
    (removal_read d kind name s none) in
    sound_with d (with_catalog d m catalog sums) s
    (let few = a.fits in omega (arith, few, r.entries)) refl refl refl refl refl refl read
    (keeps (plan_here d o r catalog plan n.found.1))

-- what is kept with one entry more, and with these zones
abbrev pub with_zones : Derived → ℕ → KeptZones → Derived
with_zones d m zones = record d { entries = d.entries + 1; present = m; zones = zones }

pub zone_reflects : (d : Derived) (o : Office) (m : ℕ) (name bytes : List ℕ) (zone : ZoneText)
    (zones : KeptZones) → IsNext d o m (works.PutZone name bytes zone) →
    zones.kept ≡ d.zones.kept ++ (name, bytes) ∷ [] →
    Reflects (with_zones d m zones) (with_entry o (entry_of m (works.PutZone name bytes zone)))
zone_reflects d o m name bytes zone zones n kept =
    unsampled d (with_zones d m zones) o m (works.PutZone name bytes zone) n.reflects n.later
    (record { no_tick = refl; no_taking = λ number. refl }) refl refl
    refl refl refl refl refl refl refl kept refl refl refl

pub zone_sound : (d : Derived) (o : Office) (m : ℕ) (name bytes : List ℕ)
    (zone : ZoneText) (zones : KeptZones) → IsSound d → IsNext d o m (works.PutZone name bytes zone)
    → IsSound (with_zones d m zones)
zone_sound d o m name bytes zone zones s n =
    let few = accepted_zone (zones_in o.history) (length o.history) name bytes n.accepted in
    sound_with d (with_zones d m zones) s (omega (arith, few, n.reflects.entries)) refl refl refl
    refl refl refl s.read s.sums
