-- What a tick finds and leaves.
use Rattle.std.proofs.Common.{◌≡◌, ℕ, ◌+◌, ◌<◌, ◌≤◌, nat_lt, Bool, true, false, not, cond, refl, ap}
use Rattle.std.proofs.Common.{sym, ◌∙◌, subst, arith, List, [], ◌∷◌, ◌++◌, map, max, length, Option}
use Rattle.std.proofs.Common.{None, Some, length-append}
use Rattle.std.proofs.lemmas.List.{append-nil, length-map, map-append}
use Rattle.slo_limits.specs.declared.TheConstants as most
use Rattle.burn_core.specs.declared.State.{State}
use Rattle.burn_core.specs.declared.State.TheVariants.{Quiet}
use Rattle.notice_box.specs.declared.Notice.{Notice}
use Rattle.catalog_terms.specs.declared.Binding.{Binding}
use Rattle.catalog_terms.specs.Bindings.{bindings}
use Rattle.sample_book.specs.Rows.{current_rows}
use Rattle.sample_book.specs.History as book
use Rattle.sample_book.specs.History.{Holds}
use Rattle.record_form.specs.declared.Command.TheVariants.{Tick}
use Rattle.record_form.specs.declared.Entry.{Entry}
use Rattle.record_form.specs.declared.Refusal.TheVariants as refusals
use Rattle.record_form.specs.declared.LimitName.TheVariants as limits
use Rattle.office_history.specs.declared.Judgement.{Judgement}
use Rattle.office_history.specs.declared.Judgement.TheVariants.{Accepted, Same, Refused}
use Rattle.office_history.specs.History.{Office, with_entry, present, rows_in, changes_in}
use Rattle.office_history.specs.History.{arrivals_in, accepted_rows}
use Rattle.office_history.specs.Catalog.{catalog_in}
use Rattle.office_history.specs.Zones.{zones_in}
use Rattle.office_history.specs.Alerts.{state_if, states_at, watch_of}
use Rattle.office_history.specs.Lists.{last_of}
use Rattle.office_history.specs.Notices.{changes, is_taken, last_states, notice_of, notices_in}
use Rattle.office_history.specs.Notices.{notices_from, samples_in, states_of_tick, states_over}
use Rattle.office_history.specs.Notices.{tick_changes, ticks_in, told_at, told_in, waiting}
use Rattle.office_history.specs.Batches.{when}
use Rattle.office_history.specs.Judges.{Judges}
use Rattle.office_history.specs.Verdicts.{accepted, tick_verdict, unless_refused}
use Rattle.office_derived.specs.declared.Derived.{Derived}
use Rattle.office_derived.specs.declared.Verdict.{Verdict}
use Rattle.office_derived.specs.declared.Verdict.TheVariants as judged
use Rattle.office_derived.specs.declared.Work.{Work}
use Rattle.office_derived.specs.declared.Work.TheVariants as works
use Rattle.office_derived.specs.Derived.{IsFound, IsJudged, IsSound, Reflects, command_of}
use Rattle.office_derived.proofs.Lists.{last-push, map_ext}
use Rattle.office_derived.proofs.More.{rows_more, changes_more, events_more, zones_more}
use Rattle.office_derived.proofs.More.{catalog_more, present_more, told_more, ticks_more}
use Rattle.office_derived.proofs.More.{upgraded_more}
use Rattle.office_derived.proofs.Sound.{sound_still}
use Rattle.office_derived.proofs.Still.{taken_still}
use Rattle.kept_lines.specs.Sums.{samples_of}
use Rattle.notice_changes.specs.States.{AreByBinding}
use Rattle.notice_changes.specs.Works.{TellsFew, new_notices}
use Rattle.notice_changes.proofs.BoxLemmas.{length_new, length_numbered, numbered_more}
use Rattle.notice_changes.proofs.BoxLemmas.{waiting_more, waiting_new}
use Rattle.notice_changes.proofs.StateLemmas.{are_given}

abbrev pub tick_at : ℕ → Entry
tick_at moment = record { moment = moment; command = Tick }

-- a tick leaves catalog, rows and exclusions
pub catalog_still : (o : Office) (moment : ℕ)
    → catalog_in (o.history ++ tick_at moment ∷ []) ≡ catalog_in o.history
catalog_still o moment = catalog_more o.history (tick_at moment)

rows_still : (o : Office) (moment : ℕ)
    → rows_in (o.history ++ tick_at moment ∷ []) ≡ rows_in o.history
rows_still o moment = rows_more o.history (tick_at moment) ∙ append-nil (rows_in o.history)

changes_still : (o : Office) (moment : ℕ)
    → changes_in (o.history ++ tick_at moment ∷ []) ≡ changes_in o.history
changes_still o moment = changes_more o.history (tick_at moment) ∙ append-nil (changes_in o.history)

pub states_still : (o : Office) (moment at : ℕ)
    → states_over (with_entry o (tick_at moment)) at ≡ states_over o at
states_still o moment at = λ i.
    states_at o.origin (catalog_still o moment i)
    (record {
      rows = current_rows (rows_still o moment i);
      exclusions = book.exclusions_of (changes_still o moment i);
    }) at

-- what a tick would tell is what it tells
pub told_by_tick : (o : Office) (moment : ℕ)
    → told_at o (tick_at moment) ≡ map (λ c. (moment, c)) (tick_changes (last_states o) o moment)
told_by_tick o moment = λ i. map (λ c. (moment, c))
    (changes (catalog_still o moment i) (last_states o) (states_still o moment moment i))

pub count_told : (o : Office) (moment : ℕ)
    → length (told_at o (tick_at moment)) ≡ length (tick_changes (last_states o) o moment)
count_told o moment = ap length (told_by_tick o moment)
    ∙ length-map (tick_changes (last_states o) o moment) (λ c. (moment, c))

-- what is kept gives the states and changes of the history
pub found_states : (d : Derived) (o : Office) (moment : ℕ) → Reflects d o
    → states_at d.origin d.catalog (samples_of d.book) moment ≡ states_over o moment
found_states d o moment r = λ i. states_at (r.origin i) (r.catalog i)
    (record { rows = r.rows i; exclusions = r.exclusions i }) moment

pub found_changes : (d : Derived) (o : Office) (moment : ℕ) (states : List (Binding × State)) →
    Reflects d o → states ≡ states_over o moment →
    changes d.catalog d.states.items states ≡ tick_changes (last_states o) o moment
found_changes d o moment states r e = λ i. changes (r.catalog i) (r.states i) (e i)

-- the states of the last tick, in which a binding has but one
by_tick : (tick : Option (Office × ℕ)) → AreByBinding (states_of_tick tick)
by_tick None = record { state_of = λ b. Quiet; each = tt }
by_tick (Some tick) =
    are_given (λ b. state_if tick.0.origin (samples_in tick.0.history) tick.1
    (watch_of (catalog_in tick.0.history) b)) (bindings (catalog_in tick.0.history))

pub by_binding : (d : Derived) (o : Office) → Reflects d o → AreByBinding d.states.items
by_binding d o r = subst AreByBinding (sym r.states) (by_tick (last_of (ticks_in o)))

-- what a judgement comes to, where it is accepted as this work
abbrev pub judged_as : Judgement → Work → Verdict Work
judged_as Accepted work = judged.Ready work
judged_as (Same outcome) work = judged.Same outcome
judged_as (Refused refusal) work = judged.Refused refusal

-- a judgement of a tick, where the states and changes are the history's
pub judged_tick : (d : Derived) (o : Office) (moment told : ℕ) (work : Work) → Reflects d o →
    IsFound o moment work → command_of work ≡ Tick →
    told ≡ length (tick_changes (last_states o) o moment) → (j : Judgement) →
    j ≡ tick_verdict d.notices.made d.entries told → IsJudged o moment Tick (judged_as j work)
judged_tick d o moment told work r found command count j e = by j (e ∙ same)
  where
    same : tick_verdict d.notices.made d.entries told ≡ tick_verdict (notices_in o)
        (length o.history) (length (told_at o (tick_at moment)))
    same = λ i. tick_verdict (r.notices i) (r.entries i) ((count ∙ sym (count_told o moment)) i)

    by : (j : Judgement) → j ≡ tick_verdict (notices_in o) (length o.history)
        (length (told_at o (tick_at moment))) → IsJudged o moment Tick (judged_as j work)
    by Accepted e = (e, command, found)
    by (Same outcome) e = e
    by (Refused refusal) e = e

pub entries_below : (n : ℕ) → accepted n ≡ Accepted → n < most.MAX_ENTRIES
entries_below n h = by (nat_lt n most.MAX_ENTRIES) refl h
  where
    by : (b : Bool) → nat_lt n most.MAX_ENTRIES ≡ b
        → cond b Accepted (Refused (refusals.Limit limits.Entries)) ≡ Accepted
        → n < most.MAX_ENTRIES
    by true e h = grind (arith, e)
    by false e h = cc h

-- A tick is accepted within the limits.
pub tick_few : (made : List (Notice × Bool)) (n told : ℕ) → tick_verdict made n told ≡ Accepted
    → (waiting made + told ≤ most.MAX_NOTICES) × (n < most.MAX_ENTRIES)
tick_few made n told h = by (nat_lt most.MAX_NOTICES (waiting made + told)) refl h
  where
    by : (b : Bool) → nat_lt most.MAX_NOTICES (waiting made + told) ≡ b →
        unless_refused (when b (refusals.Limit limits.Notices)) (accepted n) ≡ Accepted →
        (waiting made + told ≤ most.MAX_NOTICES) × (n < most.MAX_ENTRIES)
    by true e h = cc h
    by false e h = (grind (arith, e), entries_below n h)

-- the limits of a tick that is the next, over what is kept
pub next_few : (d : Derived) (o : Office) (moment : ℕ) (told : List (Binding × State)) →
    Reflects d o → Judges o moment Tick Accepted → told ≡ tick_changes (last_states o) o moment →
    (waiting d.notices.made + length told ≤ most.MAX_NOTICES) × (d.entries < most.MAX_ENTRIES)
next_few d o moment told r judged found =
    let few = tick_few (notices_in o) (length o.history) (length (told_at o (tick_at moment)))
    (sym judged) in
    let count : length told ≡ length (told_at o (tick_at moment)) = ap length found
    ∙ sym (count_told o moment) in
    let wait : waiting d.notices.made ≡ waiting (notices_in o) = ap waiting r.notices in
    (omega (arith, wait, count, few.0), omega (arith, r.entries, few.1))

-- and of any work that is accepted
pub few_told : (o : Office) (moment : ℕ) (work : Work)
    → Judges o moment (command_of work) Accepted → IsFound o moment work → TellsFew work
few_told o moment (works.Tick states told) judged found =
    let few = tick_few (notices_in o) (length o.history) (length (told_at o (tick_at moment)))
    (sym judged) in
    let count : length told.items ≡ length (told_at o (tick_at moment)) =
    ap length found.1 ∙ sym (count_told o moment) in
    omega (arith, count, few.0)
few_told o moment (works.Define text catalog applied plan) judged found = tt
few_told o moment (works.Remove kind name catalog plan) judged found = tt
few_told o moment (works.PutZone name bytes zone) judged found = tt
few_told o moment (works.Samples rows tally becomes) judged found = tt
few_told o moment (works.Exclude value) judged found = tt
few_told o moment (works.Lift id) judged found = tt
few_told o moment (works.Take number) judged found = tt
few_told o moment works.Upgrade judged found = tt

fresh : (h : List Entry) (moment number : ℕ) (told : List (Binding × State)) →
    ((k : ℕ) → number ≤ k → is_taken h k ≡ false) →
    map (λ (n : Notice). (n, not (is_taken h n.number)))
    (notices_from number (map (λ c. (moment, c)) told)) ≡ new_notices moment number told
fresh h moment number [] none = refl
fresh h moment number (c ∷ told) none =
    (λ i. (notice_of number (moment, c), not (none number (omega arith) i))
    ∷ fresh h moment (number + 1) told (λ k l. none k (omega (arith, l))) i)

-- the notices behind a tick
pub notices_told : (o : Office) (moment : ℕ) (told : List (Binding × State)) →
    told ≡ tick_changes (last_states o) o moment →
    ((number : ℕ) → length (told_in o) < number → is_taken o.history number ≡ false) →
    notices_in o ++ new_notices moment (length (notices_in o) + 1) told
    ≡ notices_in (with_entry o (tick_at moment))
notices_told o moment told e none =
    let h' = o.history ++ tick_at moment ∷ [] in
    let flag : Notice → Notice × Bool = λ n. (n, not (is_taken h' n.number)) in
    let many : length (notices_in o) ≡ length (told_in o) =
    length-map (notices_from 1 (told_in o)) (λ (n : Notice). (n, not (is_taken o.history n.number)))
    ∙ length_numbered 1 (told_in o) in
    let old : notices_in o ≡ map flag (notices_from 1 (told_in o)) =
    map_ext (λ (n : Notice). (n, not (is_taken o.history n.number))) flag (λ n. ap (λ b. (n, not b))
    (sym (taken_still o.history (tick_at moment) n.number refl))) (notices_from 1 (told_in o)) in
    let new : new_notices moment (length (notices_in o) + 1) told
    ≡ map flag (notices_from (1 + length (told_in o)) (map (λ c. (moment, c)) told)) =
    ap (λ k. new_notices moment k told) (omega (arith, many))
    ∙ sym (fresh h' moment (1 + length (told_in o)) told
    (λ k l. taken_still o.history (tick_at moment) k refl ∙ none k (omega (arith, l)))) in
    let all : told_in (with_entry o (tick_at moment)) ≡ told_in o ++ map (λ c. (moment, c)) told =
    told_more o (tick_at moment) ∙ ap (λ ts. told_in o ++ ts) (told_by_tick o moment
    ∙ ap (map (λ c. (moment, c))) (sym e)) in
    (λ i. old i ++ new i)
    ∙ sym (map-append flag (notices_from 1 (told_in o))
    (notices_from (1 + length (told_in o)) (map (λ c. (moment, c)) told)))
    ∙ ap (map flag) (sym (numbered_more 1 (told_in o) (map (λ c. (moment, c)) told)))
    ∙ ap (λ ts. map flag (notices_from 1 ts)) (sym all)

-- the last tick is this one
pub last_tick : (o : Office) (moment : ℕ)
    → last_states (with_entry o (tick_at moment)) ≡ states_over o moment
last_tick o moment =
    ap (λ ts. states_of_tick (last_of ts)) (ticks_more o (tick_at moment))
    ∙ ap states_of_tick (last-push (ticks_in o) (with_entry o (tick_at moment), moment))
    ∙ states_still o moment moment

-- What is kept after a tick is what the longer history says.
pub reflects_tick : (d d' : Derived) (o : Office) (moment : ℕ)
    (states told : List (Binding × State)) → Reflects d o → present o ≤ moment →
    states ≡ states_over o moment → told ≡ tick_changes (last_states o) o moment →
    d'.origin ≡ d.origin → d'.entries ≡ d.entries + 1 → d'.present ≡ moment →
    d'.catalog ≡ d.catalog → d'.zones.kept ≡ d.zones.kept →
    d'.book.rows ≡ d.book.rows → d'.book.exclusions ≡ d.book.exclusions → d'.accepted ≡ d.accepted →
    d'.upgraded ≡ d.upgraded →
    d'.notices.made ≡ d.notices.made ++ new_notices moment (length d.notices.made + 1) told →
    d'.states.items ≡ states →
    Reflects d' (with_entry o (tick_at moment))
reflects_tick d d' o moment states told r later are_states are_told origin entries now catalog zones
    rows exclusions accepted upgraded notices kept =
    let e = tick_at moment in
    record {
      origin = origin ∙ r.origin;
      entries = entries ∙ ap (λ n. n + 1) r.entries ∙ sym (length-append o.history (e ∷ []));
      present = now ∙ sym (present_more o e ∙ greater (present o) moment later);
      catalog = catalog ∙ r.catalog ∙ sym (catalog_still o moment);
      zones = zones ∙ r.zones ∙ sym (zones_more o.history e ∙ append-nil (zones_in o.history));
      rows = rows ∙ r.rows ∙ ap current_rows (sym (rows_still o moment));
      exclusions = exclusions ∙ r.exclusions ∙ ap book.exclusions_of (sym (changes_still o moment));
      held = subst (λ es. Holds es d'.book.rows d'.book.exclusions)
          (sym (events_more o.history e ∙ append-nil (arrivals_in o.history)))
          (subst (λ rs. Holds (arrivals_in o.history) rs d'.book.exclusions) (sym rows)
          (subst (λ xs. Holds (arrivals_in o.history) d.book.rows xs) (sym exclusions) r.held));
      accepted = accepted ∙ r.accepted ∙ ap accepted_rows (sym (rows_still o moment));
      upgraded = upgraded ∙ r.upgraded ∙ sym (upgraded_more o.history e);
      notices = notices ∙ (λ i. r.notices i ++ new_notices moment (length (r.notices i) + 1) told)
          ∙ notices_told o moment told are_told r.numbers;
      states = kept ∙ are_states ∙ sym (last_tick o moment);
      numbers = λ number above. taken_still o.history e number refl
          ∙ r.numbers number (before number above);
    }
  where
    greater : (a b : ℕ) → a ≤ b → max a b ≡ b
    greater a b h = omega (arith, h)

    before : (number : ℕ) → length (told_in (with_entry o (tick_at moment))) < number
        → length (told_in o) < number
    before number above =
        let more : length (told_in (with_entry o (tick_at moment)))
        ≡ length (told_in o) + length (told_at o (tick_at moment)) =
        ap length (told_more o (tick_at moment))
        ∙ length-append (told_in o) (told_at o (tick_at moment)) in
        omega (arith, above, more)

-- What a tick leaves is sound.
pub sound_tick : (d d' : Derived) (moment : ℕ) (told : List (Binding × State)) → IsSound d →
    d'.origin ≡ d.origin → d'.entries ≡ d.entries + 1 → d'.catalog ≡ d.catalog →
    d'.book.rows ≡ d.book.rows → d'.book.exclusions ≡ d.book.exclusions →
    d'.sums ≡ d.sums → d'.accepted ≡ d.accepted → d'.upgraded ≡ d.upgraded →
    d'.notices.made ≡ d.notices.made ++ new_notices moment (length d.notices.made + 1) told →
    waiting d.notices.made + length told ≤ most.MAX_NOTICES → d.entries < most.MAX_ENTRIES →
    IsSound d'
sound_tick d d' moment told s origin entries catalog rows exclusions kept accepted upgraded
    notices few below =
    let new = new_notices moment (length d.notices.made + 1) told in
    let many : length d'.notices.made ≡ length d.notices.made + length told =
    ap length notices ∙ length-append d.notices.made new ∙ ap (λ n. length d.notices.made + n)
    (length_new moment (length d.notices.made + 1) told) in
    let wait : waiting d'.notices.made ≡ waiting d.notices.made + length told =
    ap waiting notices ∙ waiting_more d.notices.made new ∙ ap (λ n. waiting d.notices.made + n)
    (waiting_new moment (length d.notices.made + 1) told) in
    sound_still d d' s origin catalog exclusions rows kept accepted upgraded
    (omega (arith, entries, below))
    (omega (arith, wait, few))
    (omega (arith, many, wait, entries, s.made))
