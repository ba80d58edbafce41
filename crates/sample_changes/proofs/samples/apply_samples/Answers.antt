use Rattle.std.proofs.Common.{◌+◌, ◌≤◌, ◌++◌, [], refl, sym, subst, arith, length, List, map}
use Rattle.slo_limits.specs.declared.TheConstants.{MAX_SUMMED_ROWS}
use Rattle.std.proofs.lemmas.List.{append-nil}
use Rattle.sample_book.specs.declared.Row.{Row}
use Rattle.sample_book.specs.History.{Came, Holds, MayComeAll}
use Rattle.sample_book.specs.Rows.{current_rows}
use Rattle.kept_sums.specs.Objectives.{AreKept, HaveForms}
use Rattle.office_history.specs.History.{arrivals_in, with_entry}
use Rattle.office_derived.specs.declared.Derived.{Derived}
use Rattle.office_derived.specs.declared.Work.TheVariants as works
use Rattle.office_derived.specs.Derived.{Reflects, entry_of}
use Rattle.office_derived.proofs.FormLemmas.{sound_forms, sound_pooled_forms}
use Rattle.office_derived.proofs.Still.{reflects_still}
use Rattle.sample_changes.proofs.Following.{batch_fits, batch_fits_pooled, batch_followed}
use Rattle.sample_changes.proofs.Kept.{may_come, samples_few, samples_sound, samples_summed}
use Rattle.sample_changes.proofs.Kept.{samples_taken}
use Rattle.sample_changes.proofs.samples.apply_samples.Goals as goal

pub follow_rows-requires-clause-forms : goal.follow_rows-requires-clause-forms
follow_rows-requires-clause-forms c = sound_forms c.args.derived.now c.requires.sound

pub follow_rows-requires-clause-pooled_forms : goal.follow_rows-requires-clause-pooled_forms
follow_rows-requires-clause-pooled_forms c =
    sound_pooled_forms c.args.derived.now c.requires.sound

pub follow_rows-requires-clause-pooled_fit : goal.follow_rows-requires-clause-pooled_fit
follow_rows-requires-clause-pooled_fit c =
    let d = c.args.derived.now in
    subst (λ (rows : List Row). HaveForms rows d.sums.pooled) (sym c.as_slice-batch.ensures)
    (batch_fits_pooled d c.requires.next.0 c.args.moment c.args.rows c.args.tally c.args.verdicts
    c.requires.sound c.requires.next.1)

pub follow_rows-requires-clause-fit : goal.follow_rows-requires-clause-fit
follow_rows-requires-clause-fit c =
    let d = c.args.derived.now in
    subst (λ (rows : List Row). HaveForms rows d.sums.own) (sym c.as_slice-batch.ensures)
    (batch_fits d c.requires.next.0 c.args.moment c.args.rows c.args.tally c.args.verdicts
    c.requires.sound c.requires.next.1)

pub follow_rows-requires-clause-few : goal.follow_rows-requires-clause-few
follow_rows-requires-clause-few c =
    let d = c.args.derived.now in
    subst (λ (rows : List Row). length (current_rows (d.book.rows ++ rows)) ≤ MAX_SUMMED_ROWS)
    (sym c.as_slice-batch.ensures)
    (samples_summed d c.requires.next.0 c.args.moment c.args.rows c.args.tally c.args.verdicts
    c.requires.next.1)

pub put_rows-requires : goal.put_rows-requires
put_rows-requires c =
    let d = c.args.derived.now in
    subst (λ (rows : List Row). MayComeAll d.book.rows d.book.room rows)
    (sym c.as_slice-batch.ensures)
    (may_come d c.requires.next.0 c.args.rows c.requires.next.1.reflects c.requires.room.0)

pub overflow_add-derived : goal.overflow_add-derived
overflow_add-derived c =
    let few = samples_few c.args.derived.now c.requires.next.0 c.args.moment c.args.rows
    c.args.tally c.args.verdicts c.requires.next.1 in
    omega (arith, few.taken)

pub overflow_add-derived-2 : goal.overflow_add-derived-2
overflow_add-derived-2 c =
    let few = samples_few c.args.derived.now c.requires.next.0 c.args.moment c.args.rows
    c.args.tally c.args.verdicts c.requires.next.1 in
    omega (arith, few.taken)

pub returns-clause-reflects : goal.returns-clause-reflects
returns-clause-reflects c o next =
    let d = c.args.derived.now in
    let tally = c.args.tally in
    let d' : Derived = record d {
      book = c.put_rows.new.book;
      sums = c.follow_rows.new.self;
      accepted = d.accepted + (tally.new + tally.newer);
      entries = d.entries + 1;
      present = c.args.moment;
    } in
    reflects_still d d' o c.args.moment (works.Samples c.args.rows tally c.args.verdicts)
    next.reflects next.later (record { no_tick = refl; no_taking = λ number. refl }) refl refl
    refl refl refl refl refl
    (sym (append-nil d.zones.kept))
    (subst (λ (rows : List Row). Holds (arrivals_in o.history ++ map Came rows)
    c.put_rows.new.book.rows c.put_rows.new.book.exclusions) c.as_slice-batch.ensures
    (c.put_rows.ensures.history (arrivals_in o.history) next.reflects.held))
    (samples_taken d o c.args.moment c.args.rows tally c.args.verdicts next)

pub returns-clause-sound : goal.returns-clause-sound
returns-clause-sound c =
    let d = c.args.derived.now in
    let o = c.requires.next.0 in
    let next = c.requires.next.1 in
    let rows = c.args.rows in
    let tally = c.args.tally in
    let becomes = c.args.verdicts in
    let d' : Derived = record d {
      book = c.put_rows.new.book;
      sums = c.follow_rows.new.self;
      accepted = d.accepted + (tally.new + tally.newer);
      entries = d.entries + 1;
      present = c.args.moment;
    } in
    let r : Reflects d' (with_entry o (entry_of c.args.moment (works.Samples rows tally becomes))) =
    reflects_still d d' o c.args.moment (works.Samples rows tally becomes) next.reflects next.later
    (record { no_tick = refl; no_taking = λ number. refl }) refl refl refl refl refl refl refl
    (sym (append-nil d.zones.kept))
    (subst (λ (rows : List Row). Holds (arrivals_in o.history ++ map Came rows)
    c.put_rows.new.book.rows c.put_rows.new.book.exclusions) c.as_slice-batch.ensures
    (c.put_rows.ensures.history (arrivals_in o.history) next.reflects.held))
    (samples_taken d o c.args.moment rows tally becomes next) in
    samples_sound d d' o c.args.moment rows tally becomes c.requires.sound next r refl refl refl
    refl refl
    (batch_followed d d' o c.args.moment rows tally becomes c.requires.sound next r refl
    c.put_rows.ensures.exclusions c.follow_rows.ensures.measures
    c.follow_rows.ensures.pooled_measures
    (subst (λ (rows : List Row). AreKept d.book.exclusions (current_rows (d.book.rows ++ rows))
    d'.sums.own) c.as_slice-batch.ensures c.follow_rows.ensures.kept)
    (subst (λ (rows : List Row). AreKept [] (current_rows (d.book.rows ++ rows))
    d'.sums.pooled) c.as_slice-batch.ensures c.follow_rows.ensures.pooled))
