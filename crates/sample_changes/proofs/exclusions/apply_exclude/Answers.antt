use Rattle.std.proofs.Common.{Bool, List, refl, subst, sym, true}
use Rattle.sample_book.specs.declared.Exclusion.{Exclusion}
use Rattle.kept_sums.specs.Objectives.{HasSums}
use Rattle.kept_sums.specs.Walks.{made_on}
use Rattle.office_history.specs.History.{arrivals_in}
use Rattle.office_derived.specs.declared.Work.TheVariants as works
use Rattle.office_derived.proofs.FormLemmas.{sound_forms}
use Rattle.sample_changes.proofs.ExclusionLemmas.{change_reflected, change_sound}
use Rattle.sample_changes.proofs.Following.{excluded_still, kept_over}
use Rattle.sample_changes.proofs.Kept.{exclude_entries}
use Rattle.sample_changes.proofs.exclusions.apply_exclude.Goals as goal

pub follow_exclusion-requires-clause-forms : goal.follow_exclusion-requires-clause-forms
follow_exclusion-requires-clause-forms c = sound_forms c.args.derived.now c.requires.sound

pub returns-clause-reflects : goal.returns-clause-reflects
returns-clause-reflects c o next =
    change_reflected c.args.derived.now c.exclude.new.self c.follow_exclusion.new.self o
    c.args.moment (works.Exclude c.args.value) next
    (record {
      still = record { no_tick = refl; no_taking = λ number. refl };
      no_object = refl;
      no_zone = refl;
      no_row = refl;
      no_upgrade = refl;
    })
    (c.exclude.ensures.history (arrivals_in o.history) next.reflects.held)

pub returns-clause-sound : goal.returns-clause-sound
returns-clause-sound c =
    let d = c.args.derived.now in
    let book = c.exclude.new.self in
    change_sound d book d.sums c.follow_exclusion.new.self c.args.moment c.requires.sound
    (exclude_entries d c.requires.next.0 c.args.moment c.args.value c.requires.next.1)
    c.exclude.ensures.rows c.requires.sound.sums.own_only refl
    c.follow_exclusion.ensures.measures c.follow_exclusion.ensures.pooled
    (kept_over (made_on d.book.exclusions c.args.value true) book.exclusions d.book.rows book.rows
    c.follow_exclusion.new.self.own c.exclude.ensures.exclusions c.exclude.ensures.rows
    c.follow_exclusion.ensures.kept)
    (λ m is has. subst (λ (es : List (Exclusion × Bool)).
    HasSums es d.sums.own d.sums.pooled m) (sym c.exclude.ensures.exclusions)
    (excluded_still d.catalog d.book.exclusions c.args.value d.sums.own d.sums.pooled
    c.requires.room.1 m is has))
