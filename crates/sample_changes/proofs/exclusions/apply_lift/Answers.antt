use Rattle.std.proofs.Common.{◌++◌, ◌∷◌, [], false, refl, sym, subst, true, List}
use Rattle.std.proofs.lemmas.List.Elements.{recursion_from_All}
use Rattle.sample_book.specs.declared.Row.{Row}
use Rattle.kept_sums.specs.Objectives.{HaveForms}
use Rattle.office_history.specs.History.{arrivals_in}
use Rattle.office_derived.specs.declared.Work.TheVariants as works
use Rattle.office_derived.specs.Derived.{RowIsRead}
use Rattle.office_derived.proofs.FormLemmas.{all_forms}
use Rattle.sample_changes.proofs.ExclusionLemmas.{change_reflected, change_sound}
use Rattle.sample_changes.proofs.Following.{kept_alike, kept_over, lifted_still, made_anew}
use Rattle.sample_changes.proofs.Kept.{lift_entries}
use Rattle.sample_changes.proofs.exclusions.apply_lift.Goals as goal

pub follow_exclusion-requires-clause-kept : goal.follow_exclusion-requires-clause-kept
follow_exclusion-requires-clause-kept c =
    let d = c.args.derived.now in
    let value = c.live_exclusion-value.result in
    let anew = c.lift.new.self.exclusions ++ (value, true) ∷ [] in
    c.pool_again.ensures.own anew c.lift.new.self.rows
    (kept_over anew anew d.book.rows c.lift.new.self.rows d.sums.own refl c.lift.ensures.rows
    (kept_alike d.book.exclusions anew d.book.rows d.sums.own
    (made_anew d.book.exclusions c.lift.new.self.exclusions value
    (λ slo minute. c.lift.ensures.minutes value slo minute c.live_exclusion-value.ensures))
    c.requires.sound.sums.own))

pub follow_exclusion-requires-clause-forms : goal.follow_exclusion-requires-clause-forms
follow_exclusion-requires-clause-forms c =
    let d = c.args.derived.now in
    let left = c.pool_again.new.self.own in
    subst (λ (rows : List Row). HaveForms rows left) (sym c.lift.ensures.rows)
    (all_forms d.catalog false left d.book.rows
    (c.pool_again.ensures.own_only d.catalog c.requires.sound.sums.own_only)
    (recursion_from_All (RowIsRead d.catalog) d.book.rows c.requires.sound.read))

pub returns-clause-reflects : goal.returns-clause-reflects
returns-clause-reflects c o next =
    change_reflected c.args.derived.now c.lift.new.self c.follow_exclusion.new.self o c.args.moment
    (works.Lift c.args.id) next
    (record {
      still = record { no_tick = refl; no_taking = λ number. refl };
      no_object = refl;
      no_zone = refl;
      no_row = refl;
      no_upgrade = refl;
    })
    (c.lift.ensures.history (arrivals_in o.history) next.reflects.held)

pub returns-clause-sound : goal.returns-clause-sound
returns-clause-sound c =
    let d = c.args.derived.now in
    change_sound d c.lift.new.self c.pool_again.new.self c.follow_exclusion.new.self c.args.moment
    c.requires.sound
    (lift_entries d c.requires.next.0 c.args.moment c.args.id c.requires.next.1)
    c.lift.ensures.rows
    (c.pool_again.ensures.own_only d.catalog c.requires.sound.sums.own_only)
    c.pool_again.ensures.pooled c.follow_exclusion.ensures.measures
    c.follow_exclusion.ensures.pooled c.follow_exclusion.ensures.kept
    (λ m is has. c.pool_again.ensures.all m
    (lifted_still d.catalog d.book.exclusions c.lift.new.self.exclusions
    c.live_exclusion-value.result d.sums.own d.sums.pooled
    (λ slo minute. c.lift.ensures.minutes c.live_exclusion-value.result slo minute
    c.live_exclusion-value.ensures) m is has))

pub returns-clause-minutes : goal.returns-clause-minutes
returns-clause-minutes c value slo minute is = c.lift.ensures.minutes value slo minute is
