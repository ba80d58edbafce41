-- What is kept says how full the office of a legal history is.
use Rattle.std.proofs.Common.{◌≡◌, ◌∙◌, ◌≤◌, ℕ, suc, List, [], ◌∷◌, ◌++◌, length, max, option_map}
use Rattle.std.proofs.Common.{refl, sym, ap, arith, length-append, Some}
use Rattle.std.proofs.lemmas.Bool.Decides.{nat_tests}
use Rattle.catalog_terms.specs.Bindings.{bindings}
use Rattle.catalog_terms.specs.Limits.{count_of_kind}
use Rattle.object_terms.specs.declared.Kind.TheVariants as kinds
use Rattle.slo_limits.specs.declared.TheConstants as most
use Rattle.record_form.specs.declared.Entry.{Entry}
use Rattle.office_history.specs.Batches.{objective_days}
use Rattle.office_history.specs.History.{Office, present, tail_of}
use Rattle.office_history.specs.Legal.{IsLegal, empty, followed, office}
use Rattle.office_history.specs.Notices.{waiting}
use Rattle.office_history.specs.Status.{last_moment, status_at, used_of}
use Rattle.office_history.specs.Versions.{most_cells, most_rows, version_of}
use Rattle.office_derived.specs.declared.Derived.{Derived}
use Rattle.office_derived.specs.Derived.{Reflects}
use Rattle.office_derived.proofs.Lists.{last-push}
use Rattle.office_derived.proofs.More.{present_more}
use Rattle.history_answers.specs.Fullness.{fullness, last_if}

greater : (a b : ℕ) → a ≤ b → max a b ≡ b
greater a b h = omega (arith, h)

at_least_one : (n moment : ℕ) → last_if (suc n) moment ≡ Some moment
at_least_one n moment = grind (arith, nat_tests)

-- the last entry of a legal history has the greatest moment
last_is : (origin : ℕ) (h : List Entry) → IsLegal origin h
    → last_if (length h) (present (office origin h)) ≡ last_moment h
last_is origin _ empty = refl
last_is origin _ (followed {h = before} e legal follows) =
    let long : length (before ++ e ∷ []) ≡ suc (length before) =
    omega (arith, length-append before (e ∷ [])) in
    let now : present (office origin (before ++ e ∷ [])) ≡ e.moment =
    present_more (office origin before) e
    ∙ greater (present (office origin before)) e.moment follows.later in
    (λ i. last_if (long i) (now i)) ∙ at_least_one (length before) e.moment
    ∙ sym (ap (option_map (λ (e : Entry). e.moment)) (last-push before e))

pub fullness_is : (d : Derived) (o : Office) (moment tail : ℕ) → Reflects d o
    → IsLegal o.origin o.history → tail ≡ tail_of o.history
    → fullness d moment tail ≡ status_at o moment
fullness_is d o moment tail r legal is =
    let last : last_if d.entries d.present ≡ last_moment o.history =
    (λ i. last_if (r.entries i) (r.present i)) ∙ last_is o.origin o.history legal in
    λ i. record {
      accepted = used_of (r.accepted i) (most_rows (r.upgraded i));
      at = moment;
      bindings = used_of (length (bindings (r.catalog i))) most.MAX_BINDINGS;
      bytes = used_of (is i) most.MAX_JOURNAL_BYTES;
      cells = used_of (length (r.rows i)) (most_cells (r.upgraded i));
      days = used_of (objective_days (r.catalog i) (r.rows i)) most.MAX_DAYS;
      entries = r.entries i;
      exclusions = used_of (length (r.exclusions i)) most.MAX_EXCLUSIONS;
      last = last i;
      notices = used_of (waiting (r.notices i)) most.MAX_NOTICES;
      objects = used_of (length (r.catalog i)) most.MAX_OBJECTS;
      origin = r.origin i;
      slis = used_of (count_of_kind kinds.Sli (r.catalog i)) most.MAX_SLIS;
      slos = used_of (count_of_kind kinds.Slo (r.catalog i)) most.MAX_SLOS;
      version = version_of (r.upgraded i);
      zones = used_of (length (r.zones i)) most.MAX_ZONES;
    }
