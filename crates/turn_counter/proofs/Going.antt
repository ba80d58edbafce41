-- How a request lets an office go on, as an office and as a ledger.
use Rattle.std.proofs.Common.{◌≡◌, ◌+◌, ℕ, List, [], ◌∷◌, ◌++◌, length, Option, Some, None}
use Rattle.std.proofs.Common.{refl, sym, ap, subst, ◌∙◌, append-nil, length-append}
use Rattle.std.proofs.Common.{map, inl, inr}
use Rattle.std.specs.Prelude.{if◌then◌else◌, is_some}
use Rattle.std.proofs.lemmas.List.{length-map, map-append}
use Rattle.turn_desk.specs.Ledgers.{GoesOn, MaySettle}
use Rattle.record_form.specs.declared.Command.{Command}
use Rattle.record_form.specs.declared.Entry.{Entry}
use Rattle.record_form.specs.declared.Outcome.{Outcome}
use Rattle.record_form.specs.declared.Request.{Request}
use Rattle.record_form.specs.declared.Request.TheVariants.{Change, Ask}
use Rattle.record_form.specs.Records.{record_of}
use Rattle.office_history.specs.History.{Office}
use Rattle.office_counter.specs.Steps.{place_of, with_made, with_others}
use Rattle.office_keep.specs.Office as keep
use Rattle.office_keep.specs.Office.{Asks, Changes, IsSettled, OfficeOn, Performs}
use Rattle.turn_counter.specs.Seen.{ledger_of, record_if, root_of}
use Rattle.office_outside.specs.Senses.{DiskSenses}

-- The history goes on by the entry in doubt, if at all, and by the one that was added.
pub record Went {D : Type 0} (old new : OfficeOn D) (place : Option ℕ) : Type 0 where
  pub settled : List Entry
  pub own : List Entry
  pub may : MaySettle old.doubt settled
  pub one : length own ≡ (if is_some place then 1 else 0)
  pub origin : new.office.origin ≡ old.office.origin
  pub history : new.office.history ≡ (old.office.history ++ settled) ++ own
  pub last : (p : ℕ) → place ≡ Some p → length new.office.history ≡ p + 1

abbrev Settling : Office → Option Entry → Office → Type 0
Settling o doubt settled =
    (entries : List Entry) × MaySettle doubt entries × (settled ≡ with_others o entries)

none_settled : (o : Office) (doubt : Option Entry) (settled : Office) → settled ≡ o
    → Settling o doubt settled
none_settled o doubt settled is = (
  [],
  tt,
  is ∙ ap (λ (h : List Entry). record { origin = o.origin; history = h })
      (sym (append-nil o.history)),
)

settling : (o : Office) (doubt : Option Entry) (settled : Office) → IsSettled o doubt settled
    → Settling o doubt settled
settling o None settled is = none_settled o None settled is
settling o (Some e) settled (inl is) = none_settled o (Some e) settled is
settling o (Some e) settled (inr is) = (e ∷ [], refl, is)

module _ {D : Type 0} (old new : OfficeOn D) (place : Option ℕ) where
  went_without : place ≡ None → Settling old.office old.doubt new.office → Went old new place
  went_without none s = record {
    settled = s.0;
    own = [];
    may = s.1;
    one = sym (ap (λ (p : Option ℕ). if is_some p then 1 else 0) none);
    origin = ap (λ (o : Office). o.origin) s.2;
    history = ap (λ (o : Office). o.history) s.2 ∙ sym (append-nil (old.office.history ++ s.0));
    last = λ p is. absurd cc;
  }

  went_with : (settled : Office) (e : Entry) → place ≡ Some (length settled.history)
      → Settling old.office old.doubt settled
      → new.office ≡ with_made settled (Some e) → Went old new place
  went_with settled e at s grows =
      let history : new.office.history ≡ settled.history ++ e ∷ [] =
      ap (λ (o : Office). o.history) grows in
      record {
        settled = s.0;
        own = e ∷ [];
        may = s.1;
        one = sym (ap (λ (p : Option ℕ). if is_some p then 1 else 0) at);
        origin = ap (λ (o : Office). o.origin) grows ∙ ap (λ (o : Office). o.origin) s.2;
        history = history
            ∙ ap (λ (o : Office). o.history ++ e ∷ []) s.2;
        last = λ p is.
            let there : length settled.history ≡ p = cc in
            ap length history ∙ length-append settled.history (e ∷ [])
            ∙ ap (λ (n : ℕ). n + 1) there;
      }

  went_made : (settled : Office) (made : Option Entry) → place ≡ place_of settled made
      → IsSettled old.office old.doubt settled
      → new.office ≡ with_made settled made → Went old new place
  went_made settled None at is grows =
      went_without at (settling old.office old.doubt new.office
      (subst (λ (o : Office). IsSettled old.office old.doubt o) (sym grows) is))
  went_made settled (Some e) at is grows =
      went_with settled e at (settling old.office old.doubt settled is) grows

  went_on_change : (reading : ℕ) (command : Command) (outcome : Outcome)
      → Changes old reading command outcome place new → Went old new place
  went_on_change reading command outcome (keep.past at_end told same none) =
      went_without none (none_settled old.office old.doubt new.office
      (ap (λ (o : OfficeOn D). o.office) same))
  went_on_change reading command outcome (keep.refused_memory told timely unmoved none) =
      went_without none (settling old.office old.doubt new.office unmoved.settled)
  went_on_change reading command outcome (keep.not_settled told timely before none) =
      went_without none (none_settled old.office old.doubt new.office before.office)
  went_on_change reading command outcome (keep.not_kept told timely unmoved none) =
      went_without none (settling old.office old.doubt new.office unmoved.settled)
  went_on_change reading command outcome (keep.in_doubt told timely doubt none) =
      went_without none (settling old.office old.doubt new.office doubt.settled)
  went_on_change reading command outcome (keep.done settled made is timely came now none at) =
      went_made settled made at is now

  pub went_on : (reading : ℕ) (request : Request) (outcome : Outcome)
      → Performs old reading request outcome place new → Went old new place
  went_on reading (Ask query) outcome asks =
      went_without asks.no_place (none_settled old.office old.doubt new.office
      (ap (λ (o : OfficeOn D). o.office) asks.stays))
  went_on reading (Change command) outcome changes =
      went_on_change reading command outcome changes

-- the entries that were settled, as records
settles : (doubt : Option Entry) (settled : List Entry) → MaySettle doubt settled
    → MaySettle (record_if doubt) (map record_of settled)
settles doubt [] may = tt
settles doubt (e ∷ []) may = ap record_if may
settles doubt (e ∷ f ∷ more) may = absurd may

-- what a request does to an office is what a turn may do
pub goes_on : {D : Type 0} (S : DiskSenses D) (old new : OfficeOn D) (reading : ℕ)
    (request : Request) (outcome : Outcome) (place : Option ℕ)
    → Performs old reading request outcome place new
    → GoesOn (ledger_of S old) (ledger_of S new) (is_some place)
goes_on S old new reading request outcome place performs =
    let w = went_on old new place reading request outcome performs in
    record {
      settled = map record_of w.settled;
      own = map record_of w.own;
      may = settles old.doubt w.settled w.may;
      one = length-map w.own record_of ∙ w.one;
      grows = ap (map record_of) w.history
          ∙ map-append record_of (old.office.history ++ w.settled) w.own
          ∙ ap (λ (l : List (List ℕ)). l ++ map record_of w.own)
          (map-append record_of old.office.history w.settled);
      root = ap root_of w.origin;
    }
