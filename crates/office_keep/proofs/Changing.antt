-- A change behind the settling of what is in doubt.
use Rattle.std.proofs.Common.{◌≡◌, inl, inr, ⊎_elim, ℕ, ◌<◌, nat_lt, List, Option}
use Rattle.std.proofs.Common.{Some, None}
use Rattle.std.proofs.Common.{true, sym, ap, ◌∙◌, subst, arith}
use Rattle.std.proofs.lemmas.Bool.Decides.{nat_tests}
use Rattle.office_outside.specs.Disk.{All, IsQuiet, LeavesOnly}
use Rattle.office_outside.specs.Senses.{DiskSenses}
use Rattle.record_form.specs.declared.Command.{Command}
use Rattle.record_form.specs.declared.Entry.{Entry}
use Rattle.record_form.specs.declared.Outcome.{Outcome}
use Rattle.office_history.specs.History.{Office, end_of, moment_of}
use Rattle.office_history.specs.Legal.{IsLegal}
use Rattle.office_counter.specs.Steps.{with_made}
use Rattle.office_keep.specs.Files.{StandsFor}
use Rattle.office_keep.specs.Office.{Changes, IsSettled, IsTimely, IsUnmoved, Leaves, OfficeOn}
use Rattle.office_keep.specs.Office.{SettledFrom, StandsSettled, WithOrWithout}
use Rattle.office_keep.specs.Office.{done, in_doubt, not_kept, not_settled, past, refused_memory}
use Rattle.office_keep.specs.Office.{unsettled, written}
use Rattle.office_keep.proofs.Adding.{Made}
use Rattle.office_keep.proofs.Histories.{present_in_range}
use Rattle.office_outside.proofs.Moments.{leaves_weaker}

is_below : (a b : ℕ) → a < b → nat_lt a b ≡ true
is_below a b less = grind (arith, nat_tests)

below : (a b : ℕ) → nat_lt a b ≡ true → a < b
below a b test = grind (arith, nat_tests)

same_origin : (o : Office) (doubt : Option Entry) (p : Office) → IsSettled o doubt p →
    p.origin ≡ o.origin
same_origin o None p same = ap (λ (q : Office). q.origin) same
same_origin o (Some e) p settled = ⊎_elim
    (λ same. ap (λ (q : Office). q.origin) same)
    (λ same. ap (λ (q : Office). q.origin) same)
    settled

-- the moment of a change is in range of the settled office too
pub timely_settled : (o : Office) (doubt : Option Entry) (p : Office) (reading : ℕ) →
    IsSettled o doubt p → IsLegal p.origin p.history → IsTimely o reading → IsTimely p reading
timely_settled o doubt p reading settled legal timely =
    is_below (moment_of p reading) (end_of p.origin)
    (omega (
      arith,
      present_in_range p.origin p.history legal,
      same_origin o doubt p settled,
      below (moment_of o reading) (end_of o.origin) timely,
    ))

module _ {D : Type 0} (old mid : OfficeOn D) (reading : ℕ) (command : Command)
    (ended : IsUnmoved old mid) where
  still : (o : Office) → IsSettled mid.office mid.doubt o → o ≡ mid.office
  still o is = subst (λ (d : Option Entry). IsSettled mid.office d o) ended.none is

  settled_too : (o : Office) → IsSettled mid.office mid.doubt o → IsSettled old.office old.doubt o
  settled_too o is = subst (IsSettled old.office old.doubt) (sym (still o is)) ended.settled

  module _ (new : OfficeOn D) where
    pub changes_lift : (outcome : Outcome) (place : Option ℕ) → IsTimely mid.office reading →
        Changes mid reading command outcome place new →
        Changes old reading command outcome place new
    changes_lift outcome place timely (past late told same at) = absurd (cc (late, timely))
    changes_lift outcome place timely (refused_memory told in_range un at) =
        refused_memory told in_range
        (record { settled = settled_too new.office un.settled; none = un.none }) at
    changes_lift outcome place timely (not_settled told in_range kept at) =
        not_kept told in_range
        (record {
          settled = subst (IsSettled old.office old.doubt) (sym kept.office) ended.settled;
          none = kept.doubt ∙ ended.none;
        }) at
    changes_lift outcome place timely (not_kept told in_range un at) =
        not_kept told in_range
        (record { settled = settled_too new.office un.settled; none = un.none }) at
    changes_lift outcome place timely (in_doubt told in_range doubted at) =
        in_doubt told in_range
        (record {
          settled = settled_too new.office doubted.settled;
          accepts = doubted.accepts;
          doubt = doubted.doubt;
        }) at
    changes_lift outcome place timely (done settled made is in_range told same none at) =
        done settled made (settled_too settled is) in_range told same none at

    -- what was made over the settled office, if anything
    made_in : (outcome : Outcome) (place : Option ℕ) →
        Changes mid reading command outcome place new → Made mid.office new.office
    made_in outcome place (past late told same at) =
        record { entry = None; is = ap (λ (o : OfficeOn D). o.office) same }
    made_in outcome place (refused_memory told in_range un at) =
        record { entry = None; is = still new.office un.settled }
    made_in outcome place (not_settled told in_range kept at) =
        record { entry = None; is = kept.office }
    made_in outcome place (not_kept told in_range un at) =
        record { entry = None; is = still new.office un.settled }
    made_in outcome place (in_doubt told in_range doubted at) =
        record { entry = None; is = still new.office doubted.settled }
    made_in outcome place (done settled made is in_range told same none at) = record {
      entry = made;
      is = subst (λ (o : Office). new.office ≡ with_made o made) (still settled is) same;
    }

    pub leaves_lift : (file : List ℕ) → Leaves mid reading command new file →
        Leaves old reading command new file
    leaves_lift file (unsettled s) = unsettled (s.0, settled_too s.0 s.1, s.2)
    leaves_lift file (written settled made is same accepts s) =
        written settled made (settled_too settled is) same accepts s

    stands_after : (file : List ℕ) → Leaves mid reading command new file →
        WithOrWithout mid.office reading command file
    stands_after file (unsettled s) =
        inl (subst (λ (o : Office). StandsFor o file) (still s.0 s.1) s.2)
    stands_after file (written settled made is same accepts s) =
        subst (λ (o : Office). WithOrWithout o reading command file) (still settled is)
        (inr (accepts, s))

    -- from the end of the settling on
    pub settled_from : {S : DiskSenses D} (outcome : Outcome) (place : Option ℕ) →
        IsQuiet S old.disk mid.disk →
        All (StandsSettled mid.office mid.doubt) (S.images mid.disk) →
        Changes mid reading command outcome place new →
        LeavesOnly S mid.disk new.disk (Leaves mid reading command new) →
        SettledFrom S old reading command new
    settled_from outcome place quiet stood changes run =
        let made = made_in outcome place changes in
        record {
          settled = mid.office;
          made = made.entry;
          is_settled = ended.settled;
          ended = made.is;
          between = mid.disk;
          before = quiet;
          stands = λ file image.
              let s = stood file image in
              subst (λ (o : Office). StandsFor o file) (still s.0 s.1) s.2;
          after = leaves_weaker run stands_after;
        }
