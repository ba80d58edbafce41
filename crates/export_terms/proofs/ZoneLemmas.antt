-- The zones of a legal history have their own names.
use Rattle.std.proofs.Common.{◌≡◌, ◌∙◌, ◌<◌, ℕ, Bool, true, false, cond, List, [], ◌∷◌, ◌++◌}
use Rattle.std.proofs.Common.{Option, Some, None, option_map, refl, sym, ap, subst, length, arith}
use Rattle.std.proofs.Common.{Ordering, Less, Equal, Greater, nat_cmp, bytes_eq, find, is_none}
use Rattle.std.proofs.Common.{nat_le, nat_lt}
use Rattle.std.specs.List.{AllByRecursion}
use Rattle.std.specs.Ordering.{match_ordering}
use Rattle.std.specs.Cmp.Lexicographic.{slice_cmp}
use Rattle.std.proofs.lemmas.Cmp.{nat_list_eq_equiv}
use Rattle.std.proofs.lemmas.Bool.Decides.{nat_tests}
use Rattle.std.proofs.lemmas.Bool.{ltb-false}
use Rattle.std.proofs.lemmas.Grind.{flat_map-append}
use Rattle.std.proofs.lemmas.List.{append-nil}
use Rattle.slo_limits.specs.declared.TheConstants as most
use Rattle.zone_calendar.specs.ZoneBytes.{zone_of}
use Rattle.record_form.specs.declared.Command.{Command}
use Rattle.record_form.specs.declared.Command.TheVariants.{Define, Remove, PutZone, Samples}
use Rattle.record_form.specs.declared.Command.TheVariants.{Exclude, Lift, Tick, Take, Upgrade}
use Rattle.record_form.specs.declared.Entry.{Entry}
use Rattle.record_form.specs.declared.LimitName.TheVariants as limits
use Rattle.record_form.specs.declared.Outcome.TheVariants.{Changed}
use Rattle.record_form.specs.declared.Refusal.TheVariants as refusals
use Rattle.office_history.specs.declared.Judgement.TheVariants.{Accepted, Same, Refused}
use Rattle.office_history.specs.Batches.{when}
use Rattle.office_history.specs.Judges.{Judges}
use Rattle.office_history.specs.Legal.{IsLegal, empty, followed, office}
use Rattle.office_history.specs.Lists.{first_some}
use Rattle.office_history.specs.Verdicts.{accepted, unless_refused, zone_verdict}
use Rattle.office_history.specs.Verdicts.{zone_verdict_beside}
use Rattle.office_history.specs.Zones.{bytes_named, utc, zones_in, zones_of}
use Rattle.export_terms.specs.Zones.{CanBePut, HaveOwnNames, with_zone, zones_by_name}

pub all_joined : {X : Type 0} (P : X → Type 0) (xs ys : List X) → AllByRecursion P xs
    → AllByRecursion P ys → AllByRecursion P (xs ++ ys)
all_joined P [] ys h k = k
all_joined P (x ∷ xs) ys h k = (h.0, all_joined P xs ys h.1 k)

-- what is known of a zone that was accepted
pub record IsNewZone (zones : List (List ℕ × List ℕ)) (name bytes : List ℕ) : Type 0 where
  pub can : CanBePut (name, bytes)
  pub new : bytes_named zones name ≡ None
  pub room : length zones < most.MAX_ZONES

pub new_zone : (zones : List (List ℕ × List ℕ)) (entries : ℕ) (name bytes : List ℕ)
    → Accepted ≡ zone_verdict zones entries name bytes → IsNewZone zones name bytes
new_zone zones entries name bytes e = by (bytes_eq name utc)
    (nat_lt most.MAX_ZONE_BYTES (length bytes)) (bytes_named zones name) refl refl refl e
  where
    known : (old : List ℕ) (b : Bool)
        → Accepted ≡ cond b (Same (Changed None)) (Refused (refusals.ZoneDiffers name)) → ⊥
    known old true g = cc g
    known old false g = cc g

    room : nat_le most.MAX_ZONES (length zones) ≡ false → length zones < most.MAX_ZONES
    room h = grind (arith, nat_tests, h)

    fresh : (c d : Bool) → is_none (zone_of bytes) ≡ c → nat_le most.MAX_ZONES (length zones) ≡ d →
        bytes_eq name utc ≡ false → nat_lt most.MAX_ZONE_BYTES (length bytes) ≡ false →
        bytes_named zones name ≡ None →
        Accepted ≡ unless_refused (first_some (when c (refusals.BadZone name)
        ∷ when d (refusals.Limit limits.Zones) ∷ [])) (accepted entries) →
        IsNewZone zones name bytes
    fresh true d i j f g h e = cc e
    fresh false true i j f g h e = cc e
    fresh false false i j f g h e = record {
      can = record {
        other_name = f;
        bytes_fit = ltb-false most.MAX_ZONE_BYTES (length bytes) g;
        is_zone = i;
      };
      new = h;
      room = room j;
    }

    by : (a b : Bool) (o : Option (List ℕ)) → bytes_eq name utc ≡ a →
        nat_lt most.MAX_ZONE_BYTES (length bytes) ≡ b → bytes_named zones name ≡ o →
        Accepted ≡ unless_refused (first_some
        (when a (refusals.ReservedZone name) ∷ when b (refusals.Limit limits.ZoneBytes) ∷ []))
        (zone_verdict_beside o (length zones) entries name bytes) →
        IsNewZone zones name bytes
    by true b o f g h e = cc e
    by false true o f g h e = cc e
    by false false (Some old) f g h e = absurd (known old (bytes_eq old bytes) e)
    by false false None f g h e = fresh (is_none (zone_of bytes))
        (nat_le most.MAX_ZONES (length zones)) refl refl f g h e

-- zones of other names than the last one have their own names with it
pub own_more : (zones : List (List ℕ × List ℕ)) (z : List ℕ × List ℕ) → HaveOwnNames zones
    → bytes_named zones z.0 ≡ None → HaveOwnNames (zones ++ z ∷ [])
own_more [] z own new = (tt, tt)
own_more (y ∷ ys) z own new = by (bytes_eq y.0 z.0) refl new (λ h. own_more ys z own.1 h)
  where
    by : (b : Bool) → bytes_eq y.0 z.0 ≡ b
        → option_map (λ (kept : List ℕ × List ℕ). kept.1)
        (cond b (Some y) (find (λ (kept : List ℕ × List ℕ). bytes_eq kept.0 z.0) ys)) ≡ None
        → (bytes_named ys z.0 ≡ None → HaveOwnNames (ys ++ z ∷ []))
        → HaveOwnNames (y ∷ ys ++ z ∷ [])
    by true e h again = cc h
    by false e h again = (
      all_joined (λ (x : List ℕ × List ℕ). bytes_eq y.0 x.0 ≡ false) ys (z ∷ []) own.0 (e, tt),
      again h,
    )

none_more : (zones : List (List ℕ × List ℕ)) → HaveOwnNames zones → HaveOwnNames (zones ++ [])
none_more zones h = subst HaveOwnNames (sym (append-nil zones)) h

own_after : (origin : ℕ) (h : List Entry) (m : ℕ) (c : Command) → HaveOwnNames (zones_in h)
    → Judges (office origin h) m c Accepted → HaveOwnNames (zones_in h ++ zones_of c)
own_after origin h m (PutZone name bytes) k v =
    own_more (zones_in h) (name, bytes) k (new_zone (zones_in h) (length h) name bytes v).new
own_after origin h m (Define text) k v = none_more (zones_in h) k
own_after origin h m (Remove kind name) k v = none_more (zones_in h) k
own_after origin h m (Samples rows) k v = none_more (zones_in h) k
own_after origin h m (Exclude value) k v = none_more (zones_in h) k
own_after origin h m (Lift id) k v = none_more (zones_in h) k
own_after origin h m Tick k v = none_more (zones_in h) k
own_after origin h m (Take number) k v = none_more (zones_in h) k
own_after origin h m Upgrade k v = none_more (zones_in h) k

pub legal_zones_have_own_names : (origin : ℕ) (h : List Entry) → IsLegal origin h
    → HaveOwnNames (zones_in h)
legal_zones_have_own_names origin _ empty = tt
legal_zones_have_own_names origin _ (followed {h = h} e legal may) =
    subst HaveOwnNames (sym (more h e))
    (own_after origin h e.moment e.command (legal_zones_have_own_names origin h legal) may.accepted)
  where
    more : (h : List Entry) (e : Entry)
        → zones_in (h ++ e ∷ []) ≡ zones_in h ++ zones_of e.command
    more h e = flat_map-append (λ (e : Entry). zones_of e.command) h (e ∷ [])
        ∙ ap (λ ys. zones_in h ++ ys) (append-nil (zones_of e.command))

-- what holds of all zones holds of them by name
pub all_put : (P : List ℕ × List ℕ → Type 0) (z : List ℕ × List ℕ) (zs : List (List ℕ × List ℕ))
    → P z
    → AllByRecursion P zs → AllByRecursion P (with_zone z zs)
all_put P z [] h k = (h, tt)
all_put P z (y ∷ ys) h k = by (slice_cmp nat_cmp z.0 y.0) (all_put P z ys h k.1)
  where
    by : (r : Ordering) → AllByRecursion P (with_zone z ys)
        → AllByRecursion P (match_ordering r (z ∷ y ∷ ys) (z ∷ y ∷ ys) (y ∷ with_zone z ys))
    by Less more = (h, k)
    by Equal more = (h, k)
    by Greater more = (k.0, more)

pub all_by_name : (P : List ℕ × List ℕ → Type 0) (zs : List (List ℕ × List ℕ)) → AllByRecursion P zs
    → AllByRecursion P (zones_by_name zs)
all_by_name P [] h = tt
all_by_name P (z ∷ zs) h = all_put P z (zones_by_name zs) h.0 (all_by_name P zs h.1)

-- where no two have one name, the bytes of a zone's name are its own
named_behind : (z : List ℕ × List ℕ) (zs ys : List (List ℕ × List ℕ))
    → AllByRecursion (λ y. bytes_eq z.0 y.0 ≡ false) ys
    → AllByRecursion (λ y. bytes_named zs y.0 ≡ Some y.1) ys
    → AllByRecursion (λ y. bytes_named (z ∷ zs) y.0 ≡ Some y.1) ys
named_behind z zs [] h k = tt
named_behind z zs (y ∷ ys) h k = (
  ap (λ b. option_map (λ (kept : List ℕ × List ℕ). kept.1) (cond b (Some z)
      (find (λ (kept : List ℕ × List ℕ). bytes_eq kept.0 y.0) zs))) h.0 ∙ k.0,
  named_behind z zs ys h.1 k.1,
)

pub named_in : (zones : List (List ℕ × List ℕ)) → HaveOwnNames zones
    → AllByRecursion (λ z. bytes_named zones z.0 ≡ Some z.1) zones
named_in [] h = tt
named_in (z ∷ zs) h = (
  ap (λ b. option_map (λ (kept : List ℕ × List ℕ). kept.1) (cond b (Some z)
      (find (λ (kept : List ℕ × List ℕ). bytes_eq kept.0 z.0) zs))) (nat_list_eq_equiv.refl z.0),
  named_behind z zs zs h.0 (named_in zs h.1),
)
