-- Zones are put one after another.
use Rattle.std.proofs.Common.{◌≡◌, ℕ, ◌+◌, ◌<◌, ◌≤◌, Bool, true, false, cond, List, [], ◌∷◌}
use Rattle.std.proofs.Common.{◌++◌, map, refl, sym, ap, ◌∙◌, length, subst, arith, Option}
use Rattle.std.proofs.Common.{Some, None, nat_le, append-nil, append_assoc, find}
use Rattle.std.proofs.Common.{bytes_eq, option_map, Ordering, Less, Equal, Greater, nat_cmp}
use Rattle.std.proofs.Common.{length-append, true≢false}
use Rattle.std.specs.List.{AllByRecursion}
use Rattle.std.specs.Ordering.{match_ordering}
use Rattle.std.specs.Cmp.Lexicographic.{slice_cmp}
use Rattle.std.proofs.lemmas.Bool.Decides.{nat_tests}
use Rattle.std.proofs.lemmas.Bool.{le-ltb}
use Rattle.std.proofs.lemmas.Cmp.{nat_list_eq_equiv}
use Rattle.slo_limits.specs.declared.TheConstants as most
use Rattle.object_terms.specs.declared.Object.{Object}
use Rattle.sample_book.specs.declared.Row.{Row}
use Rattle.sample_book.specs.Exclusions.{Change}
use Rattle.record_form.specs.declared.LimitName.TheVariants as limits
use Rattle.record_form.specs.declared.Refusal.TheVariants as refusals
use Rattle.office_history.specs.declared.Judgement.TheVariants.{Accepted}
use Rattle.office_history.specs.Batches.{when}
use Rattle.office_history.specs.History.{Office, end_of}
use Rattle.office_history.specs.Lists.{first_some}
use Rattle.office_history.specs.Zones.{bytes_named, zones_in}
use Rattle.office_history.specs.Verdicts.{unless_refused, accepted, zone_verdict}
use Rattle.office_history.specs.Verdicts.{zone_verdict_beside}
use Rattle.export_terms.specs.Zones.{with_zone, zones_by_name}
use Rattle.export_terms.specs.Moves.{zone_move}
use Rattle.export_terms.proofs.ZoneLemmas.{all_by_name, all_put}
use Rattle.export_laws.specs.Replay.{after, after_all, AreAccepted}
use Rattle.export_terms.specs.Zones.{CanBePut, HaveOwnNames}
use Rattle.export_laws.proofs.Steps.{Stands, stands_after, may_follow}
use Rattle.export_laws.proofs.Definitions.{room_for_one}

abbrev Zones : Type 0
Zones = List (List ℕ × List ℕ)

-- a name that none of them has
none_named : (zones : Zones) (name : List ℕ) → AllByRecursion (λ z. bytes_eq z.0 name ≡ false) zones
    → bytes_named zones name ≡ None
none_named [] name h = refl
none_named (z ∷ zs) name h =
    ap (λ b. option_map (λ (kept : List ℕ × List ℕ). kept.1)
    (cond b (Some z) (find (λ (kept : List ℕ × List ℕ). bytes_eq kept.0 name) zs))) h.0
    ∙ none_named zs name h.1

-- a new zone is accepted
zone_is_accepted : (zones : Zones) (entries : ℕ) (z : List ℕ × List ℕ) → CanBePut z
    → AllByRecursion (λ y. bytes_eq y.0 z.0 ≡ false) zones → length zones < most.MAX_ZONES
    → entries < most.MAX_ENTRIES → Accepted ≡ zone_verdict zones entries z.0 z.1
zone_is_accepted zones entries z can new few room = sym (
    (λ i. unless_refused (first_some (when (can.other_name i) (refusals.ReservedZone z.0)
    ∷ when (le-ltb most.MAX_ZONE_BYTES (length z.1) can.bytes_fit i)
    (refusals.Limit limits.ZoneBytes)
    ∷ [])) (zone_verdict_beside (none_named zones z.0 new i) (length zones) entries z.0 z.1))
    ∙ (λ i. unless_refused (first_some (when (can.is_zone i) (refusals.BadZone z.0)
    ∷ when (below (nat_le most.MAX_ZONES (length zones)) refl i) (refusals.Limit limits.Zones)
    ∷ [])) (accepted entries))
    ∙ room_for_one entries room)
  where
    below : (b : Bool) → nat_le most.MAX_ZONES (length zones) ≡ b → b ≡ false
    below false e = refl
    below true e = absurd (grind (arith, nat_tests))

-- those ahead of a zone have other names
ahead_other : (xs ys : Zones) (z : List ℕ × List ℕ) → HaveOwnNames (xs ++ z ∷ ys)
    → AllByRecursion (λ y. bytes_eq y.0 z.0 ≡ false) xs
ahead_other [] ys z h = tt
ahead_other (x ∷ xs) ys z h = (among xs h.0, ahead_other xs ys z h.1)
  where
    among : (xs : Zones) → AllByRecursion (λ y. bytes_eq x.0 y.0 ≡ false) (xs ++ z ∷ ys)
        → bytes_eq x.0 z.0 ≡ false
    among [] k = k.0
    among (y ∷ xs) k = among xs k.1

module _ (origin : ℕ) (upgraded : Bool) (members : List Object) (changes : List Change)
    (rows : List Row) where
  pub zones_accepted : (o : Office) (kept todo : Zones) (readings : List ℕ) (entries : ℕ)
      → Stands origin upgraded members kept rows changes entries o
      → AllByRecursion CanBePut todo → HaveOwnNames (kept ++ todo)
      → length (kept ++ todo) ≤ most.MAX_ZONES → length todo + entries ≤ most.MAX_ENTRIES
      → length readings ≡ length todo → AllByRecursion (λ r. r < end_of origin) readings
      → AreAccepted o (map zone_move todo) readings
      × Stands origin upgraded members (kept ++ todo) rows changes (length todo + entries)
      (after_all o (map zone_move todo) readings)
  zones_accepted o kept [] [] entries s can own few room as_many below = (
    tt,
    subst (λ (p : Zones × ℕ). Stands origin upgraded members p.0 rows changes p.1 o)
        (λ i. (sym (append-nil kept) i, number i)) s,
  )
    where
      number : entries ≡ 0 + entries
      number = omega arith
  zones_accepted o kept [] (r ∷ rs) entries s can own few room as_many below =
      absurd (omega (arith, as_many))
  zones_accepted o kept (z ∷ zs) [] entries s can own few room as_many below =
      absurd (omega (arith, as_many))
  zones_accepted o kept (z ∷ zs) (r ∷ rs) entries s can own few room as_many below =
      let split : (kept ++ z ∷ []) ++ zs ≡ kept ++ z ∷ zs = append_assoc kept (z ∷ []) zs in
      let accepts : Accepted ≡ zone_verdict (zones_in o.history) (length o.history) z.0 z.1 =
      zone_is_accepted kept entries z can.0 (ahead_other kept zs z own)
      (omega (arith, few, length-append kept (z ∷ zs))) (omega (arith, room))
      ∙ (λ i. zone_verdict (sym s.zones_are i) (sym s.counted i) z.0 z.1) in
      let then : Stands origin upgraded members (kept ++ z ∷ []) rows changes (entries + 1)
      (after o r (zone_move z)) =
      subst (λ (p : List Row × List Change). Stands origin upgraded members (kept ++ z ∷ []) p.0 p.1
      (entries + 1) (after o r (zone_move z))) (λ i. (append-nil rows i, append-nil changes i))
      (stands_after origin upgraded members kept rows changes entries o r (zone_move z) s below.0)
      in
      let more = zones_accepted (after o r (zone_move z)) (kept ++ z ∷ []) zs rs (entries + 1) then
      can.1 (subst HaveOwnNames (sym split) own)
      (subst (λ (l : Zones). length l ≤ most.MAX_ZONES) (sym split) few)
      (omega (arith, room)) (omega (arith, as_many)) below.1 in (
        (
          may_follow o origin r (zone_move z) s.origin_is s.in_range below.0 accepts,
          more.0,
        ),
        subst (λ (p : Zones × ℕ). Stands origin upgraded members p.0 rows changes p.1
            (after_all (after o r (zone_move z)) (map zone_move zs) rs))
            (λ i. (split i, counted i)) more.1,
      )
    where
      counted : length zs + (entries + 1) ≡ length (z ∷ zs) + entries
      counted = omega arith

-- BY NAME

other_way : (a b : List ℕ) → bytes_eq a b ≡ false → bytes_eq b a ≡ false
other_way a b h = nat_list_eq_equiv.symm b a ∙ h

own_put : (z : List ℕ × List ℕ) (zs : Zones) → HaveOwnNames (z ∷ zs) → HaveOwnNames (with_zone z zs)
own_put z [] h = h
own_put z (y ∷ ys) h = by (slice_cmp nat_cmp z.0 y.0) (own_put z ys (h.0.1, h.1.1))
  where
    by : (r : Ordering) → HaveOwnNames (with_zone z ys)
        → HaveOwnNames (match_ordering r (z ∷ y ∷ ys) (z ∷ y ∷ ys) (y ∷ with_zone z ys))
    by Less more = h
    by Equal more = h
    by Greater more = (
      all_put (λ x. bytes_eq y.0 x.0 ≡ false) z ys
          (other_way z.0 y.0 h.0.0) h.1.0,
      more,
    )

pub own_by_name : (zs : Zones) → HaveOwnNames zs → HaveOwnNames (zones_by_name zs)
own_by_name [] h = tt
own_by_name (z ∷ zs) h = own_put z (zones_by_name zs)
    (all_by_name (λ y. bytes_eq z.0 y.0 ≡ false) zs h.0, own_by_name zs h.1)

length_put : (z : List ℕ × List ℕ) (zs : Zones) → length (with_zone z zs) ≡ length (z ∷ zs)
length_put z [] = refl
length_put z (y ∷ ys) = by (slice_cmp nat_cmp z.0 y.0) (length_put z ys)
  where
    by : (r : Ordering) → length (with_zone z ys) ≡ length (z ∷ ys)
        → length (match_ordering r (z ∷ y ∷ ys) (z ∷ y ∷ ys) (y ∷ with_zone z ys))
        ≡ length (z ∷ y ∷ ys)
    by Less more = refl
    by Equal more = refl
    by Greater more = omega (arith, more)

pub length_by_name : (zs : Zones) → length (zones_by_name zs) ≡ length zs
length_by_name [] = refl
length_by_name (z ∷ zs) = omega (arith, length_put z (zones_by_name zs), length_by_name zs)

-- a name has the same bytes
bytes_put : (name : List ℕ) (z : List ℕ × List ℕ) (zs : Zones) → HaveOwnNames (z ∷ zs)
    → bytes_named (with_zone z zs) name ≡ bytes_named (z ∷ zs) name
bytes_put name z [] h = refl
bytes_put name z (y ∷ ys) h = by (slice_cmp nat_cmp z.0 y.0) (bytes_put name z ys (h.0.1, h.1.1))
  where
    swap : (a b : Bool) → (a ≡ true → b ≡ true → ⊥) → (f g : Option (List ℕ × List ℕ))
        → option_map (λ (kept : List ℕ × List ℕ). kept.1) f
        ≡ option_map (λ (kept : List ℕ × List ℕ). kept.1) (cond b (Some z) g)
        → option_map (λ (kept : List ℕ × List ℕ). kept.1) (cond a (Some y) f)
        ≡ option_map (λ (kept : List ℕ × List ℕ). kept.1) (cond b (Some z) (cond a (Some y) g))
    swap true true apart f g e = absurd (apart refl refl)
    swap true false apart f g e = refl
    swap false b apart f g e = e

    apart : bytes_eq y.0 name ≡ true → bytes_eq z.0 name ≡ true → ⊥
    apart k l = true≢false (sym l ∙ nat_list_eq_equiv.symm z.0 name
        ∙ sym (nat_list_eq_equiv.congr y.0 name z.0 k) ∙ other_way z.0 y.0 h.0.0)

    by : (r : Ordering) → bytes_named (with_zone z ys) name ≡ bytes_named (z ∷ ys) name
        → bytes_named (match_ordering r (z ∷ y ∷ ys) (z ∷ y ∷ ys) (y ∷ with_zone z ys)) name
        ≡ bytes_named (z ∷ y ∷ ys) name
    by Less more = refl
    by Equal more = refl
    by Greater more = swap (bytes_eq y.0 name) (bytes_eq z.0 name) apart
        (find (λ (kept : List ℕ × List ℕ). bytes_eq kept.0 name) (with_zone z ys))
        (find (λ (kept : List ℕ × List ℕ). bytes_eq kept.0 name) ys) more

pub bytes_by_name : (name : List ℕ) (zs : Zones) → HaveOwnNames zs
    → bytes_named (zones_by_name zs) name ≡ bytes_named zs name
bytes_by_name name [] h = refl
bytes_by_name name (z ∷ zs) h =
    bytes_put name z (zones_by_name zs)
    (all_by_name (λ y. bytes_eq z.0 y.0 ≡ false) zs h.0, own_by_name zs h.1)
    ∙ same (bytes_eq z.0 name)
    (find (λ (kept : List ℕ × List ℕ). bytes_eq kept.0 name) (zones_by_name zs))
    (find (λ (kept : List ℕ × List ℕ). bytes_eq kept.0 name) zs) (bytes_by_name name zs h.1)
  where
    same : (b : Bool) (f g : Option (List ℕ × List ℕ))
        → option_map (λ (kept : List ℕ × List ℕ). kept.1) f
        ≡ option_map (λ (kept : List ℕ × List ℕ). kept.1) g
        → option_map (λ (kept : List ℕ × List ℕ). kept.1) (cond b (Some z) f)
        ≡ option_map (λ (kept : List ℕ × List ℕ). kept.1) (cond b (Some z) g)
    same true f g e = refl
    same false f g e = e
