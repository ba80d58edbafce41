-- Legal histories: their beginnings, and that a zone acts once.
use Rattle.std.proofs.Common.{◌≡◌, ℕ, Bool, true, false, cond, nat_lt, List, [], ◌∷◌, ◌++◌, Option}
use Rattle.std.proofs.Common.{Some, None, length, bytes_eq, refl, sym, ap, ◌∙◌, subst, append_assoc}
use Rattle.std.proofs.Common.{append-nil}
use Rattle.std.specs.Prelude.{option_map}
use Rattle.std.specs.List.{find}
use Rattle.std.specs.Option.{option_or}
use Rattle.std.proofs.lemmas.Grind.{flat_map-append}
use Rattle.std.proofs.lemmas.List.Folds.{find-append}
use Rattle.std.proofs.lemmas.Slice.Eq.{bytes_eq-Decides}
use Rattle.slo_limits.specs.declared.TheConstants as most
use Rattle.record_form.specs.declared.Command.{Command}
use Rattle.record_form.specs.declared.Entry.{Entry}
use Rattle.record_form.specs.declared.Outcome.TheVariants.{Changed}
use Rattle.record_form.specs.declared.Refusal.TheVariants as refusals
use Rattle.record_form.specs.declared.LimitName.TheVariants as limits
use Rattle.office_history.specs.declared.Judgement.TheVariants.{Accepted, Same, Refused}
use Rattle.office_history.specs.Batches.{when}
use Rattle.office_history.specs.Lists.{first_some}
use Rattle.office_history.specs.Judges.{Judges}
use Rattle.office_history.specs.Legal.{IsLegal, empty, followed, MayFollow, office}
use Rattle.office_history.specs.Verdicts.{unless_refused, zone_verdict_beside, zone_verdict}
use Rattle.office_history.specs.Zones.{utc, zones_of, zones_in, bytes_named}
use Rattle.catalog_changes.specs.Laws.{BeginsLegally, EachMayFollow, ZoneActsOnce}

-- LISTS BY THEIR ENDS

-- a list that isn't empty: its last item, and those before it
record Ending (A : Type 0) (x : A) (xs : List A) : Type 0 where
  first : List A
  last : A
  is : x ∷ xs ≡ first ++ last ∷ []

ending : {A : Type 0} (x : A) (xs : List A) → Ending A x xs
ending x [] = record { first = []; last = x; is = refl }
ending x (y ∷ ys) = let e = ending y ys in
    record { first = x ∷ e.first; last = e.last; is = ap (λ zs. x ∷ zs) e.is }

same_ends : {A : Type 0} (xs ys : List A) (x y : A) → xs ++ x ∷ [] ≡ ys ++ y ∷ []
    → (xs ≡ ys) × (x ≡ y)
same_ends [] [] x y e = (refl, cc e)
same_ends [] (z ∷ []) x y e = cc e
same_ends [] (z ∷ w ∷ ys) x y e = cc e
same_ends (z ∷ []) [] x y e = cc e
same_ends (z ∷ w ∷ xs) [] x y e = cc e
same_ends (z ∷ xs) (w ∷ ys) x y e =
    let head : z ≡ w = cc e in
    let tail : xs ++ x ∷ [] ≡ ys ++ y ∷ [] = cc e in
    let rest = same_ends xs ys x y tail in
    ((λ i. head i ∷ rest.0 i), rest.1)

not_empty : {A : Type 0} (xs : List A) (x : A) (ys : List A) → [] ≡ xs ++ x ∷ ys → ⊥
not_empty [] x ys e = cc e
not_empty (z ∷ xs) x ys e = cc e

-- BEGINNINGS

begins_with : (origin : ℕ) (h : List Entry) → IsLegal origin h → (before after : List Entry)
    → h ≡ before ++ after → IsLegal origin before
begins_with origin h legal before [] e = subst (IsLegal origin) (e ∙ append-nil before) legal
begins_with origin _ empty before (a ∷ more) e = absurd (not_empty before a more e)
begins_with origin _ (followed {h = h} x legal may) before (a ∷ more) e =
    let end = ending a more in
    let whole : h ++ x ∷ [] ≡ (before ++ end.first) ++ end.last ∷ [] = e
    ∙ ap (λ es. before ++ es) end.is ∙ sym (append_assoc before end.first (end.last ∷ [])) in
    begins_with origin h legal before end.first
    (same_ends h (before ++ end.first) x end.last whole).0

pub begins_legally : BeginsLegally
begins_legally origin before after legal =
    begins_with origin (before ++ after) legal before after refl

last_follows : (origin : ℕ) (h : List Entry) → IsLegal origin h → (before : List Entry) (e : Entry)
    → h ≡ before ++ e ∷ [] → MayFollow (office origin before) e
last_follows origin _ empty before e is = absurd (not_empty before e [] is)
last_follows origin _ (followed {h = h} x legal may) before e is =
    let same = same_ends h before x e is in
    subst (λ (p : List Entry × Entry). MayFollow (office origin p.0) p.1)
    (λ i. (same.0 i, same.1 i)) may

pub each_may_follow : EachMayFollow
each_may_follow origin before after e legal =
    last_follows origin (before ++ e ∷ []) (begins_legally origin (before ++ e ∷ []) after
    (subst (IsLegal origin) (sym (append_assoc before (e ∷ []) after)) legal)) before e refl

-- A ZONE ACTS ONCE

-- what is known of a zone that was accepted
record IsNewZone (zones : List (List ℕ × List ℕ)) (name bytes : List ℕ) : Type 0 where
  other : bytes_eq name utc ≡ false
  small : nat_lt most.MAX_ZONE_BYTES (length bytes) ≡ false
  new : bytes_named zones name ≡ None

new_zone : (zones : List (List ℕ × List ℕ)) (entries : ℕ) (name bytes : List ℕ)
    → Accepted ≡ zone_verdict zones entries name bytes → IsNewZone zones name bytes
new_zone zones entries name bytes e = by (bytes_eq name utc)
    (nat_lt most.MAX_ZONE_BYTES (length bytes)) (bytes_named zones name) refl refl refl e
  where
    known : (old : List ℕ) (b : Bool)
        → Accepted ≡ cond b (Same (Changed None)) (Refused (refusals.ZoneDiffers name)) → ⊥
    known old true g = cc g
    known old false g = cc g

    by : (a b : Bool) (o : Option (List ℕ)) → bytes_eq name utc ≡ a →
        nat_lt most.MAX_ZONE_BYTES (length bytes) ≡ b → bytes_named zones name ≡ o →
        Accepted ≡ unless_refused (first_some
        (when a (refusals.ReservedZone name) ∷ when b (refusals.Limit limits.ZoneBytes) ∷ []))
        (zone_verdict_beside o (length zones) entries name bytes) →
        IsNewZone zones name bytes
    by true b o f g h e = cc e
    by false true o f g h e = cc e
    by false false (Some old) f g h e = absurd (known old (bytes_eq old bytes) e)
    by false false None f g h e = record { other = f; small = g; new = h }

found_none : (zones : List (List ℕ × List ℕ)) (name : List ℕ) → bytes_named zones name ≡ None
    → find (λ kept. bytes_eq kept.0 name) zones ≡ None
found_none zones name e = by (find (λ kept. bytes_eq kept.0 name) zones) e
  where
    by : (o : Option (List ℕ × List ℕ))
        → option_map (λ (kept : List ℕ × List ℕ). kept.1) o ≡ None → o ≡ None
    by None g = refl
    by (Some kept) g = cc g

-- bytes that were put under a new name are kept under it
kept_there : (zones later : List (List ℕ × List ℕ)) (name bytes : List ℕ)
    → bytes_named zones name ≡ None → bytes_named (zones ++ (name, bytes) ∷ later) name ≡ Some bytes
kept_there zones later name bytes none =
    ap (option_map (λ (kept : List ℕ × List ℕ). kept.1))
    (find-append (λ (kept : List ℕ × List ℕ). bytes_eq kept.0 name) zones ((name, bytes) ∷ later)
    ∙ ap (λ (o : Option (List ℕ × List ℕ)). option_or o
    (find (λ kept. bytes_eq kept.0 name) ((name, bytes) ∷ later))) (found_none zones name none)
    ∙ ap (λ b. cond b (Some (name, bytes)) (find (λ (kept : List ℕ × List ℕ). bytes_eq kept.0 name)
    later)) ((bytes_eq-Decides name name).1 refl))

again : (zones : List (List ℕ × List ℕ)) (entries : ℕ) (name bytes : List ℕ) →
    bytes_eq name utc ≡ false → nat_lt most.MAX_ZONE_BYTES (length bytes) ≡ false →
    bytes_named zones name ≡ Some bytes →
    Same (Changed None) ≡ zone_verdict zones entries name bytes
again zones entries name bytes other small kept =
    sym ((λ i. unless_refused (first_some (when (other i) (refusals.ReservedZone name)
    ∷ when (small i) (refusals.Limit limits.ZoneBytes) ∷ []))
    (zone_verdict_beside (kept i) (length zones) entries name bytes))
    ∙ ap (λ b. cond b (Same (Changed None)) (Refused (refusals.ZoneDiffers name)))
    ((bytes_eq-Decides bytes bytes).1 refl))

pub zone_acts_once : ZoneActsOnce
zone_acts_once origin before after e name bytes moment legal is later =
    let may = each_may_follow origin before after e legal in
    let verdict : Accepted ≡ zone_verdict (zones_in before) (length before) name bytes = subst
    (λ (c : Command). Judges (office origin before) e.moment c Accepted) is may.accepted in
    let new = new_zone (zones_in before) (length before) name bytes verdict in
    let zones : zones_in (before ++ e ∷ after) ≡ zones_in before ++ (name, bytes) ∷ zones_in after =
    flat_map-append (λ (e : Entry). zones_of e.command) before (e ∷ after)
    ∙ ap (λ (c : Command). zones_in before ++ (zones_of c ++ zones_in after)) is in
    again (zones_in (before ++ e ∷ after)) (length (before ++ e ∷ after)) name bytes
    new.other new.small
    (ap (λ zs. bytes_named zs name) zones
    ∙ kept_there (zones_in before) (zones_in after) name bytes new.new)
