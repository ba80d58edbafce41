-- What the catalog, the zones and the rows of a legal history are.
use Rattle.std.proofs.Common.{◌≡◌, ℕ, ◌+◌, ◌<◌, ◌≤◌, max, Bool, true, false, not, ◌||◌, cond}
use Rattle.std.proofs.Common.{List, [], ◌∷◌, ◌++◌, map, fold, refl, sym, ap, ◌∙◌, subst, length}
use Rattle.std.proofs.Common.{Option, Some, None, Result, Ok, Err, append-nil, arith}
use Rattle.std.proofs.Common.{bytes_eq, length-append}
use Rattle.std.specs.List.{AllByRecursion}
use Rattle.std.proofs.lemmas.Bool.Decides.{nat_tests}
use Rattle.std.proofs.lemmas.List.Elements.{recursion_from_All}
use Rattle.slo_limits.specs.declared.TheConstants as most
use Rattle.slice_method.specs.declared.Amount.{Amount}
use Rattle.slice_method.specs.declared.Amount.TheVariants as amounts
use Rattle.sample_book.specs.declared.Row.{Row}
use Rattle.sample_book.specs.declared.RowVerdict.{RowVerdict}
use Rattle.sample_book.specs.Puts.{verdicts}
use Rattle.sample_book.specs.Rows.{current_rows}
use Rattle.yaml_terms.specs.Tree.{Tree}
use Rattle.yaml_terms.specs.Text.{StandsFor}
use Rattle.yaml_terms.specs.SpellingFits.{IsWritable}
use Rattle.object_terms.specs.declared.Kind.{Kind}
use Rattle.object_terms.specs.declared.Object.{Object}
use Rattle.object_terms.specs.declared.Slo.{Slo}
use Rattle.object_terms.specs.declared.Calendar.{Calendar}
use Rattle.object_terms.specs.Document.{IsOfDocument}
use Rattle.object_terms.specs.Slo.{slo_in}
use Rattle.catalog_terms.specs.declared.RemoveFault.{RemoveFault}
use Rattle.catalog_terms.specs.Catalog.{with_members}
use Rattle.catalog_terms.specs.Keys.{IsSorted, is_key}
use Rattle.catalog_terms.specs.Define.{is_reserved}
use Rattle.catalog_terms.specs.References.{first_referrer}
use Rattle.catalog_terms.specs.Remove.{remaining_members}
use Rattle.slo_catalog.specs.Whole.{CatalogIsWhole}
use Rattle.record_form.specs.declared.Command.{Command}
use Rattle.record_form.specs.declared.Command.TheVariants.{Define, Remove, PutZone, Samples}
use Rattle.record_form.specs.declared.Command.TheVariants.{Exclude, Lift, Tick, Take, Upgrade}
use Rattle.record_form.specs.declared.Entry.{Entry}
use Rattle.office_history.specs.Starts.{begins_too_often}
use Rattle.office_history.specs.Definitions.{Known}
use Rattle.office_history.specs.KnownZones.{first_unknown_zone, unknown_zone_in, unknown_zone_of}
use Rattle.office_history.specs.KnownZones.{is_known_zone, is_among}
use Rattle.definition_verdict.proofs.DocumentLemmas.{all_of_documents}
use Rattle.office_history.specs.declared.Judgement.TheVariants.{Accepted}
use Rattle.office_history.specs.Batches.{row_fault, rows_faults}
use Rattle.office_history.specs.Catalog.{catalog_in, definitions_of, members_after, text_objects}
use Rattle.office_history.specs.History.{current_in, end_of, present, rows_in, rows_of}
use Rattle.office_history.specs.Judges.{Judges, known_of}
use Rattle.office_history.specs.Legal.{IsLegal, empty, followed, office}
use Rattle.office_history.specs.Lists.{first_some}
use Rattle.office_history.specs.Verdicts.{accepted}
use Rattle.office_history.specs.Verdicts.{remove_verdict, unless_removal}
use Rattle.office_history.specs.Verdicts.{unless_sampled, first_row_of}
use Rattle.office_history.specs.Versions.{is_upgrade, is_upgraded, most_cells}
use Rattle.office_history.specs.Zones.{utc, zones_in, zones_of}
use Rattle.office_derived.proofs.Sound.{more_cells}
use Rattle.office_derived.proofs.More.{catalog_more, rows_more, zones_more, present_more}
use Rattle.catalog_changes.proofs.ChangeLemmas.{accepted_text}
use Rattle.catalog_changes.proofs.DefineLemmas.{changes_put, made_of_text}
use Rattle.sample_changes.proofs.GoodRows.{IsGood, IsTaken, clean_row, first_parts, good_rows}
use Rattle.sample_changes.proofs.Judged.{accepted_keeps}
use Rattle.sample_changes.proofs.Tallies.{verdicts_each}
use Rattle.export_terms.specs.Zones.{CanBePut, HaveOwnNames}
use Rattle.export_laws.proofs.Parts.{all_weaker, filter_all, filter_sorted}
use Rattle.export_terms.proofs.ZoneLemmas.{all_joined, new_zone, own_more}
use Rattle.export_laws.proofs.Steps.{version_more, with_upgrade}
use Rattle.export_laws.proofs.Catalogs as kept

abbrev pub Zones : Type 0
Zones = List (List ℕ × List ℕ)

abbrev pub names : Zones → List (List ℕ)
names zones = map (λ (z : List ℕ × List ℕ). z.0) zones

-- what is known of each member
pub record IsSound (zones : Zones) (horizon : ℕ) (o : Object) : Type 0 where
  pub unreserved : is_reserved o ≡ false
  pub zone_is_known : unknown_zone_in (names zones) (slo_in o.body) ≡ None
  pub begins_seldom : begins_too_often horizon o ≡ false
  pub of_document : IsOfDocument o

pub record Keeps (origin : ℕ) (members : List Object) (zones : Zones) : Type 0 where
  pub sorted : IsSorted members
  pub whole : CatalogIsWhole members
  pub each : AllByRecursion (IsSound zones (end_of origin)) members
  pub put : AllByRecursion CanBePut zones
  pub own : HaveOwnNames zones
  pub few_zones : length zones ≤ most.MAX_ZONES

-- a zone that is known is known with one more
or_left : (a b c : Bool) → (a || b) ≡ true → (a || (b || c)) ≡ true
or_left true b c h = refl
or_left false true c h = refl
or_left false false c h = cc h

among_more : (zones : List (List ℕ)) (name more : List ℕ)
    → is_among (zones ++ more ∷ []) name ≡ (is_among zones name || bytes_eq name more)
among_more [] name more = or_false (bytes_eq name more)
  where
    or_false : (b : Bool) → (b || false) ≡ b
    or_false true = refl
    or_false false = refl
among_more (z ∷ zs) name more = ap (λ b. bytes_eq name z || b) (among_more zs name more)
    ∙ or_assoc (bytes_eq name z) (is_among zs name) (bytes_eq name more)
  where
    or_assoc : (a b c : Bool) → (a || (b || c)) ≡ ((a || b) || c)
    or_assoc true b c = refl
    or_assoc false b c = refl

known_more : (zones : List (List ℕ)) (more : List ℕ) (s : Option Slo)
    → unknown_zone_in zones s ≡ None → unknown_zone_in (zones ++ more ∷ []) s ≡ None
known_more zones more None h = refl
known_more zones more (Some slo) h = by slo.time_window.calendar h
  where
    is : (b c : Bool) (name : List ℕ) → cond b None (Some name) ≡ None → (b ≡ true → c ≡ true)
        → cond c None (Some name) ≡ None
    is true c name h f = ap (λ d. cond d None (Some name)) (f refl)
    is false c name h f = cc h

    by : (c : Option Calendar) → unknown_zone_of zones c ≡ None
        → unknown_zone_of (zones ++ more ∷ []) c ≡ None
    by None h = refl
    by (Some calendar) h = is (is_known_zone zones calendar.time_zone)
        (is_known_zone (zones ++ more ∷ []) calendar.time_zone) calendar.time_zone h
        (λ e. ap (λ b. bytes_eq calendar.time_zone (utc) || b)
        (among_more zones calendar.time_zone more)
        ∙ or_left (bytes_eq calendar.time_zone utc) (is_among zones calendar.time_zone)
        (bytes_eq calendar.time_zone more) e)

names_more : (zones : Zones) (z : List ℕ × List ℕ) → names (zones ++ z ∷ []) ≡ names zones ++ z.0
    ∷ []
names_more [] z = refl
names_more (y ∷ ys) z = ap (λ ns. y.0 ∷ ns) (names_more ys z)

each_zone : (zones : List (List ℕ)) (os : List Object) → first_unknown_zone zones os ≡ None
    → AllByRecursion (λ o. unknown_zone_in zones (slo_in o.body) ≡ None) os
each_zone zones [] h = tt
each_zone zones (o ∷ os) h =
    let n = kept.or_none (unknown_zone_in zones (slo_in o.body)) (first_unknown_zone zones os) h in
    (n.0, each_zone zones os n.1)

-- LAWS THAT ARE RESTED ON

pub record Laws : Type 0 where
  pub writable : (text : List ℕ) (documents : List Tree) → StandsFor text documents
      → AllByRecursion IsWritable documents

sound_more : (zones : Zones) (z : List ℕ × List ℕ) (horizon : ℕ) (o : Object)
    → IsSound zones horizon o → IsSound (zones ++ z ∷ []) horizon o
sound_more zones z horizon o s = record {
  unreserved = s.unreserved;
  zone_is_known = subst (λ ns. unknown_zone_in ns (slo_in o.body) ≡ None) (sym (names_more zones z))
      (known_more (names zones) z.0 (slo_in o.body) s.zone_is_known);
  begins_seldom = s.begins_seldom;
  of_document = s.of_document;
}

same_zones : {origin : ℕ} {members : List Object} {zones : Zones} → Keeps origin members zones
    → Keeps origin members (zones ++ [])
same_zones {origin = origin} {members = members} {zones = zones} k =
    subst (Keeps origin members) (sym (append-nil zones)) k

all_sound : (zones : Zones) (horizon : ℕ) (os : List Object)
    → AllByRecursion (λ o. is_reserved o ≡ false) os
    → AllByRecursion (λ o. unknown_zone_in (names zones) (slo_in o.body) ≡ None) os
    → AllByRecursion (λ o. begins_too_often horizon o ≡ false) os
    → AllByRecursion IsOfDocument os → AllByRecursion (IsSound zones horizon) os
all_sound zones horizon [] a b c d = tt
all_sound zones horizon (o ∷ os) a b c d = (
  record {
    unreserved = a.0;
    zone_is_known = b.0;
    begins_seldom = c.0;
    of_document = d.0;
  },
  all_sound zones horizon os a.1 b.1 c.1 d.1,
)

-- what a removal that was accepted says
pub removal_parts : (members : List Object) (rows : List Row) (entries : ℕ) (kind : Kind)
    (name : List ℕ) → Accepted ≡ remove_verdict members rows entries kind name
    → first_referrer members kind name ≡ None
removal_parts members rows entries kind name e = by (remaining_members members kind name) refl e
  where
    by : (r : Result (List Object) RemoveFault) → remaining_members members kind name ≡ r
        → Accepted ≡ unless_removal r (unless_sampled (first_row_of rows kind name)
        (accepted entries)) → first_referrer members kind name ≡ None
    by (Err fault) f g = cc g
    by (Ok left) f g = kept.none_refers members left kind name f

keeps_after : Laws → (origin : ℕ) (h : List Entry) (m : ℕ) (c : Command)
    → Keeps origin (catalog_in h) (zones_in h) → Judges (office origin h) m c Accepted
    → Keeps origin (fold members_after (catalog_in h) (definitions_of c)) (zones_in h ++ zones_of c)
keeps_after laws origin h m (Define text) k v =
    let known : Known = known_of (office origin h) in
    let a = accepted_text known (length h) text Accepted v refl in
    let d = kept.defined_objects known a.is.all a.made.catalog a.is.defined in
    let documents = recursion_from_All IsOfDocument a.is.all (all_of_documents a.is.nodes a.is.all
    (laws.writable text a.is.nodes a.is.stands) a.is.read) in
    let old = k.each in
    let put : a.made.catalog ≡ with_members a.is.all (catalog_in h) = d.members_are in
    let same : a.made.catalog ≡ fold members_after (catalog_in h) (definitions_of (Define text)) =
    (made_of_text known text a.made a.is).catalog_is
    ∙ sym (changes_put (text_objects text) (catalog_in h)) in
    subst (λ ms. Keeps origin ms (zones_in h ++ [])) same (same_zones (record {
      sorted = subst IsSorted (sym put) (kept.put_all_sorted a.is.all (catalog_in h) k.sorted);
      whole = kept.whole_defined known a.is.all a.made.catalog d k.whole.joined.legal;
      each = all_sound (zones_in h) (end_of origin) a.made.catalog
          (subst (AllByRecursion (λ o. is_reserved o ≡ false)) (sym put)
          (kept.all_put_all (λ o. is_reserved o ≡ false) a.is.all (catalog_in h) d.unreserved
          (all_weaker (IsSound (zones_in h) (end_of origin)) (λ o. is_reserved o ≡ false)
          (λ o s. s.unreserved) (catalog_in h) old)))
          (subst (AllByRecursion (λ o. unknown_zone_in (names (zones_in h)) (slo_in o.body) ≡ None))
          (sym put)
          (kept.all_put_all (λ o. unknown_zone_in (names (zones_in h)) (slo_in o.body) ≡ None)
          a.is.all (catalog_in h) (each_zone (names (zones_in h)) a.is.all d.zones)
          (all_weaker (IsSound (zones_in h) (end_of origin))
          (λ o. unknown_zone_in (names (zones_in h)) (slo_in o.body) ≡ None)
          (λ o s. s.zone_is_known) (catalog_in h) old)))
          d.starts
          (subst (AllByRecursion IsOfDocument) (sym put)
          (kept.all_put_all IsOfDocument a.is.all (catalog_in h) documents
          (all_weaker (IsSound (zones_in h) (end_of origin)) IsOfDocument
          (λ o s. s.of_document) (catalog_in h) old)));
      put = k.put;
      own = k.own;
      few_zones = k.few_zones;
    }))
keeps_after laws origin h m (Remove kind name) k v =
    let none = removal_parts (catalog_in h) (current_in h) (length h) kind name v in
    same_zones (record {
      sorted = filter_sorted (λ o. not (is_key kind name o)) (catalog_in h) k.sorted;
      whole = kept.whole_without kind name (catalog_in h) k.whole none;
      each = filter_all (λ o. not (is_key kind name o)) (IsSound (zones_in h) (end_of origin))
          (catalog_in h) k.each;
      put = k.put;
      own = k.own;
      few_zones = k.few_zones;
    })
keeps_after laws origin h m (PutZone name bytes) k v =
    let n = new_zone (zones_in h) (length h) name bytes v in
    record {
      sorted = k.sorted;
      whole = k.whole;
      each = all_weaker (IsSound (zones_in h) (end_of origin))
          (IsSound (zones_in h ++ (name, bytes) ∷ []) (end_of origin))
          (sound_more (zones_in h) (name, bytes) (end_of origin)) (catalog_in h) k.each;
      put = all_joined CanBePut (zones_in h) ((name, bytes) ∷ []) k.put (n.can, tt);
      own = own_more (zones_in h) (name, bytes) k.own n.new;
      few_zones = omega (arith, n.room, length-append (zones_in h) ((name, bytes) ∷ []));
    }
keeps_after laws origin h m (Samples rows) k v = same_zones k
keeps_after laws origin h m (Exclude value) k v = same_zones k
keeps_after laws origin h m (Lift id) k v = same_zones k
keeps_after laws origin h m Tick k v = same_zones k
keeps_after laws origin h m (Take number) k v = same_zones k
keeps_after laws origin h m Upgrade k v = same_zones k

-- What a legal history keeps.
pub legal_keeps : Laws → (origin : ℕ) (h : List Entry) → IsLegal origin h
    → Keeps origin (catalog_in h) (zones_in h)
legal_keeps laws origin _ empty = record {
  sorted = tt;
  whole = record {
    joined = record {
      legal = tt;
      ops = tt;
    };
    within = refl;
  };
  each = tt;
  put = tt;
  own = tt;
  few_zones = omega arith;
}
legal_keeps laws origin _ (followed {h = h} e legal may) =
    subst (λ (p : List Object × Zones). Keeps origin p.0 p.1)
    (λ i. (sym (catalog_more h e) i, sym (zones_more h e) i))
    (keeps_after laws origin h e.moment e.command (legal_keeps laws origin h legal) may.accepted)

-- ROWS

pub record IsOver (origin now : ℕ) (row : Row) : Type 0 where
  pub begun : origin ≤ row.minute
  pub over : row.minute < now

pub record KeepRows (upgraded : Bool) (origin now : ℕ) (came : List Row) : Type 0 where
  pub over : AllByRecursion (IsOver origin now) came
  pub taken : AllByRecursion (λ row. IsTaken upgraded row.amount) came
  pub few_cells : length (current_rows came) ≤ most_cells upgraded

-- what an office takes, it takes behind its upgrade
taken_upgraded : (upgraded : Bool) (amount : Amount) → IsTaken upgraded amount
    → IsTaken true amount
taken_upgraded upgraded (amounts.Counts part total) h = λ n. refl
taken_upgraded upgraded (amounts.Value measured) h = λ n. refl
taken_upgraded upgraded amounts.Withdrawn h = λ n. refl

-- an accepted batch has no row that the office doesn't take
taken_rows : (upgraded : Bool) (origin m : ℕ) (members : List Object) (number : ℕ)
    (rows : List Row) (vs : List RowVerdict) → length vs ≡ length rows
    → first_some (rows_faults upgraded origin m members number rows vs) ≡ None
    → AllByRecursion (λ row. IsTaken upgraded row.amount) rows
taken_rows upgraded origin m members number [] vs each h = tt
taken_rows upgraded origin m members number (row ∷ rows) [] each h = absurd (omega (arith, each))
taken_rows upgraded origin m members number (row ∷ rows) (v ∷ vs) each h =
    let parts = first_parts (row_fault upgraded origin m members row v number)
    (rows_faults upgraded origin m members (number + 1) rows vs) h in (
      (clean_row upgraded origin m members row v number parts.0).taken,
      taken_rows upgraded origin m members (number + 1) rows vs (omega (arith, each)) parts.1,
    )

rows_later : {upgraded : Bool} {origin : ℕ} {came : List Row} (now then : ℕ) → now ≤ then
    → KeepRows upgraded origin now came → KeepRows upgraded origin then (came ++ [])
rows_later {upgraded = upgraded} {origin = origin} {came = came} now then later k =
    subst (KeepRows upgraded origin then) (sym (append-nil came)) (record {
      over = all_weaker (IsOver origin now) (IsOver origin then)
          (λ row o. record { begun = o.begun; over = omega (arith, o.over, later) }) came k.over;
      taken = k.taken;
      few_cells = k.few_cells;
    })

-- the same behind the upgrade
rows_upgraded : (upgraded : Bool) {origin : ℕ} {came : List Row} (now then : ℕ) → now ≤ then
    → KeepRows upgraded origin now came → KeepRows true origin then (came ++ [])
rows_upgraded upgraded {origin = origin} {came = came} now then later k =
    let late = rows_later now then later k in
    record {
      over = late.over;
      taken = all_weaker (λ (row : Row). IsTaken upgraded row.amount)
          (λ (row : Row). IsTaken true row.amount)
          (λ row h. taken_upgraded upgraded row.amount h) (came ++ []) late.taken;
      few_cells = omega (arith, late.few_cells, more_cells upgraded);
    }

rows_after : (origin : ℕ) (h : List Entry) (m : ℕ) (c : Command)
    → present (office origin h) ≤ m
    → KeepRows (is_upgraded h) origin (present (office origin h)) (rows_in h)
    → Judges (office origin h) m c Accepted
    → KeepRows (with_upgrade (is_upgraded h) (is_upgrade c)) origin m (rows_in h ++ rows_of c)
rows_after origin h m (Samples rows) later k v =
    let came = rows_in h in
    let upgraded = is_upgraded h in
    let keeps = accepted_keeps upgraded origin m (catalog_in h) came (length h) rows (sym v) in
    let good = good_rows upgraded origin m (catalog_in h) 1 rows (verdicts came rows)
    (verdicts_each came rows) keeps.clean in
    record {
      over = all_joined (IsOver origin m) came rows
          (all_weaker (IsOver origin (present (office origin h))) (IsOver origin m)
          (λ row o. record { begun = o.begun; over = omega (arith, o.over, later) }) came k.over)
          (all_weaker (IsGood origin m (catalog_in h)) (IsOver origin m)
          (λ row g. record { begun = g.begun; over = g.over }) rows good);
      taken = all_joined (λ (row : Row). IsTaken upgraded row.amount) came rows k.taken
          (taken_rows upgraded origin m (catalog_in h) 1 rows (verdicts came rows)
          (verdicts_each came rows) keeps.clean);
      few_cells = keeps.cells;
    }
rows_after origin h m (Define text) later k v = rows_later (present (office origin h)) m later k
rows_after origin h m (Remove kind name) later k v =
    rows_later (present (office origin h)) m later k
rows_after origin h m (PutZone name bytes) later k v =
    rows_later (present (office origin h)) m later k
rows_after origin h m (Exclude value) later k v = rows_later (present (office origin h)) m later k
rows_after origin h m (Lift id) later k v = rows_later (present (office origin h)) m later k
rows_after origin h m Tick later k v = rows_later (present (office origin h)) m later k
rows_after origin h m (Take number) later k v = rows_later (present (office origin h)) m later k
rows_after origin h m Upgrade later k v =
    rows_upgraded (is_upgraded h) (present (office origin h)) m later k

pub legal_rows : (origin : ℕ) (h : List Entry) → IsLegal origin h
    → KeepRows (is_upgraded h) origin (present (office origin h)) (rows_in h)
legal_rows origin _ empty = record { over = tt; taken = tt; few_cells = omega arith }
legal_rows origin _ (followed {h = h} e legal may) =
    subst (λ (p : Bool × ℕ × List Row). KeepRows p.0 origin p.1 p.2)
    (λ i. (sym (version_more h e) i, now i, sym (rows_more h e) i))
    (rows_after origin h e.moment e.command may.later (legal_rows origin h legal) may.accepted)
  where
    greatest : (a b : ℕ) → a ≤ b → b ≡ max a b
    greatest a b l = grind (arith, nat_tests, l)

    now : e.moment ≡ present (office origin (h ++ e ∷ []))
    now = greatest (present (office origin h)) e.moment may.later
        ∙ sym (present_more (office origin h) e)
