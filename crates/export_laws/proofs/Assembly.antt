-- Zones, objects and rows together.
use Rattle.std.proofs.Common.{◌≡◌, ℕ, zero, suc, ◌+◌, ◌*◌, ◌<◌, ◌≤◌, Bool, true, false, ◌||◌, List}
use Rattle.std.proofs.Common.{[], ◌∷◌}
use Rattle.std.proofs.Common.{◌++◌, map, refl, sym, ap, ◌∙◌, subst, length, None, Ok, arith, cond}
use Rattle.std.proofs.Common.{Ordering, Less, Equal, Greater, nat_cmp, bytes_eq, Contains, Option}
use Rattle.std.proofs.Common.{Some}
use Rattle.std.proofs.Common.{length-append, inl, inr, filter, nat_lt}
use Rattle.std.proofs.lemmas.List.{length-map}
use Rattle.std.proofs.lemmas.Bool.{ltb-false}
use Rattle.object_terms.specs.declared.Kind.{Kind}
use Rattle.catalog_terms.specs.declared.CatalogLimit.{CatalogLimit}
use Rattle.catalog_terms.specs.Keys.{is_kind}
use Rattle.catalog_terms.specs.Limits.{first_limit, else_within}
use Rattle.export_terms.specs.Moves.{of_kind}
use Rattle.std.specs.List.{AllByRecursion}
use Rattle.std.specs.Ordering.{match_ordering}
use Rattle.std.specs.Cmp.Lexicographic.{slice_cmp}
use Rattle.slo_limits.specs.declared.TheConstants as most
use Rattle.sample_book.specs.declared.Row.{Row}
use Rattle.sample_book.specs.Rows.{current_rows, same_cell}
use Rattle.slo_terms.proofs.CurrentLemmas.{current-distinct, current-current}
use Rattle.sample_book.proofs.StandingLemmas.{cell_laws}
use Rattle.yaml_terms.specs.Tree.{Tree}
use Rattle.yaml_terms.specs.Spelling.{meant, writing}
use Rattle.yaml_terms.specs.Text.{StandsFor}
use Rattle.yaml_terms.specs.SpellingFits.{IsWritable}
use Rattle.object_terms.specs.declared.Object.{Object}
use Rattle.object_terms.specs.declared.Calendar.{Calendar}
use Rattle.object_terms.specs.declared.Slo.{Slo}
use Rattle.object_terms.specs.Document.{IsOfDocument, objects_of, written}
use Rattle.object_terms.specs.Slo.{slo_in}
use Rattle.object_laws.specs.Kinds.{kind_of}
use Rattle.record_form.specs.declared.Command.{Command}
use Rattle.record_form.specs.declared.Command.TheVariants.{Samples, Upgrade}
use Rattle.record_form.specs.declared.Entry.{Entry}
use Rattle.office_history.specs.KnownZones.{unknown_zone_in, unknown_zone_of, is_among}
use Rattle.office_derived.specs.Derived.{RowIsRead}
use Rattle.office_history.specs.Catalog.{catalog_in}
use Rattle.office_history.specs.History.{Office, current_in, end_of, present, rows_in}
use Rattle.office_history.specs.Legal.{IsLegal, office}
use Rattle.office_history.specs.Versions.{is_upgraded}
use Rattle.office_history.specs.Zones.{utc, zones_in, bytes_named}
use Rattle.export_terms.specs.Zones.{HaveOwnNames}
use Rattle.office_derived.proofs.Sound.{more_cells}
use Rattle.sample_changes.proofs.GoodRows.{IsTaken}
use Rattle.sample_changes.proofs.Kept.{all_current}
use Rattle.history_laws.specs.Kept.{CurrentRowsAreRead, DaysAreFew}
use Rattle.export_terms.specs.Zones.{with_zone, zones_by_name}
use Rattle.export_terms.specs.Moves.{zone_move, definition, in_order}
use Rattle.export_terms.specs.Moves.{export_kinds, upgrades}
use Rattle.export_terms.specs.Parts.{in_thousands}
use Rattle.export_laws.specs.Replay.{after_all, AreAccepted}
use Rattle.export_laws.specs.Sendable.{CanStand, CanBeSent, IsReadBack}
use Rattle.export_laws.specs.Anew.{first_moves, AreSmall, AreReadings, IsMadeAnew, MovesMakeAnew}
use Rattle.export_laws.proofs.Parts.{Among, all_among, all_weaker, but, all_out}
use Rattle.export_laws.proofs.Ranks.{order_is, order_has, order_members}
use Rattle.export_laws.proofs.Objects.{all_with}
use Rattle.export_laws.proofs.Steps.{Stands, joined_accepted, joined_after, may_follow}
use Rattle.export_laws.proofs.Steps.{stands_after}
use Rattle.export_laws.proofs.Definitions.{definitions_accepted, room_for_one}
use Rattle.export_terms.proofs.ZoneLemmas.{all_by_name}
use Rattle.export_laws.proofs.ZoneMoves.{zones_accepted, own_by_name, length_by_name}
use Rattle.export_laws.proofs.ZoneMoves.{bytes_by_name}
use Rattle.export_laws.proofs.RowMoves.{CanCome, rows_accepted, few_parts}
use Rattle.export_laws.proofs.Histories.{Zones, names, IsSound, IsOver, legal_keeps}
use Rattle.export_laws.proofs.Histories.{legal_rows}

-- what is rested on
pub record Laws : Type 0 where
  pub writable : (text : List ℕ) (documents : List Tree) → StandsFor text documents
      → AllByRecursion IsWritable documents
  pub kinds : (o : Object) → IsOfDocument o → kind_of o.body ≡ o.kind
  pub written_stands : (t : Tree) (os : List Object) → IsWritable t → objects_of t ≡ Ok os
      → AllByRecursion (λ o. length (writing 0 (written o)) ≤ most.MAX_TEXT_BYTES
      → StandsFor (writing 0 (written o)) (meant (written o) ∷ [])) os
  pub reads_back : (t : Tree) (os : List Object) → objects_of t ≡ Ok os
      → AllByRecursion (λ o. objects_of (meant (written o)) ≡ Ok (o ∷ [])) os
  pub rows_are_read : CurrentRowsAreRead
  pub days_are_few : DaysAreFew

among_of : {X : Type 0} (xs : List X) (x : X) → Contains xs x → Among xs x
among_of [] x (k, below, same) = absurd (omega arith)
among_of (y ∷ ys) x (zero, below, same) = inl same
among_of (y ∷ ys) x (suc k, below, same) = inr (among_of ys x (k, omega arith, same))

read_back : Laws → (o : Object) → IsOfDocument o
    → length (writing 0 (written o)) ≤ most.MAX_TEXT_BYTES → IsReadBack o
read_back laws o d small = record {
  stands = all_among (λ o. length (writing 0 (written o)) ≤ most.MAX_TEXT_BYTES
      → StandsFor (writing 0 (written o)) (meant (written o) ∷ [])) d.objects o
      (laws.written_stands d.node d.objects d.can_be_written d.are_read)
      (among_of d.objects o d.is_among) small;
  alone = all_among (λ o. objects_of (meant (written o)) ≡ Ok (o ∷ [])) d.objects o
      (laws.reads_back d.node d.objects d.are_read) (among_of d.objects o d.is_among);
}

-- a name is among the zones by name where it is among them
swap : (a b c : Bool) → (a || (b || c)) ≡ (b || (a || c))
swap true true c = refl
swap true false c = refl
swap false b c = refl

among_put : (name : List ℕ) (z : List ℕ × List ℕ) (zs : Zones)
    → is_among (names (with_zone z zs)) name ≡ (bytes_eq name z.0 || is_among (names zs) name)
among_put name z [] = refl
among_put name z (y ∷ ys) = by (slice_cmp nat_cmp z.0 y.0) (among_put name z ys)
  where
    by : (r : Ordering)
        → is_among (names (with_zone z ys)) name ≡ (bytes_eq name z.0 || is_among (names ys) name)
        → is_among (names (match_ordering r (z ∷ y ∷ ys) (z ∷ y ∷ ys) (y ∷ with_zone z ys))) name
        ≡ (bytes_eq name z.0 || (bytes_eq name y.0 || is_among (names ys) name))
    by Less more = refl
    by Equal more = refl
    by Greater more = ap (λ b. bytes_eq name y.0 || b) more
        ∙ swap (bytes_eq name y.0) (bytes_eq name z.0) (is_among (names ys) name)

among_by_name : (name : List ℕ) (zs : Zones)
    → is_among (names (zones_by_name zs)) name ≡ is_among (names zs) name
among_by_name name [] = refl
among_by_name name (z ∷ zs) = among_put name z (zones_by_name zs)
    ∙ ap (λ b. bytes_eq name z.0 || b) (among_by_name name zs)

known_by_name : (zs : Zones) (s : Option Slo)
    → unknown_zone_in (names (zones_by_name zs)) s ≡ unknown_zone_in (names zs) s
known_by_name zs None = refl
known_by_name zs (Some slo) = by slo.time_window.calendar
  where
    by : (c : Option Calendar)
        → unknown_zone_of (names (zones_by_name zs)) c ≡ unknown_zone_of (names zs) c
    by None = refl
    by (Some calendar) = ap (λ b. cond (bytes_eq calendar.time_zone utc || b) None
        (Some calendar.time_zone)) (among_by_name calendar.time_zone zs)

-- a legal history's catalog can be sent
can_be_sent : Laws → (origin : ℕ) (h : List Entry) → IsLegal origin h → AreSmall h
    → CanBeSent (catalog_in h) (names (zones_by_name (zones_in h))) (end_of origin)
can_be_sent laws origin h legal small =
    let k = legal_keeps (record { writable = laws.writable }) origin h legal in
    record {
      sorted = k.sorted;
      whole = k.whole;
      each = all_weaker (IsSound (zones_in h) (end_of origin))
          (CanStand (names (zones_by_name (zones_in h))) (end_of origin))
          (λ o s. record {
            kind_is = laws.kinds o s.of_document;
            unreserved = s.unreserved;
            zone_is_known = known_by_name (zones_in h) (slo_in o.body) ∙ s.zone_is_known;
            begins_seldom = s.begins_seldom;
          }) (catalog_in h) k.each;
      read_back = all_with (IsSound (zones_in h) (end_of origin))
          (λ o. length (writing 0 (written o)) ≤ most.MAX_TEXT_BYTES) IsReadBack
          (λ o s few. read_back laws o s.of_document few) (catalog_in h) k.each small;
    }

can_come : Laws → (origin : ℕ) (h : List Entry) → IsLegal origin h
    → AllByRecursion (CanCome (is_upgraded h) origin (present (office origin h)) (catalog_in h))
    (current_in h)
can_come laws origin h legal =
    let k = legal_rows origin h legal in
    let over = all_current (IsOver origin (present (office origin h))) [] (rows_in h) tt k.over in
    let taken =
    all_current (λ (row : Row). IsTaken (is_upgraded h) row.amount) [] (rows_in h) tt k.taken in
    all_with (RowIsRead (catalog_in h))
    (λ row. IsOver origin (present (office origin h)) row × IsTaken (is_upgraded h) row.amount)
    (CanCome (is_upgraded h) origin (present (office origin h)) (catalog_in h))
    (λ row r o. record { read = r; taken = o.1; begun = o.0.begun; over = o.0.over }) (current_in h)
    (laws.rows_are_read origin h legal)
    (both (IsOver origin (present (office origin h)))
    (λ (row : Row). IsTaken (is_upgraded h) row.amount) (current_in h) over taken)
  where
    both : (P Q : Row → Type 0) (rows : List Row) → AllByRecursion P rows → AllByRecursion Q rows
        → AllByRecursion (λ row. P row × Q row) rows
    both P Q [] p q = tt
    both P Q (row ∷ rows) p q = ((p.0, q.0), both P Q rows p.1 q.1)

-- HOW MANY

at_most : (most count : ℕ) (limit : CatalogLimit) (rest : Option CatalogLimit)
    → else_within most count limit rest ≡ None → count ≤ most
at_most most count limit rest e = by (nat_lt most count) refl e
  where
    by : (b : Bool) → nat_lt most count ≡ b → cond b (Some limit) rest ≡ None → count ≤ most
    by true f g = cc g
    by false f g = ltb-false most count f

fewer : {A : Type 0} (p : A → Bool) (xs : List A) → length (filter p xs) ≤ length xs
fewer p [] = omega arith
fewer p (x ∷ xs) = by (p x) (fewer p xs)
  where
    by : (b : Bool) → length (filter p xs) ≤ length xs
        → length (cond b (x ∷ filter p xs) (filter p xs)) ≤ length (x ∷ xs)
    by true h = omega (arith, h)
    by false h = omega (arith, h)

few_in_order : (os : List Object) (ks : List Kind) → length os ≤ 2000
    → length (in_order os ks) ≤ 2000 * length ks
few_in_order os [] h = omega arith
few_in_order os (k ∷ ks) h = omega (
  arith,
  length-append (of_kind os k) (in_order os ks),
  fewer (λ (o : Object). is_kind o.kind k) os,
  few_in_order os ks h,
  h,
)

pub few_objects : (os : List Object) → first_limit os ≡ None
    → length (in_order os export_kinds) ≤ 14000
few_objects os h = let few = at_most most.MAX_OBJECTS (length os) _ _ h in
    few_in_order os export_kinds few

-- READINGS

pub record Split (n m : ℕ) (rs : List ℕ) : Type 0 where
  pub front : List ℕ
  pub back : List ℕ
  pub is : front ++ back ≡ rs
  pub first : length front ≡ n
  pub second : length back ≡ m

pub split : (n m : ℕ) (rs : List ℕ) → length rs ≡ n + m → Split n m rs
split zero m rs h = record {
  front = [];
  back = rs;
  is = refl;
  first = refl;
  second = omega (arith, h);
}
split (suc n) m [] h = absurd (omega (arith, h))
split (suc n) m (r ∷ rs) h = let s = split n m rs (omega (arith, h)) in
    record {
      front = r ∷ s.front;
      back = s.back;
      is = ap (λ xs. r ∷ xs) s.is;
      first = ap suc s.first;
      second = s.second;
    }

pub all_front : (P : ℕ → Type 0) (xs ys : List ℕ) → AllByRecursion P (xs ++ ys)
    → AllByRecursion P xs
all_front P [] ys h = tt
all_front P (x ∷ xs) ys h = (h.0, all_front P xs ys h.1)

pub all_back : (P : ℕ → Type 0) (xs ys : List ℕ) → AllByRecursion P (xs ++ ys) → AllByRecursion P ys
all_back P [] ys h = h
all_back P (x ∷ xs) ys h = all_back P xs ys h.1

-- TOGETHER

-- the moves of zones, objects and rows
abbrev rest_moves : List Entry → List Command
rest_moves h = map zone_move (zones_by_name (zones_in h))
    ++ (map definition (in_order (catalog_in h) export_kinds)
    ++ map Samples (in_thousands (current_in h)))

new_office : (origin : ℕ) → Stands origin false [] [] [] [] 0 (office origin [])
new_office origin = record {
  origin_is = refl;
  version_is = refl;
  catalog_is = refl;
  zones_are = refl;
  rows_are = refl;
  changes_are = refl;
  counted = refl;
  in_range = omega arith;
}

-- the upgrade is accepted by an empty office
upgrade_accepted : (origin : ℕ) (upgraded : Bool) (readings : List ℕ)
    → length readings ≡ length (upgrades upgraded)
    → AllByRecursion (λ r. r < end_of origin) readings
    → AreAccepted (office origin []) (upgrades upgraded) readings
    × Stands origin upgraded [] [] [] [] (length (upgrades upgraded))
    (after_all (office origin []) (upgrades upgraded) readings)
upgrade_accepted origin false [] as_many below = (tt, new_office origin)
upgrade_accepted origin false (r ∷ rs) as_many below = absurd (omega (arith, as_many))
upgrade_accepted origin true [] as_many below = absurd (omega (arith, as_many))
upgrade_accepted origin true (r ∷ []) as_many below = (
  (
    may_follow (office origin []) origin r Upgrade refl (new_office origin).in_range below.0
        (sym (room_for_one 0 (omega arith))),
    tt,
  ),
  stands_after origin false [] [] [] [] 0 (office origin []) r Upgrade (new_office origin) below.0,
)
upgrade_accepted origin true (r ∷ q ∷ rs) as_many below = absurd (omega (arith, as_many))

pub few_upgrades : (upgraded : Bool) → length (upgrades upgraded) ≤ 1
few_upgrades true = omega arith
few_upgrades false = omega arith

is_anew : (origin : ℕ) (h : List Entry) (entries : ℕ) (new : Office) → HaveOwnNames (zones_in h)
    → Stands origin (is_upgraded h) (catalog_in h) (zones_by_name (zones_in h)) (current_in h) []
    entries new
    → entries ≡ length (first_moves h) → IsMadeAnew origin h new
is_anew origin h entries new own s counted = record {
  origin_is = s.origin_is;
  version = s.version_is;
  catalog = s.catalog_is;
  zones = s.zones_are;
  bytes = λ name. ap (λ zs. bytes_named zs name) s.zones_are ∙ bytes_by_name name (zones_in h) own;
  rows = ap current_rows s.rows_are
      ∙ current-current same_cell (λ (row : Row). row.revision) cell_laws (rows_in h);
  came = s.rows_are;
  no_changes = s.changes_are;
  entries = s.counted ∙ counted;
  now = s.in_range;
}

-- zones, objects and rows that come to an office that has none
rest_made : Laws → (origin : ℕ) (h : List Entry) (o : Office) (entries : ℕ) (readings : List ℕ)
    → IsLegal origin h → AreSmall h → entries ≤ 1
    → Stands origin (is_upgraded h) [] [] [] [] entries o
    → AreReadings origin h (length (rest_moves h)) readings
    → AreAccepted o (rest_moves h) readings
    × Stands origin (is_upgraded h) (catalog_in h) (zones_by_name (zones_in h)) (current_in h) []
    (length (rest_moves h) + entries) (after_all o (rest_moves h) readings)
rest_made laws origin h o entries readings legal small one start at =
    let upgraded : Bool = is_upgraded h in
    let members : List Object = catalog_in h in
    let zs : Zones = zones_by_name (zones_in h) in
    let os : List Object = in_order members export_kinds in
    let rows : List Row = current_in h in
    let now : ℕ = present (office origin h) in
    let kept = legal_keeps (record { writable = laws.writable }) origin h legal in
    let can = can_be_sent laws origin h legal small in
    let batches : List (List Row) = in_thousands rows in
    let counted : length (rest_moves h) ≡ length zs + (length os + length batches) =
    length-append (map zone_move zs) (map definition os ++ map Samples batches)
    ∙ (λ i. length-map zs zone_move i + length-append (map definition os) (map Samples batches) i)
    ∙ (λ i. length zs + (length-map os definition i + length-map batches Samples i)) in
    let a = split (length zs) (length os + length batches) readings (at.as_many ∙ counted) in
    let b = split (length os) (length batches) a.back a.second in
    let late : AllByRecursion (λ r. now ≤ r) (a.front ++ a.back) =
    subst (AllByRecursion (λ r. now ≤ r)) (sym a.is) at.later in
    let below : AllByRecursion (λ r. r < end_of origin) (a.front ++ a.back) =
    subst (AllByRecursion (λ r. r < end_of origin)) (sym a.is) at.in_range in
    let below_rest : AllByRecursion (λ r. r < end_of origin) (b.front ++ b.back) =
    subst (AllByRecursion (λ r. r < end_of origin)) (sym b.is)
    (all_back (λ r. r < end_of origin) a.front a.back below) in
    let late_rest : AllByRecursion (λ r. now ≤ r) (b.front ++ b.back) =
    subst (AllByRecursion (λ r. now ≤ r)) (sym b.is) (all_back (λ r. now ≤ r) a.front a.back late)
    in
    let few_zones = length_by_name (zones_in h) in
    let few = few_objects members kept.whole.within in
    let cells = (legal_rows origin h legal).few_cells in
    let parts = few_parts (length rows) 1000 rows in
    let z = zones_accepted origin upgraded [] [] [] o [] zs a.front entries start
    (all_by_name _ (zones_in h) kept.put) (own_by_name (zones_in h) kept.own)
    (omega (arith, few_zones, kept.few_zones)) (omega (arith, few_zones, kept.few_zones, one))
    a.first
    (all_front (λ r. r < end_of origin) a.front a.back below) in
    let none : but os members ≡ [] = all_out os members (order_has members) in
    let d = definitions_accepted members (names zs) (end_of origin) can origin upgraded zs [] refl
    refl
    (after_all o (map zone_move zs) a.front) os b.front (length zs + entries)
    (subst (λ (ms : List Object). Stands origin upgraded ms zs [] [] (length zs + entries)
    (after_all o (map zone_move zs) a.front)) (sym none) z.1)
    (order_members members export_kinds) (order_is members kept.sorted)
    (omega (arith, few_zones, kept.few_zones, few, one)) b.first
    (all_front (λ r. r < end_of origin) b.front b.back below_rest) in
    let r = rows_accepted origin now upgraded members zs []
    (after_all (after_all o (map zone_move zs) a.front) (map definition os) b.front)
    [] rows (length rows) 999 b.back (length os + (length zs + entries)) d.1
    (current-distinct same_cell (λ (row : Row). row.revision) cell_laws (rows_in h))
    (can_come laws origin h legal) cells
    (laws.days_are_few origin h legal) (omega arith) (omega arith)
    (omega (arith, few_zones, kept.few_zones, few, parts, cells, more_cells upgraded, one)) b.second
    (all_back (λ r. now ≤ r) b.front b.back late_rest)
    (all_back (λ r. r < end_of origin) b.front b.back below_rest) in
    let o1 : Office = after_all o (map zone_move zs) a.front in
    let whole : a.front ++ (b.front ++ b.back) ≡ readings = ap (λ xs. a.front ++ xs) b.is ∙ a.is in
    let accepted : AreAccepted o (rest_moves h) (a.front ++ (b.front ++ b.back)) =
    joined_accepted o (map zone_move zs) (map definition os ++ map Samples batches)
    a.front (b.front ++ b.back) z.0
    (joined_accepted o1 (map definition os) (map Samples batches) b.front b.back d.0 r.0) in
    let last : after_all o (rest_moves h) (a.front ++ (b.front ++ b.back))
    ≡ after_all (after_all o1 (map definition os) b.front) (map Samples batches) b.back =
    joined_after o (map zone_move zs) (map definition os ++ map Samples batches)
    a.front (b.front ++ b.back) z.0
    ∙ joined_after o1 (map definition os) (map Samples batches) b.front b.back d.0 in
    let all : length batches + (length os + (length zs + entries))
    ≡ length (rest_moves h) + entries =
    omega (arith, counted) in
    let there : Stands origin upgraded members zs rows [] (length (rest_moves h) + entries)
    (after_all o (rest_moves h) (a.front ++ (b.front ++ b.back))) =
    subst (λ (p : ℕ × Office). Stands origin upgraded members zs rows [] p.0 p.1)
    (λ i. (all i, sym last i)) r.1 in
    subst (λ (rs : List ℕ). AreAccepted o (rest_moves h) rs
    × Stands origin upgraded members zs rows [] (length (rest_moves h) + entries)
    (after_all o (rest_moves h) rs)) whole (accepted, there)

pub made_anew : Laws → MovesMakeAnew
made_anew laws origin h readings legal small at =
    let upgraded : Bool = is_upgraded h in
    let now : ℕ = present (office origin h) in
    let kept = legal_keeps (record { writable = laws.writable }) origin h legal in
    let ups : List Command = upgrades upgraded in
    let count : length (first_moves h) ≡ length ups + length (rest_moves h) =
    length-append ups (rest_moves h) in
    let a = split (length ups) (length (rest_moves h)) readings (at.as_many ∙ count) in
    let late : AllByRecursion (λ r. now ≤ r) (a.front ++ a.back) =
    subst (AllByRecursion (λ r. now ≤ r)) (sym a.is) at.later in
    let below : AllByRecursion (λ r. r < end_of origin) (a.front ++ a.back) =
    subst (AllByRecursion (λ r. r < end_of origin)) (sym a.is) at.in_range in
    let u = upgrade_accepted origin upgraded a.front a.first
    (all_front (λ r. r < end_of origin) a.front a.back below) in
    let mid : Office = after_all (office origin []) ups a.front in
    let r = rest_made laws origin h mid (length ups) a.back legal small (few_upgrades upgraded) u.1
    (record {
      as_many = a.second;
      later = all_back (λ r. now ≤ r) a.front a.back late;
      in_range = all_back (λ r. r < end_of origin) a.front a.back below;
    }) in
    let accepted : AreAccepted (office origin []) (first_moves h) (a.front ++ a.back) =
    joined_accepted (office origin []) ups (rest_moves h) a.front a.back u.0 r.0 in
    let last : after_all (office origin []) (first_moves h) (a.front ++ a.back)
    ≡ after_all mid (rest_moves h) a.back =
    joined_after (office origin []) ups (rest_moves h) a.front a.back u.0 in
    let all : length (rest_moves h) + length ups ≡ length (first_moves h) = omega (arith, count) in
    subst (λ (rs : List ℕ). AreAccepted (office origin []) (first_moves h) rs
    × IsMadeAnew origin h (after_all (office origin []) (first_moves h) rs)) a.is (
      accepted,
      subst (IsMadeAnew origin h) (sym last)
          (is_anew origin h (length (rest_moves h) + length ups)
          (after_all mid (rest_moves h) a.back) kept.own r.1 all),
    )
