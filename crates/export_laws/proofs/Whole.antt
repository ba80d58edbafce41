-- All moves together.
use Rattle.std.proofs.Common.{◌≡◌, ℕ, ◌+◌, ◌<◌, ◌≤◌, List, [], ◌∷◌, ◌++◌, map, refl}
use Rattle.std.proofs.Common.{sym, ap, ◌∙◌, subst, length, arith, append_assoc, length-append}
use Rattle.std.proofs.Common.{flat_map, true, Bool}
use Rattle.std.specs.List.{AllByRecursion}
use Rattle.std.proofs.lemmas.List.{length-map}
use Rattle.slo_limits.specs.declared.TheConstants as most
use Rattle.sample_book.specs.declared.Exclusion.{Exclusion}
use Rattle.sample_book.specs.declared.Row.{Row}
use Rattle.sample_book.specs.History.{exclusions_of}
use Rattle.object_terms.specs.declared.Object.{Object}
use Rattle.record_form.specs.declared.Command.{Command}
use Rattle.record_form.specs.declared.Command.TheVariants.{Samples}
use Rattle.record_form.specs.declared.Entry.{Entry}
use Rattle.office_history.specs.declared.Judgement.{Judgement}
use Rattle.office_history.specs.declared.Judgement.TheVariants.{Accepted}
use Rattle.office_history.specs.Catalog.{catalog_in}
use Rattle.office_history.specs.History.{Office, changes_in, current_in, end_of, exclusions_in}
use Rattle.office_history.specs.History.{moment_of, present}
use Rattle.office_history.specs.Legal.{IsLegal, MayFollow, empty, followed, office}
use Rattle.office_history.specs.Verdicts.{is_range}
use Rattle.sample_book.specs.Exclusions.{HaveOwnIds}
use Rattle.sample_book.specs.Rows.{current_rows}
use Rattle.office_history.specs.Versions.{is_upgraded}
use Rattle.office_history.specs.Zones.{zones_in, bytes_named}
use Rattle.office_derived.proofs.Sound.{more_cells}
use Rattle.history_laws.specs.Judged.{OneJudgement}
use Rattle.export_terms.specs.Moves.{moves, exclusion_moves, of_members, zone_move}
use Rattle.export_terms.specs.Zones.{zones_by_name}
use Rattle.export_terms.specs.Moves.{definition, in_order, export_kinds, upgrades}
use Rattle.export_terms.specs.Parts.{in_thousands}
use Rattle.sample_book.proofs.ExclusionLemmas as book
use Rattle.export_laws.specs.Replay.{after, after_all, AreAccepted, Replays, IsEqualOffice}
use Rattle.export_laws.specs.Replay.{entry_at}
use Rattle.export_laws.specs.Replay.{by_judgement}
use Rattle.export_laws.specs.Anew.{first_moves, AreSmall, AreReadings, IsMadeAnew}
use Rattle.export_laws.specs.Anew.{MovesMakeEqual}
use Rattle.export_laws.proofs.Steps.{joined_accepted, joined_after}
use Rattle.export_laws.proofs.RowMoves.{few_parts}
use Rattle.export_laws.proofs.ZoneMoves.{length_by_name}
use Rattle.export_laws.proofs.Histories as histories
use Rattle.export_laws.proofs.Exclusions.{Made, StandsMade, exclusions_accepted}
use Rattle.export_laws.proofs.Exclusions.{can_be_made, own_members, few_members, few_moves, says}
use Rattle.export_laws.proofs.Exclusions.{legal_exclusions}
use Rattle.export_laws.proofs.Assembly.{Laws, split, all_front, all_back, made_anew}
use Rattle.export_laws.proofs.Assembly.{few_objects, few_upgrades}

-- the moves are the first ones and those of the exclusions
moves_are : (h : List Entry) (origin : ℕ) → moves (office origin h) ≡ first_moves h
    ++ flat_map exclusion_moves (of_members (catalog_in h) (exclusions_in h))
moves_are h origin =
    let us : List Command = upgrades (is_upgraded h) in
    let zs : List Command = map zone_move (zones_by_name (zones_in h)) in
    let os : List Command = map definition (in_order (catalog_in h) export_kinds) in
    let rs : List Command = map Samples (in_thousands (current_in h)) in
    let es : List Command =
    flat_map exclusion_moves (of_members (catalog_in h) (exclusions_in h)) in
    sym (append_assoc us (zs ++ (os ++ rs)) es
    ∙ ap (λ cs. us ++ cs) (append_assoc zs (os ++ rs) es
    ∙ ap (λ cs. zs ++ cs) (append_assoc os rs es)))

few_first : Laws → (origin : ℕ) (h : List Entry) → IsLegal origin h
    → length (first_moves h) ≤ 1 + (50 + (14000 + 4000000))
few_first laws origin h legal =
    let us = upgrades (is_upgraded h) in
    let zs = zones_by_name (zones_in h) in
    let os = in_order (catalog_in h) export_kinds in
    let batches : List (List Row) = in_thousands (current_in h) in
    let kept = histories.legal_keeps (record { writable = laws.writable }) origin h legal in
    omega (
      arith,
      length-append us (map zone_move zs ++ (map definition os ++ map Samples batches)),
      few_upgrades (is_upgraded h),
      length-append (map zone_move zs) (map definition os ++ map Samples batches),
      length-append (map definition os) (map Samples batches),
      length-map zs zone_move,
      length-map os definition,
      length-map {B = Command} batches Samples,
      length_by_name (zones_in h),
      kept.few_zones,
      few_objects (catalog_in h) kept.whole.within,
      few_parts (length (current_in h)) 1000 (current_in h),
      (histories.legal_rows origin h legal).few_cells,
      more_cells (is_upgraded h),
    )

pub record AreAllMade (origin : ℕ) (h : List Entry) (readings : List ℕ) : Type 0 where
  pub accepted : AreAccepted (office origin []) (moves (office origin h)) readings
  pub equal : IsEqualOffice (office origin h)
      (after_all (office origin []) (moves (office origin h)) readings)
  pub entries : length (after_all (office origin []) (moves (office origin h)) readings).history
      ≡ length (moves (office origin h))

equal_office : (origin : ℕ) (h : List Entry) (mid last : Office) (made : Made) (entries : ℕ)
    → IsMadeAnew origin h mid → made ≡ of_members (catalog_in h) (exclusions_in h)
    → StandsMade origin (is_upgraded h) (catalog_in h) (zones_by_name (zones_in h)) (current_in h)
    made entries last
    → IsEqualOffice (office origin h) last
equal_office origin h mid last made entries m same s = record {
  origin = s.stands.origin_is;
  version = s.stands.version_is;
  catalog = s.stands.catalog_is;
  zones = s.stands.zones_are;
  bytes = λ name. ap (λ zs. bytes_named zs name) (s.stands.zones_are ∙ sym m.zones) ∙ m.bytes name;
  rows = ap current_rows (s.stands.rows_are ∙ sym m.came) ∙ m.rows;
  came = s.stands.rows_are;
  exclusions = ap exclusions_of s.stands.changes_are ∙ says s.changes made s.is_made ∙ same;
}

pub all_made : Laws → (origin : ℕ) (h : List Entry) (readings : List ℕ) → IsLegal origin h
    → AreSmall h → AreReadings origin h (length (moves (office origin h))) readings
    → AreAllMade origin h readings
all_made laws origin h readings legal small at =
    let members : List Object = catalog_in h in
    let keep = legal_exclusions origin h legal in
    let sent : Made = of_members members (exclusions_in h) in
    let more : List Command = flat_map exclusion_moves sent in
    let count : length (moves (office origin h)) ≡ length (first_moves h) + length more =
    ap length (moves_are h origin) ∙ length-append (first_moves h) more in
    let a = split (length (first_moves h)) (length more) readings (at.as_many ∙ count) in
    let below : AllByRecursion (λ r. r < end_of origin) (a.front ++ a.back) =
    subst (AllByRecursion (λ r. r < end_of origin)) (sym a.is) at.in_range in
    let late : AllByRecursion (λ r. present (office origin h) ≤ r) (a.front ++ a.back) =
    subst (AllByRecursion (λ r. present (office origin h) ≤ r)) (sym a.is) at.later in
    let first = made_anew laws origin h a.front legal small (record {
      as_many = a.first;
      later = all_front (λ r. present (office origin h) ≤ r) a.front a.back late;
      in_range = all_front (λ r. r < end_of origin) a.front a.back below;
    }) in
    let mid : Office = after_all (office origin []) (first_moves h) a.front in
    let m : IsMadeAnew origin h mid = first.1 in
    let made_is : exclusions_in h ≡ keep.made = says (changes_in h) keep.made keep.is_made in
    let few : length sent ≤ 2000 =
    subst (λ (made : Made). length (of_members members made) ≤ 2000) (sym made_is)
    (let f = few_members members keep.made in omega (arith, f, keep.few)) in
    let room : length more + length (first_moves h) ≤ most.MAX_ENTRIES =
    (let f = few_moves sent in let g = few_first laws origin h legal in
    omega (arith, f, g, few)) in
    let e = exclusions_accepted origin (is_upgraded h) members (zones_by_name (zones_in h))
    (current_in h) mid []
    sent a.back (length (first_moves h)) (record {
      changes = [];
      stands = record {
        origin_is = m.origin_is;
        version_is = m.version;
        catalog_is = m.catalog;
        zones_are = m.zones;
        rows_are = m.came;
        changes_are = m.no_changes;
        counted = m.entries;
        in_range = m.now;
      };
      is_made = book.none;
    }) (own_members members (exclusions_in h)
    (subst HaveOwnIds (sym made_is) keep.own))
    (can_be_made origin members (exclusions_in h) (subst (AllByRecursion
    (λ (kept : Exclusion × Bool). is_range origin kept.0 ≡ true)) (sym made_is) keep.ranges))
    few room a.second (all_back (λ r. r < end_of origin) a.front a.back below) in
    let last : Office = after_all mid more a.back in
    let accepted : AreAccepted (office origin []) (first_moves h ++ more) (a.front ++ a.back) =
    joined_accepted (office origin []) (first_moves h) more a.front a.back first.0 e.0 in
    let ends : after_all (office origin []) (first_moves h ++ more) (a.front ++ a.back) ≡ last =
    joined_after (office origin []) (first_moves h) more a.front a.back first.0 in
    let same : after_all (office origin []) (moves (office origin h)) readings ≡ last =
    (λ i. after_all (office origin []) (moves_are h origin i) (sym a.is i)) ∙ ends in
    record {
      accepted = subst (λ (p : List Command × List ℕ). AreAccepted (office origin []) p.0 p.1)
          (λ i. (sym (moves_are h origin) i, a.is i)) accepted;
      equal = subst (IsEqualOffice (office origin h)) (sym same)
          (equal_office origin h mid last sent (length more + length (first_moves h)) m refl e.1);
      entries = ap (λ (o : Office). length o.history) same ∙ e.1.stands.counted
          ∙ (let c = count in omega (arith, c));
    }

-- WHAT BECOMES OF THEM

-- commands that are accepted come to nothing else
pub replays_once : OneJudgement → (o : Office) (cs : List Command) (rs : List ℕ)
    (js : List Judgement) (last : Office) → AreAccepted o cs rs → Replays o cs rs js last
    → AllByRecursion (λ j. j ≡ Accepted) js × (last ≡ after_all o cs rs)
replays_once one o [] [] [] last a h = (tt, h)
replays_once one o [] [] (j ∷ js) last a h = absurd h
replays_once one o [] (r ∷ rs) js last a h = absurd a
replays_once one o (c ∷ cs) [] js last a h = absurd a
replays_once one o (c ∷ cs) (r ∷ rs) [] last a h = absurd h
replays_once one o (c ∷ cs) (r ∷ rs) (j ∷ js) last a h =
    let is : j ≡ Accepted = one o (moment_of o r) c j Accepted h.0 a.0.accepted in
    let rest = replays_once one (after o r c) cs rs js last a.1
    (subst (λ (k : Judgement). Replays (by_judgement o r c k) cs rs js last) is h.1) in
    ((is, rest.0), rest.1)

-- and leave a legal history
pub legal_after : (origin : ℕ) (o : Office) (cs : List Command) (rs : List ℕ)
    → o.origin ≡ origin → IsLegal origin o.history → AreAccepted o cs rs
    → IsLegal origin (after_all o cs rs).history
legal_after origin o [] [] same legal a = legal
legal_after origin o [] (r ∷ rs) same legal a = absurd a
legal_after origin o (c ∷ cs) [] same legal a = absurd a
legal_after origin o (c ∷ cs) (r ∷ rs) same legal a =
    legal_after origin (after o r c) cs rs same
    (followed (entry_at (moment_of o r) c) legal
    (subst (λ n. MayFollow (office n o.history) (entry_at (moment_of o r) c)) same a.0)) a.1

pub made_equal : Laws → OneJudgement → MovesMakeEqual
made_equal laws one origin h readings js last legal small at replays =
    let all = all_made laws origin h readings legal small at in
    let r = replays_once one (office origin []) (moves (office origin h)) readings js last
    all.accepted
    replays in
    record {
      accepted = r.0;
      equal = subst (IsEqualOffice (office origin h)) (sym r.1) all.equal;
      legal = subst (λ (o : Office). IsLegal origin o.history) (sym r.1)
          (legal_after origin (office origin []) (moves (office origin h)) readings refl empty
          all.accepted);
      entries = ap (λ (o : Office). length o.history) r.1 ∙ all.entries;
    }
