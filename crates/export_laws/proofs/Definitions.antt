-- The definitions of a catalog's objects are accepted one after another.
use Rattle.std.proofs.Common.{◌≡◌, ℕ, ◌+◌, ◌*◌, ◌<◌, ◌≤◌, Bool, true, false, cond, List, [], ◌∷◌}
use Rattle.std.proofs.Common.{◌++◌, map, fold, refl, sym, ap, ◌∙◌, length, subst, arith, Option}
use Rattle.std.proofs.Common.{Some, None, nat_lt, append-nil}
use Rattle.std.specs.List.{AllByRecursion}
use Rattle.std.proofs.lemmas.Bool.Decides.{nat_tests}
use Rattle.std.proofs.lemmas.List.Sums.{sum_by-cons}
use Rattle.slo_limits.specs.declared.TheConstants as most
use Rattle.yaml_terms.specs.Spelling.{meant, writing}
use Rattle.object_terms.specs.declared.Object.{Object}
use Rattle.object_terms.specs.declared.Slo.{Slo}
use Rattle.object_terms.specs.Document.{written}
use Rattle.object_terms.specs.Slo.{slo_in}
use Rattle.catalog_terms.specs.Catalog.{Defined}
use Rattle.sample_book.specs.declared.Row.{Row}
use Rattle.sample_book.specs.Exclusions.{Change}
use Rattle.record_form.specs.declared.LimitName.TheVariants as limits
use Rattle.record_form.specs.declared.Refusal.TheVariants as refusals
use Rattle.office_history.specs.Definitions.{Definition}
use Rattle.office_history.specs.Documents.{objects_from, objects_next}
use Rattle.office_history.specs.Definitions.{Known, known}
use Rattle.office_history.specs.Definitions.{IsDefinition}
use Rattle.office_history.specs.declared.Judgement.TheVariants.{Accepted, Refused}
use Rattle.office_history.specs.Batches.{objective_days, days_of_slo, when}
use Rattle.office_history.specs.Catalog.{text_objects, objects_in, or_none, definitions_of}
use Rattle.office_history.specs.Catalog.{members_after}
use Rattle.office_history.specs.History.{Office, end_of}
use Rattle.sample_book.specs.Rows.{current_rows}
use Rattle.office_history.specs.Judges.{JudgesText, defined, defined_verdict, known_of}
use Rattle.office_history.specs.Verdicts.{unless_refused, accepted}
use Rattle.export_terms.specs.Moves.{definition}
use Rattle.export_laws.specs.Replay.{after, after_all, AreAccepted}
use Rattle.export_laws.specs.Sendable.{CanBeSent, IsReadBack}
use Rattle.export_laws.proofs.Parts.{Among, all_among, but}
use Rattle.export_laws.proofs.Ranks.{StandsAhead, InOrder}
use Rattle.export_laws.proofs.Objects.{defined_next, is_more, grown}
use Rattle.export_laws.proofs.Steps.{Stands, stands_after, may_follow}

-- over no rows there are no days
no_days : (members : List Object) → objective_days members [] ≡ 0
no_days [] = refl
no_days (o ∷ os) = sum_by-cons (λ (p : Object). days_of_slo [] (slo_in p.body)) o os
    ∙ (λ i. by (slo_in o.body) i + no_days os i)
  where
    none : (n : ℕ) → n * 0 ≡ 0
    none n = omega arith

    by : (s : Option Slo) → days_of_slo [] s ≡ 0
    by None = refl
    by (Some slo) = none (length slo.objectives)

pub room_for_one : (entries : ℕ) → entries < most.MAX_ENTRIES → accepted entries ≡ Accepted
room_for_one entries h = by (nat_lt entries most.MAX_ENTRIES) refl
  where
    by : (b : Bool) → nat_lt entries most.MAX_ENTRIES ≡ b
        → cond b Accepted (Refused (refusals.Limit limits.Entries)) ≡ Accepted
    by true e = refl
    by false e = absurd (grind (arith, nat_tests))

-- the objects of an object's text
text_of_one : (o : Object) → IsReadBack o → text_objects (writing 0 (written o)) ≡ o ∷ []
unfolding text_objects
text_of_one o r = ap objects_in r.stands.nodes ∙ ap (λ a. or_none a ++ []) r.alone

pub moved : {origin entries : ℕ} {upgraded : Bool} {ms ms' : List Object}
    {zs zs' : List (List ℕ × List ℕ)}
    {cs cs' : List Change} {rows : List Row} {o : Office} → ms ≡ ms' → zs ≡ zs' → cs ≡ cs'
    → Stands origin upgraded ms zs rows cs entries o
    → Stands origin upgraded ms' zs' rows cs' entries o
moved {origin = origin} {entries = entries} {upgraded = upgraded} {rows = rows} {o = o} a b c s =
    subst
    (λ (p : List Object × List (List ℕ × List ℕ) × List Change).
    Stands origin upgraded p.0 p.1 rows p.2 entries o) (λ i. (a i, b i, c i)) s

module _ (members : List Object) (zones : List (List ℕ)) (horizon : ℕ)
    (can : CanBeSent members zones horizon) where
  abbrev made_of : List Object → Definition
  made_of rest = record { catalog = but rest members; documents = 1; objects = 1; same = false }

  is_definition : (o : Object) (rest : List Object) → Among members o
      → AllByRecursion (StandsAhead o) rest
      → IsDefinition (known (but (o ∷ rest) members) zones [] horizon) (writing 0 (written o))
      (made_of rest)
  is_definition o rest there ahead =
      let r = all_among IsReadBack members o can.read_back there in
      record {
        nodes = meant (written o) ∷ [];
        all = o ∷ [];
        stands = r.stands;
        read = ap (objects_next (λ more. objects_from more 2 []) [] 1) r.alone;
        defined = defined_next members zones horizon can o rest there ahead;
        of_documents = refl;
        of_objects = refl;
        unchanged = sym (is_more members zones horizon can o rest);
      }

  is_accepted : (o : Object) (rest : List Object) (entries : ℕ) → entries < most.MAX_ENTRIES
      → defined_verdict (known (but (o ∷ rest) members) zones [] horizon) entries (made_of rest)
      ≡ Accepted
  is_accepted o rest entries few =
      ap (λ days. unless_refused (when (nat_lt most.MAX_DAYS days) (refusals.Limit limits.Days))
      (accepted entries)) (no_days (but rest members))
      ∙ room_for_one entries few

  judged : (o : Object) (rest : List Object) (entries : ℕ) → entries < most.MAX_ENTRIES
      → Among members o → AllByRecursion (StandsAhead o) rest
      → JudgesText (known (but (o ∷ rest) members) zones [] horizon) entries
      (writing 0 (written o)) Accepted
  judged o rest entries few there ahead =
      subst (JudgesText (known (but (o ∷ rest) members) zones [] horizon) entries
      (writing 0 (written o))) (is_accepted o rest entries few)
      (defined (is_definition o rest there ahead))

  -- an office that has the members but for these, and no rows, accepts them one after another
  pub definitions_accepted : (origin : ℕ) (upgraded : Bool) (kept : List (List ℕ × List ℕ))
      (changes : List Change)
      → map (λ (z : List ℕ × List ℕ). z.0) kept ≡ zones → end_of origin ≡ horizon
      → (o : Office) (todo : List Object) (readings : List ℕ) (entries : ℕ)
      → Stands origin upgraded (but todo members) kept [] changes entries o
      → AllByRecursion (Among members) todo → InOrder todo
      → length todo + entries ≤ most.MAX_ENTRIES
      → length readings ≡ length todo → AllByRecursion (λ r. r < end_of origin) readings
      → AreAccepted o (map definition todo) readings
      × Stands origin upgraded members kept [] changes (length todo + entries)
      (after_all o (map definition todo) readings)
  definitions_accepted origin upgraded kept changes names ends o [] [] entries s among order few
      as_many below
      = (tt, subst (λ n. Stands origin upgraded members kept [] changes n o) (omega arith) s)
  definitions_accepted origin upgraded kept changes names ends o [] (r ∷ rs) entries s among order
      few as_many
      below = absurd (omega (arith, as_many))
  definitions_accepted origin upgraded kept changes names ends o (x ∷ xs) [] entries s among order
      few as_many
      below = absurd (omega (arith, as_many))
  definitions_accepted origin upgraded kept changes names ends o (x ∷ xs) (r ∷ rs) entries s among
      order few
      as_many below =
      let here : known_of o ≡ known (but (x ∷ xs) members) zones [] horizon =
      (λ i. known (s.catalog_is i) (map (λ (z : List ℕ × List ℕ). z.0) (s.zones_are i))
      (current_rows (s.rows_are i)) (end_of (s.origin_is i)))
      ∙ (λ i. known (but (x ∷ xs) members) (names i) [] (ends i)) in
      let accepts : JudgesText (known_of o) (length o.history) (writing 0 (written x)) Accepted =
      subst (λ (p : Known × ℕ). JudgesText p.0 p.1 (writing 0 (written x)) Accepted)
      (λ i. (sym here i, sym s.counted i))
      (judged x xs entries (omega (arith, few)) among.0 order.0) in
      let grows : fold members_after (but (x ∷ xs) members) (definitions_of (definition x))
      ≡ but xs members =
      ap (λ os. fold members_after (but (x ∷ xs) members) (map Defined os))
      (text_of_one x (all_among IsReadBack members x can.read_back among.0))
      ∙ grown members zones horizon can x xs among.0 order.0 in
      let then : Stands origin upgraded (but xs members) kept [] changes (entries + 1)
      (after o r (definition x)) =
      moved grows (append-nil kept) (append-nil changes)
      (stands_after origin upgraded (but (x ∷ xs) members) kept [] changes entries o r
      (definition x) s
      below.0) in
      let more = definitions_accepted origin upgraded kept changes names ends
      (after o r (definition x)) xs rs
      (entries + 1) then among.1 order.1 (omega (arith, few)) (omega (arith, as_many)) below.1 in (
        (
          may_follow o origin r (definition x) s.origin_is s.in_range below.0 accepts,
          more.0,
        ),
        subst (λ n. Stands origin upgraded members kept [] changes n
            (after_all (after o r (definition x)) (map definition xs) rs)) (omega arith) more.1,
      )
