-- Histories, their records, and the files that stand for them.
use Rattle.std.proofs.Common.{◌≡◌, ℕ, ◌+◌, ◌<◌, max, fold, List, [], ◌∷◌, ◌++◌}
use Rattle.std.proofs.Common.{length, take, refl, sym, ap, ◌∙◌, subst, arith}
use Rattle.std.proofs.lemmas.List.{append-nil}
use Rattle.std.specs.List.{AllByRecursion}
use Rattle.record_form.specs.declared.Entry.{Entry}
use Rattle.record_form.specs.Records.{record_of}
use Rattle.record_form.specs.Ranges.{FitsRecord, IsRecord}
use Rattle.record_form.specs.Laws.{NoRecordBeginsAnother}
use Rattle.office_history.specs.History.{Office, present, end_of, with_entry}
use Rattle.office_history.specs.Legal.{IsLegal, MayFollow, empty, followed, office}
use Rattle.office_history.specs.History as history
use Rattle.slo_journal.specs.File as files
use Rattle.slo_journal.specs.File.{Stands, size_of}
use Rattle.slo_journal.specs.Front.{IsHeader}
use Rattle.slo_journal.specs.Legal.{Legal, StopsAt, Walks}
use Rattle.slo_journal.proofs.Damage.{one_stop}
use Rattle.slo_journal.proofs.Files.{one_file, same_header}
use Rattle.slo_journal.proofs.Histories.{legal_more, walks_first}
use Rattle.office_keep.specs.Files.{records, StandsFor, IsLegalRecord, IsDamagedAt}
use Rattle.office_keep.specs.Files.{WalksOver}

-- an entry by its record
pub same_entry : NoRecordBeginsAnother → (r : List ℕ) (e f : Entry) → IsRecord r e → IsRecord r f →
    e ≡ f
same_entry law r e f is is2 = (law r r [] e f is is2 (append-nil r)).0

one_entry : NoRecordBeginsAnother → (e f : Entry) → FitsRecord e → FitsRecord f →
    record_of e ≡ record_of f → e ≡ f
one_entry law e f fits fits2 same =
    same_entry law (record_of e) e f (record { spelled = refl; fits = fits })
    (record { spelled = same; fits = fits2 })

abbrev first : List (List ℕ) → List ℕ
first [] = []
first (r ∷ rs) = r

abbrev rest : List (List ℕ) → List (List ℕ)
rest [] = []
rest (r ∷ rs) = rs

-- a history by its records
pub same_history : NoRecordBeginsAnother → (h k : List Entry) → AllByRecursion FitsRecord h →
    AllByRecursion FitsRecord k → records h ≡ records k → h ≡ k
same_history law [] [] a b e = refl
same_history law [] (x ∷ k) a b e = absurd (cc e)
same_history law (x ∷ h) [] a b e = absurd (cc e)
same_history law (x ∷ h) (y ∷ k) a b e =
    ap (λ (f : Entry). f ∷ h) (one_entry law x y a.0 b.0 (ap first e))
    ∙ ap (λ (l : List Entry). y ∷ l) (same_history law h k a.1 b.1 (ap rest e))

pub records_more : (h : List Entry) (e : Entry) →
    records (h ++ e ∷ []) ≡ records h ++ record_of e ∷ []
records_more [] e = refl
records_more (x ∷ h) e = ap (λ (l : List (List ℕ)). record_of x ∷ l) (records_more h e)

pub one_history : NoRecordBeginsAnother → (o p : Office) (file : List ℕ) → StandsFor o file →
    AllByRecursion FitsRecord o.history → StandsFor p file → AllByRecursion FitsRecord p.history →
    o ≡ p
one_history law o p file a fa b fb =
    let both = one_file o.origin p.origin (records o.history) (records p.history) file a b in
    ap (λ (n : ℕ). office n o.history) both.0
    ∙ ap (λ (h : List Entry). office p.origin h)
    (same_history law o.history p.history fa fb both.1)

-- the present of a legal history is in range
fold_more : (h : List Entry) (e : Entry) (n : ℕ) →
    fold (λ (greatest : ℕ) (x : Entry). max greatest x.moment) n (h ++ e ∷ []) ≡ max
    (fold (λ (greatest : ℕ) (x : Entry). max greatest x.moment) n h) e.moment
fold_more [] e n = refl
fold_more (x ∷ h) e n = fold_more h e (max n x.moment)

pub present_in_range : (origin : ℕ) (h : List Entry) → IsLegal origin h →
    present (office origin h) < end_of origin
present_in_range origin h empty = omega arith
present_in_range origin h (followed {h = before} e legal follows) =
    omega (arith, fold_more before e origin, present_in_range origin before legal, follows.in_range)

-- where the gate behind the records stands
sum_from : (h : List Entry) (n : ℕ) →
    fold (λ (a : ℕ) (e : Entry). a + (5 + length (record_of e))) n h ≡ n + size_of (records h)
sum_from [] n = omega arith
sum_from (x ∷ h) n = omega (arith, sum_from h (n + (5 + length (record_of x))))

pub same_tail : (h : List Entry) → history.tail_of h ≡ files.tail_of (records h)
same_tail h = omega (arith, sum_from h 0)

-- the records of a legal history are legal ones
legal_records : (origin : ℕ) (h : List Entry) → IsLegal origin h → AllByRecursion FitsRecord h →
    Legal (IsLegalRecord origin) (records h)
legal_records origin h empty fit = λ before r after e. absurd (none before r after e)
  where
    none : (before : List (List ℕ)) (r : List ℕ) (after : List (List ℕ)) →
        [] ≡ before ++ r ∷ after → ⊥
    none [] r after e = cc e
    none (x ∷ before) r after e = cc e
legal_records origin h (followed {h = before} e legal follows) fit =
    let parts = fit_parts before e fit in
    subst (Legal (IsLegalRecord origin)) (sym (records_more before e))
    (legal_more (IsLegalRecord origin) (records before) (record_of e)
    (legal_records origin before legal parts.0) (record {
      history = before;
      entry = e;
      same = refl;
      fit = parts.0;
      is_record = record { spelled = refl; fits = parts.1 };
      follows = follows;
    }))
  where
    fit_parts : (h : List Entry) (e : Entry) → AllByRecursion FitsRecord (h ++ e ∷ []) →
        AllByRecursion FitsRecord h × FitsRecord e
    fit_parts [] e a = (tt, a.0)
    fit_parts (x ∷ h) e a = let more = fit_parts h e a.1 in ((a.0, more.0), more.1)

-- a file that stops being legal stands for no legal history
pub is_damaged : (origin at : ℕ) (file : List ℕ) → StopsAt (IsLegalRecord origin) origin at file →
    IsDamagedAt at file
is_damaged origin at file stops = record {
  origin = origin;
  stops = stops;
  none = λ o stands whole.
      let same = (same_header _ _ origin o.origin stops.history
      (records o.history) file stops.before.parts stands.parts).0 in
      stops.none o.origin (records o.history) stands
      (subst (λ (n : ℕ). Legal (IsLegalRecord n) (records o.history)) (sym same)
      (legal_records o.origin o.history whole.legal whole.fit));
}

-- a file is damaged at one place at most
pub one_damage : (at other : ℕ) (file : List ℕ) → IsDamagedAt at file → IsDamagedAt other file →
    at ≡ other
one_damage at other file a b =
    let same = (same_header _ _ a.origin b.origin a.stops.history b.stops.history file
    a.stops.before.parts b.stops.before.parts).0 in
    one_stop (IsLegalRecord a.origin) a.origin b.origin at other file a.stops
    (subst (λ (n : ℕ). StopsAt (IsLegalRecord n) b.origin other file) (sym same) b.stops)

-- a record that may follow is a legal one
pub legal_here : (o : Office) (r : List ℕ) (e : Entry) → AllByRecursion FitsRecord o.history →
    IsRecord r e → MayFollow o e → IsLegalRecord o.origin (records o.history) r
legal_here o r e fit is follows =
    record {
      history = o.history;
      entry = e;
      same = refl;
      fit = fit;
      is_record = is;
      follows =
          follows;
    }

-- a record that may not follow isn't
pub illegal_here : NoRecordBeginsAnother → (o : Office) (r : List ℕ) →
    AllByRecursion FitsRecord o.history → ((e : Entry) → IsRecord r e → MayFollow o e → ⊥) →
    IsLegalRecord o.origin (records o.history) r → ⊥
illegal_here law o r fit none l =
    let same : l.history ≡ o.history =
    same_history law l.history o.history l.fit fit (sym l.same) in
    none l.entry l.is_record
    (subst (λ (h : List Entry). MayFollow (office o.origin h) l.entry) same l.follows)

-- the records of one entry more, where a record of it was taken in
pub record_more : (o p : Office) (r : List ℕ) (e : Entry) → IsRecord r e → p ≡ with_entry o e →
    records p.history ≡ records o.history ++ r ∷ []
record_more o p r e is same =
    ap (λ (q : Office). records q.history) same ∙ records_more o.history e
    ∙ ap (λ (x : List ℕ). records o.history ++ x ∷ []) (sym is.spelled)

-- the walk goes on over an office of the same origin
pub walk_as : (o p : ℕ) (rs : List (List ℕ)) (at : ℕ) (file : List ℕ) → p ≡ o →
    Walks (IsLegalRecord o) o rs at file → Walks (IsLegalRecord p) p rs at file
walk_as o p rs at file same w =
    subst (λ (q : ℕ). Walks (IsLegalRecord q) q rs at file) (sym same) w

-- the walk of an office without entries begins behind the header
pub walks_first_over : (o : Office) (origin at : ℕ) {n : ℕ} (file : List ℕ) → o ≡ office n [] →
    n ≡ origin → IsHeader origin (take 13 file) → at ≡ 13 → WalksOver o at file
walks_first_over o origin at {n = n} file same is header place =
    subst (λ (p : Office). WalksOver p at file) (sym (same ∙ ap (λ (k : ℕ). office k []) is))
    (walks_first (IsLegalRecord origin) origin [] at file header place refl)
