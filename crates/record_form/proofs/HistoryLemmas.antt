-- Histories are read back from their records, and one record more is one entry more.
use Rattle.std.proofs.Common.{◌≡◌, ℕ, zero, suc, ◌+◌, ◌*◌, ◌≤◌, List, [], ◌∷◌, ◌++◌, length, Option}
use Rattle.std.proofs.Common.{Some, None, refl, sym, ap, subst, ◌∙◌, arith, length-append}
use Rattle.std.specs.Prelude.{Result, Ok, Err, IfOk, IfSome, sum_by}
use Rattle.std.specs.List.{AllByRecursion}
use Rattle.std.specs.declared.alloc.AllocError.{AllocError}
use Rattle.std.proofs.lemmas.List.Sums.{sum_by-cons}
use Rattle.sample_book.specs.declared.row.Row.{Row}
use Rattle.record_form.specs.declared.command.Command.{Command}
use Rattle.record_form.specs.declared.command.Command.TheVariants.{Define, Remove, PutZone, Samples}
use Rattle.record_form.specs.declared.command.Command.TheVariants.{Exclude, Lift, Tick, Take}
use Rattle.record_form.specs.declared.command.Command.TheVariants.{Upgrade}
use Rattle.record_form.specs.declared.entry.Entry.{Entry}
use Rattle.record_form.specs.Records.{number_within, entry, entry_of, whole, record_of}
use Rattle.record_form.specs.Ranges.{IsRowInRange, IsInRange, IsEntryInRange, FitsRow, Fits}
use Rattle.record_form.specs.Ranges.{FitsRecord, IsRecord}
use Rattle.record_form.specs.Histories.{AreRecords, entries_from, first_entries, history_of}
use Rattle.record_form.specs.Histories.{records_of}
use Rattle.record_form.specs.Laws.{AddsOne}
use Rattle.record_form.proofs.FormLemmas.{IsBytes, some_is}
use Rattle.record_form.proofs.LoopLemmas.{each_push, fits_push}
use Rattle.record_form.proofs.RecordLemmas.{entry_exact}
use Rattle.record_form.proofs.SizeLemmas.{least_record}

pub back_in_front : (e : Entry) (rest : List ℕ) → FitsRecord e
    → entry.read (record_of e ++ rest) ≡ Some (e, rest)
back_in_front e rest fits = ap entry.read (sym (entry_exact.front e [] rest))
    ∙ entry_exact.again e rest fits

-- the bytes of a record are read as its entry, and they are of no other
pub read_whole : (bytes : List ℕ) (e : Entry) → IsRecord bytes e → entry_of bytes ≡ Some e
read_whole bytes e is = ap entry_of is.spelled ∙ ap whole (entry_exact.again e [] is.fits)

pub only_records : (bytes : List ℕ) (e : Entry) → IsBytes bytes → entry_of bytes ≡ Some e
    → IsRecord bytes e
only_records bytes e fits h = by (entry.read bytes) refl h
  where
    by : (o : Option (Entry × List ℕ)) → entry.read bytes ≡ o → whole o ≡ Some e → IsRecord bytes e
    by None read h = absurd cc
    by (Some (f, [])) read h =
        let stands = entry_exact.only bytes (f, []) fits read in
        subst (IsRecord bytes) (is f h) (record { spelled = stands.spelled; fits = stands.fits })
      where
        is : (f : Entry) → Some f ≡ Some e → f ≡ e
        is f e = cc
    by (Some (f, b ∷ rest)) read h = absurd cc

-- what a reader answers that answers by the function
pub if_record : (bytes : List ℕ) (e : Entry) (answer : Result (Option Entry) AllocError)
    → IsBytes bytes → IfOk answer (λ found. found ≡ entry_of bytes)
    → IfOk answer (λ found. found ≡ Some e → IsRecord bytes e)
if_record bytes e (Ok found) fits h = λ is. only_records bytes e fits (sym h ∙ is)
if_record bytes e (Err error) fits h = tt

-- what fits is in range
rows_in_range : (rs : List Row) → AllByRecursion FitsRow rs → AllByRecursion IsRowInRange rs
rows_in_range [] h = tt
rows_in_range (r ∷ rs) h = (h.0.range, rows_in_range rs h.1)

in_range : (c : Command) → Fits c → IsInRange c
in_range (Define documents) h = h
in_range (Remove k name) h = tt
in_range (PutZone name bytes) h = h.1
in_range (Samples rs) h = (h.0, rows_in_range rs h.1)
in_range (Exclude value) h = h.range
in_range (Lift id) h = tt
in_range Tick h = tt
in_range (Take n) h = tt
in_range Upgrade h = tt

pub entry_in_range : (bytes : List ℕ) (answer : Result (Option Entry) AllocError)
    → IsBytes bytes → IfOk answer (λ found. found ≡ entry_of bytes)
    → IfOk answer (λ found. IfSome found IsEntryInRange)
entry_in_range bytes (Ok None) fits h = tt
entry_in_range bytes (Ok (Some e)) fits h =
    let is = only_records bytes e fits (sym h) in
    record { moment = is.fits.moment; command = in_range e.command is.fits.command }
entry_in_range bytes (Err error) fits h = tt

pub each_record : (bytes : List ℕ) (e : Entry) (answer : Result (Option Entry) AllocError)
    → IsRecord bytes e → IfOk answer (λ found. found ≡ entry_of bytes)
    → IfOk answer (λ found. found ≡ Some e)
each_record bytes e (Ok found) is h = h ∙ read_whole bytes e is
each_record bytes e (Err error) is h = tt

pub no_other : (one other rest : List ℕ) (e f : Entry) → IsRecord one e → IsRecord other f
    → one ++ rest ≡ other → (e ≡ f) × (rest ≡ [])
no_other one other rest e f first second h =
    let same : Some (e, rest) ≡ Some (f, []) =
    sym (back_in_front e rest first.fits)
    ∙ ap (λ (bytes : List ℕ). entry.read (bytes ++ rest)) (sym first.spelled)
    ∙ ap entry.read (h ∙ second.spelled) ∙ entry_exact.again f [] second.fits in
    let pair = some_is (e, rest) (f, []) same in
    (ap (λ (p : Entry × List ℕ). p.0) pair, ap (λ (p : Entry × List ℕ). p.1) pair)

longer : (e : Entry) (rest : List ℕ) → 5 + length rest ≤ length (entry.write e rest)
longer e rest = omega (
  arith,
  ap length (entry_exact.front e [] rest),
  length-append (entry.write e []) rest,
  least_record e,
)

nothing_there : entry.read [] ≡ None
unfolding entry number_within
nothing_there = refl

all_again : (es : List Entry) (n : ℕ) → length (records_of es) ≤ n → AllByRecursion FitsRecord es
    → first_entries n (records_of es) ≡ es
all_again [] zero le h = refl
all_again [] (suc n) le h = ap (entries_from (first_entries n)) nothing_there
all_again (e ∷ es) zero le h = absurd (omega (arith, le, longer e (records_of es)))
all_again (e ∷ es) (suc n) le h =
    ap (entries_from (first_entries n)) (entry_exact.again e (records_of es) h.0)
    ∙ ap (λ (more : List Entry). e ∷ more)
    (all_again es n (omega (arith, le, longer e (records_of es))) h.1)

pub history_again : (es : List Entry) → AllByRecursion FitsRecord es
    → history_of (records_of es) ≡ es
unfolding history_of
history_again es h = all_again es (length (records_of es)) (omega arith) h

pub one_more : (bytes : List ℕ) (e : Entry) → AreRecords bytes → FitsRecord e → AddsOne bytes e
one_more bytes e are fits =
    let fit = fits_push FitsRecord (history_of bytes) e are.fit fits in
    let spelled : bytes ++ record_of e ≡ records_of (history_of bytes ++ e ∷ []) =
    ap (λ (before : List ℕ). before ++ record_of e) are.spelled
    ∙ sym (each_push entry entry_exact.front (history_of bytes) e) in
    let history : history_of (bytes ++ record_of e) ≡ history_of bytes ++ e ∷ [] =
    ap history_of spelled ∙ history_again (history_of bytes ++ e ∷ []) fit in
    record {
      history = history;
      records = record {
        spelled = spelled ∙ ap records_of (sym history);
        fit = subst (AllByRecursion FitsRecord) (sym history) fit;
      };
    }

pub add_up : (es : List Entry) → length (records_of es) + 5 * length es
    ≡ sum_by (λ (e : Entry). 5 + length (record_of e)) es
add_up [] = refl
add_up (e ∷ es) = omega (
  arith,
  ap length (entry_exact.front e [] (records_of es)),
  length-append (entry.write e []) (records_of es),
  sum_by-cons (λ (x : Entry). 5 + length (record_of x)) e es,
  add_up es,
)

pub no_bytes : AreRecords [] × (history_of [] ≡ [])
unfolding history_of
no_bytes = (record { spelled = refl; fit = tt }, refl)
