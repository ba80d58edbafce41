-- The current samples of a counter, by those of its differences.
use Rattle.std.proofs.Common.{◌≡◌, ℕ, List, [], ◌∷◌, Bool, true, false, ◌&&◌, cond, Option, Some}
use Rattle.std.proofs.Common.{None, refl, ap, sym, ◌∙◌, filter, length, map, nat_eq, nat_lt}
use Rattle.std.proofs.Common.{option_map}
use Rattle.std.specs.Cmp.Lexicographic.{nat_list_eq_equiv}
use Rattle.std.specs.List.{find}
use Rattle.std.specs.Str.{bytes_eq}
use Rattle.std.proofs.lemmas.Slice.Eq.{bytes_eq-Decides}
use Rattle.slice_method.specs.declared.Amount.TheVariants.{Counts}
use Rattle.counter_book.specs.Book.{Book}
use Rattle.counter_book.specs.Differences.{difference_at}
use Rattle.counter_book.specs.Laws.{HoldsReadings, row_at, same_place}
use Rattle.counter_book.specs.Puts.{is_difference_at}
use Rattle.counter_book.specs.declared.CounterReading.{CounterReading}
use Rattle.counter_book.specs.declared.Difference.{Difference}
use Rattle.counter_book.proofs.LawLemmas.{given-is, places_laws}
use Rattle.counter_book.proofs.PickLemmas.{find-pushes, picked, picks}
use Rattle.sample_book.specs.Counting.{is_of}
use Rattle.sample_book.specs.Rows.{current_rows, same_cell}
use Rattle.sample_book.specs.declared.Row.{Row}
use Rattle.sample_book.proofs.StandingLemmas.{cell_laws}
use Rattle.counter_laws.specs.Samples.{is_sample_at, sample_of}

abbrev revision_of : Row → ℕ
revision_of row = row.revision

abbrev number : Difference → ℕ
number d = d.revision

module _ (sli source : List ℕ) (minute : ℕ) where
  -- the rows of a cell are among those of its indicator
  filter-within : (rows : List Row) → filter (is_sample_at sli source minute) rows
      ≡ filter (is_sample_at sli source minute) (filter (is_of sli) rows)
  filter-within [] = refl
  filter-within (row ∷ rows) = by (is_of sli row) refl (filter-within rows)
    where
      by : (a : Bool) → is_of sli row ≡ a → filter (is_sample_at sli source minute) rows
          ≡ filter (is_sample_at sli source minute) (filter (is_of sli) rows)
          → cond (is_sample_at sli source minute row)
          (row ∷ filter (is_sample_at sli source minute) rows)
          (filter (is_sample_at sli source minute) rows)
          ≡ filter (is_sample_at sli source minute)
          (cond a (row ∷ filter (is_of sli) rows) (filter (is_of sli) rows))
      by true e go =
          ap (λ (rs : List Row). cond (is_sample_at sli source minute row) (row ∷ rs) rs) go
      by false e go =
          ap (λ b. cond (b && (bytes_eq source row.source && nat_eq minute row.minute))
          (row ∷ filter (is_sample_at sli source minute) rows)
          (filter (is_sample_at sli source minute) rows))
          (nat_list_eq_equiv.symm sli row.sli ∙ e)
          ∙ go

  sample-test : (d : Difference) → is_sample_at sli source minute (sample_of sli d)
      ≡ is_difference_at source minute d
  sample-test d = ap (λ b. b && (bytes_eq source d.source && nat_eq minute d.minute))
      ((bytes_eq-Decides sli sli).1 refl)

  filter-samples : (ds : List Difference)
      → filter (is_sample_at sli source minute) (map (sample_of sli) ds)
      ≡ map (sample_of sli) (filter (is_difference_at source minute) ds)
  filter-samples [] = refl
  filter-samples (d ∷ ds) =
      ap (λ b. cond b
      (sample_of sli d ∷ filter (is_sample_at sli source minute) (map (sample_of sli) ds))
      (filter (is_sample_at sli source minute) (map (sample_of sli) ds))) (sample-test d)
      ∙ by (is_difference_at source minute d) (filter-samples ds)
    where
      by : (b : Bool) → filter (is_sample_at sli source minute) (map (sample_of sli) ds)
          ≡ map (sample_of sli) (filter (is_difference_at source minute) ds)
          → cond b
          (sample_of sli d ∷ filter (is_sample_at sli source minute) (map (sample_of sli) ds))
          (filter (is_sample_at sli source minute) (map (sample_of sli) ds))
          ≡ map (sample_of sli) (cond b (d ∷ filter (is_difference_at source minute) ds)
          (filter (is_difference_at source minute) ds))
      by true go = ap (λ (rs : List Row). sample_of sli d ∷ rs) go
      by false go = go

module _ (sli : List ℕ) where
  picked-sample : (o : Option Difference) (d : Difference)
      → picked revision_of (option_map (sample_of sli) o) (sample_of sli d)
      ≡ sample_of sli (picked number o d)
  picked-sample None d = refl
  picked-sample (Some k) d = by (nat_lt k.revision d.revision)
    where
      by : (b : Bool) → cond b (sample_of sli d) (sample_of sli k) ≡ sample_of sli (cond b d k)
      by true = refl
      by false = refl

  -- the current sample of a cell is that of its current difference
  picks-samples : (o : Option Difference) (ds : List Difference)
      → picks revision_of (option_map (sample_of sli) o) (map (sample_of sli) ds)
      ≡ option_map (sample_of sli) (picks number o ds)
  picks-samples o [] = refl
  picks-samples o (d ∷ ds) =
      ap (λ (x : Row). picks revision_of (Some x) (map (sample_of sli) ds)) (picked-sample o d)
      ∙ picks-samples (Some (picked number o d)) ds

-- The current samples of a counter are the differences from scratch.
pub samples-are : (sli : List ℕ) (rows : List Row) (came : List CounterReading)
    (given : List Difference) (book : Book) → HoldsReadings came given book
    → filter (is_of sli) rows ≡ map (sample_of sli) given → (source : List ℕ) (minute : ℕ)
    → find (is_sample_at sli source minute) (current_rows rows)
    ≡ option_map (sample_of sli) (row_at source minute
    (length (filter (is_difference_at source minute) given)) (difference_at came source minute))
samples-are sli rows came given book h e s m =
    let q : Row = record {
      sli = sli;
      source = s;
      minute = m;
      revision = 0;
      amount = Counts 0 0;
    } in
    let d : Difference = record { source = s; minute = m; revision = 0; part = 0; total = 0 } in
    find-pushes same_cell revision_of cell_laws q [] rows
    ∙ ap (picks revision_of None) (filter-within sli s m rows
    ∙ ap (filter (is_sample_at sli s m)) e ∙ filter-samples sli s m given)
    ∙ picks-samples sli None (filter (is_difference_at s m) given)
    ∙ ap (option_map (sample_of sli)) (sym (find-pushes same_place number places_laws d [] given))
    ∙ ap (option_map (sample_of sli)) (given-is came given book h s m)
