-- Sums that follow a row that comes.
use Rattle.std.proofs.Common.{◌≡◌, ℕ, suc, ◌+◌, ◌≤◌, ◌<◌, ◌&&◌, Bool, true, false, refl}
use Rattle.std.proofs.Common.{ap, sym, subst, ◌∙◌, arith, List, [], ◌∷◌, ◌++◌, take, length}
use Rattle.std.proofs.Common.{append_assoc, drop, slice_get, take-append-drop, Some, IsTrue}
use Rattle.std.specs.List.{AllByRecursion}
use Rattle.std.specs.Str.{bytes_eq}
use Rattle.std.proofs.lemmas.List.{append-nil}
use Rattle.slice_method.specs.declared.Counts.{Counts}
use Rattle.cell_index.specs.declared.Cell.{Cell}
use Rattle.sample_book.specs.declared.Exclusion.{Exclusion}
use Rattle.sample_book.specs.declared.Row.{Row}
use Rattle.sample_book.specs.declared.RowVerdict.{RowVerdict}
use Rattle.sample_book.specs.declared.RowVerdict.TheVariants.{New, Newer, Repeated, Superseded}
use Rattle.sample_book.specs.declared.RowVerdict.TheVariants.{Conflict}
use Rattle.sample_book.specs.Counting.{is_of}
use Rattle.sample_book.specs.History.{is_put}
use Rattle.sample_book.specs.Puts.{IsPutInto, behind, in_place}
use Rattle.sample_book.specs.Rows.{MayPutAs, cell_of, current_rows, same_cell, verdict_of}
use Rattle.sample_book.specs.Puts.{verdicts}
use Rattle.sample_book.proofs.BatchLemmas.{length-verdicts, verdicts-at}
use Rattle.sample_book.proofs.CameLemmas.{pass-current, put-current}
use Rattle.slo_terms.proofs.CurrentLemmas.{current-distinct}
use Rattle.sample_book.proofs.PutLemmas.{put_placed}
use Rattle.sample_book.proofs.StandingLemmas.{cell_laws}
use Rattle.window_sums.specs.Shares.{IsSmall, IsSumOf, Share}
use Rattle.window_sums.specs.Slices.{CountedDays, day_of, has_day}
use Rattle.office_history.specs.declared.Measure.{Measure}
use Rattle.kept_sums.specs.Replacing.{FitsReplaced, HasFollowed, MayFollow, MayReplace, among}
use Rattle.kept_sums.specs.Replacing.{changes_counts, replaced_counts}
use Rattle.kept_sums.specs.Sums.{RowFits, HasItsDay, SumsAreKept, row_counts, share_by, shares_by}
use Rattle.kept_sums.proofs.ListLemmas.{all_at, all_here, all_map, all_push, all_put, place_within}
use Rattle.kept_sums.proofs.ListLemmas.{take_all, take_at}
use Rattle.kept_sums.proofs.ReplaceLemmas.{nothing-added}
use Rattle.kept_sums.proofs.RowLemmas.{length_around, shares_around, small_by, small_none}
use Rattle.kept_sums.proofs.RowLemmas.{small_row, small_rows}

-- where a row stands that is put
pub standing : (came : List Row) (row : Row) → is_put (verdict_of (current_rows came) row) ≡ true →
    IsPutInto (current_rows came) row (verdict_of (current_rows came) row)
    (current_rows (came ++ row ∷ []))
standing came row put =
    put_placed (current_rows came) (current_rows (came ++ row ∷ [])) row (cell_of row ∷ [])
    (current-distinct same_cell (λ row. row.revision) cell_laws came)
    (may (verdict_of (current_rows came) row) put) (sym (put-current came row))
  where
    may : (v : RowVerdict) → is_put v ≡ true → MayPutAs v (cell_of row ∷ []) (cell_of row)
    may New e = refl
    may (Newer kept) e = tt
    may Repeated e = cc e
    may (Superseded revision) e = cc e
    may (Conflict kept) e = cc e

-- what the sums need to follow a row that is put
pub record PutFacts (m : Measure) (made : List (Exclusion × Bool)) (row : Row)
    (verdict : RowVerdict) (rows' : List Row) (sums : CountedDays) : Type 0 where
  pub before : List Share
  pub after : List Share
  pub may : MayReplace sums row.minute (replaced_counts m made verdict)
      (row_counts m made row) before after
  pub put : shares_by (row_counts m made) rows' ≡ among before row.minute
      (row_counts m made row) after

few_behind : (f : Row → Counts) (rows : List Row) (row : Row) (s : Share)
    → length (rows ++ row ∷ []) ≤ 4000000 → length (shares_by f rows ++ s ∷ []) ≤ 4000000
few_behind f rows row s few = omega (arith, length_around f f rows row s [], few)

few_among : (f : Row → Counts) (xs : List Row) (x : Row) (ys : List Row) (s : Share)
    → length (xs ++ x ∷ ys) ≤ 4000000 → length (shares_by f xs ++ s ∷ shares_by f ys) ≤ 4000000
few_among f xs x ys s few = omega (arith, length_around f f xs x s ys, few)

pub put_facts : (m : Measure) (made : List (Exclusion × Bool)) (rows : List Row) (row : Row)
    (verdict : RowVerdict) (rows' : List Row) (sums : CountedDays) →
    IsPutInto rows row verdict rows' → IsSumOf sums (shares_by (row_counts m made) rows) →
    AllByRecursion (RowFits m) rows → RowFits m row → length rows' ≤ 4000000 →
    PutFacts m made row verdict rows' sums
put_facts m made _ _ _ _ sums (behind rows row) counted forms fits few =
    let f = row_counts m made in
    let each = small_by f rows (small_rows m made rows forms) in
    record {
      before = shares_by f rows;
      after = [];
      may = record {
        counted = λ k. counted k ∙ sym (nothing-added sums.method (shares_by f rows) row.minute k);
        small = record {
          each = all_push IsSmall (shares_by f rows) _ each (small_none row.minute);
          few = few_behind f rows row _ few;
        };
        small_then = record {
          each = all_push IsSmall (shares_by f rows) (share_by f row) each
              (small_row m made row fits);
          few = few_behind f rows row _ few;
        };
      };
      put = shares_around f rows row [];
    }
put_facts m made _ _ _ _ sums (in_place before after kept row same) counted forms fits few =
    let f = row_counts m made in
    let minute : kept.minute ≡ row.minute = ap (λ (c : Cell). c.minute) same in
    let here : IsSumOf sums (among (shares_by f before) row.minute (f kept) (shares_by f after)) =
    subst (λ u. IsSumOf sums (among (shares_by f before) u (f kept) (shares_by f after))) minute
    (subst (IsSumOf sums) (shares_around f before kept after) counted) in
    let each : AllByRecursion IsSmall (shares_by f before ++ share_by f kept ∷ shares_by f after) =
    subst (AllByRecursion IsSmall) (shares_around f before kept after)
    (small_by f (before ++ kept ∷ after) (small_rows m made (before ++ kept ∷ after) forms)) in
    let own = small_row m made kept (all_here (RowFits m) before kept after forms) in
    record {
      before = shares_by f before;
      after = shares_by f after;
      may = record {
        counted = here;
        small = record {
          each = all_put IsSmall (shares_by f before) (share_by f kept) _ (shares_by f after) each
              (record { part = own.part; few = own.few });
          few = few_among f before row after _ few;
        };
        small_then = record {
          each = all_put IsSmall (shares_by f before) (share_by f kept) (share_by f row)
              (shares_by f after) each (small_row m made row fits);
          few = few_among f before row after _ few;
        };
      };
      put = shares_around f before row after;
    }

-- the row that is replaced has the form of the reading
pub fits_replaced : (m : Measure) (rows : List Row) (row : Row) (verdict : RowVerdict)
    (rows' : List Row) → IsPutInto rows row verdict rows' → AllByRecursion (RowFits m) rows
    → FitsReplaced m verdict
fits_replaced m _ _ _ _ (behind rows row) forms = tt
fits_replaced m _ _ _ _ (in_place before after kept row same) forms =
    all_here (RowFits m) before kept after forms

-- a row of another indicator changes no counts
no_change : (m : Measure) (made : List (Exclusion × Bool)) (rows : List Row) (row : Row)
    (verdict : RowVerdict) (rows' : List Row) → IsPutInto rows row verdict rows' →
    is_of m.sli row ≡ false → replaced_counts m made verdict ≡ row_counts m made row
no_change m made _ _ _ _ (behind rows row) other = rw other refl
no_change m made _ _ _ _ (in_place before after kept row same) other =
    let also : is_of m.sli kept ≡ false = ap (λ (c : Cell). bytes_eq c.sli m.sli) same ∙ other in
    rw (other, also) refl

-- all rows that are kept have what the old ones and the row have
all_placed : (P : Row → Type 0) (rows : List Row) (row : Row) (verdict : RowVerdict)
    (rows' : List Row) → IsPutInto rows row verdict rows' →
    AllByRecursion P rows → P row → AllByRecursion P rows'
all_placed P _ _ _ _ (behind rows row) h p = all_push P rows row h p
all_placed P _ _ _ _ (in_place before after kept row same) h p = all_put P before kept row after h p

-- the current rows with one more have what the old ones and the row have
pub all_next : (P : Row → Type 0) (came : List Row) (row : Row)
    → AllByRecursion P (current_rows came) → P row
    → AllByRecursion P (current_rows (came ++ row ∷ []))
all_next P came row h p = by (is_put (verdict_of (current_rows came) row)) refl
  where
    by : (b : Bool) → is_put (verdict_of (current_rows came) row) ≡ b
        → AllByRecursion P (current_rows (came ++ row ∷ []))
    by true e = all_placed P (current_rows came) row (verdict_of (current_rows came) row)
        (current_rows (came ++ row ∷ [])) (standing came row e) h p
    by false e = subst (AllByRecursion P) (sym (pass-current came row e)) h

-- rows that come later take no cell away
pub fewer_before : (came more : List Row)
    → length (current_rows came) ≤ length (current_rows (came ++ more))
fewer_before came more = omega (arith, length-verdicts came more)

-- sums with the same days
pub same_days : (m : Measure) (rows : List Row) (old new : CountedDays)
    → ((day : ℕ) → has_day new day ≡ has_day old day) → AllByRecursion (HasItsDay m old) rows
    → AllByRecursion (HasItsDay m new) rows
same_days m rows old new same = all_map (HasItsDay m old) (HasItsDay m new)
    (λ row has e. subst IsTrue (sym (same (day_of row.minute))) (has e)) rows

-- the row moves where it is of the indicator and put
own_part : (a b : Bool) → (a && b) ≡ true → a ≡ true
own_part true b e = refl
own_part false b e = cc e

put_part : (a b : Bool) → (a && b) ≡ true → b ≡ true
put_part true b e = e
put_part false b e = cc e

pub moves_own : (m : Measure) (row : Row) (verdict : RowVerdict)
    → changes_counts m row verdict ≡ true
    → is_of m.sli row ≡ true
moves_own m row verdict = own_part (is_of m.sli row) (is_put verdict)

-- where a row stands that moves
pub moved : (m : Measure) (made : List (Exclusion × Bool)) (row : Row) (verdict : RowVerdict)
    (sums : CountedDays) (came : List Row) → MayFollow m made row verdict sums came →
    changes_counts m row verdict ≡ true →
    IsPutInto (current_rows came) row verdict (current_rows (came ++ row ∷ []))
moved m made row verdict sums came may is =
    subst (λ v. IsPutInto (current_rows came) row v (current_rows (came ++ row ∷ [])))
    (sym may.comes)
    (standing came row (ap is_put (sym may.comes) ∙ put_part (is_of m.sli row) (is_put verdict) is))

pub moved_facts : (m : Measure) (made : List (Exclusion × Bool)) (row : Row) (verdict : RowVerdict)
    (sums : CountedDays) (came : List Row) → MayFollow m made row verdict sums came →
    changes_counts m row verdict ≡ true →
    PutFacts m made row verdict (current_rows (came ++ row ∷ [])) sums
moved_facts m made row verdict sums came may is =
    put_facts m made (current_rows came) row verdict (current_rows (came ++ row ∷ [])) sums
    (moved m made row verdict sums came may is) may.kept.counted may.forms may.fits may.few

-- a row that doesn't move leaves the sums as they are
pub stayed : (m : Measure) (made : List (Exclusion × Bool)) (row : Row) (verdict : RowVerdict)
    (sums : CountedDays) (came : List Row) → MayFollow m made row verdict sums came →
    changes_counts m row verdict ≡ false →
    SumsAreKept m made (current_rows (came ++ row ∷ [])) sums
stayed m made row verdict sums came may is = by (is_put (verdict_of (current_rows came) row)) refl
  where
    other : (a b : Bool) → (a && b) ≡ false → b ≡ true → a ≡ false
    other true b e t = cc (sym t ∙ e)
    other false b e t = refl

    by : (b : Bool) → is_put (verdict_of (current_rows came) row) ≡ b
        → SumsAreKept m made (current_rows (came ++ row ∷ [])) sums
    by false e = subst (λ rows. SumsAreKept m made rows sums)
        (sym (pass-current came row e)) may.kept
    by true e =
        let rows' = current_rows (came ++ row ∷ []) in
        let place = standing came row e in
        let own : is_of m.sli row ≡ false =
        other (is_of m.sli row) (is_put verdict) is (ap is_put may.comes ∙ e) in
        let facts = put_facts m made (current_rows came) row (verdict_of (current_rows came) row)
        rows' sums place may.kept.counted may.forms may.fits may.few in
        let same = no_change m made (current_rows came) row (verdict_of (current_rows came) row)
        rows' place own in
        record {
          method = may.kept.method;
          counted = subst (IsSumOf sums) (ap (λ n. among facts.before row.minute n facts.after) same
              ∙ sym facts.put) facts.may.counted;
          days = all_next (HasItsDay m sums) came row may.kept.days may.day;
        }

-- the rows that came with one more of a batch
pub next_came : (came rows : List Row) (place : ℕ) (row : Row) → slice_get rows place ≡ Some row
    → (came ++ take place rows) ++ row ∷ [] ≡ came ++ take (suc place) rows
next_came came rows place row at = append_assoc came (take place rows) (row ∷ [])
    ∙ ap (λ l. came ++ l) (sym (take_at rows place row at))

-- the rows up to one of a batch have no more cells than all of them
few_until : (before rows : List Row) (at : ℕ) (row : Row) → slice_get rows at ≡ Some row →
    length (current_rows (before ++ rows)) ≤ 4000000 →
    length (current_rows ((before ++ take at rows) ++ row ∷ [])) ≤ 4000000
few_until before rows at row here few =
    let came = (before ++ take at rows) ++ row ∷ [] in
    let all : came ++ drop (suc at) rows ≡ before ++ rows =
    ap (λ l. l ++ drop (suc at) rows) (next_came before rows at row here)
    ∙ append_assoc before (take (suc at) rows) (drop (suc at) rows)
    ∙ ap (λ l. before ++ l) (take-append-drop (suc at) rows) in
    omega (
      arith,
      fewer_before came (drop (suc at) rows),
      ap (λ l. length (current_rows l)) all,
      few,
    )

-- the rows of a book are the current ones of themselves, and none of the batch came yet
pub follow_begins : (m : Measure) (made : List (Exclusion × Bool)) (before rows : List Row)
    (sums : CountedDays) → current_rows before ≡ before → SumsAreKept m made before sums →
    AllByRecursion (RowFits m) before →
    HasFollowed m made before rows 0 sums sums
follow_begins m made before rows sums current kept forms =
    let same : current_rows (before ++ []) ≡ before =
    ap current_rows (append-nil before) ∙ current in
    record {
      kept = subst (λ l. SumsAreKept m made l sums) (sym same) kept;
      forms = subst (AllByRecursion (RowFits m)) (sym same) forms;
      days = λ day. refl;
    }

-- the next row of the batch may be followed
pub follow_may : (m : Measure) (made : List (Exclusion × Bool)) (before rows : List Row) (at : ℕ)
    (row : Row) (verdict : RowVerdict) (old sums : CountedDays) →
    HasFollowed m made before rows at old sums → slice_get rows at ≡ Some row →
    slice_get (verdicts before rows) at ≡ Some verdict →
    AllByRecursion (RowFits m) rows → AllByRecursion (HasItsDay m old) rows →
    length (current_rows (before ++ rows)) ≤ 4000000 →
    MayFollow m made row verdict sums (before ++ take at rows)
follow_may m made before rows at row verdict old sums so here judged fit days few = record {
  kept = so.kept;
  comes = same (verdicts-at before rows at row here ∙ refl);
  forms = so.forms;
  fits = all_at (RowFits m) rows at row here fit;
  day = all_at (HasItsDay m sums) rows at row here (same_days m rows old sums so.days days);
  few = few_until before rows at row here few;
}
  where
    same : slice_get (verdicts before rows) at
        ≡ Some (verdict_of (current_rows (before ++ take at rows)) row)
        → verdict ≡ verdict_of (current_rows (before ++ take at rows)) row
    same e =
        let both : ◌≡◌ {A = Rattle.std.proofs.Common.Option RowVerdict} (Some verdict)
        (Some (verdict_of (current_rows (before ++ take at rows)) row)) = sym judged ∙ e in
        cc both

-- one row further
pub follow_next : (m : Measure) (made : List (Exclusion × Bool)) (before rows : List Row) (at : ℕ)
    (row : Row) (old sums new : CountedDays) →
    HasFollowed m made before rows at old sums → slice_get rows at ≡ Some row → RowFits m row →
    SumsAreKept m made (current_rows ((before ++ take at rows) ++ row ∷ [])) new →
    ((day : ℕ) → has_day new day ≡ has_day sums day) →
    HasFollowed m made before rows (at + 1) old new
follow_next m made before rows at row old sums new so here fits kept days =
    let came = before ++ take at rows in
    subst (λ n. HasFollowed m made before rows n old new) (one at) (record {
      kept =
          subst (λ l. SumsAreKept m made (current_rows l) new)
          (next_came before rows at row here) kept;
      forms = subst (λ l. AllByRecursion (RowFits m) (current_rows l))
          (next_came before rows at row here) (all_next (RowFits m) came row so.forms fits);
      days = λ day. days day ∙ so.days day;
    })
  where
    one : (n : ℕ) → suc n ≡ n + 1
    one n = omega arith

-- all rows of the batch were followed
pub follow_ends : (m : Measure) (made : List (Exclusion × Bool)) (before rows : List Row) (at : ℕ)
    (old sums : CountedDays) → HasFollowed m made before rows at old sums → at ≡ length rows →
    SumsAreKept m made (current_rows (before ++ rows)) sums
follow_ends m made before rows at old sums so e =
    subst (λ l. SumsAreKept m made (current_rows (before ++ l)) sums) (take_all rows at e) so.kept

-- what is judged of a row stands at its place
pub verdict_there : (before rows : List Row) (found : List RowVerdict) (at : ℕ) (row : Row)
    → found ≡ verdicts before rows → slice_get rows at ≡ Some row → at < length found
verdict_there before rows found at row is here =
    subst (λ (l : List RowVerdict). at < length l) (sym is) (place_within
    (verdicts before rows) at (verdict_of (current_rows (before ++ take at rows)) row)
    (verdicts-at before rows at row here))
