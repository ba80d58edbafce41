-- The verdicts of a batch, counted.
use Rattle.std.proofs.Common.{◌≡◌, ℕ, suc, ◌+◌, ◌==◌, ◌||◌, List, [], ◌∷◌, ◌++◌, Bool, true, false}
use Rattle.std.proofs.Common.{not, cond, refl, ap, sym, ◌∙◌, arith, filter, length, length-append}
use Rattle.std.proofs.Common.{append_assoc}
use Rattle.std.specs.List.{list_any}
use Rattle.std.proofs.lemmas.Bool.Decides.{nat_tests}
use Rattle.std.proofs.lemmas.List.Elements.{filter-append}
use Rattle.sample_book.specs.declared.Row.{Row}
use Rattle.sample_book.specs.declared.RowVerdict.{RowVerdict}
use Rattle.sample_book.specs.declared.RowVerdict.TheVariants.{New, Newer, Repeated, Superseded}
use Rattle.sample_book.specs.declared.RowVerdict.TheVariants.{Conflict}
use Rattle.sample_book.specs.History.{is_put}
use Rattle.sample_book.specs.Puts.{verdicts, is_new}
use Rattle.sample_book.specs.Rows.{current_rows, verdict_of}
use Rattle.office_history.specs.History.{accepted_rows}
use Rattle.office_history.specs.Batches.{count, is_newer, is_repeated, is_superseded}
use Rattle.office_derived.specs.declared.BatchTally.{BatchTally}
use Rattle.office_derived.specs.Tallies.{changes, tally_of}
use Rattle.sample_changes.specs.Works.{tally_with}

-- each row has a verdict
pub verdicts_each : (came rows : List Row) → length (verdicts came rows) ≡ length rows
verdicts_each came [] = refl
verdicts_each came (row ∷ rows) = ap suc (verdicts_each (came ++ row ∷ []) rows)

verdicts-append : (before came rows : List Row)
    → verdicts before (came ++ rows) ≡ verdicts before came ++ verdicts (before ++ came) rows
verdicts-append before [] rows = ap (λ kept. verdicts kept rows) (sym (append-nothing before))
  where
    append-nothing : (xs : List Row) → xs ++ [] ≡ xs
    append-nothing [] = refl
    append-nothing (x ∷ xs) = ap (λ ys. x ∷ ys) (append-nothing xs)
verdicts-append before (row ∷ came) rows =
    ap (λ vs. verdict_of (current_rows before) row ∷ vs)
    (verdicts-append (before ++ row ∷ []) came rows
    ∙ ap (λ kept. verdicts (before ++ row ∷ []) came ++ verdicts kept rows)
    (append_assoc before (row ∷ []) came))

-- a batch adds those of its rows that are put
pub accepted-more : (came rows : List Row)
    → accepted_rows (came ++ rows) ≡ accepted_rows came + count is_put (verdicts came rows)
accepted-more came rows =
    ap (λ vs. length (filter is_put vs)) (verdicts-append [] came rows)
    ∙ ap length (filter-append is_put (verdicts [] came) (verdicts came rows))
    ∙ length-append (filter is_put (verdicts [] came)) (filter is_put (verdicts came rows))

count-cons : (p : RowVerdict → Bool) (v : RowVerdict) (vs : List RowVerdict)
    → count p (v ∷ vs) ≡ cond (p v) 1 0 + count p vs
count-cons p v vs = by (p v)
  where
    by : (b : Bool) → length (cond b (v ∷ filter p vs) (filter p vs)) ≡ cond b 1 0 + count p vs
    by true = omega arith
    by false = omega arith

-- what is put is new or newer
pub count_put : (vs : List RowVerdict) → count is_put vs ≡ count is_new vs + count is_newer vs
count_put [] = refl
count_put (v ∷ vs) = omega (
  arith,
  count-cons is_put v vs,
  count-cons is_new v vs,
  count-cons is_newer v vs,
  by v,
  count_put vs,
)
  where
    by : (v : RowVerdict) → cond (is_put v) 1 0 ≡ cond (is_new v) 1 0 + cond (is_newer v) 1 0
    by New = refl
    by (Newer kept) = refl
    by Repeated = refl
    by (Superseded revision) = refl
    by (Conflict kept) = refl

any_count : (p : RowVerdict → Bool) (vs : List RowVerdict) → list_any p vs ≡ not (count p vs == 0)
any_count p [] = refl
any_count p (v ∷ vs) = by (p v) refl (any_count p vs)
  where
    some : (n : ℕ) → true ≡ not (suc n == 0)
    some n = grind (arith, nat_tests)

    by : (b : Bool) → p v ≡ b → list_any p vs ≡ not (count p vs == 0)
        → (b || list_any p vs) ≡ not (length (cond b (v ∷ filter p vs) (filter p vs)) == 0)
    by true e rest = some (count p vs)
    by false e rest = rest

-- a row is put where the tally says so
pub any_put : (vs : List RowVerdict) → list_any is_put vs ≡ changes (tally_of vs)
any_put vs = any_count is_put vs ∙ ap (λ n. not (n == 0)) (count_put vs)
    ∙ either (count is_new vs) (count is_newer vs)
  where
    either : (a b : ℕ) → not (a + b == 0) ≡ (not (a == 0) || not (b == 0))
    either a b = grind (arith, nat_tests)

count-push : (p : RowVerdict → Bool) (vs : List RowVerdict) (v : RowVerdict)
    → count p (vs ++ v ∷ []) ≡ count p vs + cond (p v) 1 0
count-push p vs v =
    ap length (filter-append p vs (v ∷ [])) ∙ length-append (filter p vs) (filter p (v ∷ []))
    ∙ ap (λ n. count p vs + n) (by (p v))
  where
    by : (b : Bool) → length (cond b (v ∷ []) []) ≡ cond b 1 0
    by true = refl
    by false = refl

abbrev tally : ℕ → ℕ → ℕ → ℕ → BatchTally
tally a b c d = record { new = a; newer = b; repeated = c; superseded = d }

-- one verdict more
pub tally-push : (vs : List RowVerdict) (v : RowVerdict)
    → tally_of (vs ++ v ∷ []) ≡ tally_with (tally_of vs) v
tally-push vs v =
    (λ i. record {
      new = count-push is_new vs v i;
      newer = count-push is_newer vs v i;
      repeated = count-push is_repeated vs v i;
      superseded = count-push is_superseded vs v i;
    })
    ∙ by v (count is_new vs) (count is_newer vs) (count is_repeated vs) (count is_superseded vs)
  where
    stays : (n : ℕ) → n + 0 ≡ n
    stays n = omega arith

    by : (v : RowVerdict) (a b c d : ℕ) →
        tally (a + cond (is_new v) 1 0) (b + cond (is_newer v) 1 0) (c + cond (is_repeated v) 1 0)
        (d + cond (is_superseded v) 1 0) ≡ tally_with (tally a b c d) v
    by New a b c d = λ i. tally (a + 1) (stays b i) (stays c i) (stays d i)
    by (Newer kept) a b c d = λ i. tally (stays a i) (b + 1) (stays c i) (stays d i)
    by Repeated a b c d = λ i. tally (stays a i) (stays b i) (c + 1) (stays d i)
    by (Superseded revision) a b c d = λ i. tally (stays a i) (stays b i) (stays c i) (d + 1)
    by (Conflict kept) a b c d = λ i. tally (stays a i) (stays b i) (stays c i) (stays d i)
