-- Rows of a batch, each judged behind those before it.
use Rattle.std.proofs.Common.{◌≡◌, ℕ, zero, suc, ◌+◌, ◌<◌, get_or, List, [], ◌∷◌, ◌++◌, refl}
use Rattle.std.proofs.Common.{ap, sym, ◌∙◌, take, filter, length, Option, Some, None, append_assoc}
use Rattle.std.proofs.Common.{Bool, true, false, cond, nat_lt, arith, slice_get}
use Rattle.std.specs.List.{find}
use Rattle.std.proofs.lemmas.List.{append-nil}
use Rattle.std.proofs.lemmas.Bool.Decides.{nat_tests}
use Rattle.slice_method.specs.declared.Amount.{Amount}
use Rattle.slice_method.specs.declared.Amount.TheVariants.{Counts, Value, Withdrawn}
use Rattle.slo_terms.specs.Rows.{newer}
use Rattle.sample_book.specs.declared.row.Row.{Row}
use Rattle.sample_book.specs.declared.row.RowVerdict.{RowVerdict}
use Rattle.sample_book.specs.declared.row.RowVerdict.TheVariants.{New, Newer, Repeated, Superseded}
use Rattle.sample_book.specs.declared.row.RowVerdict.TheVariants.{Conflict}
use Rattle.std.proofs.lemmas.List.{take_more}
use Rattle.sample_book.specs.History.{rows_after}
use Rattle.sample_book.specs.Puts.{is_conflict, is_new, is_settled, later_of, verdicts}
use Rattle.sample_book.specs.Rows.{current_rows, kept_of, same_amount, same_cell}
use Rattle.sample_book.specs.Rows.{verdict_of, verdict_on, verdict_where}
use Rattle.sample_book.proofs.CameLemmas.{after-current, put-current}
use Rattle.slo_terms.proofs.CurrentLemmas.{current-current, current-push, settle}
use Rattle.sample_book.proofs.StandingLemmas.{cell_laws}

-- what becomes of a row where another of its cell came in between
abbrev pub after : RowVerdict → Row → Row → RowVerdict
after New between row = verdict_on between row
after (Newer kept) between row =
    cond (nat_lt kept.revision between.revision) (verdict_on between row) (Newer kept)
after Repeated between row =
    cond (nat_lt row.revision between.revision) (Superseded between.revision) Repeated
after (Superseded revision) between row =
    cond (nat_lt revision between.revision) (Superseded between.revision) (Superseded revision)
after (Conflict kept) between row =
    cond (nat_lt kept.revision between.revision) (Superseded between.revision) (Conflict kept)

-- what becomes of a row where another came in between
abbrev pub passed : RowVerdict → Row → Row → RowVerdict
passed verdict between row = cond (same_cell row between) (after verdict between row) verdict

abbrev one_if : Bool → ℕ
one_if b = cond b 1 0

abbrev revision_of : Row → ℕ
revision_of row = row.revision

abbrev joined : Option Row → Row → Row
joined None e = e
joined (Some k) e = newer revision_of k e

abbrev settled : List Row → Row → List Row
settled = settle same_cell revision_of

-- another row of the cell came
find-settled : (rows : List Row) (e row : Row) → same_cell row e ≡ true
    → find (same_cell row) (settled rows e) ≡ Some (joined (find (same_cell row) rows) e)
find-settled [] e row h = ap (λ b. cond b (Some e) None) h
find-settled (k ∷ ks) e row h = by (same_cell e k) (same_cell row k) refl refl
    (sym (cell_laws.congr row e k h)) (find-settled ks e row h)
  where
    newer-same : (b : Bool) → same_cell row e ≡ true → same_cell row k ≡ true
        → same_cell row (cond b e k) ≡ true
    newer-same true h i = h
    newer-same false h i = i

    by : (a b : Bool) → same_cell e k ≡ a → same_cell row k ≡ b → same_cell e k ≡ same_cell row k →
        find (same_cell row) (settled ks e) ≡ Some (joined (find (same_cell row) ks) e) →
        find (same_cell row) (cond a (newer revision_of k e ∷ ks) (k ∷ settled ks e))
        ≡ Some (joined (cond b (Some k) (find (same_cell row) ks)) e)
    by true true i j same go =
        ap (λ b. cond b (Some (newer revision_of k e)) (find (same_cell row) ks))
        (newer-same (nat_lt k.revision e.revision) h j)
    by true false i j same go = cc (sym i ∙ same ∙ j)
    by false true i j same go = cc (sym i ∙ same ∙ j)
    by false false i j same go =
        ap (λ b. cond b (Some k) (find (same_cell row) (settled ks e))) j ∙ go

-- a row of another cell came
find-other : (rows : List Row) (e row : Row) → same_cell row e ≡ false
    → find (same_cell row) (settled rows e) ≡ find (same_cell row) rows
find-other [] e row h = ap (λ b. cond b (Some e) None) h
find-other (k ∷ ks) e row h = by (same_cell e k) refl (find-other ks e row h)
  where
    apart : same_cell e k ≡ true → same_cell row k ≡ false
    apart i = cell_laws.symm row k ∙ sym (cell_laws.congr e k row i) ∙ cell_laws.symm e row ∙ h

    newer-apart : (b : Bool) → same_cell row k ≡ false → same_cell row (cond b e k) ≡ false
    newer-apart true i = h
    newer-apart false i = i

    by : (a : Bool) → same_cell e k ≡ a →
        find (same_cell row) (settled ks e) ≡ find (same_cell row) ks →
        find (same_cell row) (cond a (newer revision_of k e ∷ ks) (k ∷ settled ks e))
        ≡ cond (same_cell row k) (Some k) (find (same_cell row) ks)
    by true i go =
        ap (λ b. cond b (Some (newer revision_of k e)) (find (same_cell row) ks))
        (newer-apart (nat_lt k.revision e.revision) (apart i))
        ∙ sym (ap (λ b. cond b (Some k) (find (same_cell row) ks)) (apart i))
    by false i go = ap (λ o. cond (same_cell row k) (Some k) o) go

verdict-joined : (o : Option Row) (e row : Row)
    → verdict_on (joined o e) row ≡ after (verdict_where o row) e row
verdict-joined None e row = refl
verdict-joined (Some k) e row = grind arith

verdict-same : (came : List Row) (e row : Row)
    → same_cell row e ≡ true → verdict_of (current_rows (came ++ e ∷ [])) row
    ≡ after (verdict_of (current_rows came) row) e row
verdict-same came e row h =
    ap (λ rows. verdict_of rows row) (current-push same_cell revision_of cell_laws came e)
    ∙ ap (λ o. verdict_where o row) (find-settled (current_rows came) e row h)
    ∙ verdict-joined (kept_of (current_rows came) row) e row

verdict-other : (came : List Row) (e row : Row) → same_cell row e ≡ false
    → verdict_of (current_rows (came ++ e ∷ [])) row ≡ verdict_of (current_rows came) row
verdict-other came e row h =
    ap (λ rows. verdict_of rows row) (current-push same_cell revision_of cell_laws came e)
    ∙ ap (λ o. verdict_where o row) (find-other (current_rows came) e row h)

-- one row more came
pub verdict-step : (came : List Row) (e row : Row) → verdict_of (current_rows (came ++ e ∷ [])) row
    ≡ passed (verdict_of (current_rows came) row) e row
verdict-step came e row = by (same_cell row e) refl
  where
    by : (b : Bool) → same_cell row e ≡ b → verdict_of (current_rows (came ++ e ∷ [])) row ≡ cond b
        (after (verdict_of (current_rows came) row) e row) (verdict_of (current_rows came) row)
    by true h = verdict-same came e row h
    by false h = verdict-other came e row h

-- The rows that came before a batch count only by the current ones among them.
pub current-append : (came xs : List Row)
    → current_rows (current_rows came ++ xs) ≡ current_rows (came ++ xs)
current-append came [] = ap current_rows (append-nil (current_rows came))
    ∙ current-current same_cell revision_of cell_laws came ∙ ap current_rows (sym (append-nil came))
current-append came (x ∷ xs) =
    ap current_rows (sym (append_assoc (current_rows came) (x ∷ []) xs))
    ∙ sym (current-append (current_rows came ++ x ∷ []) xs)
    ∙ ap (λ rows. current_rows (rows ++ xs)) (put-current came x)
    ∙ current-append (came ++ x ∷ []) xs
    ∙ ap current_rows (append_assoc came (x ∷ []) xs)

no_new : (kept row : Row) → is_new (verdict_on kept row) ≡ false
no_new kept row = by (nat_lt kept.revision row.revision) (nat_lt row.revision kept.revision)
    (same_amount kept.amount row.amount)
  where
    by : (a b d : Bool) → is_new (cond a (Newer kept)
        (cond b (Superseded kept.revision) (cond d Repeated (Conflict kept)))) ≡ false
    by true b d = refl
    by false true d = refl
    by false false true = refl
    by false false false = refl

length-settled : (rows : List Row) (row : Row)
    → length (settled rows row) ≡ length rows + one_if (is_new (verdict_of rows row))
length-settled [] row = refl
length-settled (k ∷ ks) row = by (same_cell row k) (length-settled ks row)
  where
    by : (b : Bool) → length (settled ks row) ≡ length ks + one_if (is_new (verdict_of ks row)) →
        length (cond b (newer revision_of k row ∷ ks) (k ∷ settled ks row)) ≡ length (k ∷ ks)
        + one_if (is_new (verdict_where (cond b (Some k) (find (same_cell row) ks)) row))
    by true e = omega (arith, ap one_if (no_new k row))
    by false e = omega (arith, e)

-- one row more makes one cell more where it is new
pub length-current : (came : List Row) (row : Row) → length (current_rows (came ++ row ∷ []))
    ≡ length (current_rows came) + one_if (is_new (verdict_of (current_rows came) row))
length-current came row = ap length (current-push same_cell revision_of cell_laws came row)
    ∙ length-settled (current_rows came) row

newer-newer : (a b c : Row)
    → newer revision_of (newer revision_of a b) c ≡ newer revision_of a (newer revision_of b c)
newer-newer a b c = grind arith

later-joined : (a b : Option Row) (e : Row)
    → later_of a (Some (joined b e)) ≡ Some (joined (later_of a b) e)
later-joined None b e = refl
later-joined (Some a) None e = refl
later-joined (Some a) (Some b) e = ap (λ row. Some row) (sym (newer-newer a b e))

kept-step : (rows came : List Row) (e row : Row) → kept_of (current_rows (rows ++ came)) row
    ≡ later_of (kept_of (current_rows rows) row) (kept_of (current_rows came) row) →
    kept_of (current_rows (rows ++ (came ++ e ∷ []))) row
    ≡ later_of (kept_of (current_rows rows) row) (kept_of (current_rows (came ++ e ∷ [])) row)
kept-step rows came e row so =
    ap (λ all. kept_of (current_rows all) row) (sym (append_assoc rows came (e ∷ [])))
    ∙ ap (λ kept. kept_of kept row) (current-push same_cell revision_of cell_laws (rows ++ came) e)
    ∙ by (same_cell row e) refl
    ∙ ap (λ kept. later_of (kept_of (current_rows rows) row) (kept_of kept row))
    (sym (current-push same_cell revision_of cell_laws came e))
  where
    by : (b : Bool) → same_cell row e ≡ b → kept_of (settled (current_rows (rows ++ came)) e) row
        ≡ later_of (kept_of (current_rows rows) row) (kept_of (settled (current_rows came) e) row)
    by true h =
        find-settled (current_rows (rows ++ came)) e row h
        ∙ ap (λ o. Some (joined o e)) so
        ∙ sym (later-joined (kept_of (current_rows rows) row) (kept_of (current_rows came) row) e)
        ∙ ap (later_of (kept_of (current_rows rows) row))
        (sym (find-settled (current_rows came) e row h))
    by false h =
        find-other (current_rows (rows ++ came)) e row h ∙ so
        ∙ ap (later_of (kept_of (current_rows rows) row))
        (sym (find-other (current_rows came) e row h))

kept-more : (rows came more : List Row) (row : Row) → kept_of (current_rows (rows ++ came)) row
    ≡ later_of (kept_of (current_rows rows) row) (kept_of (current_rows came) row) →
    kept_of (current_rows (rows ++ (came ++ more))) row
    ≡ later_of (kept_of (current_rows rows) row) (kept_of (current_rows (came ++ more)) row)
kept-more rows came [] row so =
    ap (λ came. kept_of (current_rows (rows ++ came)) row) (append-nil came) ∙ so
    ∙ ap (λ came. later_of (kept_of (current_rows rows) row) (kept_of (current_rows came) row))
    (sym (append-nil came))
kept-more rows came (e ∷ more) row so =
    ap (λ came. kept_of (current_rows (rows ++ came)) row) (sym (append_assoc came (e ∷ []) more))
    ∙ kept-more rows (came ++ e ∷ []) more row (kept-step rows came e row so)
    ∙ ap (λ came. later_of (kept_of (current_rows rows) row) (kept_of (current_rows came) row))
    (append_assoc came (e ∷ []) more)

-- What is kept of a row's cell, over current rows and others that came later.
pub kept-later : (rows came : List Row) (row : Row) → current_rows rows ≡ rows →
    verdict_where (later_of (kept_of rows row) (kept_of (current_rows came) row)) row
    ≡ verdict_of (current_rows (rows ++ came)) row
kept-later rows came row current =
    ap (λ kept. verdict_where (later_of (kept_of kept row) (kept_of (current_rows came) row)) row)
    (sym current)
    ∙ ap (λ o. verdict_where o row)
    (sym (kept-more rows [] came row (ap (λ rows. kept_of (current_rows rows) row)
    (append-nil rows) ∙ sym (none_later (kept_of (current_rows rows) row)))))
  where
    none_later : (o : Option Row) → later_of o None ≡ o
    none_later None = refl
    none_later (Some kept) = refl

-- one row more
pub verdicts-push : (came rows : List Row) (row : Row) → verdicts came (rows ++ row ∷ [])
    ≡ verdicts came rows ++ verdict_of (current_rows (came ++ rows)) row ∷ []
verdicts-push came [] row =
    ap (λ rows. verdict_of (current_rows rows) row ∷ []) (sym (append-nil came))
verdicts-push came (r ∷ rows) row =
    ap (λ vs. verdict_of (current_rows came) r ∷ vs) (verdicts-push (came ++ r ∷ []) rows row)
    ∙ ap (λ rows'. verdict_of (current_rows came) r ∷ verdicts (came ++ r ∷ []) rows
    ++ verdict_of (current_rows rows') row ∷ []) (append_assoc came (r ∷ []) rows)

pub verdicts-at : (came rows : List Row) (place : ℕ) (row : Row) → slice_get rows place ≡ Some row →
    slice_get (verdicts came rows) place
    ≡ Some (verdict_of (current_rows (came ++ take place rows)) row)
verdicts-at came [] place row e = cc e
verdicts-at came (r ∷ rows) zero row e =
    let same : r ≡ row = cc e in
    (λ i. Some (verdict_of (current_rows (sym (append-nil came) i)) (same i)))
verdicts-at came (r ∷ rows) (suc place) row e =
    verdicts-at (came ++ r ∷ []) rows place row e
    ∙ ap (λ rows. Some (verdict_of (current_rows rows) row))
    (append_assoc came (r ∷ []) (take place rows))

pub verdicts-over : (came rows : List Row) → verdicts (current_rows came) rows ≡ verdicts came rows
verdicts-over came [] = refl
verdicts-over came (row ∷ rows) =
    ap (λ v. v ∷ verdicts (current_rows came ++ row ∷ []) rows)
    (ap (λ rows. verdict_of rows row) (current-current same_cell revision_of cell_laws came))
    ∙ ap (λ vs. verdict_of (current_rows came) row ∷ vs)
    (sym (verdicts-over (current_rows came ++ row ∷ []) rows)
    ∙ ap (λ kept. verdicts kept rows) (put-current came row)
    ∙ verdicts-over (came ++ row ∷ []) rows)

length-kept : (came : List Row) (n : ℕ) (rows : List Row) → length (current_rows came) ≡ n
    → length (current_rows (came ++ rows)) ≡ n + length (filter is_new (verdicts came rows))
length-kept came n [] e = ap (λ rows. length (current_rows rows)) (append-nil came)
    ∙ e ∙ omega arith
length-kept came n (row ∷ rows) e =
    ap (λ rows. length (current_rows rows)) (sym (append_assoc came (row ∷ []) rows))
    ∙ length-kept (came ++ row ∷ [])
    (n + one_if (is_new (verdict_of (current_rows came) row))) rows (length-current came row
    ∙ ap (λ m. m + one_if (is_new (verdict_of (current_rows came) row))) e)
    ∙ by (is_new (verdict_of (current_rows came) row))
  where
    v : RowVerdict
    v = verdict_of (current_rows came) row

    by : (b : Bool) → n + one_if b + length (filter is_new (verdicts (came ++ row ∷ []) rows)) ≡
        n + length (cond b (v ∷ filter is_new (verdicts (came ++ row ∷ []) rows))
        (filter is_new (verdicts (came ++ row ∷ []) rows)))
    by true = omega arith
    by false = omega arith

-- a batch adds a cell for each of its rows that is new
pub length-verdicts : (came rows : List Row) → length (current_rows (came ++ rows))
    ≡ length (current_rows came) + length (filter is_new (verdicts came rows))
length-verdicts came rows = length-kept came (length (current_rows came)) rows refl

settled-passed : (v : RowVerdict) (between row : Row) → is_settled v ≡ true
    → is_settled (passed v between row) ≡ true
settled-passed v between row h = by (same_cell row between) v h
  where
    by : (b : Bool) (v : RowVerdict) → is_settled v ≡ true
        → is_settled (cond b (after v between row) v) ≡ true
    by false v h = h
    by true Repeated h = each (nat_lt row.revision between.revision)
      where
        each : (c : Bool) → is_settled (cond c (Superseded between.revision) Repeated) ≡ true
        each true = refl
        each false = refl
    by true (Superseded revision) h = each (nat_lt revision between.revision)
      where
        each : (c : Bool) → is_settled (cond c (Superseded between.revision) (Superseded revision))
            ≡ true
        each true = refl
        each false = refl
    by true New h = cc h
    by true (Newer kept) h = cc h
    by true (Conflict kept) h = cc h

pub settled-stays : (came more : List Row) (row : Row)
    → is_settled (verdict_of (current_rows came) row) ≡ true
    → is_settled (verdict_of (current_rows (came ++ more)) row) ≡ true
settled-stays came [] row h =
    ap (λ rows. is_settled (verdict_of (current_rows rows) row)) (append-nil came) ∙ h
settled-stays came (m ∷ more) row h =
    ap (λ rows. is_settled (verdict_of (current_rows rows) row))
    (sym (append_assoc came (m ∷ []) more))
    ∙ settled-stays (came ++ m ∷ []) more row (ap is_settled (verdict-step came m row)
    ∙ settled-passed (verdict_of (current_rows came) row) m row h)

lt-itself : (n : ℕ) → nat_lt n n ≡ false
lt-itself n = grind (arith, nat_tests)

eq-itself : (amount : Amount) → same_amount amount amount ≡ true
eq-itself (Counts part total) = grind (arith, nat_tests)
eq-itself (Value value) = grind (arith, nat_tests)
eq-itself Withdrawn = refl

same_amount-itself : (row : Row) → verdict_on row row ≡ Repeated
same_amount-itself row = rw (lt-itself row.revision, eq-itself row.amount) refl

settled-kept : (kept row : Row) → nat_lt kept.revision row.revision ≡ false
    → is_conflict (verdict_on kept row) ≡ false → is_settled (verdict_on kept row) ≡ true
settled-kept kept row e h = by (nat_lt kept.revision row.revision)
    (nat_lt row.revision kept.revision) (same_amount kept.amount row.amount) e h
  where
    by : (a b d : Bool) → a ≡ false → is_conflict (cond a (Newer kept)
        (cond b (Superseded kept.revision) (cond d Repeated (Conflict kept)))) ≡ false →
        is_settled (cond a (Newer kept)
        (cond b (Superseded kept.revision) (cond d Repeated (Conflict kept)))) ≡ true
    by true b d e h = cc e
    by false true d e h = refl
    by false false true e h = refl
    by false false false e h = cc h

pub settled-once : (came : List Row) (row : Row) → is_conflict (verdict_of (current_rows came) row)
    ≡ false → is_settled (verdict_of (current_rows (came ++ row ∷ [])) row) ≡ true
settled-once came row h =
    ap is_settled (verdict-same came row row (cell_laws.refl row)
    ∙ sym (verdict-joined (kept_of (current_rows came) row) row row))
    ∙ by (kept_of (current_rows came) row) h
  where
    by : (o : Option Row) → is_conflict (verdict_where o row) ≡ false
        → is_settled (verdict_on (joined o row) row) ≡ true
    by None h = ap is_settled (same_amount-itself row)
    by (Some kept) h = each (nat_lt kept.revision row.revision) refl
      where
        each : (c : Bool) → nat_lt kept.revision row.revision ≡ c
            → is_settled (verdict_on (cond c row kept) row) ≡ true
        each true e = ap is_settled (same_amount-itself row)
        each false e = settled-kept kept row e h

-- The rows of a batch that came are judged and taken.
pub record AreJudged (kept came : List Row) (found : List RowVerdict)
    (earlier : List Row) : Type 0 where
  pub so_far : found ≡ verdicts kept came
  pub taken : earlier ≡ current_rows came

pub judged_none : (kept : List Row) (found : List RowVerdict) (earlier : List Row) → found ≡ []
    → earlier ≡ [] → AreJudged kept [] found earlier
judged_none kept found earlier none empty = record { so_far = none; taken = empty }

pub judged_more : (kept rows : List Row) (place : ℕ) (row : Row) (found found' : List RowVerdict)
    (earlier earlier' : List Row) →
    place < length rows → row ≡ get_or rows place row →
    AreJudged kept (take place rows) found earlier →
    found' ≡ found ++ verdict_of (current_rows (kept ++ take place rows)) row ∷ [] →
    earlier' ≡ rows_after earlier row → AreJudged kept (take (place + 1) rows) found' earlier'
judged_more kept rows place row found found' earlier earlier' within is so pushed came =
    let came_is : take (place + 1) rows ≡ take place rows ++ row ∷ [] =
    take_more rows place row within ∙ ap (λ (r : Row). take place rows ++ r ∷ []) (sym is) in
    record {
      so_far =
          pushed ∙ ap (λ vs. vs ++ verdict_of (current_rows (kept ++ take place rows)) row
          ∷ []) so.so_far
          ∙ sym (verdicts-push kept (take place rows) row) ∙ ap (verdicts kept) (sym came_is);
      taken = came ∙ ap (λ rows. rows_after rows row) so.taken ∙ after-current (take place rows) row
          ∙ ap current_rows (sym came_is);
    }
