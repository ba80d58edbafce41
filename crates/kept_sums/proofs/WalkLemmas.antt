-- A walk over linked rows, from the last to the first.
use Rattle.std.proofs.Common.{◌≡◌, ℕ, zero, suc, ◌+◌, ◌-◌, ◌≤◌, ◌<◌, Bool, false, refl, ap, sym}
use Rattle.std.proofs.Common.{subst, ◌∙◌, arith, List, [], ◌∷◌, ◌++◌, take, drop, length}
use Rattle.std.proofs.Common.{append_assoc, slice_get, Option, Some}
use Rattle.std.proofs.lemmas.List.{append-nil, map-append}
use Rattle.slice_method.specs.declared.Counts.{Counts}
use Rattle.sample_book.specs.declared.Row.{Row}
use Rattle.cell_index.specs.Chains.{below, last}
use Rattle.sample_book.specs.LastRows.{last_place}
use Rattle.cell_index.proofs.ChainLemmas.{last-behind, last-passes, last-within}
use Rattle.window_sums.specs.Shares.{IsSmall, IsSumOf, Share}
use Rattle.window_sums.specs.Slices.{CountedDays}
use Rattle.kept_sums.specs.Replacing.{MayReplace, among}
use Rattle.kept_sums.specs.Sums.{share_by, shares_by}
use Rattle.kept_sums.specs.Walks.{IsOnKey, IsWalking, rows_until, walked_shares}
use Rattle.kept_sums.proofs.ListLemmas.{all_before, all_here, all_after, all_join, drop_at}
use Rattle.kept_sums.proofs.ListLemmas.{drop_all, get_taken, item_there, parted_at, take_all}
use Rattle.kept_sums.proofs.ListLemmas.{take_at}
use Rattle.kept_sums.proofs.RowLemmas.{AreSmallBy, length_around, small_by}

pub until_below : (n : ℕ) → rows_until (below n) ≡ n
until_below zero = refl
until_below (suc n) = refl

-- what the sums need to follow the walk by one row
pub record WalkFacts (f h : Row → Counts) (place : ℕ) (rows : List Row) (row : Row)
    (sums : CountedDays) : Type 0 where
  pub before : List Share
  pub after : List Share
  pub may : MayReplace sums row.minute (f row) (h row) before after
  pub put : among before row.minute (h row) after ≡ walked_shares f h place rows

one_back : (f h : Row → Counts) (place : ℕ) (rows : List Row) (row : Row) →
    slice_get rows place ≡ Some row →
    walked_shares f h (suc place) rows ≡ among (shares_by f (take place rows)) row.minute (f row)
    (shares_by h (drop (suc place) rows))
one_back f h place rows row at =
    ap (λ l. shares_by f l ++ shares_by h (drop (suc place) rows)) (take_at rows place row at)
    ∙ ap (λ l. l ++ shares_by h (drop (suc place) rows))
    (map-append (share_by f) (take place rows) (row ∷ []))
    ∙ append_assoc (shares_by f (take place rows)) (share_by f row ∷ [])
    (shares_by h (drop (suc place) rows))

pub walk_facts : (key : Row → Bool) (f h : Row → Counts) (place : ℕ) (rows : List Row) (row : Row)
    (sums : CountedDays) → slice_get rows place ≡ Some row →
    AreSmallBy f rows → AreSmallBy h rows → length rows ≤ 4000000 →
    IsWalking key f h rows (Some place) sums → WalkFacts f h place rows row sums
walk_facts key f h place rows row sums at small_f small_h few walking =
    let xs = take place rows in
    let ys = drop (suc place) rows in
    let parted = parted_at rows place row at in
    let by_f = subst (AreSmallBy f) parted small_f in
    let by_h = subst (AreSmallBy h) parted small_h in
    let fs = small_by f xs (all_before (λ row. IsSmall (share_by f row)) xs row ys by_f) in
    let hs = small_by h ys (all_after (λ row. IsSmall (share_by h row)) xs row ys by_h) in
    let here : IsSmall (share_by f row) =
    all_here (λ row. IsSmall (share_by f row)) xs row ys by_f in
    let there : IsSmall (share_by h row) =
    all_here (λ row. IsSmall (share_by h row)) xs row ys by_h in
    let short : length (xs ++ row ∷ ys) ≤ 4000000 = subst (λ l. length l ≤ 4000000) parted few in
    record {
      before = shares_by f xs;
      after = shares_by h ys;
      may = record {
        counted = subst (IsSumOf sums) (one_back f h place rows row at) walking.counted;
        small = record {
          each = all_join IsSmall (shares_by f xs) (share_by f row) (shares_by h ys)
              fs here hs;
          few = omega (arith, short, length_around h f xs row (share_by f row) ys);
        };
        small_then = record {
          each =
              all_join IsSmall (shares_by f xs) (share_by h row) (shares_by h ys) fs there hs;
          few = omega (arith, short, length_around h f xs row (share_by h row) ys);
        };
      };
      put = ap (λ l. shares_by f xs ++ shares_by h l) (sym (drop_at rows place row at));
    }

-- a row that counts the same by both is passed over
one_same : (f h : Row → Counts) (place : ℕ) (rows : List Row) (row : Row) →
    slice_get rows place ≡ Some row → f row ≡ h row →
    walked_shares f h (suc place) rows ≡ walked_shares f h place rows
one_same f h place rows row at same =
    one_back f h place rows row at
    ∙ ap (λ c. among (shares_by f (take place rows)) row.minute c
    (shares_by h (drop (suc place) rows))) same
    ∙ ap (λ l. shares_by f (take place rows) ++ shares_by h l) (sym (drop_at rows place row at))

-- rows that count the same by both are passed over
all_same : (f h : Row → Counts) (link at : ℕ) (rows : List Row) → link ≤ at → at ≤ length rows →
    ((place : ℕ) (row : Row) → link ≤ place → place < at → slice_get rows place ≡ Some row
    → f row ≡ h row) →
    walked_shares f h at rows ≡ walked_shares f h link rows
all_same f h link at rows le within same = down (at - link) at (omega (arith, le)) within same
  where
    down : (n at : ℕ) → at ≡ link + n → at ≤ length rows → ((place : ℕ) (row : Row) → link ≤ place
        → place < at → slice_get rows place ≡ Some row → f row ≡ h row) →
        walked_shares f h at rows ≡ walked_shares f h link rows
    down zero at e within same = ap (λ n. walked_shares f h n rows) (e ∙ plain link)
      where
        plain : (n : ℕ) → n + 0 ≡ n
        plain n = omega arith
    down (suc n) at e within same =
        let next : at ≡ suc (link + n) = omega (arith, e) in
        let r = item_there rows (link + n) (omega (arith, within, next)) in
        ap (λ m. walked_shares f h m rows) next
        ∙ one_same f h (link + n) rows r.0 r.1
        (same (link + n) r.0 (omega arith) (omega (arith, next)) r.1)
        ∙ down n (link + n) refl (omega (arith, within, next))
        (λ place row from to at'. same place row from (omega (arith, to, next)) at')

-- the walk comes from a place to the last row of the key before it
linked : (key : Row → Bool) (f h : Row → Counts) (rows : List Row) (at : ℕ) (next : Option ℕ)
    (sums : CountedDays) → at ≤ length rows → next ≡ last_place key (take at rows) →
    ((row : Row) → key row ≡ false → f row ≡ h row) → IsSumOf sums (walked_shares f h at rows) →
    IsWalking key f h rows next sums
linked key f h rows at next sums within is same counted =
    subst (λ o. IsWalking key f h rows o sums) (sym is) (record {
      place = place (last key (take at rows)) refl;
      counted = subst (λ n. IsSumOf sums (walked_shares f h n rows))
          (sym (until_below (last key (take at rows))))
          (subst (IsSumOf sums) (all_same f h (last key (take at rows)) at rows most within between)
          counted);
    })
  where
    short : (m : ℕ) (xs : List Row) → length (take m xs) ≤ m
    short zero xs = omega arith
    short (suc m) [] = omega arith
    short (suc m) (x ∷ xs) = omega (arith, short m xs)

    most : last key (take at rows) ≤ at
    most = omega (arith, last-within key (take at rows), short at rows)

    between : (place : ℕ) (row : Row) → last key (take at rows) ≤ place → place < at
        → slice_get rows place ≡ Some row → f row ≡ h row
    between place row from to there = same row
        (last-behind key (take at rows) place row from (get_taken rows at place to ∙ there))

    place : (n : ℕ) → last key (take at rows) ≡ n → IsOnKey key rows (below n)
    place zero e = tt
    place (suc n) e = (
      omega (arith, most, e, within),
      λ row there. last-passes key (take at rows) n row e
          (get_taken rows at n (omega (arith, most, e)) ∙ there),
    )

-- the walk begins behind all rows
pub walk_begins : (key : Row → Bool) (f h : Row → Counts) (rows : List Row) (next : Option ℕ)
    (sums : CountedDays) → next ≡ last_place key rows →
    ((row : Row) → key row ≡ false → f row ≡ h row) → IsSumOf sums (shares_by f rows) →
    IsWalking key f h rows next sums
walk_begins key f h rows next sums is same counted =
    linked key f h rows (length rows) next sums (omega arith)
    (is ∙ ap (last_place key) (sym (take_all rows (length rows) refl))) same
    (subst (IsSumOf sums) (sym whole) counted)
  where
    whole : walked_shares f h (length rows) rows ≡ shares_by f rows
    whole = ap (λ l. shares_by f l ++ shares_by h (drop (length rows) rows))
        (take_all rows (length rows) refl)
        ∙ ap (λ l. shares_by f rows ++ shares_by h l) (drop_all rows (length rows) refl)
        ∙ append-nil (shares_by f rows)

-- one row further
pub walk_goes : (key : Row → Bool) (f h : Row → Counts)
    (rows : List Row) (place : ℕ) (next : Option ℕ) (sums : CountedDays) → place < length rows →
    next ≡ last_place key (take place rows) →
    ((row : Row) → key row ≡ false → f row ≡ h row) → IsSumOf sums (walked_shares f h place rows) →
    IsWalking key f h rows next sums
walk_goes key f h rows place next sums less is same counted =
    linked key f h rows place next sums (omega (arith, less)) is same counted

-- the walk goes down
pub walk_smaller : (key : Row → Bool) (rows : List Row) (place : ℕ) (next : Option ℕ)
    → next ≡ last_place key (take place rows) → rows_until next < suc place
walk_smaller key rows place next is =
    subst (λ o. rows_until o < suc place) (sym is)
    (omega (
      arith,
      until_below (last key (take place rows)),
      last-within key (take place rows),
      short place rows,
    ))
  where
    short : (m : ℕ) (xs : List Row) → length (take m xs) ≤ m
    short zero xs = omega arith
    short (suc m) [] = omega arith
    short (suc m) (x ∷ xs) = omega (arith, short m xs)
