-- What a source lost in one read after another, and what came of the records in it.
use Rattle.std.proofs.Common.{◌≡◌, ◌∙◌, ◌<◌, ◌≤◌, ◌+◌, ◌++◌, ℕ, List, [], length, take, Some, None}
use Rattle.std.proofs.Common.{ap, append_assoc, arith, length-append, refl, subst, sym}
use Rattle.std.proofs.lemmas.List.{append-nil, length-take}
use Rattle.std.specs.declared.option.Option.{Option}
use Rattle.csv_records.proofs.PartLemmas.{read_all, read_none}
use Rattle.csv_records.specs.Records.{Fields, csv_records}
use Rattle.office_outside.specs.Told.{HasNothingLeft, Lost}
use Rattle.budget_command.specs.Input.{HasJudgedAll, HasMore, HasTakenBytes, TakesAtMost}
use Rattle.budget_command.specs.Tables.{HasJudged, HasJudgedTo}
use Rattle.budget_command.specs.declared.TheConstants.{MAX_INPUT_BYTES}
use Rattle.budget_command.specs.declared.judging.Judging.{Judging}
use Rattle.budget_command.proofs.JudgingLemmas.{few-records}

lost-nothing : (left : Option (List ℕ)) → Lost [] left left
lost-nothing None = tt
lost-nothing (Some bytes) = refl

lost-more : (a b : List ℕ) (x y z : Option (List ℕ)) → Lost a x y → Lost b y z → Lost (a ++ b) x z
lost-more a b None None None p q = tt
lost-more a b None None (Some z) p q = q
lost-more a b None (Some y) z p q = absurd p
lost-more a b (Some x) None z p q = absurd p
lost-more a b (Some x) (Some y) None p q = q
lost-more a b (Some x) (Some y) (Some z) p q = p ∙ ap (λ (l : List ℕ). a ++ l) q ∙
    (let e = append_assoc a b z in sym e)

-- before the first read
pub taken-none : (left : Option (List ℕ)) (judging : Judging) → HasJudged [] judging
    → HasTakenBytes left left 0 [] judging
taken-none left judging judged = record {
  seen = [];
  lost = lost-nothing left;
  count = refl;
  judged = record { records = []; read = read_none; judged = judged };
}

-- one more read
pub taken-more : (first mid now : Option (List ℕ)) (taken : ℕ) (waiting next bytes : List ℕ)
    (old new : Judging) →
    HasTakenBytes first mid taken waiting old → Lost bytes mid now →
    ((seen : List ℕ) → HasJudgedTo seen waiting old → HasJudgedTo (seen ++ bytes) next new) →
    HasTakenBytes first now (taken + length bytes) next new
taken-more first mid now taken waiting next bytes old new so lost goes = record {
  seen = so.seen ++ bytes;
  lost = lost-more so.seen bytes first mid now so.lost lost;
  count = length-append so.seen bytes ∙ ap (λ (n : ℕ). n + length bytes) so.count;
  judged = goes so.seen so.judged;
}

-- the last read, which found the end
pub taken-all : (first mid now : Option (List ℕ)) (taken : ℕ) (waiting piece : List ℕ)
    (old new : Judging) →
    HasTakenBytes first mid taken waiting old → taken ≤ MAX_INPUT_BYTES
    → Lost (take 0 piece) mid now → HasNothingLeft now →
    ((before : List Fields) → HasJudged before old → HasJudged (before ++ csv_records waiting) new)
    → HasJudgedAll first new
taken-all None mid now taken waiting piece old new so few lost ends judges = tt
taken-all (Some bytes) mid now taken waiting piece old new so few lost ends judges = by mid now
    so.lost lost ends
  where
    by : (mid now : Option (List ℕ)) → Lost so.seen (Some bytes) mid → Lost (take 0 piece) mid now
        → HasNothingLeft now → HasJudgedAll (Some bytes) new
    by None now p q e = absurd p
    by (Some ys) None p q e = absurd q
    by (Some ys) (Some zs) p q e =
        let all : bytes ≡ so.seen = p ∙ ap (λ (t : List ℕ). so.seen ++ t) (q ∙ e) ∙ append-nil
        so.seen in
        let records : so.judged.records ++ csv_records waiting ≡ csv_records bytes =
        sym (read_all so.seen so.judged.records waiting so.judged.read) ∙ ap csv_records (sym all)
        in (
          rw all (let c = so.count in omega (arith, c, few)),
          subst (λ (rs : List Fields). HasJudged rs new) records
              (judges so.judged.records so.judged.judged),
        )

-- more than this was taken
pub taken-large : (most : ℕ) (first now : Option (List ℕ)) (taken : ℕ) (waiting : List ℕ)
    (judging : Judging) →
    HasTakenBytes first now taken waiting judging → most < taken → HasMore most first
taken-large most None now taken waiting judging so more = tt
taken-large most (Some bytes) now taken waiting judging so more = by now so.lost
  where
    by : (now : Option (List ℕ)) → Lost so.seen (Some bytes) now → HasMore most (Some bytes)
    by None p = absurd p
    by (Some ys) p = rw p (let c = so.count in omega (arith, c, length-append so.seen ys))

-- no more than this was taken
pub taken-few : (most : ℕ) (first now : Option (List ℕ)) (taken : ℕ) (waiting : List ℕ)
    (judging : Judging) →
    HasTakenBytes first now taken waiting judging → taken ≤ most → TakesAtMost most first now
taken-few most first now taken waiting judging so
    few = record { bytes = so.seen; lost = so.lost; few = rw so.count few }

-- and one more piece of so many bytes
pub taken-piece : (most : ℕ) (first mid now : Option (List ℕ)) (taken : ℕ) (waiting piece : List ℕ)
    (count : ℕ) (judging : Judging) →
    HasTakenBytes first mid taken waiting judging → Lost (take count piece) mid now
    → taken + count ≤ most → TakesAtMost most first now
taken-piece most first mid now taken waiting piece count judging so lost few = record {
  bytes = so.seen ++ take count piece;
  lost = lost-more so.seen (take count piece) first mid now so.lost lost;
  few = (let c = so.count in omega (
    arith,
    c,
    few,
    length-append so.seen (take count piece),
    length-take count piece,
  ));
}

-- the records of what waits, and of a piece more, are few
pub taken-few_records : (first now : Option (List ℕ)) (taken : ℕ) (waiting piece : List ℕ)
    (count : ℕ) (judging : Judging) →
    HasTakenBytes first now taken waiting judging
    → judging.number + length (csv_records (waiting ++ take count piece)) ≤ taken + length piece
    + 1
taken-few_records first now taken waiting piece count judging so =
    let few = few-records so.seen so.judged.records waiting piece count so.judged.read in
    omega (arith, few, so.count, so.judged.judged.numbered)

pub taken-rest_few : (first now : Option (List ℕ)) (taken : ℕ) (waiting : List ℕ)
    (judging : Judging) →
    HasTakenBytes first now taken waiting judging
    → judging.number + length (csv_records waiting) ≤ taken + 1
taken-rest_few first now taken waiting judging so =
    let few = taken-few_records first now taken waiting [] 0 judging so in
    let all = ap (λ (text : List ℕ). length (csv_records text)) (append-nil waiting) in
    omega (arith, few, all)
