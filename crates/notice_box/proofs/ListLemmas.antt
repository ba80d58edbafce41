-- Lists of notices, of which some wait.
use Rattle.std.proofs.Common.{◌≡◌, ◌≢◌, ◌⊎◌, ℕ, zero, suc, ◌+◌, ◌-◌, ◌≤◌, ◌<◌, ◌==◌, ◌&&◌, ◌||◌}
use Rattle.std.proofs.Common.{nat_eq, not, Bool, true, false, Option, None, Some, IfSome, List, []}
use Rattle.std.proofs.Common.{◌∷◌, ◌++◌, inl, inr, refl, sym, ap, ◌∙◌, arith, length, map, filter}
use Rattle.std.proofs.Common.{drop, slice_index_or, slice_set, cond, length-append}
use Rattle.std.specs.List.{list_any}
use Rattle.std.proofs.lemmas.List.Elements.{filter-append}
use Rattle.std.proofs.lemmas.Bool.Decides.{eqb_tells}
use Rattle.notice_box.specs.declared.notice.Notice.{Notice}
use Rattle.notice_box.specs.Box.{AreNumbered, IsNext, after_taking, count_waiting, no_notice}
use Rattle.notice_box.specs.Box.{notices_of, waiting_in, waits}
use Rattle.notice_box.specs.Laws.{TakingsAreFew}

abbrev Kept : Type 0
Kept = Notice × Bool

-- ---- numbers

numbered-at : (number : ℕ) (made : List Kept) (place : ℕ) (d : Kept) → place < length made
    → AreNumbered number (notices_of made) → (slice_index_or made place d).0.number ≡ number + place
numbered-at number [] place d lt are = absurd (omega arith)
numbered-at number (kept ∷ rest) zero d lt are = omega (arith, are.0)
numbered-at number (kept ∷ rest) (suc place) d lt are =
    omega (arith, numbered-at (number + 1) rest place d (omega arith) are.1)

pub AreNumbered-push : (number : ℕ) (made : List Kept) (kept : Kept)
    → AreNumbered number (notices_of made) → kept.0.number ≡ number + length made
    → AreNumbered number (notices_of (made ++ kept ∷ []))
AreNumbered-push number [] kept are is = (omega (arith, is), tt)
AreNumbered-push number (first ∷ rest) kept are is =
    (are.0, AreNumbered-push (number + 1) rest kept are.1 (omega (arith, is)))

-- later numbers are greater, so none of them is taken by an earlier number
untouched : (from number : ℕ) (made : List Kept) → number < from
    → AreNumbered from (notices_of made) → after_taking made number ≡ made
untouched from number [] lt are = refl
untouched from number (kept ∷ rest) lt are =
    by (eqb_tells kept.0.number number) (untouched (from + 1) number rest (omega arith) are.1)
  where
    waited : (b : Bool) → (b && true) ≡ b
    waited true = refl
    waited false = refl

    by : ((nat_eq kept.0.number number ≡ true) × (kept.0.number ≡ number))
        ⊎ ((nat_eq kept.0.number number ≡ false) × (kept.0.number ≢ number)) →
        after_taking rest number ≡ rest →
        (kept.0, kept.1 && not (kept.0.number == number)) ∷ after_taking rest number ≡ kept ∷ rest
    by (inl same) e = absurd (omega (arith, same.1, are.0))
    by (inr other) e = rw (other.0, waited kept.1) (ap (λ l. kept ∷ l) e)

-- to take the notice of a number is to set the flag at its place
pub taken-set : (number : ℕ) (made : List Kept) (place : ℕ) (d : Kept) → place < length made →
    AreNumbered number (notices_of made) →
    slice_set made place ((slice_index_or made place d).0, false)
    ≡ after_taking made (number + place)
taken-set number [] place d lt are = absurd (omega arith)
taken-set number (kept ∷ rest) zero d lt are = by (eqb_tells kept.0.number (number + 0))
  where
    none : (b : Bool) → (b && false) ≡ false
    none true = refl
    none false = refl

    by : ((nat_eq kept.0.number (number + 0) ≡ true) × (kept.0.number ≡ number + 0))
        ⊎ ((nat_eq kept.0.number (number + 0) ≡ false) × (kept.0.number ≢ number + 0)) →
        (kept.0, false) ∷ rest ≡ (
          kept.0,
          kept.1 && not (kept.0.number == number + 0),
        ) ∷ after_taking rest (number + 0)
    by (inl same) = rw (same.0, none kept.1) (ap (λ l. (kept.0, false) ∷ l)
        (sym (untouched (number + 1) (number + 0) rest (omega arith) are.1)))
    by (inr other) = absurd (other.1 (omega (arith, are.0)))
taken-set number (kept ∷ rest) (suc place) d lt are =
    by (eqb_tells kept.0.number (number + suc place))
    (taken-set (number + 1) rest place d (omega arith) are.1)
  where
    waited : (b : Bool) → (b && true) ≡ b
    waited true = refl
    waited false = refl

    same_number : number + 1 + place ≡ number + suc place
    same_number = omega arith

    by : ((nat_eq kept.0.number (number + suc place) ≡ true) × (kept.0.number ≡ number + suc place))
        ⊎ ((nat_eq kept.0.number (number + suc place) ≡ false)
        × (kept.0.number ≢ number + suc place)) →
        slice_set rest place (
          (slice_index_or rest place d).0,
          false,
        ) ≡ after_taking rest (number + 1 + place) →
        kept ∷ slice_set rest place ((slice_index_or rest place d).0, false) ≡ (
          kept.0,
          kept.1 && not (kept.0.number == number + suc place),
        ) ∷ after_taking rest (number + suc place)
    by (inl same) e = absurd (omega (arith, same.1, are.0))
    by (inr other) e =
        rw (other.0, waited kept.1) (ap (λ l. kept ∷ l) (e ∙ ap (after_taking rest) same_number))

pub AreNumbered-taken : (from number : ℕ) (made : List Kept) → AreNumbered from (notices_of made)
    → AreNumbered from (notices_of (after_taking made number))
AreNumbered-taken from number [] are = tt
AreNumbered-taken from number (kept ∷ rest) are =
    (are.0, AreNumbered-taken (from + 1) number rest are.1)

-- ---- which places wait

pub waits-pushed : (made : List Kept) (kept : Kept)
    → waits (made ++ kept ∷ []) (length made) ≡ kept.1
waits-pushed [] kept = refl
waits-pushed (first ∷ rest) kept = waits-pushed rest kept

pub waits-kept : (made : List Kept) (kept : Kept) (k : ℕ) → k ≢ length made
    → waits (made ++ kept ∷ []) k ≡ waits made k
waits-kept [] kept zero other = absurd (other refl)
waits-kept [] kept (suc k) other = refl
waits-kept (first ∷ rest) kept zero other = refl
waits-kept (first ∷ rest) kept (suc k) other = waits-kept rest kept k (λ same. other (ap suc same))

pub waits-set : (made : List Kept) (place : ℕ) (kept : Kept) → place < length made
    → waits (slice_set made place kept) place ≡ kept.1
waits-set [] place kept lt = absurd (omega arith)
waits-set (first ∷ rest) zero kept lt = refl
waits-set (first ∷ rest) (suc place) kept lt = waits-set rest place kept (omega arith)

pub waits-off : (made : List Kept) (place : ℕ) (kept : Kept) (k : ℕ) → k ≢ place
    → waits (slice_set made place kept) k ≡ waits made k
waits-off [] place kept k other = refl
waits-off (first ∷ rest) zero kept zero other = absurd (other refl)
waits-off (first ∷ rest) zero kept (suc k) other = refl
waits-off (first ∷ rest) (suc place) kept zero other = refl
waits-off (first ∷ rest) (suc place) kept (suc k) other =
    waits-off rest place kept k (λ same. other (ap suc same))

-- ---- how many wait

pub count-pushed : (made : List Kept) (notice : Notice)
    → count_waiting (made ++ (notice, true) ∷ []) ≡ count_waiting made + 1
count-pushed made notice =
    ap length (filter-append (λ (kept : Kept). kept.1) made ((notice, true) ∷ []))
    ∙ length-append (filter (λ kept. kept.1) made) ((notice, true) ∷ [])

pub count-set : (made : List Kept) (place : ℕ) (notice : Notice) → waits made place ≡ true
    → count_waiting made ≡ count_waiting (slice_set made place (notice, false)) + 1
count-set [] place notice w = cc w
count-set (first ∷ rest) zero notice w = rw w (omega arith)
count-set (first ∷ rest) (suc place) notice w = by first.1 (count-set rest place notice w)
  where
    by : (b : Bool) → count_waiting rest
        ≡ count_waiting (slice_set rest place (notice, false)) + 1 →
        length (cond b (first ∷ filter (λ kept. kept.1) rest) (filter (λ kept. kept.1) rest))
        ≡ length (cond b (first ∷ filter (λ kept. kept.1) (slice_set rest place (notice, false)))
        (filter (λ kept. kept.1) (slice_set rest place (notice, false)))) + 1
    by true e = omega (arith, e)
    by false e = e

pub count-few : (made : List Kept) → count_waiting made ≤ length made
count-few [] = omega arith
count-few (first ∷ rest) = by first.1 (count-few rest)
  where
    by : (b : Bool) → count_waiting rest ≤ length rest
        → length (cond b (first ∷ filter (λ kept. kept.1) rest) (filter (λ kept. kept.1) rest))
        ≤ suc (length rest)
    by true le = omega (arith, le)
    by false le = omega (arith, le)

-- where a notice doesn't wait, to take it changes nothing
pub taken-idle : (number : ℕ) (made : List Kept) (place : ℕ) → AreNumbered number (notices_of made)
    → waits made place ≡ false → made ≡ after_taking made (number + place)
taken-idle number [] place are w = refl
taken-idle number (kept ∷ rest) zero are w =
    ap (λ l. kept ∷ l) (sym (untouched (number + 1) (number + 0) rest (omega arith) are.1)) ∙ same
  where
    none : (b : Bool) → (kept.1 && b) ≡ false
    none b = rw w refl

    same : kept ∷ after_taking rest (number + 0) ≡ (
      kept.0,
      kept.1 && not (kept.0.number == number + 0),
    ) ∷ after_taking rest (number + 0)
    same = ap (λ (b : Bool). (kept.0, b) ∷ after_taking rest (number + 0))
        (w ∙ sym (none (not (kept.0.number == number + 0))))
taken-idle number (kept ∷ rest) (suc place) are w =
    by (eqb_tells kept.0.number (number + suc place)) (taken-idle (number + 1) rest place are.1 w)
  where
    waited : (b : Bool) → (b && true) ≡ b
    waited true = refl
    waited false = refl

    same_number : number + 1 + place ≡ number + suc place
    same_number = omega arith

    by : ((nat_eq kept.0.number (number + suc place) ≡ true) × (kept.0.number ≡ number + suc place))
        ⊎ ((nat_eq kept.0.number (number + suc place) ≡ false)
        × (kept.0.number ≢ number + suc place)) →
        rest ≡ after_taking rest (number + 1 + place) → kept ∷ rest ≡ (
          kept.0,
          kept.1 && not (kept.0.number == number + suc place),
        ) ∷ after_taking rest (number + suc place)
    by (inl same) e = absurd (omega (arith, same.1, are.0))
    by (inr other) e =
        rw (other.0, waited kept.1) (ap (λ l. kept ∷ l) (e ∙ ap (after_taking rest) same_number))

-- ---- the first that wait

-- the notices that wait from a place on; none where there is no place
abbrev pub rest_of : List Kept → Option ℕ → List Notice
rest_of made None = []
rest_of made (Some place) = waiting_in (drop place made)

waits-within : (made : List Kept) (place : ℕ) → waits made place ≡ true → place < length made
waits-within [] place w = cc w
waits-within (kept ∷ rest) zero w = omega arith
waits-within (kept ∷ rest) (suc place) w = omega (arith, waits-within rest place w)

one-more : (place : ℕ) → place + 1 ≡ suc place
one-more place = omega arith

drop-none : (from : ℕ) → drop {A = Kept} from [] ≡ []
drop-none zero = refl
drop-none (suc from) = refl

here : (made : List Kept) (place : ℕ) → waits made place ≡ true → waiting_in (drop place made)
    ≡ (slice_index_or made place no_notice).0 ∷ waiting_in (drop (suc place) made)
here [] place w = cc w
here (kept ∷ rest) zero w = rw w refl
here (kept ∷ rest) (suc place) w = here rest place w

pub waiting-here : (made : List Kept) (place : ℕ) → waits made place ≡ true →
    waiting_in (drop place made) ≡ (slice_index_or made place no_notice).0
    ∷ waiting_in (drop (place + 1) made)
waiting-here made place w = rw (one-more place) (here made place w)

off : (made : List Kept) (place : ℕ) → waits made place ≡ false
    → waiting_in (drop place made) ≡ waiting_in (drop (suc place) made)
off [] place w = ap waiting_in (drop-none place)
off (kept ∷ rest) zero w = rw w refl
off (kept ∷ rest) (suc place) w = off rest place w

waiting-off : (made : List Kept) (place : ℕ) → waits made place ≡ false
    → waiting_in (drop place made) ≡ waiting_in (drop (place + 1) made)
waiting-off made place w = rw (one-more place) (off made place w)

none-left : (made : List Kept) (from : ℕ) → ((place : ℕ) → from ≤ place → waits made place ≡ false)
    → waiting_in (drop from made) ≡ []
none-left [] from w = ap waiting_in (drop-none from)
none-left (kept ∷ rest) zero w =
    rw (w 0 (omega arith)) (none-left rest 0 (λ place le. w (suc place) (omega arith)))
none-left (kept ∷ rest) (suc from) w =
    none-left rest from (λ place le. w (suc place) (omega (arith, le)))

skipped : (made : List Kept) (from count : ℕ) →
    ((place : ℕ) → from ≤ place → place < from + count → waits made place ≡ false) →
    waiting_in (drop from made) ≡ waiting_in (drop (from + count) made)
skipped made from zero w = ap (λ n. waiting_in (drop n made)) (same from)
  where
    same : (n : ℕ) → n ≡ n + 0
    same n = omega arith
skipped made from (suc count) w =
    waiting-off made from (w from (omega arith) (omega arith))
    ∙ skipped made (from + 1) count (λ place a b. w place (omega (arith, a)) (omega (arith, b)))
    ∙ ap (λ n. waiting_in (drop n made)) (same from count)
  where
    same : (n m : ℕ) → n + 1 + m ≡ n + suc m
    same n m = omega arith

pub waiting-next : (made : List Kept) (from : ℕ) (o : Option ℕ) → IsNext (waits made) from o
    → waiting_in (drop from made) ≡ rest_of made o
waiting-next made from None is = none-left made from is
waiting-next made from (Some next) is =
    skipped made from (next - from) (λ place a b. is.2 place a (omega (arith, b, is.0)))
    ∙ ap (λ n. waiting_in (drop n made)) (whole from next is.0)
  where
    whole : (from next : ℕ) → from ≤ next → from + (next - from) ≡ next
    whole from next le = omega (arith, le)

-- ---- takings

abbrev flagged : (Notice → Bool) → List Notice → List Kept
flagged waiting notices = map (λ notice. (notice, waiting notice)) notices

flagged-same : (f g : Notice → Bool) (notices : List Notice)
    → ((notice : Notice) → f notice ≡ g notice) → flagged f notices ≡ flagged g notices
flagged-same f g [] same = refl
flagged-same f g (n ∷ ns) same = λ i. (n, same n i) ∷ flagged-same f g ns same i

-- an entry that takes a lower number takes none of these
later-untaken : (takes : ℕ → Bool) (waiting : Notice → Bool) (number from : ℕ)
    (notices : List Notice) → ((a b : ℕ) → takes a ≡ true → takes b ≡ true → a ≡ b) →
    takes number ≡ true → number < from → AreNumbered from notices →
    flagged (λ notice. not (takes notice.number) && waiting notice) notices
    ≡ flagged waiting notices
later-untaken takes waiting number from [] one t lt are = refl
later-untaken takes waiting number from (n ∷ ns) one t lt are =
    by (takes n.number) refl
    (later-untaken takes waiting number (from + 1) ns one t (omega arith) are.1)
  where
    by : (b : Bool) → takes n.number ≡ b →
        flagged (λ notice. not (takes notice.number) && waiting notice) ns ≡ flagged waiting ns →
        (n, not (takes n.number) && waiting n) ∷ flagged (λ notice. not (takes notice.number)
        && waiting notice) ns ≡ (n, waiting n) ∷ flagged waiting ns
    by true e rest = absurd (let same : number ≡ n.number = one number n.number t e in
        omega (arith, same, are.0, lt))
    by false e rest = rw (e, rest) refl

one-less : (takes : ℕ → Bool) (waiting : Notice → Bool) (from : ℕ) (notices : List Notice) →
    ((a b : ℕ) → takes a ≡ true → takes b ≡ true → a ≡ b) → AreNumbered from notices →
    count_waiting (flagged waiting notices) ≤ count_waiting
    (flagged (λ notice. not (takes notice.number) && waiting notice) notices) + 1
one-less takes waiting from [] one are = omega arith
one-less takes waiting from (n ∷ ns) one are =
    by (takes n.number) refl (waiting n) refl (one-less takes waiting (from + 1) ns one are.1)
  where
    by : (t : Bool) → takes n.number ≡ t → (w : Bool) → waiting n ≡ w →
        count_waiting (flagged waiting ns) ≤ count_waiting
        (flagged (λ notice. not (takes notice.number) && waiting notice) ns) + 1 →
        count_waiting ((n, waiting n) ∷ flagged waiting ns)
        ≤ count_waiting ((n, not (takes n.number) && waiting n)
        ∷ flagged (λ notice. not (takes notice.number) && waiting notice) ns) + 1
    by true te true we le =
        rw (te, we) (let same = ap count_waiting (later-untaken takes waiting n.number (from + 1) ns
        one te (omega (arith, are.0)) are.1) in omega (arith, same))
    by true te false we le = rw (te, we) (omega (arith, le))
    by false te true we le = rw (te, we) (omega (arith, le))
    by false te false we le = rw (te, we) (omega (arith, le))

all-wait : (notices : List Notice)
    → length notices ≤ count_waiting (flagged (λ notice. true) notices) + 0
all-wait [] = omega arith
all-wait (n ∷ ns) = omega (arith, all-wait ns)

not-or : (a b : Bool) → not (a || b) ≡ (not a && not b)
not-or true b = refl
not-or false b = refl

pub takings-law : TakingsAreFew
takings-law [] notices from one are = all-wait notices
takings-law (takes ∷ takings) notices from one are =
    omega (
      arith,
      takings-law takings notices from one.1 are,
      one-less takes (λ notice. not (list_any (λ (t : ℕ → Bool). t notice.number) takings)) from
          notices one.0 are,
      ap count_waiting (flagged-same (λ notice.
          not (takes notice.number || list_any (λ (t : ℕ → Bool). t notice.number) takings))
          (λ notice. not (takes notice.number)
          && not (list_any (λ (t : ℕ → Bool). t notice.number) takings)) notices
          (λ notice. not-or (takes notice.number)
          (list_any (λ (t : ℕ → Bool). t notice.number) takings))),
    )

-- the next one, if there is one, waits
pub next-waits : (made : List Kept) (from : ℕ) (o : Option ℕ) → IsNext (waits made) from o
    → IfSome o (λ place. waits made place ≡ true)
next-waits made from None is = tt
next-waits made from (Some next) is = is.1
