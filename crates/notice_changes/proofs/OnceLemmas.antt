-- A notice that was taken stays taken, and notices stay as they are.
use Rattle.std.proofs.Common.{◌≡◌, ◌≢◌, ◌⊎◌, inl, inr, ℕ, ◌+◌, ◌<◌, ◌≤◌, ◌||◌, ◌==◌, nat_eq, nat_lt}
use Rattle.std.proofs.Common.{Bool, true, false, not, cond, refl, ap, sym, ◌∙◌, subst, arith, List}
use Rattle.std.proofs.Common.{[], ◌∷◌, ◌++◌, map, length, length-append, None}
use Rattle.std.proofs.lemmas.Bool.Decides.{eqb_tells}
use Rattle.std.proofs.lemmas.List.{length-map}
use Rattle.notice_box.specs.declared.Notice.{Notice}
use Rattle.notice_box.specs.Box.{AreNumbered, notices_of}
use Rattle.record_form.specs.declared.Command.{Command}
use Rattle.record_form.specs.declared.Command.TheVariants.{Define, Remove, PutZone, Samples}
use Rattle.record_form.specs.declared.Command.TheVariants.{Exclude, Lift, Tick, Take, Upgrade}
use Rattle.record_form.specs.declared.Entry.{Entry}
use Rattle.record_form.specs.declared.Outcome.TheVariants.{Changed}
use Rattle.record_form.specs.declared.Refusal.TheVariants as refusals
use Rattle.office_history.specs.declared.Judgement.TheVariants.{Accepted, Same, Refused}
use Rattle.office_history.specs.History.{Office, with_entry}
use Rattle.office_history.specs.Judges.{Judges}
use Rattle.office_history.specs.Legal.{IsLegal, empty, followed, office}
use Rattle.office_history.specs.Notices.{Told, is_taken, is_taking, notices_from, notices_in}
use Rattle.office_history.specs.Notices.{told_at}
use Rattle.office_history.specs.Notices.{told_in}
use Rattle.office_history.specs.Verdicts.{accepted, is_waiting}
use Rattle.office_derived.proofs.More.{taken_more, told_more}
use Rattle.notice_changes.specs.Laws.{ATakingActsOnce, NoticesAreInOrder, NoticesStay}
use Rattle.notice_changes.proofs.BoxLemmas.{length_numbered, numbered_more}
use Rattle.notice_changes.proofs.TakeLemmas.{take_within}

count_notices : (o : Office) → length (notices_in o) ≡ length (told_in o)
count_notices o =
    length-map (notices_from 1 (told_in o)) (λ (n : Notice). (n, not (is_taken o.history n.number)))
    ∙ length_numbered 1 (told_in o)

same_number : (a b : ℕ) → (a == b) ≡ true → a ≡ b
same_number a b h = by (eqb_tells a b)
  where
    by : ((nat_eq a b ≡ true) × (a ≡ b)) ⊎ ((nat_eq a b ≡ false) × (a ≢ b)) → a ≡ b
    by (inl same) = same.1
    by (inr other) = let none : false ≡ true = sym other.0 ∙ h in cc none

-- only its taking takes a notice
taking : (c : Command) (number : ℕ) → is_taking number c ≡ true → c ≡ Take number
taking (Take n) number h = ap Take (sym (same_number number n h))
taking Tick number h = cc h
taking (Define text) number h = cc h
taking (Remove kind name) number h = cc h
taking (PutZone name bytes) number h = cc h
taking (Samples rows) number h = cc h
taking (Exclude value) number h = cc h
taking (Lift id) number h = cc h
taking Upgrade number h = cc h

-- the notices that a legal history takes were made
taken_within : (origin : ℕ) (h : List Entry) → IsLegal origin h → (number : ℕ)
    → is_taken h number ≡ true → (0 < number) × (number ≤ length (told_in (office origin h)))
taken_within origin _ empty number t = cc t
taken_within origin _ (followed {h = h} e legal may) number t =
    by (is_taken h number) (is_taking number e.command) refl refl
    (λ was. taken_within origin h legal number was) (sym (taken_more h e number) ∙ t)
  where
    grown : (n : ℕ) → n ≤ length (told_in (office origin h))
        → n ≤ length (told_in (with_entry (office origin h) e))
    grown n le =
        let more : length (told_in (with_entry (office origin h) e))
        ≡ length (told_in (office origin h)) + length (told_at (office origin h) e) =
        ap length (told_more (office origin h) e)
        ∙ length-append (told_in (office origin h)) (told_at (office origin h) e) in
        omega (arith, le, more)

    now : is_taking number e.command ≡ true
        → (0 < number) × (number ≤ length (told_in (with_entry (office origin h) e)))
    now took =
        let judged : Judges (office origin h) e.moment (Take number) Accepted =
        subst (λ c. Judges (office origin h) e.moment c Accepted) (taking e.command number took)
        may.accepted in
        let within = take_within (notices_in (office origin h)) (length h) number (sym judged) in
        let count = count_notices (office origin h) in
        (within.0, grown number (omega (arith, within.1, count)))

    by : (a b : Bool) → is_taken h number ≡ a → is_taking number e.command ≡ b →
        (is_taken h number ≡ true → (0 < number) × (number ≤ length (told_in (office origin h)))) →
        (is_taken h number || is_taking number e.command) ≡ true →
        (0 < number) × (number ≤ length (told_in (with_entry (office origin h) e)))
    by true b was took before t = let w = before was in (w.0, grown number w.1)
    by false true was took before t = now took
    by false false was took before t = let none : false ≡ true = (λ i. sym was i || sym took i)
        ∙ t in cc none

-- a notice that was taken doesn't wait
no_more : (h : List Entry) (number : ℕ) (ns : List Notice) → is_taken h number ≡ true
    → is_waiting (map (λ (n : Notice). (n, not (is_taken h n.number))) ns) number ≡ false
no_more h number [] t = refl
no_more h number (n ∷ ns) t = by (n.number == number) refl (no_more h number ns t)
  where
    by : (b : Bool) → (n.number == number) ≡ b →
        is_waiting (map (λ (n : Notice). (n, not (is_taken h n.number))) ns) number ≡ false →
        is_waiting (map (λ (n : Notice). (n, not (is_taken h n.number))) (n ∷ ns)) number ≡ false
    by true e rest =
        let gone : not (is_taken h n.number) ≡ false =
        ap (λ k. not (is_taken h k)) (same_number n.number number e) ∙ ap not t in
        rw (e, gone, rest) refl
    by false e rest = rw (e, rest) refl

pub taking_once : ATakingActsOnce
taking_once origin h number moment legal t =
    let o = office origin h in
    let within = taken_within origin h legal number t in
    let count = count_notices o in
    sym (by (number == 0) (nat_lt (length (notices_in o)) number) (is_waiting (notices_in o) number)
    refl refl (no_more h number (notices_from 1 (told_in o)) t) within.0
    (omega (arith, within.1, count)))
  where
    by : (a b w : Bool) → (number == 0) ≡ a →
        nat_lt (length (notices_in (office origin h))) number ≡ b → w ≡ false → 0 < number →
        number ≤ length (notices_in (office origin h)) →
        cond (a || b) (Refused (refusals.UnknownNotice (length (notices_in (office origin h)))
        number)) (cond w (accepted (length h)) (Same (Changed None))) ≡ Same (Changed None)
    by true b w e f g some le = absurd (grind (arith, e, some))
    by false true w e f g some le = absurd (grind (arith, f, le))
    by false false w e f g some le = ap (λ w. cond w (accepted (length h)) (Same (Changed None))) g

notices_back : (flag : Notice → Bool) (ns : List Notice)
    → notices_of (map (λ (n : Notice). (n, flag n)) ns) ≡ ns
notices_back flag [] = refl
notices_back flag (n ∷ ns) = ap (λ ns. n ∷ ns) (notices_back flag ns)

are_numbered : (number : ℕ) (ts : List Told) → AreNumbered number (notices_from number ts)
are_numbered number [] = tt
are_numbered number (t ∷ ts) = (refl, are_numbered (number + 1) ts)

pub in_order : NoticesAreInOrder
in_order o = subst (AreNumbered 1)
    (sym (notices_back (λ n. not (is_taken o.history n.number)) (notices_from 1 (told_in o))))
    (are_numbered 1 (told_in o))

pub notices_kept : NoticesStay
notices_kept o e = (
  notices_from (1 + length (told_in o)) (told_at o e),
  notices_back (λ n. not (is_taken (with_entry o e).history n.number))
      (notices_from 1 (told_in (with_entry o e)))
      ∙ ap (notices_from 1) (told_more o e)
      ∙ numbered_more 1 (told_in o) (told_at o e)
      ∙ ap (λ ns. ns ++ notices_from (1 + length (told_in o)) (told_at o e))
      (sym (notices_back (λ n. not (is_taken o.history n.number)) (notices_from 1 (told_in o)))),
)
