-- Links of places that wait, when one more waits and when one doesn't any more.
use Rattle.std.proofs.Common.{◌≡◌, ◌≢◌, ◌⊎◌, ℕ, suc, ◌+◌, ◌≤◌, ◌<◌, nat_eq, nat_lt, Bool, true}
use Rattle.std.proofs.Common.{false, Option, None, Some, inl, inr, refl, sym, ap, subst, ◌∙◌, arith}
use Rattle.std.proofs.Common.{List, if◌then◌else◌}
use Rattle.std.proofs.lemmas.Bool.Decides.{eqb_tells, leb_tells}
use Rattle.notice_box.specs.declared.links.Link.{Link}
use Rattle.notice_box.specs.Box.{IsLast, IsNext}
use Rattle.notice_box.specs.Links.{AreLinked, earlier_at, if_there, is_at, later_at}

clash : (waiting : ℕ → Bool) (k : ℕ) → waiting k ≡ true → waiting k ≡ false → ⊥
clash waiting k a b = cc (sym a ∙ b)

-- ---- one place doesn't wait any more

-- `new` waits where `old` does, but for one place
record IsWithout (old new : ℕ → Bool) (p : ℕ) : Type 0 where
  here : new p ≡ false
  others : (k : ℕ) → k ≢ p → new k ≡ old k

gone : (old new : ℕ → Bool) (p k : ℕ) → IsWithout old new p → old k ≡ false → new k ≡ false
gone old new p k w e = by (eqb_tells k p)
  where
    by : ((nat_eq k p ≡ true) × (k ≡ p)) ⊎ ((nat_eq k p ≡ false) × (k ≢ p)) → new k ≡ false
    by (inl same) = ap new same.1 ∙ w.here
    by (inr other) = w.others k other.1 ∙ e

still : (old new : ℕ → Bool) (p k : ℕ) → IsWithout old new p → new k ≡ true
    → (old k ≡ true) × (k ≢ p)
still old new p k w e = (by (eqb_tells k p), unlike)
  where
    unlike : k ≡ p → ⊥
    unlike same = clash new k e (ap new same ∙ w.here)

    by : ((nat_eq k p ≡ true) × (k ≡ p)) ⊎ ((nat_eq k p ≡ false) × (k ≢ p)) → old k ≡ true
    by (inl same) = absurd (unlike same.1)
    by (inr other) = sym (w.others k other.1) ∙ e

-- the next one, where the place that is gone was another
next-other : (old new : ℕ → Bool) (p from : ℕ) (o : Option ℕ) → IsWithout old new p
    → IsNext old from o → (o ≡ Some p → ⊥) → IsNext new from o
next-other old new p from None w is unlike = λ k a. gone old new p k w (is k a)
next-other old new p from (Some n) w is unlike = (
  is.0,
  w.others n (λ e. unlike (ap (λ (k : ℕ). Some k) e)) ∙ is.1,
  λ k a b. gone old new p k w (is.2 k a b),
)

-- .. and where it was the place itself
next-same : (old new : ℕ → Bool) (p from : ℕ) (l : Option ℕ) → IsWithout old new p
    → IsNext old from (Some p) → IsNext old (p + 1) l → IsNext new from l
next-same old new p from None w is later = λ k a. by k a (leb_tells (suc k) p) (eqb_tells k p)
  where
    by : (k : ℕ) → from ≤ k → ((nat_lt k p ≡ true) × (suc k ≤ p))
        ⊎ ((nat_lt k p ≡ false) × (p < suc k)) → ((nat_eq k p ≡ true) × (k ≡ p))
        ⊎ ((nat_eq k p ≡ false) × (k ≢ p)) → new k ≡ false
    by k a (inl lt) e = gone old new p k w (is.2 k a (omega (arith, lt.1)))
    by k a (inr ge) (inl same) = ap new same.1 ∙ w.here
    by k a (inr ge) (inr other) = gone old new p k w (later k (omega (arith, ge.1, other.1)))
next-same old new p from (Some n) w is later = (
  omega (arith, is.0, later.0),
  w.others n (λ e. ahead e) ∙ later.1,
  λ k a b. by k a b (leb_tells (suc k) p) (eqb_tells k p),
)
  where
    ahead : n ≡ p → ⊥
    ahead e = omega (arith, e, later.0)

    by : (k : ℕ) → from ≤ k → k < n
        → ((nat_lt k p ≡ true) × (suc k ≤ p)) ⊎ ((nat_lt k p ≡ false) × (p < suc k))
        → ((nat_eq k p ≡ true) × (k ≡ p)) ⊎ ((nat_eq k p ≡ false) × (k ≢ p)) → new k ≡ false
    by k a b (inl lt) e = gone old new p k w (is.2 k a (omega (arith, lt.1)))
    by k a b (inr ge) (inl same) = ap new same.1 ∙ w.here
    by k a b (inr ge) (inr other) = gone old new p k w (later.2 k (omega (arith, ge.1, other.1)) b)

last-other : (old new : ℕ → Bool) (p until : ℕ) (o : Option ℕ) → IsWithout old new p
    → IsLast old until o → (o ≡ Some p → ⊥) → IsLast new until o
last-other old new p until None w is unlike = λ k a. gone old new p k w (is k a)
last-other old new p until (Some n) w is unlike = (
  is.0,
  w.others n (λ e. unlike (ap (λ (k : ℕ). Some k) e)) ∙ is.1,
  λ k a b. gone old new p k w (is.2 k a b),
)

last-same : (old new : ℕ → Bool) (p until : ℕ) (e : Option ℕ) → IsWithout old new p
    → IsLast old until (Some p) → IsLast old p e → IsLast new until e
last-same old new p until None w is earlier = λ k a. by k a (leb_tells (suc k) p) (eqb_tells k p)
  where
    by : (k : ℕ) → k < until
        → ((nat_lt k p ≡ true) × (suc k ≤ p)) ⊎ ((nat_lt k p ≡ false) × (p < suc k))
        → ((nat_eq k p ≡ true) × (k ≡ p)) ⊎ ((nat_eq k p ≡ false) × (k ≢ p)) → new k ≡ false
    by k a (inl lt) e = gone old new p k w (earlier k (omega (arith, lt.1)))
    by k a (inr ge) (inl same) = ap new same.1 ∙ w.here
    by k a (inr ge) (inr other) = gone old new p k w (is.2 k (omega (arith, ge.1, other.1)) a)
last-same old new p until (Some n) w is earlier = (
  omega (arith, is.0, earlier.0),
  w.others n (λ e. behind e) ∙ earlier.1,
  λ k a b. by k a b (leb_tells (suc k) p) (eqb_tells k p),
)
  where
    behind : n ≡ p → ⊥
    behind e = omega (arith, e, earlier.0)

    by : (k : ℕ) → n < k → k < until
        → ((nat_lt k p ≡ true) × (suc k ≤ p)) ⊎ ((nat_lt k p ≡ false) × (p < suc k))
        → ((nat_eq k p ≡ true) × (k ≡ p)) ⊎ ((nat_eq k p ≡ false) × (k ≢ p)) → new k ≡ false
    by k a b (inl lt) e = gone old new p k w (earlier.2 k a (omega (arith, lt.1)))
    by k a b (inr ge) (inl same) = ap new same.1 ∙ w.here
    by k a b (inr ge) (inr other) = gone old new p k w (is.2 k (omega (arith, ge.1, other.1)) b)

-- the place whose next one this is, is the last one before it
before-is : (waiting : ℕ → Bool) (k p : ℕ) (e : Option ℕ) → waiting k ≡ true
    → IsNext waiting (k + 1) (Some p) → IsLast waiting p e → e ≡ Some k
before-is waiting k p None waited_p next last =
    absurd (clash waiting k waited_p (last k (omega (arith, next.0))))
before-is waiting k p (Some q) waited_p next last = by (leb_tells (suc q) k) (leb_tells (suc k) q)
  where
    by : ((nat_lt q k ≡ true) × (suc q ≤ k)) ⊎ ((nat_lt q k ≡ false) × (k < suc q))
        → ((nat_lt k q ≡ true) × (suc k ≤ q)) ⊎ ((nat_lt k q ≡ false) × (q < suc k))
        → Some q ≡ Some k
    by (inl lt) b =
        absurd (clash waiting k waited_p (last.2 k (omega (arith, lt.1)) (omega (arith, next.0))))
    by (inr ge) (inl lt) = absurd (clash waiting q last.1 (next.2 q (omega (arith, lt.1)) last.0))
    by (inr ge) (inr le) = let same : q ≡ k = omega (arith, ge.1, le.1) in
        ap (λ (n : ℕ). Some n) same

behind-is : (waiting : ℕ → Bool) (k p : ℕ) (l : Option ℕ) → waiting k ≡ true
    → IsLast waiting k (Some p) → IsNext waiting (p + 1) l → l ≡ Some k
behind-is waiting k p None waited_p last next =
    absurd (clash waiting k waited_p (next k (omega (arith, last.0))))
behind-is waiting k p (Some q) waited_p last next = by (leb_tells (suc q) k) (leb_tells (suc k) q)
  where
    by : ((nat_lt q k ≡ true) × (suc q ≤ k)) ⊎ ((nat_lt q k ≡ false) × (k < suc q))
        → ((nat_lt k q ≡ true) × (suc k ≤ q)) ⊎ ((nat_lt k q ≡ false) × (q < suc k))
        → Some q ≡ Some k
    by (inl lt) b =
        absurd (clash waiting q next.1 (last.2 q (omega (arith, next.0)) (omega (arith, lt.1))))
    by (inr ge) (inl lt) =
        absurd (clash waiting k waited_p (next.2 k (omega (arith, last.0)) (omega (arith, lt.1))))
    by (inr ge) (inr le) = let same : q ≡ k = omega (arith, ge.1, le.1) in
        ap (λ (n : ℕ). Some n) same

-- whether an option is this place
is_at-tells : (o : Option ℕ) (k : ℕ) → ((is_at o k ≡ true) × (o ≡ Some k))
    ⊎ ((is_at o k ≡ false) × (o ≡ Some k → ⊥))
is_at-tells None k = inr (refl, λ e. cc e)
is_at-tells (Some q) k = by (eqb_tells k q)
  where
    by : ((nat_eq k q ≡ true) × (k ≡ q)) ⊎ ((nat_eq k q ≡ false) × (k ≢ q))
        → ((nat_eq k q ≡ true) × (Some q ≡ Some k)) ⊎ ((nat_eq k q ≡ false) × (Some q ≡ Some k → ⊥))
    by (inl same) = inl (same.0, ap (λ (n : ℕ). Some n) (sym same.1))
    by (inr other) = inr (other.0, λ e. other.1 (sym (cc e)))

-- the links once a place that waited doesn't wait any more
pub AreLinked-taken : (old new : ℕ → Bool) (links after : List Link) (first last : Option ℕ)
    (end p : ℕ) → AreLinked old links first last end → old p ≡ true →
    new p ≡ false → ((k : ℕ) → k ≢ p → new k ≡ old k) →
    ((k : ℕ) → later_at after k
    ≡ (if is_at (earlier_at links p) k then later_at links p else later_at links k)) →
    ((k : ℕ) → earlier_at after k
    ≡ (if is_at (later_at links p) k then earlier_at links p else earlier_at links k)) →
    AreLinked new after (if_there (earlier_at links p) first (later_at links p))
    (if_there (later_at links p) last (earlier_at links p)) end
AreLinked-taken old new links after first last end p are waited_p here others later_is earlier_is =
    record {
      beyond = λ k e. are.beyond k (still old new p k w e).0;
      first_is = on_first e_is;
      last_is = on_last l_is;
      earlier = λ k y. subst (IsLast new k) (sym (earlier_is k)) (earlier_of k y (is_at-tells l k));
      later = λ k y. subst (IsNext new (k + 1)) (sym (later_is k)) (later_of k y (is_at-tells e k));
    }
  where
    e : Option ℕ
    e = earlier_at links p

    l : Option ℕ
    l = later_at links p

    w : IsWithout old new p
    w = record { here = here; others = others }

    e_is : IsLast old p e
    e_is = are.earlier p waited_p

    l_is : IsNext old (p + 1) l
    l_is = are.later p waited_p

    earlier_of : (k : ℕ) → new k ≡ true
        → ((is_at l k ≡ true) × (l ≡ Some k)) ⊎ ((is_at l k ≡ false) × (l ≡ Some k → ⊥))
        → IsLast new k (if is_at l k then e else earlier_at links k)
    earlier_of k y (inl at) =
        let was = still old new p k w y in
        let next : IsNext old (p + 1) (Some k) = subst (IsNext old (p + 1)) at.1 l_is in
        let is_p : earlier_at links k ≡ Some p =
        before-is old p k (earlier_at links k) waited_p next (are.earlier k was.0) in
        rw at.0 (last-same old new p k e w (subst (IsLast old k) is_p (are.earlier k was.0)) e_is)
    earlier_of k y (inr unlike) =
        let was = still old new p k w y in
        rw unlike.0 (last-other old
        new p k (earlier_at links k) w (are.earlier k was.0) (λ is_p. unlike.1
        (behind-is old k p l was.0 (subst (IsLast old k) is_p (are.earlier k was.0)) l_is)))

    later_of : (k : ℕ) → new k ≡ true
        → ((is_at e k ≡ true) × (e ≡ Some k)) ⊎ ((is_at e k ≡ false) × (e ≡ Some k → ⊥))
        → IsNext new (k + 1) (if is_at e k then l else later_at links k)
    later_of k y (inl at) =
        let was = still old new p k w y in
        let last_k : IsLast old p (Some k) = subst (IsLast old p) at.1 e_is in
        let is_p : later_at links k ≡ Some p =
        behind-is old p k (later_at links k) waited_p last_k (are.later k was.0) in
        rw at.0 (next-same old new p (k + 1) l w
        (subst (IsNext old (k + 1)) is_p (are.later k was.0)) l_is)
    later_of k y (inr unlike) =
        let was = still old new p k w y in
        rw unlike.0 (next-other old new p (k + 1) (later_at links k) w
        (are.later k was.0) (λ is_p. unlike.1 (before-is old k p e was.0
        (subst (IsNext old (k + 1)) is_p (are.later k was.0)) e_is)))

    first_other : (q : ℕ) → e ≡ Some q → first ≡ Some p → ⊥
    first_other q there is_p =
        let before : IsLast old p (Some q) = subst (IsLast old p) there e_is in
        let from_0 : IsNext old 0 (Some p) = subst (IsNext old 0) is_p are.first_is in
        clash old q before.1 (from_0.2 q (omega arith) before.0)

    first_same : e ≡ None → first ≡ Some p
    first_same none = by first refl
      where
        by : (o : Option ℕ) → first ≡ o → first ≡ Some p
        by None is =
            absurd (clash old p waited_p (subst (IsNext old 0) is are.first_is p (omega arith)))
        by (Some q) is = at_or_off (leb_tells (suc q) p) (leb_tells (suc p) q)
          where
            from_0 : IsNext old 0 (Some q)
            from_0 = subst (IsNext old 0) is are.first_is

            none_before : IsLast old p None
            none_before = subst (IsLast old p) none e_is

            at_or_off : ((nat_lt q p ≡ true) × (suc q ≤ p)) ⊎ ((nat_lt q p ≡ false) × (p < suc q))
                → ((nat_lt p q ≡ true) × (suc p ≤ q)) ⊎ ((nat_lt p q ≡ false) × (q < suc p))
                → first ≡ Some p
            at_or_off (inl lt) b =
                absurd (clash old q from_0.1 (none_before q (omega (arith, lt.1))))
            at_or_off (inr ge) (inl lt) =
                absurd (clash old p waited_p (from_0.2 p (omega arith) (omega (arith, lt.1))))
            at_or_off (inr ge) (inr le) = is
                ∙ (let same : q ≡ p = omega (arith, ge.1, le.1) in ap (λ (n : ℕ). Some n) same)

    on_first : IsLast old p e → IsNext new 0 (if_there e first l)
    on_first i = by e refl
      where
        by : (o : Option ℕ) → e ≡ o → IsNext new 0 (if_there o first l)
        by None is =
            next-same old new p 0 l w (subst (IsNext old 0) (first_same is) are.first_is) l_is
        by (Some q) is = next-other old new p 0 first w are.first_is (first_other q is)

    last_same_as : l ≡ None → last ≡ Some p
    last_same_as none = by last refl
      where
        by : (o : Option ℕ) → last ≡ o → last ≡ Some p
        by None is = absurd (clash old p waited_p
            (subst (IsLast old end) is are.last_is p (are.beyond p waited_p)))
        by (Some q) is = at_or_off (leb_tells (suc q) p) (leb_tells (suc p) q)
          where
            to_end : IsLast old end (Some q)
            to_end = subst (IsLast old end) is are.last_is

            none_behind : IsNext old (p + 1) None
            none_behind = subst (IsNext old (p + 1)) none l_is

            at_or_off : ((nat_lt q p ≡ true) × (suc q ≤ p)) ⊎ ((nat_lt q p ≡ false) × (p < suc q))
                → ((nat_lt p q ≡ true) × (suc p ≤ q)) ⊎ ((nat_lt p q ≡ false) × (q < suc p))
                → last ≡ Some p
            at_or_off (inl lt) b = absurd
                (clash old p waited_p (to_end.2 p (omega (arith, lt.1)) (are.beyond p waited_p)))
            at_or_off (inr ge) (inl lt) =
                absurd (clash old q to_end.1 (none_behind q (omega (arith, lt.1))))
            at_or_off (inr ge) (inr le) = is
                ∙ (let same : q ≡ p = omega (arith, ge.1, le.1) in ap (λ (n : ℕ). Some n) same)

    last_off : (q : ℕ) → l ≡ Some q → last ≡ Some p → ⊥
    last_off q there is_p =
        let behind : IsNext old (p + 1) (Some q) = subst (IsNext old (p + 1)) there l_is in
        let to_end : IsLast old end (Some p) = subst (IsLast old end) is_p are.last_is in
        clash old q behind.1 (to_end.2 q (omega (arith, behind.0)) (are.beyond q behind.1))

    on_last : IsNext old (p + 1) l → IsLast new end (if_there l last e)
    on_last i = by l refl
      where
        by : (o : Option ℕ) → l ≡ o → IsLast new end (if_there o last e)
        by None is =
            last-same old new p end e w (subst (IsLast old end) (last_same_as is) are.last_is) e_is
        by (Some q) is = last-other old new p end last w are.last_is (last_off q is)

-- ---- one place more waits, behind all others

-- the links once the place behind the end waits too
pub AreLinked-pushed : (old new : ℕ → Bool) (links after : List Link) (first last : Option ℕ)
    (end : ℕ) → AreLinked old links first last end →
    new end ≡ true → ((k : ℕ) → k ≢ end → new k ≡ old k) →
    ((k : ℕ) → k < end → later_at after k ≡ (if is_at last k then Some end else later_at links k)) →
    later_at after end ≡ None →
    ((k : ℕ) → k < end → earlier_at after k ≡ earlier_at links k) → earlier_at after end ≡ last →
    AreLinked new after (if_there last first (Some end)) (Some end) (end + 1)
AreLinked-pushed old new links after first last end are here others later_is later_end earlier_is
    earlier_end = record {
      beyond = λ k e. below k e (eqb_tells k end);
      first_is = first_of last refl;
      last_is = (omega arith, here, λ k a b. absurd (none k a b));
      earlier = λ k y. earlier_of k y (eqb_tells k end);
      later = λ k y. later_of k y (eqb_tells k end);
    }
  where
    none : (k : ℕ) → end < k → k < end + 1 → ⊥
    none k a b = omega arith

    was : (k : ℕ) → k ≢ end → new k ≡ true → old k ≡ true
    was k other e = sym (others k other) ∙ e

    below : (k : ℕ) → new k ≡ true → ((nat_eq k end ≡ true) × (k ≡ end))
        ⊎ ((nat_eq k end ≡ false) × (k ≢ end)) → k < end + 1
    below k e (inl same) = omega (arith, same.1)
    below k e (inr other) = omega (arith, are.beyond k (was k other.1 e))

    off : (k : ℕ) → old k ≡ false → k < end → new k ≡ false
    off k e lt = others k (λ same. differ k lt same) ∙ e
      where
        differ : (k : ℕ) → k < end → k ≡ end → ⊥
        differ k lt same = omega arith

    last_below : (k : ℕ) (o : Option ℕ) → k ≤ end → IsLast old k o → IsLast new k o
    last_below k None le is = λ j a. off j (is j a) (omega (arith, a, le))
    last_below k (Some n) le is = (
      is.0,
      others n (λ same. inside same) ∙ is.1,
      λ j a b. off j (is.2 j a b) (omega (arith, b, le)),
    )
      where
        inside : n ≡ end → ⊥
        inside same = omega (arith, same, is.0, le)

    next_some : (from n : ℕ) → IsNext old from (Some n) → IsNext new from (Some n)
    next_some from n is = (
      is.0,
      others n (λ same. inside same) ∙ is.1,
      λ k a b. off k (is.2 k a b) (omega (arith, b, are.beyond n is.1)),
    )
      where
        inside : n ≡ end → ⊥
        inside same = omega (arith, same, are.beyond n is.1)

    first_of : (o : Option ℕ) → last ≡ o → IsNext new 0 (if_there o first (Some end))
    first_of None is =
        (omega arith, here, λ k a b. off k (subst (IsLast old end) is are.last_is k b) b)
    first_of (Some q) is = by first refl
      where
        last_q : IsLast old end (Some q)
        last_q = subst (IsLast old end) is are.last_is

        by : (f : Option ℕ) → first ≡ f → IsNext new 0 f
        by None e =
            absurd (clash old q last_q.1 (subst (IsNext old 0) e are.first_is q (omega arith)))
        by (Some n) e = next_some 0 n (subst (IsNext old 0) e are.first_is)

    earlier_of : (k : ℕ) → new k ≡ true → ((nat_eq k end ≡ true) × (k ≡ end))
        ⊎ ((nat_eq k end ≡ false) × (k ≢ end)) → IsLast new k (earlier_at after k)
    earlier_of k y (inl same) =
        subst (λ n. IsLast new n (earlier_at after n)) (sym same.1) (subst (IsLast new end)
        (sym earlier_end) (last_below end last (omega arith) are.last_is))
    earlier_of k y (inr other) =
        let waited = was k other.1 y in
        let lt = are.beyond k waited in
        subst (IsLast new k) (sym (earlier_is k lt))
        (last_below k (earlier_at links k) (omega (arith, lt)) (are.earlier k waited))

    nothing : (b : Bool) (j : ℕ) → end + 1 ≤ j → old j ≡ b → old j ≡ false
    nothing true j a e = absurd (over j a (are.beyond j e))
      where
        over : (j : ℕ) → end + 1 ≤ j → j < end → ⊥
        over j a b = omega arith
    nothing false j a e = e

    behind_end : IsNext new (end + 1) None
    behind_end = λ j a. others j (λ same. over j a same) ∙ nothing (old j) j a refl
      where
        over : (j : ℕ) → end + 1 ≤ j → j ≡ end → ⊥
        over j a same = omega arith

    later_of : (k : ℕ) → new k ≡ true → ((nat_eq k end ≡ true) × (k ≡ end))
        ⊎ ((nat_eq k end ≡ false) × (k ≢ end)) → IsNext new (k + 1) (later_at after k)
    later_of k y (inl same) = subst (λ n. IsNext new (n + 1) (later_at after n)) (sym same.1)
        (subst (IsNext new (end + 1)) (sym later_end) behind_end)
    later_of k y (inr other) = subst (IsNext new (k + 1)) (sym (later_is k lt))
        (by (is_at-tells last k) (later_at links k) refl)
      where
        waited : old k ≡ true
        waited = was k other.1 y

        lt : k < end
        lt = are.beyond k waited

        last_q : (q : ℕ) → IsNext old (k + 1) None → IsLast old end (Some q) → Some q ≡ Some k
        last_q q none is = at_or_off (leb_tells (suc q) k) (leb_tells (suc k) q)
          where
            at_or_off : ((nat_lt q k ≡ true) × (suc q ≤ k)) ⊎ ((nat_lt q k ≡ false) × (k < suc q))
                → ((nat_lt k q ≡ true) × (suc k ≤ q)) ⊎ ((nat_lt k q ≡ false) × (q < suc k))
                → Some q ≡ Some k
            at_or_off (inl a) b = absurd (clash old k waited (is.2 k (omega (arith, a.1)) lt))
            at_or_off (inr a) (inl b) = absurd (clash old q is.1 (none q (omega (arith, b.1))))
            at_or_off (inr a) (inr b) = let same : q ≡ k = omega (arith, a.1, b.1) in
                ap (λ (n : ℕ). Some n) same

        is_last : (o : Option ℕ) → IsNext old (k + 1) None → IsLast old end o → o ≡ Some k
        is_last None none is = absurd (clash old k waited (is k lt))
        is_last (Some q) none is = last_q q none is

        by : ((is_at last k ≡ true) × (last ≡ Some k))
            ⊎ ((is_at last k ≡ false) × (last ≡ Some k → ⊥)) → (o : Option ℕ) → later_at links k ≡ o
            → IsNext new (k + 1) (if is_at last k then Some end else later_at links k)
        by (inl at) o is = rw at.0 (next_end at.1)
          where
            next_end : last ≡ Some k → IsNext new (k + 1) (Some end)
            next_end e =
                let end_k : IsLast old end (Some k) = subst (IsLast old end) e are.last_is in
                (omega (arith, lt), here, λ j a b. off j (end_k.2 j (omega (arith, a)) b) b)
        by (inr unlike) (Some n) is = rw unlike.0 (subst (IsNext new (k + 1)) (sym is)
            (next_some (k + 1) n (subst (IsNext old (k + 1)) is (are.later k waited))))
        by (inr unlike) None is = absurd (unlike.1
            (is_last last (subst (IsNext old (k + 1)) is (are.later k waited)) are.last_is))
