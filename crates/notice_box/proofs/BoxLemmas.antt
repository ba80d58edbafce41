-- What is kept of a box when a notice is added or taken.
use Rattle.std.proofs.Common.{◌≡◌, ℕ, ◌+◌, ◌-◌, ◌≤◌, ◌<◌, ◌^◌, Bool, true, false, Option, None}
use Rattle.std.proofs.Common.{Some, List, [], ◌∷◌, ◌++◌, sym, ap, subst, ◌∙◌, arith, length}
use Rattle.std.proofs.Common.{length-append, slice_index_or, slice_set, if◌then◌else◌}
use Rattle.std.proofs.Math.ListN.{get_or-append}
use Rattle.std.proofs.Math.Seq.{get_or-append_seam}
use Rattle.std.proofs.lemmas.List.{length-set}
use Rattle.notice_box.specs.declared.links.Link.{Link}
use Rattle.notice_box.specs.declared.notice.Notice.{Notice}
use Rattle.notice_box.specs.Box.{AreNumbered, count_waiting, no_notice, notices_of, waits}
use Rattle.notice_box.specs.Links.{AreLinked, NoticesAreKept, earlier_at, if_there, is_at, later_at}
use Rattle.notice_box.specs.Links.{no_link}
use Rattle.notice_box.proofs.LinkLemmas.{AreLinked-pushed, AreLinked-taken}
use Rattle.notice_box.proofs.ListLemmas.{AreNumbered-push, AreNumbered-taken, count-few}
use Rattle.notice_box.proofs.ListLemmas.{count-pushed, count-set, taken-set, waits-kept, waits-off}
use Rattle.notice_box.proofs.ListLemmas.{waits-pushed, waits-set}

-- the list in which the notice at a place doesn't wait
abbrev pub let_go : List (Notice × Bool) → ℕ → List (Notice × Bool)
let_go made place = slice_set made place ((slice_index_or made place no_notice).0, false)

pub NoticesAreKept-taken : (made : List (Notice × Bool)) (links after : List Link)
    (first last : Option ℕ)
    (waiting place : ℕ) →
    NoticesAreKept made links first last waiting → place < length made → waits made place ≡ true →
    ((k : ℕ) → later_at after k
    ≡ (if is_at (earlier_at links place) k then later_at links place else later_at links k)) →
    ((k : ℕ) → earlier_at after k
    ≡ (if is_at (later_at links place) k then earlier_at links place else earlier_at links k)) →
    length after ≡ length links →
    NoticesAreKept (let_go made place)
    after (if_there (earlier_at links place) first (later_at links place))
    (if_there (later_at links place) last (earlier_at links place)) (waiting - 1)
NoticesAreKept-taken made links after first last waiting place kept lt w later earlier len =
    record {
      few = omega (
        arith,
        length-set made place ((slice_index_or made place no_notice).0, false),
        kept.few,
      );
      numbered = subst (λ m. AreNumbered 1 (notices_of m))
          (sym (taken-set 1 made place no_notice lt kept.numbered))
          (AreNumbered-taken 1 (1 + place) made kept.numbered);
      lengths = len ∙ kept.lengths
          ∙ sym (length-set made place ((slice_index_or made place no_notice).0, false));
      count = omega
          (arith, kept.count, count-set made place (slice_index_or made place no_notice).0 w);
      linked = subst (AreLinked (waits (let_go made place)) after (if_there (earlier_at links place)
          first (later_at links place))
          (if_there (later_at links place) last (earlier_at links place)))
          (sym (length-set made place ((slice_index_or made place no_notice).0, false)))
          (AreLinked-taken (waits made) (waits (let_go made place)) links after first last
          (length made)
          place kept.linked w
          (waits-set made place ((slice_index_or made place no_notice).0, false) lt)
          (λ k other. waits-off made place ((slice_index_or made place no_notice).0, false) k other)
          later earlier);
    }

link-before : (links : List Link) (link : Link) (k : ℕ) → k < length links
    → slice_index_or (links ++ link ∷ []) k no_link ≡ slice_index_or links k no_link
link-before links link k lt = get_or-append links (link ∷ []) no_link k lt

link-new : (links : List Link) (link : Link) (end : ℕ) → length links ≡ end
    → slice_index_or (links ++ link ∷ []) end no_link ≡ link
link-new links link end len = subst (λ n. slice_index_or (links ++ link ∷ []) n no_link ≡ link) len
    (get_or-append_seam links link [] no_link)

pub NoticesAreKept-pushed : (made : List (Notice × Bool)) (links mid : List Link)
    (first last : Option ℕ)
    (waiting : ℕ) (notice : Notice) →
    NoticesAreKept made links first last waiting → notice.number ≡ length made + 1 →
    notice.number < 2 ^ 32 →
    ((k : ℕ) → later_at mid k
    ≡ (if is_at last k then Some (notice.number - 1) else later_at links k)) →
    ((k : ℕ) → earlier_at mid k ≡ earlier_at links k) → length mid ≡ length links →
    NoticesAreKept (made ++ (notice, true) ∷ [])
    (mid ++ (record { earlier = last; later = None }) ∷ [])
    (if_there last first (Some (notice.number - 1))) (Some (notice.number - 1)) (waiting + 1)
NoticesAreKept-pushed made links mid first last waiting notice kept next few later earlier len =
    record {
      few = omega (arith, longer, next, few);
      numbered = AreNumbered-push 1 made (notice, true) kept.numbered (omega (arith, next));
      lengths = omega (arith, length-append mid (link ∷ []), longer, len, kept.lengths);
      count = omega (arith, kept.count, count-pushed made notice);
      linked = subst (λ n. AreLinked (waits new) after (if_there last first (Some n)) (Some n)
          (length new)) (sym end_is)
          (subst (AreLinked (waits new) after (if_there last first (Some end)) (Some end))
          (sym longer)
          (AreLinked-pushed (waits made) (waits new) links after first last end kept.linked
          (waits-pushed made (notice, true)) (λ k other. waits-kept made (notice, true) k other)
          (λ k lt. ap (λ (l : Link). l.later) (link-before mid link k (within k lt)) ∙ later k
          ∙ ap (λ n. if is_at last k then Some n else later_at links k) end_is)
          (ap (λ (l : Link). l.later) (link-new mid link end (len ∙ kept.lengths)))
          (λ k lt. ap (λ (l : Link). l.earlier) (link-before mid link k (within k lt)) ∙ earlier k)
          (ap (λ (l : Link). l.earlier) (link-new mid link end (len ∙ kept.lengths)))));
    }
  where
    end : ℕ
    end = length made

    link : Link
    link = record { earlier = last; later = None }

    new : List (Notice × Bool)
    new = made ++ (notice, true) ∷ []

    after : List Link
    after = mid ++ link ∷ []

    longer : length new ≡ end + 1
    longer = length-append made ((notice, true) ∷ [])

    end_is : notice.number - 1 ≡ end
    end_is = omega (arith, next)

    within : (k : ℕ) → k < end → k < length mid
    within k lt = omega (arith, lt, len, kept.lengths)

-- a number of notices that wait fits as the number of all does
pub waiting-few : (made : List (Notice × Bool)) (waiting : ℕ) → waiting ≡ count_waiting made
    → waiting ≤ length made
waiting-few made waiting is = omega (arith, is, count-few made)
