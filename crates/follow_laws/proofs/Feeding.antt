-- True feeds.
use Rattle.std.proofs.Common.{◌≡◌, ℕ, zero, suc, ◌+◌, ◌≤◌, max, List, [], ◌∷◌, ◌++◌, length}
use Rattle.std.proofs.Common.{refl}
use Rattle.std.proofs.Common.{sym, ap, ◌∙◌, subst, arith, drop, take, Some, map, length-append}
use Rattle.std.proofs.Common.{append_assoc}
use Rattle.std.specs.Prelude.{slice_get}
use Rattle.std.specs.Int.{w32, to_be_bytes}
use Rattle.std.specs.List.{AllByRecursion}
use Rattle.std.proofs.lemmas.List.{take-append-drop}
use Rattle.std.proofs.Math.Seq.{drop-append_seam}
use Rattle.record_form.specs.declared.Entry.{Entry}
use Rattle.record_form.specs.Records.{record_of}
use Rattle.record_form.specs.Ranges.{FitsRecord}
use Rattle.record_form.specs.Laws.{EntriesAreReadBack, RecordsHaveSizes}
use Rattle.office_history.specs.History.{Office}
use Rattle.office_history.specs.Legal.{IsLegal, MayFollow, office}
use Rattle.catalog_changes.specs.Laws.{EachMayFollow}
use Rattle.follow_terms.specs.declared.FollowEnd.{FollowEnd}
use Rattle.entry_records.specs.Feeds.{feed_text, with_lengths}
use Rattle.follow_terms.specs.Pieces.{piece_end}
use Rattle.follow_terms.specs.Follows.{Between, Inside, Follows}
use Rattle.follow_terms.specs.Prefixes.{Asked, CanBeAsked, feeds_text, furthest}
use Rattle.follow_terms.specs.Prefixes.{records_fed}
use Rattle.follow_laws.specs.Laws.{LeadsToTheHistory, HasFollowed, IsKeepable}
use Rattle.follow_laws.proofs.Keeping.{keeps}
use Rattle.follow_laws.proofs.ReadLemmas.{head_is, length_is, record_is, whole_piece}
use Rattle.follow_laws.proofs.StepLemmas.{Stays, Heads, stops, goes_in, heads, Overs, no_more, next}
use Rattle.follow_laws.proofs.StepLemmas.{after_feed, Steps, rests, unlike, goes, unfit, takes}
use Rattle.follow_laws.proofs.StepLemmas.{steps}
use Rattle.follow_laws.proofs.StepLemmas.{ends_there}
use Rattle.follow_laws.proofs.FrontLemmas.{at_drop, below_drop, next_drop, next_take, in_front}
use Rattle.follow_laws.proofs.FrontLemmas.{take_length, all_at, fed_front, dropped}

-- what is known of legal histories and of records
pub record Known (origin : ℕ) (g : List Entry) : Type 0 where
  pub legal : IsLegal origin g
  pub keepable : IsKeepable origin g
  pub each : EachMayFollow
  pub again : EntriesAreReadBack
  pub sizes : RecordsHaveSizes

-- the office has the first n entries, and it stays so
stayed : (origin : ℕ) (g : List Entry) (n reach : ℕ) (last : Office) (end : FollowEnd)
    → n ≤ length g → Stays (office origin (take n g)) last end
    → HasFollowed origin g 0 reach last end
stayed origin g n reach last end le s = record {
  reached = n;
  least = omega arith;
  most = le;
  office_is = s.same;
  harmless = s.harmless;
  whole = λ e. absurd (s.undone e);
}

-- how following goes on from position m at a place
abbrev GoesOn : (origin : ℕ) (g : List Entry) (reach : ℕ) (rest : List ℕ) (last : Office)
    (end : FollowEnd) → ℕ → Type 0
GoesOn origin g reach rest last end m = (at : ℕ) (n : ℕ) → n ≡ m → n ≤ length g
    → Follows Between (office origin (take n g)) at rest last end
    → HasFollowed origin g 0 reach last end

-- the same entry
held_is : (g : List Entry) (n p : ℕ) (held e : Entry) (rest : List Entry) → drop p g ≡ e ∷ rest
    → slice_get (take n g) p ≡ Some held → held ≡ e
held_is g n p held e rest d h = same ((sym (in_front g n p held h).0) ∙ at_drop g p e rest d)
  where
    same : Some held ≡ Some e → held ≡ e
    same e = cc e

-- the next entry of a legal history may follow
may : (origin : ℕ) (g : List Entry) (n : ℕ) (e : Entry) (rest : List Entry) → Known origin g
    → drop n g ≡ e ∷ rest → MayFollow (office origin (take n g)) e
may origin g n e rest known d = known.each origin (take n g) rest e
    (subst (IsLegal origin)
    (sym (take-append-drop n g) ∙ ap (λ (es : List Entry). take n g ++ es) d) known.legal)

-- over the entries of a feed
over_entries : (origin : ℕ) (g : List Entry) (reach : ℕ) (rest : List ℕ) (last : Office)
    (end : FollowEnd) → Known origin g → (front behind : List Entry) (p n at : ℕ)
    → drop p g ≡ front ++ behind → p ≤ n → n ≤ length g
    → GoesOn origin g reach rest last end (max n (p + length front))
    → Follows (Inside (length front) p) (office origin (take n g)) at
    (with_lengths (map record_of front) rest) last end
    → HasFollowed origin g 0 reach last end
over_entries origin g reach rest last end known [] behind p n at d le most go f =
    by (after_feed (office origin (take n g)) at rest p last end f)
  where
    by : Overs (office origin (take n g)) at rest last end → HasFollowed origin g 0 reach last end
    by (no_more s) = stayed origin g n reach last end most s
    by (next f) = go at n (omega (arith, le)) most f
over_entries origin g reach rest last end known (e ∷ front) behind p n at d le most go f =
    let fits = all_at FitsRecord g p e known.keepable.fit (at_drop g p e (front ++ behind) d) in
    let size = known.sizes e fits in
    let more = with_lengths (map record_of front) rest in
    let text = record_of e ++ more in
    let left = to_be_bytes w32 (length (record_of e)) ++ text in
    by fits (over_entries origin g reach rest last end known front behind)
    (steps (piece_end at 4 left) (piece_end (at + 4) (length (record_of e)) text) (length front) p
    (office origin (take n g)) at left (length (record_of e)) e last end
    (length_is at (length (record_of e)) text (omega (arith, size.least)) size.most)
    (whole_piece at 4 left (omega arith))
    (record_is known.again at e more fits)
    (whole_piece (at + 4) (length (record_of e)) text
    (omega (arith, length-append (record_of e) more)))
    f)
  where
    by : FitsRecord e
        → ((p n at : ℕ) → drop p g ≡ front ++ behind → p ≤ n → n ≤ length g
        → GoesOn origin g reach rest last end (max n (p + length front))
        → Follows (Inside (length front) p) (office origin (take n g)) at
        (with_lengths (map record_of front) rest) last end
        → HasFollowed origin g 0 reach last end)
        → Steps (length front) p (office origin (take n g)) at
        (to_be_bytes w32 (length (record_of e))
        ++ (record_of e ++ with_lengths (map record_of front) rest))
        (length (record_of e)) e last end
        → HasFollowed origin g 0 reach last end
    by fits again (rests s) = stayed origin g n reach last end most s
    by fits again (unlike held h d2) =
        absurd (d2 (ap record_of (held_is g n p held e (front ++ behind) d h)))
    by fits again (goes held h f) =
        again (suc p) n (at + 4 + length (record_of e)) (next_drop g p e (front ++ behind) d)
        (omega (arith, (in_front g n p held h).1)) most
        (λ at2 m is le2 f2. go at2 m (is ∙ omega arith) le2 f2)
        (subst (λ (left : List ℕ). Follows (Inside (length front) (suc p))
        (office origin (take n g))
        (at + 4 + length (record_of e)) left last end)
        (drop-append_seam (record_of e) (with_lengths (map record_of front) rest)) f)
    by fits again (unfit is refused) =
        let here : p ≡ n = is ∙ take_length g n most in
        absurd (refused (may origin g n e (front ++ behind) known
        (subst (λ (n : ℕ). drop n g ≡ e ∷ front ++ behind) here d)))
    by fits again (takes is f) =
        let here : p ≡ n = is ∙ take_length g n most in
        let d2 = subst (λ (n : ℕ). drop n g ≡ e ∷ front ++ behind) here d in
        again (suc p) (suc n) (at + 4 + length (record_of e)) (next_drop g p e (front ++ behind) d)
        (omega (arith, here)) (omega (arith, below_drop g n e (front ++ behind) d2))
        (λ at2 m is2 le2 f2. go at2 m (is2 ∙ omega (arith, here)) le2 f2)
        (subst (λ (p2 : Office × List ℕ). Follows (Inside (length front) (suc p)) p2.0
        (at + 4 + length (record_of e)) p2.1 last end)
        (λ i. (
          office origin (next_take g n e (front ++ behind) d2 i),
          drop-append_seam (record_of e) (with_lengths (map record_of front) rest) i,
        )) f)

-- how long the rest of a history is
dropped_length : {A : Type 0} (xs : List A) (p : ℕ) → p ≤ length xs
    → p + length (drop p xs) ≡ length xs
dropped_length [] zero le = omega arith
dropped_length [] (suc p) le = absurd (omega (arith, le))
dropped_length (x ∷ xs) zero le = omega arith
dropped_length (x ∷ xs) (suc p) le = omega (arith, dropped_length xs p (omega (arith, le)))

mapped : {A B : Type 0} (f : A → B) (xs : List A) → length (map f xs) ≡ length xs
mapped f [] = refl
mapped f (x ∷ xs) = ap suc (mapped f xs)

true_feed : (origin : ℕ) (g : List Entry) (reach : ℕ) (rest : List ℕ) (last : Office)
    (end : FollowEnd) → Known origin g → (front behind : List Entry) (p : ℕ) → p ≤ length g
    → drop p g ≡ front ++ behind → (n at : ℕ) → n ≤ length g
    → GoesOn origin g reach rest last end (max n (p + length (map record_of front)))
    → Follows Between (office origin (take n g)) at
    (feed_text origin p (map record_of front) rest) last end
    → HasFollowed origin g 0 reach last end
true_feed origin g reach rest last end known front behind p le d n at most go f =
    let o = office origin (take n g) in
    let text = feed_text origin p (map record_of front) rest in
    let many : p + length front ≤ length g =
    omega (arith, dropped_length g p le, ap length d, length-append front behind) in
    by (heads (piece_end at 20 text) o at text p (length (map record_of front)) last end
    (omega arith)
    (head_is o at p (map record_of front) rest known.keepable.origin_fits
    (omega (arith, le, known.keepable.counted))
    (omega (arith, many, known.keepable.counted, mapped record_of front)))
    (whole_piece at 20 text (omega arith)) f)
  where
    by : Heads (office origin (take n g)) at (feed_text origin p (map record_of front) rest) p
        (length (map record_of front)) last end → HasFollowed origin g 0 reach last end
    by (stops s) = stayed origin g n reach last end most s
    by (goes_in here f) =
        over_entries origin g reach rest last end known front behind p n (at + 20) d
        (omega (arith, here, take_length g n most)) most
        (subst (λ (k : ℕ). GoesOn origin g reach rest last end (max n (p + k)))
        (mapped record_of front) go)
        (subst (λ (k : ℕ). Follows (Inside k p) (office origin (take n g)) (at + 20)
        (with_lengths (map record_of front) rest) last end) (mapped record_of front) f)

-- over a feed
over_feed : (origin : ℕ) (g : List Entry) (reach : ℕ) (rest : List ℕ) (last : Office)
    (end : FollowEnd) → Known origin g → (a : Asked) → CanBeAsked g a → (n at : ℕ) → n ≤ length g
    → GoesOn origin g reach rest last end (max n (a.from + length (records_fed g a)))
    → Follows Between (office origin (take n g)) at (feed_text origin a.from (records_fed g a) rest)
    last end
    → HasFollowed origin g 0 reach last end
over_feed origin g reach rest last end known a can n at most go f =
    let fed = fed_front (drop a.from (take a.reached g)) in
    let here : drop a.from g ≡ fed.front ++ (fed.behind ++ drop a.reached g) =
    dropped g a.from a.reached can.from can.reached
    ∙ ap (λ (es : List Entry). es ++ drop a.reached g) fed.is
    ∙ append_assoc fed.front fed.behind (drop a.reached g) in
    true_feed origin g reach rest last end known fed.front (fed.behind ++ drop a.reached g) a.from
    (omega (arith, can.from, can.reached)) here n at most
    (subst (λ (rs : List (List ℕ)). GoesOn origin g reach rest last end
    (max n (a.from + length rs)))
    fed.records_are go)
    (subst (λ (rs : List (List ℕ)). Follows Between (office origin (take n g)) at
    (feed_text origin a.from rs rest) last end) fed.records_are f)

over_feeds : (origin : ℕ) (g : List Entry) → Known origin g → (last : Office) (end : FollowEnd)
    (asked : List Asked) → AllByRecursion (CanBeAsked g) asked → (n at : ℕ) → n ≤ length g
    → Follows Between (office origin (take n g)) at (feeds_text origin g asked) last end
    → HasFollowed origin g 0 (furthest g n asked) last end
over_feeds origin g known last end [] all n at most f =
    let there = ends_there (office origin (take n g)) at [] last end refl f in
    record {
      reached = n;
      least = omega arith;
      most = most;
      office_is = there.0;
      harmless = there.1;
      whole = λ e. refl;
    }
over_feeds origin g known last end (a ∷ asked) all n at most f =
    over_feed origin g (furthest g n (a ∷ asked)) (feeds_text origin g asked) last end known a all.0
    n at most
    (λ at2 m is le2 f2. subst (λ (k : ℕ). HasFollowed origin g 0 (furthest g k asked) last end) is
    (over_feeds origin g known last end asked all.1 m at2 le2 f2))
    f

pub follows_feeds : EachMayFollow → EntriesAreReadBack → RecordsHaveSizes → LeadsToTheHistory
follows_feeds each again sizes origin g n at asked bytes last end legal keepable most are f =
    let kept = keeps Between (office origin (take n g)) at bytes last end f in
    let followed = over_feeds origin g (record {
      legal = legal;
      keepable = keepable;
      each = each;
      again = again;
      sizes = sizes;
    }) last end asked are.asked_of n at most
    (subst (λ (bytes : List ℕ). Follows Between (office origin (take n g)) at bytes last end)
    are.spelled f) in
    record {
      reached = followed.reached;
      least = omega (
        arith,
        ap length kept.history_is,
        ap (λ (o : Office). length o.history) followed.office_is,
        take_length g n most,
        take_length g followed.reached followed.most,
        length-append (take n g) kept.more,
      );
      most = followed.most;
      office_is = followed.office_is;
      harmless = followed.harmless;
      whole = followed.whole;
    }
