-- The holder stores the length, and clears the mark.
use Rattle.std.proofs.Common.{◌≡◌, ◌≢◌, ◌⊎◌, inl, inr, ⊎_elim, ℕ, ◌-◌, ◌<◌, ◌≤◌, Bool, true, false}
use Rattle.std.proofs.Common.{List, [], ◌∷◌, ◌++◌, ◌+◌, length, set, refl, sym, ap, ◌∙◌, subst}
use Rattle.std.proofs.Common.{arith}
use Rattle.std.specs.Prelude.{slice_set, Some, None}
use Rattle.std.specs.declared.option.Option.{Option as Maybe}
use mathlib.Core.Option.{Option, none, some}
use lib.ListN.{get_elem?}
use Rattle.atomic_table.specs.Table.{State, Me, gives, keeps, step, Allows}
use Rattle.turn_desk.specs.declared.view.View.{View}
use Rattle.turn_desk.specs.Histories.{Extends, Has, Distinct}
use Rattle.turn_desk.specs.Ledgers.{GoesOn, Ledger, left_in_doubt}
use Rattle.turn_desk.specs.Passes.{own_after}
use Rattle.turn_desk.specs.Seats.{Knows}
use Rattle.turn_desk.specs.Sources.{IsMadeBy}
use Rattle.turn_desk.specs.Views.{holder_after, without_turn}
use Rattle.turn_desk.specs.Rule.{Covers, Fits, Foresees, Ruled, Grew, Freed, Stems, opened}
use Rattle.turn_desk.specs.declared.view.Doubt.{Doubt}
use Rattle.turn_desk.specs.declared.view.Opening.{Opening}
use Rattle.turn_desk.proofs.Histories.{distinct_append, extends_same, extends_trans, extends-length}
use Rattle.turn_desk.proofs.Histories.{has_append}
use Rattle.turn_desk.proofs.Ledgers.{doubted, entry_from, goes_extends, goes_more}
use Rattle.turn_desk.proofs.Sources.{covers_set, doubt_left, doubt_right, foresees_set}
use Rattle.turn_desk.proofs.Sources.{guests_set, has_right, made_left, stems_set, whole_set}
use Rattle.turn_desk.proofs.Views.{off, each_set, held_set, one_set, apart_set, set_there}
use Rattle.turn_desk.proofs.Taking.{below}

-- an own position is an older one, or lies in what the turn added
own_from : (b : Bool) (own : List ℕ) (n m : ℕ) (p : ℕ) → (b ≡ true → n < m)
    → Has (own_after own b m) p → Has own p ⊎ ((n ≤ p) × (p < m))
own_from true own n m p more h =
    let low : n < m = more refl in
    ⊎_elim (λ old. inl old) (λ new. ⊎_elim (λ (is : p ≡ m - 1).
    inr (omega (arith, is, low), omega (arith, is, low))) (λ none. absurd none) new)
    (has_append own ((m - 1) ∷ []) p h)
own_from false own n m p more h = inl h

own_distinct : (b : Bool) (own : List ℕ) (n m : ℕ) → (b ≡ true → n < m)
    → ((p : ℕ) → Has own p → p < n) → Distinct own → Distinct (own_after own b m)
own_distinct true own n m more below was = let low : n < m = more refl in
    distinct_append own ((m - 1) ∷ []) was (
      (λ none. absurd none),
      tt,
    ) (λ p here there. ⊎_elim (λ (is : p ≡ m - 1). let lt = below p here in
    absurd (omega (arith, is, low, lt))) (λ none. absurd none) there)
own_distinct false own n m more below was = was

-- what was made before a turn is made after it
made_still : (b : Bool) (own : List ℕ) (raised left : List Doubt) (now p : ℕ) (e : List ℕ)
    → IsMadeBy own raised p e → IsMadeBy (own_after own b now) (raised ++ left) p e
made_still true own raised left now p e made = made_left own ((now - 1) ∷ []) raised left p e made
made_still false own raised left now p e (inl had) = inl had
made_still false own raised left now p e (inr had) = inr (doubt_left raised left p e had)

-- the position of the entry that a turn added is an own one
last_is_own : (b : Bool) (own : List ℕ) (now p : ℕ) → b ≡ true → now ≡ p + 1
    → Has (own_after own b now) p
last_is_own true own now p is last = has_right own ((now - 1) ∷ []) p (inl (omega (arith, last)))
last_is_own false own now p is last = absurd (off is)

-- what the rule says of entries, once the holder's history has grown by a turn
module _ (opening : Opening) (views : List View) (id : ℕ) (v : View) (b rose : Bool)
    (before after : Ledger) (at : get_elem? views id ≡ some v)
    (goes : GoesOn before after b) where
  abbrev left : List Doubt
  left = left_in_doubt before after

  abbrev w : View
  w = holder_after b rose left v after.history after.doubt

  stays_made : (p : ℕ) (e : List ℕ) → IsMadeBy v.own v.raised p e → IsMadeBy w.own w.raised p e
  stays_made p e = made_still b v.own v.raised left (length after.history) p e

  abbrev grown : List View
  grown = set views id w

  mine : (p : ℕ) (e : List ℕ) → IsMadeBy w.own w.raised p e → Stems opening grown p e
  mine p e made = inr (id, w, set_there views id v w at, made)

  pub covers_grown : Covers opening views before.history
      → Foresees opening views before.history before.doubt
      → Covers opening grown after.history
  covers_grown covers foresees p e there = ⊎_elim
      (λ older. stems_set opening views id v w at stays_made p e (covers p e older))
      (λ later. ⊎_elim
      (λ (doubt : (p ≡ length before.history) × (before.doubt ≡ Some e)).
      subst (λ (n : ℕ). Stems opening grown n e) (sym doubt.0)
      (stems_set opening views id v w at stays_made (length before.history) e (foresees e doubt.1)))
      (λ (own : (b ≡ true) × (length after.history ≡ p + 1)).
      mine p e (inl (last_is_own b v.own (length after.history) p own.0 own.1)))
      later)
      (entry_from before after b goes p e there)

  pub foresees_grown : Foresees opening views before.history before.doubt
      → Foresees opening grown after.history after.doubt
  foresees_grown foresees e is = ⊎_elim
      (λ new. mine (length after.history) e
      (inr (doubt_right v.raised left (length after.history) e new)))
      (λ (old : (before.doubt ≡ Some e) × (length before.history ≡ length after.history)).
      subst (λ (n : ℕ). Stems opening grown n e) old.1
      (stems_set opening views id v w at stays_made (length before.history) e (foresees e old.0)))
      (doubted before after e is)

module _ {T : Type 0} (ledger : T → Ledger) (first : T) (passes slots : ℕ) where
  abbrev Rule : State (Maybe T) View → Type 0
  Rule = Ruled ledger first passes

  abbrev start : Opening
  start = opened ledger first passes

  alone : (s : State (Maybe T) View) (h : Rule s) (id : ℕ) (v : View)
      → get_elem? s.views id ≡ some v → v.holds ≡ true → (j : ℕ) (u : View) → j ≢ id
      → get_elem? s.views j ≡ some u → u.holds ≡ true → ⊥
  alone s h id v at holds j u ne there theirs = ne (h.one j id u v there at theirs holds)

  grow : (b rose : Bool) (id : ℕ) (v : View) (before : Ledger) (y : T) → v.holds ≡ true
      → v.live ≡ true → Knows v before → GoesOn before (ledger y) b
      → Allows Rule slots id (v, (0, Some y) ∷ []) 1 (λ _. length (ledger y).history)
      (λ _. Grew ledger b rose (left_in_doubt before (ledger y))
      (step slots 1 (length (ledger y).history) 0 none) (v, (0, Some y) ∷ [])
      (length (ledger y).history))
  grow b rose id v before y holds live knows goes s h long at small =
      let now = (ledger y).history in
      let left = left_in_doubt before (ledger y) in
      let w = holder_after b rose left v now (ledger y).doubt in
      let mine = h.each id v at in
      let is : v.seen ≡ h.history = (mine.holder holds).1 in
      let all_seen : before.history ≡ h.history = sym knows.seen ∙ is in
      let set_mark : h.mark ≡ 1 = (mine.holder holds).0 in
      let more : Extends v.seen now = subst (λ (l : List (List ℕ)). Extends l now) (sym knows.seen)
      (goes_extends before (ledger y) b goes) in
      let gains : b ≡ true → length v.seen < length now =
      λ told. subst (λ (l : List (List ℕ)). length l < length now) (sym knows.seen)
      (goes_more before (ledger y) b goes told) in
      let later : Extends h.history now = subst (λ (l : List (List ℕ)). Extends l now) is more in
      let grows : length v.seen ≤ length now = extends-length v.seen now more in
      let same : length v.seen ≡ length h.history = ap length is in
      let covers : Covers start s.views before.history =
      subst (Covers start s.views) (sym all_seen) h.covers in
      let foresees : Foresees start s.views before.history before.doubt =
      subst (λ (l : List (List ℕ)). Foresees start s.views l before.doubt) (sym all_seen)
      (subst (Foresees start s.views h.history) knows.doubt (h.foresee id v at holds)) in (
        w,
        keeps,
        tt,
        record {
          history = now;
          mark = h.mark;
          home = h.home;
          words_are = ap (λ (ws : List ℕ). slice_set ws 1 (length now)) h.words_are;
          homes_are = h.homes_are;
          extends = extends_trans (ledger first).history h.history now h.extends later;
          at_home = λ e. absurd (omega (arith, e, set_mark));
          held = λ _. held_set s.views id v w at live holds;
          each = each_set s.views id v w at (Fits h.history (ledger first).root start h.mark)
              (Fits now (ledger first).root start h.mark) h.each
              (λ j u ne there f. record {
                root_is = f.root_is;
                other_root_is = f.other_root_is;
                opening_is = f.opening_is;
                extends = extends_trans u.seen h.history now f.extends later;
                other_extends = extends_trans u.other_seen h.history now f.other_extends later;
                within = f.within;
                distinct = f.distinct;
                holder = λ t. absurd (alone s h id v at holds j u ne there t);
              })
              (record {
                root_is = mine.root_is;
                other_root_is = mine.other_root_is;
                opening_is = mine.opening_is;
                extends = extends_same now;
                other_extends = extends_trans v.other_seen h.history now mine.other_extends later;
                within = λ p had. ⊎_elim (λ old. omega (arith, grows, mine.within p old))
                    (λ (new : (length v.seen ≤ p) × (p < length now)). new.1)
                    (own_from b v.own (length v.seen) (length now) p gains had);
                distinct = own_distinct b v.own (length v.seen) (length now) gains mine.within
                    mine.distinct;
                holder = λ _. (set_mark, refl);
              });
          one = one_set s.views id v w at h.one
              (λ _ j u ne there t. alone s h id v at holds j u ne there t);
          apart = apart_set s.views id v w at h.apart (length h.history)
              (λ j u there. below u (h.each j u there))
              (λ p had. ⊎_elim (λ old. inl old) (λ (new : (length v.seen ≤ p) × (p < length now)).
              inr (omega (arith, new.0, same)))
              (own_from b v.own (length v.seen) (length now) p gains had));
          covers = covers_grown start s.views id v b rose before (ledger y) at goes covers foresees;
          foresee = each_set s.views id v w at (λ u. Unit {0})
              (λ u. u.holds ≡ true → Foresees start (set s.views id w) now u.doubt) (λ j u e. tt)
              (λ j u ne there _ t. absurd (alone s h id v at holds j u ne there t))
              (λ _. foresees_grown start s.views id v b rose before (ledger y) at goes foresees);
          whole = whole_set s.views id v w at refl passes h.whole;
          guests = guests_set s.views id v w at (λ some_parts split. (some_parts, split)) live
              (λ none. none) h.guests;
        },
        λ z e. ap (λ (l : Ledger).
            (holder_after b rose left v l.history l.doubt, (0, Some y) ∷ []))
            (ap ledger (value_of y z e)),
      )
    where
      head_of : List (ℕ × Maybe T) → Maybe T
      head_of [] = Some y
      head_of (x ∷ xs) = x.1

      some_of : Maybe T → T
      some_of None = y
      some_of (Some x) = x

      only : T → List (ℕ × Maybe T)
      only x = (0, Some x) ∷ []

      value_of : (y' z : T) → only y' ≡ only z → y' ≡ z
      value_of y' z e = ap (λ (l : List (ℕ × Maybe T)). some_of (head_of l)) e

  -- the length is stored
  pub stores_length : (b rose : Bool) (ds : List Doubt) (id : ℕ) (m : Me (Maybe T) View)
      (before : Ledger) (y : T) (n : ℕ) → m.1 ≡ (0, Some y) ∷ []
      → m.0.holds ≡ true → m.0.live ≡ true → Knows m.0 before → GoesOn before (ledger y) b
      → ds ≡ left_in_doubt before (ledger y) → n ≡ length (ledger y).history
      → Allows Rule slots id m 1 (λ _. n) (λ _. Grew ledger b rose ds (step slots 1 n 0 none) m n)
  stores_length b rose ds id m before y n out holds live knows goes told is =
      subst (λ (l : List Doubt). Allows Rule slots id m 1 (λ _. n)
      (λ _. Grew ledger b rose l (step slots 1 n 0 none) m n)) (sym told)
      (subst (λ (k : ℕ). Allows Rule slots id m 1 (λ _. k)
      (λ _. Grew ledger b rose (left_in_doubt before (ledger y)) (step slots 1 k 0 none) m k))
      (sym is)
      (subst (λ (c : List (ℕ × Maybe T)). Allows Rule slots id (m.0, c) 1
      (λ _. length (ledger y).history) (λ _. Grew ledger b rose (left_in_doubt before (ledger y))
      (step slots 1 (length (ledger y).history) 0 none) (m.0, c) (length (ledger y).history)))
      (sym out) (grow b rose id m.0 before y holds live knows goes)))

  free : (id : ℕ) (v : View) (y : T) → v.holds ≡ true → v.live ≡ true → Knows v (ledger y)
      → Allows Rule slots id (v, (0, Some y) ∷ []) 0 (λ _. 0)
      (λ _. Freed ledger (step slots 0 0 0 none) (v, (0, Some y) ∷ []) 0)
  free id v y holds live knows s h long at small =
      let w = without_turn v in
      let mine = h.each id v at in
      let is : v.seen ≡ h.history = (mine.holder holds).1 in (
        w,
        gives,
        tt,
        record {
          history = h.history;
          mark = 0;
          home = some (Some y);
          words_are = ap (λ (ws : List ℕ). slice_set ws 0 0) h.words_are;
          homes_are =
              ap (λ (hs : List (Option (Maybe T))). slice_set hs 0 (some (Some y))) h.homes_are;
          extends = h.extends;
          at_home = λ _. (
            y,
            refl,
            sym knows.seen ∙ is,
            sym knows.root ∙ mine.root_is live,
            foresees_set start s.views id v w at (λ p e made. made) h.history (ledger y).doubt
                (subst (Foresees start s.views h.history) knows.doubt (h.foresee id v at holds)),
          );
          held = λ set_mark. absurd (set_mark refl);
          each = each_set s.views id v w at (Fits h.history (ledger first).root start h.mark)
              (Fits h.history (ledger first).root start 0) h.each
              (λ j u ne there f. record {
                root_is = f.root_is;
                other_root_is = f.other_root_is;
                opening_is = f.opening_is;
                extends = f.extends;
                other_extends = f.other_extends;
                within = f.within;
                distinct = f.distinct;
                holder = λ t. absurd (alone s h id v at holds j u ne there t);
              })
              (record {
                root_is = mine.root_is;
                other_root_is = mine.other_root_is;
                opening_is = mine.opening_is;
                extends = mine.extends;
                other_extends = mine.other_extends;
                within = mine.within;
                distinct = mine.distinct;
                holder = λ t. absurd (off t);
              });
          one = one_set s.views id v w at h.one (λ t. absurd (off t));
          apart = apart_set s.views id v w at h.apart (length h.history)
              (λ j u there. below u (h.each j u there)) (λ p had. inl had);
          covers = covers_set start s.views id v w at (λ p e made. made) h.history h.covers;
          foresee = each_set s.views id v w at (λ u. Unit {0})
              (λ u. u.holds ≡ true → Foresees start (set s.views id w) h.history u.doubt)
              (λ j u e. tt)
              (λ j u ne there _ t. absurd (alone s h id v at holds j u ne there t))
              (λ t. absurd (off t));
          whole = whole_set s.views id v w at refl passes h.whole;
          guests = guests_set s.views id v w at (λ some_parts split. (some_parts, split)) live
              (λ none. none) h.guests;
        },
        refl,
      )

  -- the mark is cleared, and the value is at home again
  pub clears_mark : (id : ℕ) (m : Me (Maybe T) View) (y : T)
      → m.1 ≡ (0, Some y) ∷ [] → m.0.holds ≡ true → m.0.live ≡ true → Knows m.0 (ledger y)
      → Allows Rule slots id m 0 (λ _. 0) (λ _. Freed ledger (step slots 0 0 0 none) m 0)
  clears_mark id m y out holds live knows =
      subst (λ (c : List (ℕ × Maybe T)). Allows Rule slots id (m.0, c) 0 (λ _. 0) (λ _. Freed ledger
      (step slots 0 0 0 none) (m.0, c) 0)) (sym out) (free id m.0 y holds live knows)
