-- A look at the mark keeps the rule, and takes the turn where the mark is clear.
use Rattle.std.proofs.Common.{◌≡◌, ◌≢◌, inl, ℕ, ◌<◌, true, false, List, [], length, set, eqb, refl}
use Rattle.std.proofs.Common.{sym, ap, ◌∙◌, subst, arith}
use Rattle.std.specs.Prelude.{slice_index, slice_set, Some}
use Rattle.std.specs.declared.option.Option.{Option as Maybe}
use mathlib.Core.Option.{Option, none, some}
use lib.ListN.{get_elem?}
use prog.Atomic.{either}
use Rattle.atomic_table.specs.Table.{State, Me, Act, takes, keeps, Valid, stepped, step, Allows}
use Rattle.atomic_table.specs.Table.{carried_after}
use Rattle.atomic_table.proofs.Lists.{exchanged, set_again}
use Rattle.turn_desk.specs.declared.view.View.{View}
use Rattle.turn_desk.specs.Histories.{Extends, Has}
use Rattle.turn_desk.specs.Ledgers.{Ledger}
use Rattle.turn_desk.specs.Views.{IsIdle, with_turn}
use Rattle.turn_desk.specs.Rule.{Fits, One, Apart, Held, Ruled, Took, Compared, Covers, Foresees}
use Rattle.turn_desk.specs.Rule.{GuestsAreKnown, HoldersForesee, opened}
use Rattle.turn_desk.specs.Sources.{Accounts}
use Rattle.turn_desk.specs.declared.view.Opening.{Opening}
use Rattle.turn_desk.proofs.Histories.{comparable, extends_same, extends-length}
use Rattle.turn_desk.proofs.Sources.{all_known, covers_set, foresees_set, guests_set, parts_of}
use Rattle.turn_desk.proofs.Sources.{whole_set}
use Rattle.turn_desk.proofs.Views.{each_set, held_set, one_set, apart_set}

-- own positions lie in the history
pub below : {history : List (List ℕ)} {root : List ℕ} {opening : Opening} {mark : ℕ} (v : View)
    → Fits history root opening mark v → (p : ℕ) → Has v.own p → p < length history
below {history} v f p had = omega (arith, f.within p had, extends-length v.seen history f.extends)

module _ {T : Type 0} (ledger : T → Ledger) (first : T) (passes : ℕ) where
  -- a step that changes nothing but to write what it found
  pub looked : (s : State (Maybe T) View) (h : Ruled ledger first passes s) (id : ℕ) (v : View)
      → get_elem? s.views id ≡ some v
      → Ruled ledger first passes (stepped s 0 (slice_index s.words 0) id [] v keeps)
  looked s h id v at =
      let as_was : set s.views id v ≡ s.views = set_again s.views id v at in
      record {
        history = h.history;
        mark = h.mark;
        home = h.home;
        words_are = ap (λ (ws : List ℕ). slice_set ws 0 (slice_index ws 0)) h.words_are;
        homes_are = h.homes_are;
        extends = h.extends;
        at_home = λ clear. let y = h.at_home clear in (
          y.0,
          y.1,
          y.2,
          y.3,
          subst (λ (vs : List View). Foresees (opened ledger first passes) vs h.history
              (ledger y.0).doubt) (sym as_was) y.4,
        );
        held = λ set_mark. subst Held (sym as_was) (h.held set_mark);
        each = λ j u e. h.each j u (subst (λ (vs : List View). get_elem? vs j ≡ some u) as_was e);
        one = subst One (sym as_was) h.one;
        apart = subst Apart (sym as_was) h.apart;
        covers = subst (λ (vs : List View). Covers (opened ledger first passes) vs h.history)
            (sym as_was) h.covers;
        foresee = subst (λ (vs : List View).
            HoldersForesee (opened ledger first passes) vs h.history) (sym as_was) h.foresee;
        whole = ap parts_of as_was ∙ h.whole;
        guests = subst GuestsAreKnown (sym as_was) h.guests;
      }

module _ {T : Type 0} (ledger : T → Ledger) (first : T) (passes slots : ℕ) where
  abbrev Rule : State (Maybe T) View → Type 0
  Rule = Ruled ledger first passes

  abbrev start : Opening
  start = opened ledger first passes

  found : (s : State (Maybe T) View) (h : Rule s) → slice_index s.words 0 ≡ h.mark
  found s h = ap (λ (ws : List ℕ). slice_index ws 0) h.words_are

  -- the mark is set, and the value comes out
  take_won : (s : State (Maybe T) View) (h : Rule s) (id : ℕ) (v : View) → v.live ≡ true
      → v.holds ≡ false → get_elem? s.views id ≡ some v → h.mark ≡ 0
      → (w : View) × (a : Act (Maybe T)) × Valid s.homes [] a × Rule (stepped s 0 1 id [] w a)
      × Took ledger (step slots 0 0 1 none) (v, []) (slice_index s.words 0) (
        w,
        carried_after [] a,
      )
  take_won s h id v live idle at clear =
      let y = h.at_home clear in
      let w = with_turn v h.history (ledger y.0).doubt in
      let mine = h.each id v at in (
        w,
        takes 0 (Some y.0),
        (ap (λ (hs : List (Option (Maybe T))). get_elem? hs 0) h.homes_are ∙ ap some y.1),
        record {
          history = h.history;
          mark = 1;
          home = none;
          words_are = ap (λ (ws : List ℕ). slice_set ws 0 1) h.words_are;
          homes_are = ap (λ (hs : List (Option (Maybe T))). slice_set hs 0 none) h.homes_are;
          extends = h.extends;
          at_home = λ e. absurd (omega (arith, e));
          held = λ _. held_set s.views id v w at live refl;
          each = each_set s.views id v w at (Fits h.history (ledger first).root start h.mark)
              (Fits h.history (ledger first).root start 1) h.each
              (λ j u ne there f. record {
                root_is = f.root_is;
                other_root_is = f.other_root_is;
                opening_is = f.opening_is;
                extends = f.extends;
                other_extends = f.other_extends;
                within = f.within;
                distinct = f.distinct;
                holder = λ holds. absurd (omega (arith, (f.holder holds).0, clear));
              })
              (record {
                root_is = mine.root_is;
                other_root_is = mine.other_root_is;
                opening_is = mine.opening_is;
                extends = extends_same h.history;
                other_extends = mine.other_extends;
                within = below v mine;
                distinct = mine.distinct;
                holder = λ _. (refl, refl);
              });
          one = one_set s.views id v w at h.one (λ _ j u ne there holds.
              absurd (omega (arith, ((h.each j u there).holder holds).0, clear)));
          apart = apart_set s.views id v w at h.apart (length h.history)
              (λ j u there. below u (h.each j u there)) (λ p had. inl had);
          covers = covers_set start s.views id v w at (λ p e made. made) h.history h.covers;
          foresee = each_set s.views id v w at (λ u. Unit {0})
              (λ u. u.holds ≡ true → Foresees start (set s.views id w) h.history u.doubt)
              (λ j u e. tt)
              (λ j u ne there _ holds.
              absurd (omega (arith, ((h.each j u there).holder holds).0, clear)))
              (λ _. foresees_set start s.views id v w at (λ p e made. made) h.history
              (ledger y.0).doubt y.4);
          whole = whole_set s.views id v w at refl passes h.whole;
          guests = guests_set s.views id v w at (λ some_parts split. (some_parts, split)) live
              (λ none. none) h.guests;
        },
        record {
          won = λ _. (
            y.0,
            refl,
            ap (λ (l : List (List ℕ)). with_turn v l (ledger y.0).doubt) (sym y.2),
            subst (Extends v.seen) (sym y.2) mine.extends,
            y.3 ∙ sym (mine.root_is live),
            λ all. subst (Accounts v.opening v.own v.raised) (sym y.2)
                (all_known start s.views h.history id v at (mine.opening_is live) h.whole h.covers
                h.guests all),
          );
          lost = λ ne. absurd (ne (found s h ∙ clear));
        },
      )

  take_lost : (s : State (Maybe T) View) (h : Rule s) (id : ℕ) (v : View)
      → get_elem? s.views id ≡ some v → slice_index s.words 0 ≢ 0
      → (w : View) × (a : Act (Maybe T))
      × Valid s.homes [] a × Rule (stepped s 0 (slice_index s.words 0) id [] w a) × Took ledger
      (step slots 0 0 1 none) (v, []) (slice_index s.words 0) (w, carried_after [] a)
  take_lost s h id v at busy = (
    v,
    keeps,
    tt,
    looked ledger first passes s h id v at,
    record { won = λ e. absurd (busy e); lost = λ _. refl },
  )

  take : (id : ℕ) (v : View) → v.live ≡ true → v.holds ≡ false
      → Allows Rule slots id (v, []) 0 (λ n. either (eqb n 0) 1 n)
      (Took ledger (step slots 0 0 1 none) (v, []))
  take id v live idle s h long at small =
      exchanged (slice_index s.words 0) 0 1
      (λ (x : ℕ). (w : View) × (a : Act (Maybe T)) × Valid s.homes [] a
      × Rule (stepped s 0 x id [] w a) × Took ledger (step slots 0 0 1 none) (v, [])
      (slice_index s.words 0) (w, carried_after [] a))
      (λ e. take_won s h id v live idle at (sym (found s h) ∙ e))
      (λ ne. take_lost s h id v at ne)

  pub takes_turn : (id : ℕ) (m : Me (Maybe T) View) → IsIdle m
      → Allows Rule slots id m 0 (λ n. either (eqb n 0) 1 n) (Took ledger (step slots 0 0 1 none) m)
  takes_turn id m is =
      subst (λ (c : List (ℕ × Maybe T)). Allows Rule slots id (m.0, c) 0 (λ n. either (eqb n 0) 1 n)
      (Took ledger (step slots 0 0 1 none) (m.0, c))) (sym is.none_out)
      (take id m.0 is.live is.idle)

  -- a look that tells what the rule says of the pass
  pub compares : (id : ℕ) (m : Me (Maybe T) View) → m.1 ≡ []
      → Allows Rule slots id m 0 (λ n. n) (Compared ledger (step slots 0 0 0 none) m)
  compares id m out s h long at small =
      let mine = h.each id m.0 at in (
        m.0,
        keeps,
        tt,
        looked ledger first passes s h id m.0 at,
        record {
          same = refl;
          one_root = λ live. mine.other_root_is live ∙ sym (mine.root_is live);
          one_history =
              comparable m.0.seen m.0.other_seen h.history mine.extends mine.other_extends;
          within = mine.within;
          apart = mine.distinct;
        },
      )
