-- The desk at the start; a pass is split; two passes become one.
use Rattle.std.proofs.Common.{◌≡◌, ◌≢◌, ⊎_elim, inl, inr, ℕ, zero, suc, ◌+◌, ◌-◌, ◌<◌, Bool, true}
use Rattle.std.proofs.Common.{false, true≢false, List, [], ◌∷◌, ◌++◌, length, set, refl, sym, ap}
use Rattle.std.proofs.Common.{◌∙◌, subst, arith}
use Rattle.std.specs.Prelude.{Some}
use Rattle.std.specs.declared.option.Option.{Option as Maybe}
use Rattle.std.proofs.Math.Decide.{ℕ_discrete}
use Rattle.std.proofs.lemmas.Option.{slice_get_within}
use mathlib.Core.Logic.{dite}
use mathlib.Core.Option.{some, some-injective, some-ne-none}
use lib.ListN.{get_elem?}
use Rattle.atomic_table.specs.Table.{State, Splits, Joins, opening}
use Rattle.atomic_table.proofs.Lists.{at_set}
use Rattle.turn_desk.specs.declared.view.Opening.{Opening}
use Rattle.turn_desk.specs.declared.view.View.{View}
use Rattle.turn_desk.specs.Histories.{Has}
use Rattle.turn_desk.specs.Ledgers.{Ledger}
use Rattle.turn_desk.specs.Views.{giver, host, visitor, spent_pass, view_of_both}
use Rattle.turn_desk.specs.Rule.{Fits, Foresees, GuestsAreKnown, HasGuests, IsSpent, Ruled, Stems}
use Rattle.turn_desk.specs.Rule.{first_view, opened}
use Rattle.turn_desk.proofs.Histories.{distinct_append, extends_same, has_append, longer_extended}
use Rattle.turn_desk.proofs.Histories.{shorter_extended, longer_left, longer_right}
use Rattle.turn_desk.proofs.Sources.{covers_push, covers_set, foresees_push, foresees_set}
use Rattle.turn_desk.proofs.Sources.{guests_join, guests_push, guests_set, has_guests_push}
use Rattle.turn_desk.proofs.Sources.{has_guests_set, parts_of, stems_join, total_join, total_push}
use Rattle.turn_desk.proofs.Sources.{total_set}
use Rattle.turn_desk.proofs.Views.{apart_join, apart_push, apart_set, each_push, each_set}
use Rattle.turn_desk.proofs.Views.{held_join, held_push, held_still, off, one_push, one_set}
use Rattle.turn_desk.proofs.Views.{set_there}
use Rattle.turn_desk.proofs.Taking.{below}

-- what the rule says of a pass that has seen this much
visitor_fits : (seen history : List (List ℕ)) (root : List ℕ) (start : Opening) (mark : ℕ)
    (given : List ℕ) (told : Opening) (parts : ℕ)
    → given ≡ root → told ≡ start → (more : List (List ℕ)) × (history ≡ seen ++ more)
    → Fits history root start mark (visitor given seen told parts)
visitor_fits seen history root start mark given told parts is so extends = record {
  root_is = λ _. is;
  other_root_is = λ _. is;
  opening_is = λ _. so;
  extends = extends;
  other_extends = (history, refl);
  within = λ p none. absurd none;
  distinct = tt;
  holder = λ t. absurd (off t);
}

module _ {T : Type 0} (ledger : T → Ledger) (first : T) (passes : ℕ) where
  abbrev Rule : State (Maybe T) View → Type 0
  Rule = Ruled ledger first passes

  abbrev start : Opening
  start = opened ledger first passes

  -- A further pass that has seen as much. The pass that it is split off stays as it was, but for
  -- its parts and its mark.
  module _ (id : ℕ) (v : View) (less : ℕ) (has_split : Bool) (parts : ℕ) (idle : v.holds ≡ false)
      (live : v.live ≡ true) (all : less + parts ≡ v.parts) (s : State (Maybe T) View) (h : Rule s)
      (at : get_elem? s.views id ≡ some v) where
    abbrev left : View
    left = record v { parts = less; has_split = has_split }

    abbrev right : View
    right = visitor v.root v.seen v.opening parts

    abbrev changed : List View
    changed = set s.views id left

    foresees_yet : (doubt : Maybe (List ℕ)) → Foresees start s.views h.history doubt
        → Foresees start (changed ++ right ∷ []) h.history doubt
    foresees_yet doubt foresees = foresees_push start changed right h.history doubt
        (foresees_set start s.views id v left at (λ p e made. made) h.history doubt foresees)

    mine : Fits h.history (ledger first).root start h.mark v
    mine = h.each id v at

    split_so : GuestsAreKnown (changed ++ right ∷ [])
        → Rule record { words = s.words; homes = s.homes; views = changed ++ right ∷ [] }
    split_so guests = record {
      history = h.history;
      mark = h.mark;
      home = h.home;
      words_are = h.words_are;
      homes_are = h.homes_are;
      extends = h.extends;
      at_home = λ clear. let y = h.at_home clear in
          (y.0, y.1, y.2, y.3, foresees_yet (ledger y.0).doubt y.4);
      held = λ set_mark.
          held_push changed right (held_still s.views id v left at idle (h.held set_mark));
      each = each_push changed right refl refl (Fits h.history (ledger first).root start h.mark)
          (each_set s.views id v left at (Fits h.history (ledger first).root start h.mark)
          (Fits h.history (ledger first).root start h.mark) h.each (λ j u ne here f. f)
          (record {
            root_is = mine.root_is;
            other_root_is = mine.other_root_is;
            opening_is = mine.opening_is;
            extends = mine.extends;
            other_extends = mine.other_extends;
            within = mine.within;
            distinct = mine.distinct;
            holder = mine.holder;
          }))
          (visitor_fits v.seen h.history (ledger first).root start h.mark v.root v.opening parts
          (mine.root_is live) (mine.opening_is live) mine.extends);
      one = one_push changed right refl refl (one_set s.views id v left at h.one
          (λ t. absurd (true≢false (sym t ∙ idle))));
      apart = apart_push changed right refl refl (apart_set s.views id v left at h.apart
          (length h.history) (λ j u there. below u (h.each j u there)) (λ p had. inl had));
      covers = covers_push start changed right h.history
          (covers_set start s.views id v left at (λ p e made. made) h.history h.covers);
      foresee = each_push changed right refl refl
          (λ u. u.holds ≡ true → Foresees start (changed ++ right ∷ []) h.history u.doubt)
          (each_set s.views id v left at
          (λ u. u.holds ≡ true → Foresees start s.views h.history u.doubt)
          (λ u. u.holds ≡ true → Foresees start (changed ++ right ∷ []) h.history u.doubt)
          h.foresee (λ j u ne here f t. foresees_yet u.doubt (f t))
          (λ t. absurd (true≢false (sym t ∙ idle))))
          (λ t. absurd (off t));
      whole =
          let pushed : parts_of (changed ++ right ∷ []) ≡ parts_of changed + parts =
          total_push (λ (x : View). x.parts) changed right in
          let set_so : parts_of changed + v.parts ≡ parts_of s.views + less =
          total_set (λ (x : View). x.parts) s.views id v left at in
          let was : parts_of s.views ≡ passes = h.whole in
          omega (arith, pushed, set_so, was, all);
      guests = guests;
    }

  pub splits : (id : ℕ) (v : View) → v.holds ≡ false → v.live ≡ true
      → Splits Rule id v (host v) (visitor v.root v.seen v.opening 0)
  splits id v idle live s h at =
      let w = host v in
      let right = visitor v.root v.seen v.opening 0 in
      let set_so = set s.views id w in
      let kept : 0 < v.parts → v.has_split ≡ true → (0 < w.parts) × (w.has_split ≡ true) =
      λ some_parts split. (some_parts, refl) in
      let guests : HasGuests (set_so ++ right ∷ []) = has_guests_push set_so right
      (dite (ℕ_discrete v.parts 0)
      (λ none. ⊎_elim (λ (spent : IsSpent v). absurd (true≢false (sym live ∙ spent.spent)))
      (λ found. has_guests_set s.views id v w at kept found) (h.guests id v at none))
      (λ some_parts. (id, w, set_there s.views id v w at, omega (arith, some_parts), refl))) in
      split_so id v v.parts true 0 idle live (omega arith) s h at
      (guests_push set_so right (λ _. inr guests)
      (guests_set s.views id v w at kept live (λ none. none) h.guests))

  -- one of the passes for which the desk is opened
  pub deals : (id : ℕ) (v : View) → v.holds ≡ false → v.live ≡ true → 1 < v.parts
      → Splits Rule id v (giver v) (visitor v.root v.seen v.opening 1)
  deals id v idle live more s h at =
      let w = giver v in
      let right = visitor v.root v.seen v.opening 1 in
      let set_so = set s.views id w in
      split_so id v (v.parts - 1) v.has_split 1 idle live (omega (arith, more)) s h at
      (guests_push set_so right (λ none. absurd (omega (arith, none)))
      (guests_set s.views id v w at (λ some_parts split. (omega (arith, more), split)) live
      (λ none. absurd (omega (arith, none, more))) h.guests))

  pub joins : (id : ℕ) (v : View) (other : ℕ) (w : View) → v.holds ≡ false → v.live ≡ true
      → w.holds ≡ false → w.live ≡ true
      → Joins Rule id v other w (view_of_both v w) spent_pass
  joins id v other w idle live other_idle other_live s h at two there' =
      let both = view_of_both v w in
      let there : get_elem? s.views other ≡ some w = ⊎_elim (λ (t : (other ≡ id) × (both ≡ w)).
      absurd (two t.0)) (λ (t : (other ≢ id) × (get_elem? s.views other ≡ some w)). t.1)
      (at_set s.views id other both w there') in
      let mine = h.each id v at in
      let theirs = h.each other w there in
      let joined = set (set s.views id both) other spent_pass in
      let stems : (p : ℕ) (e : List ℕ) → Stems start s.views p e → Stems start joined p e =
      stems_join s.views id other v w spent_pass at there two start in
      let fits = each_set s.views id v both at (Fits h.history (ledger first).root start h.mark)
      (Fits h.history (ledger first).root start h.mark) h.each (λ j u ne here f. f)
      (record {
        root_is = mine.root_is;
        other_root_is = λ _. theirs.root_is other_live;
        opening_is = mine.opening_is;
        extends = longer_extended v.seen w.seen h.history mine.extends theirs.extends;
        other_extends = shorter_extended v.seen w.seen h.history mine.extends theirs.extends;
        within = λ p had. ⊎_elim (λ a. let lt = mine.within p a in
            let le = longer_left v.seen w.seen in omega (arith, lt, le))
            (λ b. let lt = theirs.within p b in let le = longer_right v.seen w.seen in
            omega (arith, lt, le)) (has_append v.own w.own p had);
        distinct = distinct_append v.own w.own mine.distinct theirs.distinct
            (λ p a b. h.apart id other v w (λ e. two (sym e)) at there p a b);
        holder = λ t. absurd (true≢false (sym t ∙ idle));
      }) in
      let foresee = each_set s.views id v both at
      (λ u. u.holds ≡ true → Foresees start s.views h.history u.doubt)
      (λ u. u.holds ≡ true → Foresees start joined h.history u.doubt) h.foresee
      (λ j u ne here f t e is. stems (length h.history) e (f t e is))
      (λ t. absurd (true≢false (sym t ∙ idle))) in
      record {
        history = h.history;
        mark = h.mark;
        home = h.home;
        words_are = h.words_are;
        homes_are = h.homes_are;
        extends = h.extends;
        at_home = λ clear. let y = h.at_home clear in
            (y.0, y.1, y.2, y.3, λ e is. stems (length h.history) e (y.4 e is));
        held = λ set_mark. held_join s.views id other v w both spent_pass at there two refl
            (λ p had. has_append v.own w.own p had) (h.held set_mark) idle other_idle;
        each = each_set (set s.views id both) other w spent_pass there'
            (Fits h.history (ledger first).root start h.mark)
            (Fits h.history (ledger first).root start h.mark)
            fits (λ j u ne here f. f)
            (record {
              root_is = λ t. absurd (off t);
              other_root_is = λ t. absurd (off t);
              opening_is = λ t. absurd (off t);
              extends = (h.history, refl);
              other_extends = (h.history, refl);
              within = λ p none. absurd none;
              distinct = tt;
              holder = λ t. absurd (off t);
            });
        one = one_set (set s.views id both) other w spent_pass there'
            (one_set s.views id v both at h.one
            (λ t. absurd (true≢false (sym t ∙ idle)))) (λ t. absurd (off t));
        apart = apart_join s.views id other v w both spent_pass at there two refl
            (λ p had. has_append v.own w.own p had) h.apart;
        covers = λ p e here. stems p e (h.covers p e here);
        foresee = each_set (set s.views id both) other w spent_pass there'
            (λ u. u.holds ≡ true → Foresees start joined h.history u.doubt)
            (λ u. u.holds ≡ true → Foresees start joined h.history u.doubt) foresee
            (λ j u ne here f. f) (λ t. absurd (off t));
        whole = total_join s.views id other v w spent_pass at there two refl ∙ h.whole;
        guests = guests_join s.views id other v w spent_pass at there two live
            (record { spent = refl; none_own = refl; none_raised = refl }) h.guests;
      }

-- the desk at the start
pub begins : {T : Type 0} (ledger : T → Ledger) (first : T) (passes n : ℕ) → 0 < passes
    → n ≡ length (ledger first).history
    → Ruled ledger first passes
    (opening (0 ∷ n ∷ []) (Some first ∷ []) (first_view ledger first passes))
begins {T} ledger first passes n some_passes is = record {
  history = (ledger first).history;
  mark = 0;
  home = some (Some first);
  words_are = ap (λ k. 0 ∷ k ∷ []) is;
  homes_are = refl;
  extends = extends_same (ledger first).history;
  at_home = λ _. (first, refl, refl, refl, λ e doubt. inl (inr (refl, doubt)));
  held = λ set_mark. absurd (set_mark refl);
  each = λ i u e. subst (Fits (ledger first).history (ledger first).root start 0) (is_first i u e)
      (visitor_fits (ledger first).history (ledger first).history (ledger first).root start 0
      (ledger first).root start passes refl refl (extends_same (ledger first).history));
  one = λ i j u v ei ej hi hj. absurd (idle i u ei hi);
  apart = λ i j u v ne ei ej p had _. subst (λ (x : View). Has x.own p) (sym (is_first i u ei)) had;
  covers = λ p e there. inl (inl (slice_get_within (ledger first).history p e there));
  foresee = λ i u e holds. absurd (idle i u e holds);
  whole = omega arith;
  guests = λ i u e none. absurd (let same : passes ≡ u.parts =
      ap (λ (x : View). x.parts) (is_first i u e) in omega (arith, some_passes, none, same));
}
  where
    start : Opening
    start = opened ledger first passes

    is_first : (i : ℕ) (u : View) → get_elem? (first_view ledger first passes ∷ []) i ≡ some u
        → first_view ledger first passes ≡ u
    is_first zero u e = some-injective _ _ e
    is_first (suc i) u e = absurd (some-ne-none u (sym e))

    idle : (i : ℕ) (u : View) → get_elem? (first_view ledger first passes ∷ []) i ≡ some u
        → u.holds ≡ true → ⊥
    idle i u e holds = off (subst (λ (x : View). x.holds ≡ true) (sym (is_first i u e)) holds)
