-- What is left of the lines of alerts as those that aren't wanted go.
use Rattle.std.proofs.Common.{◌≡◌, ◌⊎◌, inl, inr, ℕ, Bool, true, false, sym, subst, List, [], ◌∷◌}
use Rattle.std.proofs.Common.{◌∙◌, IfSome, Option, Some, None}
use Rattle.std.specs.Bool.{Decides}
use Rattle.std.specs.List.{AllByRecursion, Contains, items_where_true}
use Rattle.std.specs.List.Retain.{IsFiltered, ReturnsInTurn}
use Rattle.catalog_terms.specs.declared.Binding.{Binding}
use Rattle.object_terms.specs.declared.Object.{Object}
use Rattle.alert_line.specs.Line.{Line, knowledge}
use Rattle.office_history.specs.Alerts.{Watch, holds_at, watch_of}
use Rattle.line_forgetting.specs.Right.{IsRight}
use Rattle.office_history.specs.Counts.{Samples}
use Rattle.kept_sums.proofs.TakeLemmas.{wanted_each, wanted_left}
use Rattle.kept_lines.specs.Watches.{IsWatched}
use Rattle.kept_lines.specs.Known.{IsLineOf}
use Rattle.kept_lines.specs.Lines.{AreBound, AreRight, KeepsLines, lines_of, watches_of}
use Rattle.kept_lines.specs.Plans.{IsFresh, IsLinesPlan}
use Rattle.kept_lines.proofs.ForgetLemmas.{by_watches, of_watches}
use Rattle.kept_lines.proofs.KnownLemmas.{of_line}
use Rattle.kept_lines.specs.declared.kept.WatchLine.{WatchLine}
use Rattle.kept_lines.specs.declared.plan.LinesPlan.{LinesPlan}

-- what a line watches, by which lines are kept
abbrev pub watch_of_line : WatchLine → Watch
watch_of_line k = k.watch

module _ {F : Type 0} (R : F → WatchLine → Bool → F → Type 0) (wanted : List Watch) (f : F)
    (h : (x : WatchLine) (b : Bool) (g : F) → R f x b g →
    Decides b (Contains wanted x.watch) × (g ≡ f)) where
  line_left : (bs : List Bool) (xs : List WatchLine) (q : F) (w : Watch) (before after : Line) →
      ReturnsInTurn R f bs xs q → IsLineOf xs w before →
      IsLineOf (items_where_true bs xs) w after → after ≡ before
  line_left [] xs q w before after t was is = absurd is
  line_left (b ∷ bs) [] q w before after t was is = absurd was
  line_left (true ∷ bs) (x ∷ xs) q w before after t (inl was) (inl is) = sym is.1 ∙ was.1
  line_left (true ∷ bs) (x ∷ xs) q w before after t (inl was) (inr is) = absurd (is.0 was.0)
  line_left (true ∷ bs) (x ∷ xs) q w before after t (inr was) (inl is) = absurd (was.0 is.0)
  line_left (true ∷ bs) (x ∷ xs) q w before after t (inr was) (inr is) =
      line_left bs xs q w before after
      (subst (λ (y : F). ReturnsInTurn R y bs xs q) (h x true t.0 t.1).1 t.2) was.1 is.1
  line_left (false ∷ bs) (x ∷ xs) q w before after t (inl was) is =
      let want = of_line (items_where_true bs xs) w after (λ (v : Watch). Contains wanted v)
      (wanted_left watch_of_line R wanted f h bs xs q
      (subst (λ (y : F). ReturnsInTurn R y bs xs q) (h x false t.0 t.1).1 t.2)) is in
      let no_way : false ≡ true =
      (h x false t.0 t.1).0.1 (subst (λ (v : Watch). Contains wanted v) (sym was.0) want) in
      cc no_way
  line_left (false ∷ bs) (x ∷ xs) q w before after t (inr was) is =
      line_left bs xs q w before after
      (subst (λ (y : F). ReturnsInTurn R y bs xs q) (h x false t.0 t.1).1 t.2) was.1 is

  -- a line of an alert that was there and is there is the same
  pub retained_line : (xs ys : List WatchLine) → IsFiltered R f xs ys → (w : Watch)
      (before after : Line) → IsLineOf xs w before → IsLineOf ys w after → after ≡ before
  retained_line xs ys k w before after was is =
      line_left k.0 xs k.1 w before after k.3 was
      (subst (λ (os : List WatchLine). IsLineOf os w after) k.4 is)

-- a line that knows nothing is right
pub fresh_right : (begin : ℕ) (s : Samples) (made : List WatchLine) →
    AllByRecursion (IsFresh begin) made → AreRight begin s made
fresh_right begin s [] fresh = tt
fresh_right begin s (k ∷ made) fresh = (
  record {
    rule = fresh.0.rule;
    target = fresh.0.target;
    origin = fresh.0.origin;
    each = λ minute holds e. unknown minute holds (fresh.0.unknown minute) e;
  },
  fresh_right begin s made fresh.1,
)
  where
    unknown : (minute : ℕ) (holds : Bool) → knowledge k.line minute ≡ None →
        knowledge k.line minute ≡ Some holds → holds ≡ holds_at begin s k.watch minute
    unknown minute holds none e = let never : None ≡ Some holds = sym none ∙ e in cc never

-- lines that watch the same and know the same are right as well
right_still : (begin : ℕ) (s : Samples) (old new : List WatchLine) →
    watches_of new ≡ watches_of old → lines_of new ≡ lines_of old → AreRight begin s old →
    AreRight begin s new
right_still begin s [] [] ws ls all = tt
right_still begin s [] (k' ∷ new) ws ls all = cc ws
right_still begin s (k ∷ old) [] ws ls all = cc ws
right_still begin s (k ∷ old) (k' ∷ new) ws ls all =
    let w : k.watch ≡ k'.watch = cc ws in
    let l : k.line ≡ k'.line = cc ls in
    let watches : watches_of new ≡ watches_of old = cc ws in
    let lines : lines_of new ≡ lines_of old = cc ls in (
      subst (IsRight begin s k'.watch) l
          (subst (λ (v : Watch). IsRight begin s v k.line) w all.0),
      right_still begin s old new watches lines all.1,
    )

-- and each alert has the line that it had
pub line_still : (old new : List WatchLine) (w : Watch) (line : Line) →
    watches_of new ≡ watches_of old → lines_of new ≡ lines_of old → IsLineOf new w line →
    IsLineOf old w line
line_still old [] w line ws ls is = absurd is
line_still [] (k' ∷ new) w line ws ls is = cc ws
line_still (k ∷ old) (k' ∷ new) w line ws ls (inl here) =
    let v : k.watch ≡ k'.watch = cc ws in
    let l : k.line ≡ k'.line = cc ls in inl (v ∙ here.0, l ∙ here.1)
line_still (k ∷ old) (k' ∷ new) w line ws ls (inr there) =
    let v : k'.watch ≡ k.watch = cc ws in
    let watches : watches_of new ≡ watches_of old = cc ws in
    let lines : lines_of new ≡ lines_of old = cc ls in
    inr (λ is. there.0 (v ∙ is), line_still old new w line watches lines there.1)

-- lines that remember nothing remember nothing wrong
none_bound : (members : List Object) (kept : List WatchLine) →
    AllByRecursion (λ (k : WatchLine). k.bound ≡ None) kept → AreBound members kept
none_bound members [] free = tt
none_bound members (k ∷ kept) free = (
  subst (λ (o : Option Binding). IfSome o (λ (b : Binding). watch_of members b ≡ Some k.watch))
      (sym free.0) tt,
  none_bound members kept free.1,
)

-- of two lists of lines, one for each catalog, those that a plan wants are the ones to keep
pub taken : (begin : ℕ) (before after : List Object) (s : Samples) (plan : LinesPlan)
    (old left new : List WatchLine) → KeepsLines begin before s old →
    IsLinesPlan begin before after plan →
    (AreRight begin s old → AreRight begin s plan.made.items → AreRight begin s left) →
    AllByRecursion (λ (k : WatchLine). Contains plan.wanted.items k.watch) left →
    ((w : Watch) → Contains plan.wanted.items w →
    Contains (watches_of old) w ⊎ Contains (watches_of plan.made.items) w →
    Contains (watches_of left) w) → watches_of new ≡ watches_of left →
    lines_of new ≡ lines_of left → AllByRecursion (λ (k : WatchLine). k.bound ≡ None) new →
    KeepsLines begin after s new
taken begin before after s plan old left new keeps is right wanted there watches lines free =
    record {
      right = right_still begin s left new watches lines
          (right keeps.right (fresh_right begin s plan.made.items is.fresh));
      only = by_watches (IsWatched after) new
          (subst (AllByRecursion (IsWatched after)) (sym watches)
          (of_watches (IsWatched after) left
          (wanted_each watch_of_line (IsWatched after) plan.wanted.items left is.only wanted)));
      all = λ w has.
          let want = is.all w has in
          subst (λ (ws : List Watch). Contains ws w) (sym watches)
          (there w want (by w (is.there w want)));
      bound = none_bound after new free;
    }
  where
    by : (w : Watch) → Contains (watches_of plan.made.items) w ⊎ IsWatched before w →
        Contains (watches_of old) w ⊎ Contains (watches_of plan.made.items) w
    by w (inl made) = inr made
    by w (inr watched) = inl (keeps.all w watched)
