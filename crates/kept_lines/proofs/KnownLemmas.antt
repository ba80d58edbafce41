-- What the lines of alerts still know as lines change.
use Rattle.std.proofs.Common.{◌≡◌, ◌≢◌, ◌∙◌, inl, inr, ℕ, zero, suc, ◌<◌, ◌≤◌, ◌&&◌, nat_le, nat_lt}
use Rattle.std.proofs.Common.{Bool, true, arith, refl, sym, subst, ap, List, [], ◌∷◌, ◌++◌, take}
use Rattle.std.proofs.Common.{slice_get, slice_index_or, slice_set, None, Some, Result, Ok, Err}
use Rattle.std.proofs.Common.{OnOk}
use Rattle.std.proofs.Common.{if◌then◌else◌}
use Rattle.std.specs.List.{AllByRecursion}
use Rattle.std.proofs.lemmas.Bool.Decides.{nat_tests}
use Rattle.window_sums.specs.Slices.{CountedDays}
use Rattle.alert_line.specs.Learnt.{IsLearnt, start_of}
use Rattle.alert_line.specs.Line.{Line, SameAlert, condition_on, knowledge}
use Rattle.catalog_terms.specs.declared.Binding.{Binding}
use Rattle.office_history.specs.Alerts.{Watch}
use Rattle.kept_lines.specs.Known.{AllKnow, EachBecomes, IsLineOf, LineKnows, StillKnows}
use Rattle.kept_lines.specs.Lines.{watches_of}
use Rattle.kept_lines.specs.declared.kept.WatchLine.{WatchLine}

-- a line that remembers no binding
abbrev beside : Watch → Line → WatchLine
beside w line = record { watch = w; line = line; bound = None }

-- a line that has learnt something
abbrev pub with_line : WatchLine → Line → WatchLine
with_line k line = record { watch = k.watch; line = line; bound = k.bound }

-- a line that remembers a binding
abbrev pub with_bound : WatchLine → Binding → WatchLine
with_bound k b = record { watch = k.watch; line = k.line; bound = Some b }

-- an alert has one line
pub one_line : (kept : List WatchLine) (w : Watch) (a b : Line) → IsLineOf kept w a →
    IsLineOf kept w b → a ≡ b
one_line [] w a b of_a of_b = absurd of_a
one_line (k ∷ kept) w a b (inl of_a) (inl of_b) = sym of_a.1 ∙ of_b.1
one_line (k ∷ kept) w a b (inl of_a) (inr of_b) = absurd (of_b.0 of_a.0)
one_line (k ∷ kept) w a b (inr of_a) (inl of_b) = absurd (of_a.0 of_b.0)
one_line (k ∷ kept) w a b (inr of_a) (inr of_b) = one_line kept w a b of_a.1 of_b.1

-- what stands at the first place of an alert is its line
pub line_at : (kept : List WatchLine) (w : Watch) (place : ℕ) (d : WatchLine) →
    slice_get (watches_of kept) place ≡ Some w →
    AllByRecursion (λ (k : WatchLine). k.watch ≢ w) (take place kept) →
    IsLineOf kept w (slice_index_or kept place d).line
line_at [] w place d at before = cc at
line_at (k ∷ kept) w zero d at before =
    let same : k.watch ≡ w = cc at in inl (same, refl)
line_at (k ∷ kept) w (suc place) d at before =
    inr (before.0, line_at kept w place d at before.1)

-- and so is what is put there
pub line_put : (kept : List WatchLine) (w : Watch) (place : ℕ) (k : WatchLine) →
    slice_get (watches_of kept) place ≡ Some w →
    AllByRecursion (λ (k : WatchLine). k.watch ≢ w) (take place kept) → k.watch ≡ w →
    IsLineOf (slice_set kept place k) w k.line
line_put [] w place k at before is = cc at
line_put (x ∷ kept) w zero k at before is = inl (is, refl)
line_put (x ∷ kept) w (suc place) k at before is =
    inr (before.0, line_put kept w place k at before.1 is)

-- a line that stands among lines and more
pub line_among : (kept more : List WatchLine) (w : Watch) (line : Line) → IsLineOf kept w line →
    IsLineOf (kept ++ more) w line
line_among [] more w line is = absurd is
line_among (k ∷ kept) more w line (inl here) = inl here
line_among (k ∷ kept) more w line (inr there) =
    inr (there.0, line_among kept more w line there.1)

-- what is so of the alert of each line is so of one that has a line
pub of_line : (kept : List WatchLine) (w : Watch) (line : Line)
    (P : Watch → Type 0) → AllByRecursion (λ (k : WatchLine). P k.watch) kept →
    IsLineOf kept w line → P w
of_line [] w line P all is = absurd is
of_line (k ∷ kept) w line P all (inl here) = subst P here.0 all.0
of_line (k ∷ kept) w line P all (inr there) = of_line kept w line P all.1 there.1

module _ (R : WatchLine → WatchLine → Type 0)
    (same : (k k' : WatchLine) → R k k' → k'.watch ≡ k.watch)
    (free : (k k' : WatchLine) → R k k' → R (beside k.watch k.line) (beside k'.watch k'.line)) where
  -- a line of those that come was one of those that were
  pub line_back : (old new : List WatchLine) (w : Watch) (after : Line) → EachBecomes R old new →
      IsLineOf new w after →
      (before : Line) × IsLineOf old w before × R (beside w before) (beside w after)
  line_back old [] w after each is = absurd is
  line_back [] (k' ∷ new) w after each is = absurd each
  line_back (k ∷ old) (k' ∷ new) w after each (inl here) =
      let was : k.watch ≡ w = sym (same k k' each.0) ∙ here.0 in (
        k.line,
        inl (was, refl),
        subst (λ (x : WatchLine). R (beside w k.line) x)
            (λ i. beside (here.0 i) (here.1 i))
            (subst (λ (x : WatchLine). R x (beside k'.watch k'.line)) (λ i. beside (was i) k.line)
            (free k k' each.0)),
      )
  line_back (k ∷ old) (k' ∷ new) w after each (inr there) =
      let found = line_back old new w after each.1 there.1 in (
        found.0,
        inr (λ is. there.0 (same k k' each.0 ∙ is), found.1),
        found.2,
      )

  -- what an alert's line was has become what it is
  pub line_again : (old new : List WatchLine) (w : Watch) (before after : Line) →
      EachBecomes R old new → IsLineOf old w before → IsLineOf new w after →
      R (beside w before) (beside w after)
  line_again old new w before after each was is =
      let found = line_back old new w after each is in
      subst (λ (line : Line). R (beside w line) (beside w after))
      (one_line old w found.0 before found.1 was) found.2

still : (k : WatchLine) → StillKnows k k
still k = record {
  watch = refl;
  alert = record { rule = refl; target = refl; origin = refl };
  each = λ minute holds e. e;
}

-- lines that stay know what they know
pub all_know : (kept : List WatchLine) → AllKnow kept kept
all_know [] = tt
all_know (k ∷ kept) = (still k, all_know kept)

pub all_same : (old new : List WatchLine) → new ≡ old → AllKnow old new
all_same old new is = subst (AllKnow old) (sym is) (all_know old)

still_on : (a b c : WatchLine) → StillKnows a b → StillKnows b c → StillKnows a c
still_on a b c of_b of_c = record {
  watch = of_c.watch ∙ of_b.watch;
  alert = record {
    rule = of_c.alert.rule ∙ of_b.alert.rule;
    target = of_c.alert.target ∙ of_b.alert.target;
    origin = of_c.alert.origin ∙ of_b.alert.origin;
  };
  each = λ minute holds e. of_c.each minute holds (of_b.each minute holds e);
}

-- what is known over two changes is known over both
pub know_on : (a b c : List WatchLine) → AllKnow a b → AllKnow b c → AllKnow a c
know_on [] [] [] of_b of_c = tt
know_on [] [] (z ∷ c) of_b of_c = absurd of_c
know_on [] (y ∷ b) c of_b of_c = absurd of_b
know_on (x ∷ a) [] c of_b of_c = absurd of_b
know_on (x ∷ a) (y ∷ b) [] of_b of_c = absurd of_c
know_on (x ∷ a) (y ∷ b) (z ∷ c) of_b of_c =
    (still_on x y z of_b.0 of_c.0, know_on a b c of_b.1 of_c.1)

know_set : (kept : List WatchLine) (place : ℕ) (d k : WatchLine) →
    StillKnows (slice_index_or kept place d) k → AllKnow kept (slice_set kept place k)
know_set [] place d k knows = tt
know_set (x ∷ kept) zero d k knows = (knows, all_know kept)
know_set (x ∷ kept) (suc place) d k knows = (still x, know_set kept place d k knows)

-- the line that was found there becomes one that knows what it knew, and the others stay
know_put : (kept items : List WatchLine) (place : ℕ) (k k' : WatchLine) → items ≡ kept →
    k ≡ slice_index_or items place k → StillKnows k k' → AllKnow kept (slice_set items place k')
know_put kept items place k k' same at knows =
    subst (λ (ks : List WatchLine). AllKnow ks (slice_set items place k')) same
    (know_set items place k k' (subst (λ (x : WatchLine). StillKnows x k') at knows))

-- it has learnt something
pub know_there : (kept items : List WatchLine) (place : ℕ) (k : WatchLine) (after : Line) →
    items ≡ kept → k ≡ slice_index_or items place k → SameAlert k.line after →
    ((minute : ℕ) (holds : Bool) → knowledge k.line minute ≡ Some holds →
    knowledge after minute ≡ Some holds) →
    AllKnow kept (slice_set items place (with_line k after))
know_there kept items place k after same at alert each =
    know_put kept items place k (with_line k after) same at
    (record { watch = refl; alert = alert; each = each })

-- or it remembers a binding
pub know_bound : (kept items : List WatchLine) (place : ℕ) (k : WatchLine) (b : Binding) →
    items ≡ kept → k ≡ slice_index_or items place k →
    AllKnow kept (slice_set items place (with_bound k b))
know_bound kept items place k b same at =
    know_put kept items place k (with_bound k b) same at (record {
      watch = refl;
      alert = record { rule = refl; target = refl; origin = refl };
      each = λ minute holds e. e;
    })

-- LEARNING

-- a pass from before a minute on has learnt its condition
pub learnt_each : (before after : Line) (sums : CountedDays) (from to minute : ℕ) →
    IsLearnt before after sums (start_of before from) to → before.origin ≤ from → from ≤ minute →
    minute < to → (holds : Bool) × (knowledge after minute ≡ Some holds)
learnt_each before after sums from to minute learnt begun first last = (
  condition_on before sums minute,
  learnt.each minute ∙ ap (λ (b : Bool). if b then Some (condition_on before sums minute)
      else knowledge before minute) inside,
)
  where
    start : start_of before from ≤ minute
    start = omega (arith, begun, first)

    inside : (nat_le (start_of before from) minute && nat_lt minute to) ≡ true
    inside = grind (arith, nat_tests, start, last)

-- the line that was put at the first place of an alert knows what it has learnt
pub knows_put : (kept items : List WatchLine) (w : Watch) (place from to : ℕ) (k : WatchLine)
    (after : Line) → items ≡ kept → slice_get (watches_of kept) place ≡ Some w →
    AllByRecursion (λ (k : WatchLine). k.watch ≢ w) (take place kept) → k.watch ≡ w →
    ((minute : ℕ) → from ≤ minute → minute < to →
    (holds : Bool) × (knowledge after minute ≡ Some holds)) →
    LineKnows (slice_set items place (with_line k after)) w from to
knows_put kept items w place from to k after same at before is learnt = record {
  each = λ line minute of_w first last.
      let put : IsLineOf (slice_set items place (with_line k after)) w after =
      subst (λ (ks : List WatchLine). IsLineOf (slice_set ks place (with_line k after)) w after)
      (sym same) (line_put kept w place (with_line k after) at before is) in
      subst (λ (l : Line). (holds : Bool) × (knowledge l minute ≡ Some holds))
      (one_line (slice_set items place (with_line k after)) w after line put of_w)
      (learnt minute first last);
}

-- what a call has done where it ended well
pub if_ok : {A E P Q : Type 0} (r : Result A E) → (P → Q) → OnOk r P → OnOk r Q
if_ok (Ok a) f p = f p
if_ok (Err e) f p = p

-- what a line knows it knows when lines have learnt more
pub knows_still : (old new : List WatchLine) (w : Watch) (from to : ℕ) → AllKnow old new →
    LineKnows old w from to → LineKnows new w from to
knows_still old new w from to all knows = record {
  each = λ line minute of_w first last.
      let back = line_back StillKnows (λ k k' s. s.watch)
      (λ k k' s. record { watch = s.watch; alert = s.alert; each = s.each }) old new w line all
      of_w in
      let was = knows.each back.0 minute back.1 first last in
      (was.0, back.2.each minute was.0 was.1);
}
