-- A line that forgets once more, on a way from slice to slice.
use Rattle.std.proofs.Common.{◌≡◌, ◌⊎◌, ℕ, false, Option, Some, None, inl, inr, refl, sym, subst}
use Rattle.std.proofs.Common.{◌∙◌}
use Rattle.burn_core.specs.declared.AlertRule.{AlertRule}
use Rattle.burn_core.specs.Alert.{reach_of}
use Rattle.alert_line.specs.Line.{Line}
use Rattle.line_forgetting.specs.Touched.{Forgets, ForgetsOnly, IsClear, IsForgetting, IsInIf}
use Rattle.line_forgetting.specs.Touched.{IsInRun, IsRun, Touches, is_near}
use Rattle.line_forgetting.specs.declared.run.SliceRun.{SliceRun}

-- to forget nothing
pub only-none : (touched : ℕ → Type 0) (width : ℕ) (line : Line) →
    ForgetsOnly touched width line line
only-none touched width line = record {
  alert = record { rule = refl; target = refl; origin = refl };
  kept = λ minute holds e apart. e;
  learnt_nothing = λ minute holds e. e;
  agrees = λ sums h. h;
}

-- to forget near some slices, and then near more of the same
pub only-trans : (few all : ℕ → Type 0) (width : ℕ) (a b c : Line) →
    ((slice : ℕ) → few slice → all slice) → ForgetsOnly all width a b →
    ForgetsOnly few width b c → ForgetsOnly all width a c
only-trans few all width a b c wider first then = record {
  alert = record {
    rule = then.alert.rule ∙ first.alert.rule;
    target = then.alert.target ∙ first.alert.target;
    origin = then.alert.origin ∙ first.alert.origin;
  };
  kept = λ minute holds e apart. then.kept minute holds (first.kept minute holds e apart)
      (λ slice is. subst (λ (rule : AlertRule). is_near width (reach_of rule) slice minute ≡ false)
      (sym first.alert.rule) (apart slice (wider slice is)));
  learnt_nothing = λ minute holds e.
      first.learnt_nothing minute holds (then.learnt_nothing minute holds e);
  agrees = λ sums h. then.agrees sums (first.agrees sums h);
}

-- what is clear stays clear
pub clear-stays : (touched : ℕ → Type 0) (width : ℕ) (a b : Line) (slice : ℕ) →
    ForgetsOnly touched width a b → IsClear a width slice → IsClear b width slice
clear-stays touched width a b slice only clear minute holds e =
    subst (λ (rule : AlertRule). is_near width (reach_of rule) slice minute ≡ false)
    (sym only.alert.rule) (clear minute holds (only.learnt_nothing minute holds e))

-- nothing is touched yet
pub forgetting-begins : (touched so_far : ℕ → Type 0) (width : ℕ) (line : Line) →
    ((slice : ℕ) → so_far slice → ⊥) → IsForgetting touched so_far width None line line
forgetting-begins touched so_far width line none = record {
  only = only-none touched width line;
  runs = tt;
  own = λ slice no. absurd no;
  clear = λ slice is. absurd (none slice is);
}

-- more is passed, in which nothing is touched
pub forgetting-passes : (touched so_far by_now : ℕ → Type 0) (width : ℕ) (run : Option SliceRun)
    (before line : Line) → ((slice : ℕ) → by_now slice → so_far slice) →
    IsForgetting touched so_far width run before line →
    IsForgetting touched by_now width run before line
forgetting-passes touched so_far by_now width run before line less so = record {
  only = so.only;
  runs = so.runs;
  own = so.own;
  clear = λ slice is. so.clear slice (less slice is);
}

-- some slices more are touched
pub forgetting-goes : (touched so_far by_now more : ℕ → Type 0) (width : ℕ)
    (run next : Option SliceRun)
    (before line after : Line) → ((slice : ℕ) → more slice → touched slice) →
    ((slice : ℕ) → by_now slice → so_far slice ⊎ more slice) →
    Touches more width (reach_of before.rule) run next line after →
    IsForgetting touched so_far width run before line →
    IsForgetting touched by_now width next before after
forgetting-goes touched so_far by_now more width run next before line after own parts step so =
    record {
      only = only-trans (IsInIf run) touched width before line after so.own so.only step.only;
      runs = step.runs;
      own = λ slice inside. mine slice (step.own slice inside);
      clear = λ slice is. by slice (parts slice is);
    }
  where
    mine : (slice : ℕ) → IsInIf run slice ⊎ more slice → touched slice
    mine slice (inl a) = so.own slice a
    mine slice (inr b) = own slice b

    joins : (slice : ℕ) → IsInIf run slice ⊎ IsClear line width slice →
        IsInIf next slice ⊎ IsClear after width slice
    joins slice (inl a) = step.all slice a
    joins slice (inr clear) =
        inr (clear-stays (IsInIf run) width line after slice step.only clear)

    by : (slice : ℕ) → so_far slice ⊎ more slice → IsInIf next slice ⊎ IsClear after width slice
    by slice (inl a) = joins slice (so.clear slice a)
    by slice (inr b) = inl (step.has slice b)

-- all is passed, and what is near the run that waits is forgotten
pub forgetting-ends : (touched so_far : ℕ → Type 0) (width : ℕ) (run : Option SliceRun)
    (before line after : Line) → ((slice : ℕ) → touched slice → so_far slice) →
    IsForgetting touched so_far width run before line → Forgets (IsInIf run) width line after →
    Forgets touched width before after
forgetting-ends touched so_far width run before line after all so last = record {
  only = only-trans (IsInIf run) touched width before line after so.own so.only last.only;
  clear = λ slice is. by slice (so.clear slice (all slice is));
}
  where
    by : (slice : ℕ) → IsInIf run slice ⊎ IsClear line width slice → IsClear after width slice
    by slice (inl a) = last.clear slice a
    by slice (inr clear) = clear-stays (IsInIf run) width line after slice last.only clear

-- where nothing is touched, nothing has to be forgotten
pub forgets-none : (touched : ℕ → Type 0) (width : ℕ) (line : Line) →
    ((slice : ℕ) → touched slice → ⊥) → Forgets touched width line line
forgets-none touched width line none = record {
  only = only-none touched width line;
  clear = λ slice is. absurd (none slice is);
}

-- One slice is touched: it joins the run that waits, or what is near that is forgotten.
pub touches-one : (more : ℕ → Type 0) (width reach at : ℕ) (run : Option SliceRun) (next : SliceRun)
    (line after : Line) → ((slice : ℕ) → more slice → slice ≡ at) → more at →
    IsRun width reach next → IsInRun next.first next.last at →
    ((other : ℕ) → IsInRun next.first next.last other → IsInIf run other ⊎ (other ≡ at)) →
    ((other : ℕ) → IsInIf run other →
    IsInRun next.first next.last other ⊎ IsClear after width other) →
    ForgetsOnly (IsInIf run) width line after → Touches more width reach run (Some next) line after
touches-one more width reach at run next line after one is shape has own all only = record {
  runs = shape;
  has = λ slice b. subst (IsInRun next.first next.last) (sym (one slice b)) has;
  own = λ slice inside. by slice (own slice inside);
  all = all;
  only = only;
}
  where
    by : (slice : ℕ) → IsInIf run slice ⊎ (slice ≡ at) → IsInIf run slice ⊎ more slice
    by slice (inl a) = inl a
    by slice (inr e) = inr (subst more (sym e) is)
