-- Slices that are touched one after the other, each joined to the run that waits.
use Rattle.std.proofs.Common.{◌≡◌, ◌⊎◌, ℕ, Option, Some, None, inl, inr, sym, subst}
use Rattle.alert_line.specs.Line.{Line}
use Rattle.line_forgetting.specs.Touched.{Forgets, ForgetsOnly, IsClear, IsInIf, IsInRun, IsRun}
use Rattle.line_forgetting.specs.Touched.{IsRunIf, TouchesEach}
use Rattle.line_forgetting.specs.declared.run.SliceRun.{SliceRun}
use Rattle.line_forgetting.proofs.ForgetLemmas.{clear-stays, only-none, only-trans}

-- to forget near some slices is to forget near these and others at most
only-more : (few all : ℕ → Type 0) (width : ℕ) (a b : Line) →
    ((slice : ℕ) → few slice → all slice) → ForgetsOnly few width a b → ForgetsOnly all width a b
only-more few all width a b wider only =
    only-trans few all width a a b wider (only-none all width a) only

-- the slices of a run, and more
abbrev or_more : (ℕ → Type 0) → Option SliceRun → ℕ → Type 0
or_more more run slice = IsInIf run slice ⊎ more slice

-- none is touched
pub each-none : (more : ℕ → Type 0) (width reach : ℕ) (run : Option SliceRun) (line : Line) →
    ((slice : ℕ) → more slice → ⊥) → IsRunIf width reach run →
    TouchesEach more width reach run run line line
each-none more width reach run line none runs = record {
  runs = runs;
  own = λ slice inside. inl inside;
  all = λ slice is. by slice is;
  only = only-none (or_more more run) width line;
}
  where
    by : (slice : ℕ) → IsInIf run slice ⊎ more slice → IsInIf run slice ⊎ IsClear line width slice
    by slice (inl a) = inl a
    by slice (inr b) = absurd (none slice b)

-- one is: it joins the run that waits, or what is near that is forgotten
pub each-one : (more : ℕ → Type 0) (width reach at : ℕ) (run : Option SliceRun) (next : SliceRun)
    (line after : Line) → ((slice : ℕ) → more slice → slice ≡ at) → more at →
    IsRun width reach next → IsInRun next.first next.last at →
    ((other : ℕ) → IsInRun next.first next.last other → IsInIf run other ⊎ (other ≡ at)) →
    ((other : ℕ) → IsInIf run other →
    IsInRun next.first next.last other ⊎ IsClear after width other) →
    ForgetsOnly (IsInIf run) width line after →
    TouchesEach more width reach run (Some next) line after
each-one more width reach at run next line after one is shape has own all only = record {
  runs = shape;
  own = λ slice inside. mine slice (own slice inside);
  all = λ slice is. by slice is;
  only = only-more (IsInIf run) (or_more more run) width line after (λ slice a. inl a) only;
}
  where
    mine : (slice : ℕ) → IsInIf run slice ⊎ (slice ≡ at) → IsInIf run slice ⊎ more slice
    mine slice (inl a) = inl a
    mine slice (inr e) = inr (subst more (sym e) is)

    by : (slice : ℕ) → IsInIf run slice ⊎ more slice →
        IsInRun next.first next.last slice ⊎ IsClear after width slice
    by slice (inl a) = all slice a
    by slice (inr b) = inl (subst (IsInRun next.first next.last) (sym (one slice b)) has)

-- some are, and then others
pub each-then : (some more all : ℕ → Type 0) (width reach : ℕ) (run mid next : Option SliceRun)
    (line half after : Line) → ((slice : ℕ) → some slice → all slice) →
    ((slice : ℕ) → more slice → all slice) → ((slice : ℕ) → all slice → some slice ⊎ more slice) →
    TouchesEach some width reach run mid line half →
    TouchesEach more width reach mid next half after →
    TouchesEach all width reach run next line after
each-then some more all width reach run mid next line half after first second parts one two =
    record {
      runs = two.runs;
      own = λ slice inside. mine slice (two.own slice inside);
      all = λ slice is. by slice is;
      only = only-trans (or_more more mid) (or_more all run) width line half after
          mine (only-more (or_more some run) (or_more all run) width line half before one.only)
          two.only;
    }
  where
    before : (slice : ℕ) → IsInIf run slice ⊎ some slice → IsInIf run slice ⊎ all slice
    before slice (inl a) = inl a
    before slice (inr b) = inr (first slice b)

    mine : (slice : ℕ) → IsInIf mid slice ⊎ more slice → IsInIf run slice ⊎ all slice
    mine slice (inl a) = before slice (one.own slice a)
    mine slice (inr b) = inr (second slice b)

    joins : (slice : ℕ) → IsInIf mid slice ⊎ IsClear half width slice →
        IsInIf next slice ⊎ IsClear after width slice
    joins slice (inl a) = two.all slice (inl a)
    joins slice (inr clear) =
        inr (clear-stays (or_more more mid) width half after slice two.only clear)

    tell : (slice : ℕ) → some slice ⊎ more slice → IsInIf next slice ⊎ IsClear after width slice
    tell slice (inl a) = joins slice (one.all slice (inr a))
    tell slice (inr b) = two.all slice (inr b)

    by : (slice : ℕ) → IsInIf run slice ⊎ all slice → IsInIf next slice ⊎ IsClear after width slice
    by slice (inl a) = joins slice (one.all slice (inl a))
    by slice (inr b) = tell slice (parts slice b)

-- the same slices in other words
pub each-same : (some all : ℕ → Type 0) (width reach : ℕ) (run next : Option SliceRun)
    (line after : Line) → ((slice : ℕ) → some slice → all slice) →
    ((slice : ℕ) → all slice → some slice) → TouchesEach some width reach run next line after →
    TouchesEach all width reach run next line after
each-same some all width reach run next line after to from one = record {
  runs = one.runs;
  own = λ slice inside. mine slice (one.own slice inside);
  all = λ slice is. one.all slice (back slice is);
  only = only-more (or_more some run) (or_more all run) width line after mine one.only;
}
  where
    mine : (slice : ℕ) → IsInIf run slice ⊎ some slice → IsInIf run slice ⊎ all slice
    mine slice (inl a) = inl a
    mine slice (inr b) = inr (to slice b)

    back : (slice : ℕ) → IsInIf run slice ⊎ all slice → IsInIf run slice ⊎ some slice
    back slice (inl a) = inl a
    back slice (inr b) = inr (from slice b)

-- all are passed, and what is near the run that waits is forgotten
pub each-ends : (touched : ℕ → Type 0) (width reach : ℕ) (next : Option SliceRun)
    (line half after : Line) → TouchesEach touched width reach None next line half →
    Forgets (IsInIf next) width half after → Forgets touched width line after
each-ends touched width reach next line half after one last = record {
  only = only-trans (IsInIf next) touched width line half after own
      (only-more (or_more touched None) touched width line half mine one.only) last.only;
  clear = λ slice is. by slice (one.all slice (inr is));
}
  where
    mine : (slice : ℕ) → ⊥ ⊎ touched slice → touched slice
    mine slice (inl none) = absurd none
    mine slice (inr b) = b

    own : (slice : ℕ) → IsInIf next slice → touched slice
    own slice inside = mine slice (one.own slice inside)

    by : (slice : ℕ) → IsInIf next slice ⊎ IsClear half width slice → IsClear after width slice
    by slice (inl a) = last.clear slice a
    by slice (inr clear) = clear-stays (IsInIf next) width half after slice last.only clear
