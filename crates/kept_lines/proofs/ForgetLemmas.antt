-- Lines that forget, and are right over the samples that come.
use Rattle.std.proofs.Common.{◌≡◌, ℕ, zero, suc, ◌+◌, ◌≤◌, ◌<◌, add-one, refl, ap, sym, subst}
use Rattle.std.proofs.Common.{arith, IfSome, List, [], ◌∷◌, Option, Some, length, slice_index_or}
use Rattle.std.proofs.Common.{slice_set}
use Rattle.std.specs.List.{AllByRecursion, Contains}
use Rattle.slo_limits.specs.declared.TheConstants.{MAX_MINUTE}
use Rattle.sample_book.specs.Book.{Book}
use Rattle.sample_book.specs.Puts.{verdicts}
use Rattle.sample_book.specs.Rows.{current_rows}
use Rattle.sample_book.specs.declared.Row.{Row}
use Rattle.sample_book.specs.declared.RowVerdict.{RowVerdict}
use Rattle.window_sums.specs.Slices.{width_of}
use Rattle.alert_line.specs.Line.{Line}
use Rattle.catalog_terms.specs.declared.Binding.{Binding}
use Rattle.object_terms.specs.declared.Object.{Object}
use Rattle.line_forgetting.specs.Right.{IsRight}
use Rattle.line_forgetting.specs.Touched.{Forgets, LAST_MINUTE}
use Rattle.line_forgetting.proofs.RightLemmas.{right-over-batches}
use Rattle.office_history.specs.declared.Measure.{Measure}
use Rattle.office_history.specs.Alerts.{Watch, watch_of}
use Rattle.office_history.specs.Counts.{Samples}
use Rattle.office_derived.specs.Derived.{IsPlaced}
use Rattle.kept_lines.specs.Changes.{AllForget, ForgetsNear, IsMovedBy, samples_with}
use Rattle.kept_lines.specs.Lines.{AreBound, AreRight, KeepsLines, bounds_of, watches_of}
use Rattle.kept_lines.specs.Sums.{samples_of}
use Rattle.kept_lines.specs.Watches.{IsWatched}
use Rattle.kept_lines.proofs.KnownLemmas.{with_line}
use Rattle.kept_lines.specs.declared.kept.WatchLine.{WatchLine}

-- what is near the touched slices is forgotten, whatever words say which they are
pub forgets_same : (touched : Measure → ℕ → Type 0) (w : Watch) (m : Measure) (width : ℕ)
    (before after : Line) → m ≡ w.measure → width ≡ width_of m.method →
    Forgets (touched m) width before after →
    Forgets (touched w.measure) (width_of w.measure.method) before after
forgets_same touched w m width before after own is forgets =
    subst (λ (m : Measure). Forgets (touched m) (width_of m.method) before after) own
    (subst (λ (n : ℕ). Forgets (touched m) n before after) is forgets)

-- a line that has forgotten what is near the rows that move is right with the batch
pub moved_right : (begin : ℕ) (book : Book) (rows : List Row) (found : List RowVerdict) (w : Watch)
    (before after : Line) → 0 < width_of w.measure.method → found ≡ verdicts book.rows rows →
    current_rows book.rows ≡ book.rows →
    Forgets (IsMovedBy rows found w) (width_of w.measure.method) before after →
    IsRight begin (samples_of book) w before → IsRight begin (samples_with book rows) w after
moved_right begin book rows found w before after some judged current forgets =
    right-over-batches begin book.exclusions book.rows rows w before after some current
    (subst (λ (vs : List RowVerdict). Forgets (IsMovedBy rows vs w) (width_of w.measure.method)
    before after) judged forgets)

-- the lines before a place forget, the others stay
abbrev pub HalfForget : (Watch → ℕ → Type 0) → ℕ → List WatchLine → List WatchLine → Type 0
HalfForget touched zero old new = new ≡ old
HalfForget touched (suc n) (k ∷ old) (k' ∷ new) =
    ForgetsNear touched k k' × HalfForget touched n old new
HalfForget touched (suc n) _ _ = ⊥

none_below : {A : Type 0} {n : ℕ} → n < 0 → A
none_below h = absurd (omega (arith, h))

-- one line more
forget_next : (touched : Watch → ℕ → Type 0) (n : ℕ) (old new : List WatchLine)
    (d : WatchLine) (line : Line) → n < length new → HalfForget touched n old new →
    Forgets (touched (slice_index_or new n d).watch)
    (width_of (slice_index_or new n d).watch.measure.method) (slice_index_or new n d).line line →
    HalfForget touched (suc n) old (slice_set new n
    (with_line (slice_index_or new n d) line))
forget_next touched n old [] d line less half forgets = none_below less
forget_next touched zero [] (k ∷ new) d line less half forgets = cc half
forget_next touched zero (k' ∷ old) (k ∷ new) d line less half forgets =
    let same : k ≡ k' = cc half in
    let rest : new ≡ old = cc half in (
      subst (λ (before : WatchLine). ForgetsNear touched before
          (with_line k line)) same (record { watch = refl; line = forgets }),
      rest,
    )
forget_next touched (suc n) [] (k ∷ new) d line less half forgets = absurd half
forget_next touched (suc n) (k' ∷ old) (k ∷ new) d line less half forgets =
    (half.0, forget_next touched n old new d line (omega (arith, less)) half.1 forgets)

pub forget_step : (touched : Watch → ℕ → Type 0) (n : ℕ) (old new : List WatchLine)
    (d : WatchLine) (line : Line) → n < length new → HalfForget touched n old new →
    Forgets (touched (slice_index_or new n d).watch)
    (width_of (slice_index_or new n d).watch.measure.method) (slice_index_or new n d).line line →
    HalfForget touched (n + 1) old (slice_set new n
    (with_line (slice_index_or new n d) line))
forget_step touched n old new d line less half forgets =
    subst (λ (m : ℕ). HalfForget touched m old (slice_set new n
    (with_line (slice_index_or new n d) line))) (sym (add-one n))
    (forget_next touched n old new d line less half forgets)

-- all of them
pub forget_end : (touched : Watch → ℕ → Type 0) (n : ℕ) (old new : List WatchLine) →
    length new ≤ n → HalfForget touched n old new → AllForget touched old new
forget_end touched zero old (k ∷ new) le half = absurd (omega (arith, le))
forget_end touched zero [] [] le half = tt
forget_end touched zero (k ∷ old) [] le half = cc half
forget_end touched (suc n) [] [] le half = absurd half
forget_end touched (suc n) (k ∷ old) [] le half = absurd half
forget_end touched (suc n) [] (k ∷ new) le half = absurd half
forget_end touched (suc n) (k' ∷ old) (k ∷ new) le half =
    (half.0, forget_end touched n old new (omega (arith, le)) half.1)

-- lines that are written back have forgotten what they have
pub forget_back : (touched : Watch → ℕ → Type 0) (old old' new new' : List WatchLine) →
    old' ≡ old → new' ≡ new → AllForget touched old new → AllForget touched old' new'
forget_back touched old old' new new' was is forget =
    subst (λ (ks : List WatchLine). AllForget touched ks new') (sym was)
    (subst (AllForget touched old) (sym is) forget)

pub of_watches : (P : Watch → Type 0) (kept : List WatchLine) →
    AllByRecursion (λ (k : WatchLine). P k.watch) kept → AllByRecursion P (watches_of kept)
of_watches P [] all = tt
of_watches P (k ∷ kept) all = (all.0, of_watches P kept all.1)

pub by_watches : (P : Watch → Type 0) (kept : List WatchLine) → AllByRecursion P (watches_of kept) →
    AllByRecursion (λ (k : WatchLine). P k.watch) kept
by_watches P [] all = tt
by_watches P (k ∷ kept) all = (all.0, by_watches P kept all.1)

-- where what is watched stays, and what is remembered, this is still right
bound_still : (members : List Object) (old new : List WatchLine) →
    watches_of new ≡ watches_of old → bounds_of new ≡ bounds_of old → AreBound members old →
    AreBound members new
bound_still members [] [] ws bs all = tt
bound_still members [] (k' ∷ new) ws bs all = cc ws
bound_still members (k ∷ old) [] ws bs all = cc ws
bound_still members (k ∷ old) (k' ∷ new) ws bs all =
    let w : k.watch ≡ k'.watch = cc ws in
    let o : k.bound ≡ k'.bound = cc bs in
    let watches : watches_of new ≡ watches_of old = cc ws in
    let bounds : bounds_of new ≡ bounds_of old = cc bs in (
      subst (λ (o : Option Binding). IfSome o (λ (b : Binding). watch_of members b ≡ Some k'.watch))
          o (subst (λ (v : Watch). IfSome k.bound (λ (b : Binding). watch_of members b ≡ Some v)) w
          all.0),
      bound_still members old new watches bounds all.1,
    )

-- and where the lines are right over other samples, they are kept over these
pub keeps_over : (begin : ℕ) (members : List Object) (s s' : Samples) (old new : List WatchLine) →
    watches_of new ≡ watches_of old → bounds_of new ≡ bounds_of old → AreRight begin s' new →
    KeepsLines begin members s old → KeepsLines begin members s' new
keeps_over begin members s s' old new same bounds right keeps = record {
  right = right;
  only = by_watches (IsWatched members) new
      (subst (AllByRecursion (IsWatched members)) (sym same)
      (of_watches (IsWatched members) old keeps.only));
  all = λ w is. subst (λ (ws : List Watch). Contains ws w) (sym same) (keeps.all w is);
  bound = bound_still members old new same bounds keeps.bound;
}

-- the rows of an office have minutes of some office's range
pub all_early : (origin : ℕ) (rows : List Row) → origin ≤ MAX_MINUTE →
    AllByRecursion (IsPlaced origin) rows →
    AllByRecursion (λ (row : Row). row.minute ≤ LAST_MINUTE) rows
all_early origin [] begun placed = tt
all_early origin (row ∷ rows) begun placed =
    let end = placed.0.1 in
    (omega (arith, begun, end), all_early origin rows begun placed.1)
