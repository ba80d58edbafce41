-- How many events there are at most once a minute's counts are exchanged.
use Rattle.std.proofs.Common.{◌≡◌, ℕ, ◌+◌, sym, subst}
use Rattle.slice_method.specs.declared.Counts.{Counts}
use Rattle.window_sums.specs.Slices.{CountedDays, HasAtMost, IsPart, counts_after, counts_of}
use Rattle.window_sums.specs.Slices.{new_counts, slice_of}
use Rattle.window_sums.proofs.RaisedFacts.{HasAtMost-after, HasAtMost-kept}

-- the minute's day was made ready before, which leaves all counts
pub HasAtMost-put : (old ready : CountedDays) (minute most : ℕ) (before after : Counts) →
    ready.method ≡ old.method → ((slice : ℕ) → counts_of ready slice ≡ counts_of old slice) →
    HasAtMost old.method (counts_of old) most →
    IsPart (new_counts (counts_of old (slice_of old.method minute)) before after) →
    HasAtMost ready.method (counts_after ready minute before after)
    (most + (after.total + 1000000000))
HasAtMost-put old ready minute most before after methods same few part =
    HasAtMost-after ready minute before after most (HasAtMost-kept old ready most methods same few)
    (subst (λ m. IsPart (new_counts (counts_of ready (slice_of m minute)) before after))
    (sym methods)
    (subst (λ (x : Counts). IsPart (new_counts x before after))
    (sym (same (slice_of old.method minute))) part))
