-- Which minutes a line has to forget where the counts of a slice change.
use Rattle.std.specs.Prelude.{◌≡◌, ◌≢◌, ℕ, ◌+◌, ◌*◌, ◌<◌, ◌&&◌, nat_le, nat_lt, None, if◌then◌else◌}
use Rattle.burn_core.specs.Alert.{reach_of}
use Rattle.window_sums.specs.Slices.{CountedDays, leaf_at, width_of}
use Rattle.alert_line.specs.Line.{Agrees, Line, SameAlert, knowledge}

-- `after` is `before` but for the minutes of [from, to), which are unknown
abbrev pub HasForgotten : Line → Line → ℕ → ℕ → Type 0
HasForgotten before after from to =
    (minute : ℕ) → knowledge after minute
    ≡ (if nat_le from minute && nat_lt minute to then None else knowledge before minute)

-- Where the leaves differ in the slice [l, l + width) alone, a line that agreed with the old ones
-- and has forgotten [l + width, l + reach + 1) agrees with the new ones.
abbrev pub MarkedLinesAgree : Type 0
MarkedLinesAgree =
    (before after : Line) (old new : CountedDays) (slice : ℕ) → 0 < width_of old.method →
    width_of new.method ≡ width_of old.method →
    ((k : ℕ) → k ≢ slice → leaf_at old k ≡ leaf_at new k) → SameAlert before after →
    Agrees before old →
    HasForgotten before after (slice * width_of old.method + width_of old.method)
    (slice * width_of old.method + reach_of before.rule + 1) →
    Agrees after new
