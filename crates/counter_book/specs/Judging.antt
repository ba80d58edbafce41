-- Inside: what comes of judging a reading.
use Rattle.std.specs.Prelude.{◌≡◌, ℕ, true, false, nat_lt, Option, Some, None, Result, Ok, Err}
use Rattle.std.specs.Prelude.{if◌then◌else◌}
use Rattle.slo_limits.specs.declared.TheConstants.{MAX_AMOUNT}
use Rattle.counter_book.specs.declared.reading.Changes.{Changes}
use Rattle.counter_book.specs.declared.reading.CounterFault.{CounterFault}
use Rattle.counter_book.specs.declared.reading.CounterReading.{CounterReading}
use Rattle.counter_book.specs.declared.reading.Moves.{Moves}
use Rattle.counter_book.specs.declared.reading.NextMove.{NextMove}
use Rattle.counter_book.specs.declared.reading.Rise.{Rise}
use Rattle.counter_book.specs.Book.{Book}
use Rattle.counter_book.specs.Moves.{IsMoves}
use Rattle.counter_book.specs.Puts.{HasNoJump, IsRefused, Puts, no_changes}
use Rattle.counter_book.specs.Standings.{is_full, is_put, standing_in}
use Rattle.counter_book.specs.Writing.{AreNarrow}

-- a minute's rise with a total that no sample has
abbrev pub above : ℕ → Option Rise → Option (ℕ × ℕ)
above minute None = None
above minute (Some rise) = if nat_lt MAX_AMOUNT rise.total then Some (minute, rise.total) else None

abbrev pub next_above : Option NextMove → Option (ℕ × ℕ)
next_above None = None
next_above (Some next) = above next.minute (Some next.rise)

abbrev pub first_pair : Option (ℕ × ℕ) → Option (ℕ × ℕ) → Option (ℕ × ℕ)
first_pair None other = other
first_pair (Some x) other = Some x

-- the first of two moves that is so
abbrev pub jump_of : ℕ → Moves → Option (ℕ × ℕ)
jump_of minute moves = first_pair (above minute moves.own) (next_above moves.next)

-- What judging a reading comes to: why it is refused, that it changes nothing, or what it moves.
abbrev pub IsJudged : Book → CounterReading → Result (Option Moves) CounterFault → Type 0
IsJudged book r (Err e) = IsRefused book r e
IsJudged book r (Ok None) = (changes : Changes) (after : Book) → changes ≡ no_changes
    → after ≡ book → Puts book r changes after
IsJudged book r (Ok (Some moves)) = (is_put (standing_in book r) ≡ true)
    × (is_full (standing_in book r) book ≡ false)
    × IsMoves book r moves × HasNoJump book r × AreNarrow moves
