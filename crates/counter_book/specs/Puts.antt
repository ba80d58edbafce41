-- What a reading changes in a book, or why it is refused.
use Rattle.std.specs.Prelude.{◌≡◌, ℕ, ◌+◌, ◌<◌, ◌≤◌, Bool, true, false, ◌&&◌, ◌==◌, List, [], ◌∷◌}
use Rattle.std.specs.Prelude.{◌++◌, filter, ⊤, Option, Some, None, if◌then◌else◌, IfSome}
use Rattle.std.specs.Str.{bytes_eq}
use Rattle.slo_limits.specs.declared.TheConstants.{MAX_AMOUNT}
use Rattle.counter_book.specs.declared.reading.Changes.{Changes}
use Rattle.counter_book.specs.declared.reading.CounterFault.{CounterFault}
use Rattle.counter_book.specs.declared.reading.CounterFault.TheVariants as fault
use Rattle.counter_book.specs.declared.reading.CounterReading.{CounterReading}
use Rattle.counter_book.specs.declared.reading.Difference.{Difference}
use Rattle.counter_book.specs.declared.reading.Rise.{Rise}
use Rattle.counter_book.specs.declared.reading.Standing.{Standing}
use Rattle.counter_book.specs.declared.reading.Standing.TheVariants.{Conflict, Fresh, Newer}
use Rattle.counter_book.specs.declared.reading.Standing.TheVariants.{Repeated, Superseded}
use Rattle.counter_book.specs.Book.{Book, given_in, reading_in}
use Rattle.counter_book.specs.Differences.{count_of, is_reading_at}
use Rattle.counter_book.specs.Moves.{change_at}
use Rattle.counter_book.specs.Standings.{is_full, is_put, standing_in}

-- a difference that is new or changed is no jump: a sample has its total
abbrev pub IsSmall : Option Rise → Type 0
IsSmall o = IfSome o (λ rise. rise.total ≤ MAX_AMOUNT)

abbrev pub HasNoJump : Book → CounterReading → Type 0
HasNoJump book r = (source : List ℕ) (minute : ℕ) → IsSmall (change_at book r source minute)

-- the first difference that would be new or changed with a total that no sample has
pub record IsJump (book : Book) (r : CounterReading) (minute total : ℕ) : Type 0 where
  pub rise : Rise
  pub change : change_at book r r.source minute ≡ Some rise
  pub total_is : rise.total ≡ total
  pub large : MAX_AMOUNT < total
  pub first : (m : ℕ) → m < minute → IsSmall (change_at book r r.source m)

-- Why a reading is refused: a conflict with the kept reading; no room for it; or a difference that
-- would be new or changed is a jump, the first of them.
abbrev pub IsRefused : Book → CounterReading → CounterFault → Type 0
IsRefused book r (fault.Conflict kept) = standing_in book r ≡ Conflict kept
IsRefused book r fault.Limit = is_full (standing_in book r) book ≡ true
IsRefused book r (fault.Jump minute total) = (is_put (standing_in book r) ≡ true)
    × (is_full (standing_in book r) book ≡ false) × IsJump book r minute total
IsRefused book r fault.NoMemory = ⊤

-- whether a difference is of this source and minute
abbrev pub is_difference_at : List ℕ → ℕ → Difference → Bool
is_difference_at source minute d = bytes_eq source d.source && minute == d.minute

abbrev pub listed_one : Option Difference → List Difference
listed_one None = []
listed_one (Some d) = d ∷ []

-- the differences that are new or changed, the own one first
abbrev pub listed : Changes → List Difference
listed changes = listed_one changes.own ++ listed_one changes.next

abbrev pub no_changes : Changes
no_changes = record { own = None; next = None }

-- one more where a difference is given
abbrev pub given_after : Option Rise → ℕ → ℕ
given_after None given = given
given_after (Some rise) given = given + 1

-- the row of a change at this revision, where there is one
abbrev pub change_rows : List ℕ → ℕ → ℕ → Option Rise → List Difference
change_rows source minute given None = []
change_rows source minute given (Some rise) = record {
  source = source;
  minute = minute;
  revision = given;
  part = rise.part;
  total = rise.total;
} ∷ []

-- What a new or newer reading changes: it is kept in place of the one at its moment; and of each
-- moment whose difference it makes new or changes, and of no other, the difference is given, at the
-- next revision.
pub record Writes (before : Book) (r : CounterReading) (changes : Changes) (after : Book) :
    Type 0 where
  pub readings : (source : List ℕ) (minute : ℕ) → reading_in after source minute
      ≡ (if is_reading_at source minute r then Some (r.revision, count_of r)
      else reading_in before source minute)
  pub given : (source : List ℕ) (minute : ℕ) → given_in after source minute
      ≡ given_after (change_at before r source minute) (given_in before source minute)
  pub rows : (source : List ℕ) (minute : ℕ) →
      filter (is_difference_at source minute) (listed changes)
      ≡ change_rows source minute (given_in after source minute)
      (change_at before r source minute)
  pub own : IfSome changes.own (λ d. d.minute ≡ r.minute)
  pub next : IfSome changes.next (λ d. r.minute < d.minute)
  pub puts : after.puts ≡ before.puts + 1
  pub room : is_full (standing_in before r) before ≡ false
  pub small : HasNoJump before r

-- What a reading changes, by how it stands.
abbrev pub PutsAs : Standing → Book → CounterReading → Changes → Book → Type 0
PutsAs Fresh before r changes after = Writes before r changes after
PutsAs Newer before r changes after = Writes before r changes after
PutsAs Repeated before r changes after = (changes ≡ no_changes) × (after ≡ before)
PutsAs Superseded before r changes after = (changes ≡ no_changes) × (after ≡ before)
PutsAs (Conflict kept) before r changes after = ⊥

abbrev pub Puts : Book → CounterReading → Changes → Book → Type 0
Puts before r changes after = PutsAs (standing_in before r) before r changes after
