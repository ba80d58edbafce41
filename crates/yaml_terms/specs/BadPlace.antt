-- Where bytes stop being UTF-8 (RFC 3629, section 4).
use Rattle.std.specs.Prelude.{ℕ, ◌+◌, ◌<◌, ◌≤◌, List, ◌++◌, length, take}
use Rattle.std.specs.Str.{IsUtf8}

-- bytes that can go on to a UTF-8 text: some bytes behind them make one
abbrev pub CanGoOn : List ℕ → Type 0
CanGoOn bs = (more : List ℕ) × IsUtf8 (bs ++ more)

-- The place of the first byte that no UTF-8 text can have there: the bytes before it can go on to a
-- text, and with it they can't. Of bytes that can all go on, as those that end inside a character,
-- it is the length.
pub record IsBadPlace (bs : List ℕ) (at : ℕ) : Type 0 where
  pub within : at ≤ length bs
  pub before : CanGoOn (take at bs)
  pub with_it : at < length bs → ¬ (CanGoOn (take (at + 1) bs))
