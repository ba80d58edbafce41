-- What the fields of a head of at most 64 fields say of the body.
use Rattle.std.specs.Prelude.{◌≡◌, ℕ, Bool, cond, nat_lt, List, Option, Some, None, Result, Ok, Err}
use Rattle.slo_limits.specs.declared.TheConstants.{MAX_BODY_BYTES}
use Rattle.message_heads.specs.Fields.{NameAndValue, counted_length, is_encoded}

-- a body that isn't encoded has the length that is told, where it isn't too large
abbrev pub length_or_status : Bool → Option ℕ → Result ℕ ℕ
length_or_status encoded None = Err 400
length_or_status encoded (Some n) =
    cond encoded (Err 501) (cond (nat_lt MAX_BODY_BYTES n) (Err 413) (Ok n))

-- the length of the body, or the status of the answer
abbrev pub body_or_status : List NameAndValue → Result ℕ ℕ
body_or_status fields = length_or_status (is_encoded fields) (counted_length fields)
