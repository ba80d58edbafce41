-- A record of five fields, and of six.
use Rattle.std.specs.Prelude.{ℕ, List, [], ◌∷◌, Option, Some, None}
use Rattle.csv_records.specs.Records.{Fields}

-- the fields of a record of exactly five
abbrev pub five_fields : Fields → Option (List ℕ × List ℕ × List ℕ × List ℕ × List ℕ)
five_fields (a ∷ b ∷ c ∷ d ∷ e ∷ []) = Some (a, b, c, d, e)
five_fields _ = None

-- the fields of a record of exactly six
abbrev pub six_fields : Fields → Option (List ℕ × List ℕ × List ℕ × List ℕ × List ℕ × List ℕ)
six_fields (a ∷ b ∷ c ∷ d ∷ e ∷ f ∷ []) = Some (a, b, c, d, e, f)
six_fields _ = None
