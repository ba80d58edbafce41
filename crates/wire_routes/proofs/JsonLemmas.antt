-- Bytes that are read as JSON, and bytes that aren't.
use Rattle.std.proofs.Common.{◌≡◌, ℕ, Bool, true, false, cond, List, Option, Some, None, refl, sym}
use Rattle.std.proofs.Common.{ap, ◌∙◌}
use Rattle.std.specs.Prelude.{IsUtf8, option_and_then}
use Rattle.std.specs.Str.{is_utf8}
use Rattle.std.proofs.lemmas.Str.{is_utf8-from_IsUtf8, IsUtf8-from_is_utf8}
use Rattle.sample_book.specs.declared.exclusions.Exclusion.{Exclusion}
use Rattle.serde_json.specs.Data.{Data}
use Rattle.serde_json.specs.Read.{read}
use Rattle.wire_routes.specs.Exclusions.{json_of, exclusion_in, exclusion_of}

json_some : (bytes : List ℕ) (d : Data) → IsUtf8 bytes → read bytes ≡ Some d
    → json_of bytes ≡ Some d
json_some bytes d legal is = rw (is_utf8-from_IsUtf8 bytes legal) is

json_none : (bytes : List ℕ) → (IsUtf8 bytes → read bytes ≡ None) → json_of bytes ≡ None
json_none bytes none = by (is_utf8 bytes) refl
  where
    by : (b : Bool) → is_utf8 bytes ≡ b → cond b (read bytes) None ≡ None
    by true e = none (IsUtf8-from_is_utf8 bytes e)
    by false e = refl

pub exclusion_some : (id bytes : List ℕ) (d : Data) (x : Option Exclusion)
    → IsUtf8 bytes × (read bytes ≡ Some d) → x ≡ exclusion_in id d → x ≡ exclusion_of id bytes
exclusion_some id bytes d x (legal, is) read_as = read_as
    ∙ sym (ap (λ o. option_and_then (exclusion_in id) o) (json_some bytes d legal is))

pub exclusion_none : (id bytes : List ℕ) → (IsUtf8 bytes → read bytes ≡ None)
    → None ≡ exclusion_of id bytes
exclusion_none id bytes none =
    sym (ap (λ o. option_and_then (exclusion_in id) o) (json_none bytes none))
