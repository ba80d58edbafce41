-- An object with three members.
use Rattle.std.proofs.Common.{◌≡◌, ◌==◌, ℕ, List, length, Some, None, Option, false, codes, arith}
use Rattle.std.proofs.Common.{refl, String}
use Rattle.std.specs.declared.alloc.Global.{Global}
use Rattle.serde_json.specs.Data.{Data}
use Rattle.serde_json.specs.Find.{as_object}
use Rattle.serde_json.specs.View.{members_view}
use Rattle.serde_json.specs.declared.value.Value.{Value}
use Rattle.serde_json.proofs.Views.{members_len-members_view}
use Rattle.sample_book.specs.declared.exclusions.Exclusion.{Exclusion}
use Rattle.wire_routes.specs.Exclusions.{exclusion_in, whole_at, label_at}

differs : (n m : ℕ) → (n ≡ m → ⊥) → (n == m) ≡ false
differs n m h = grind (arith)

pub not_three : (id : List ℕ) (d : Data) (es : List (String Global × Value))
    → Some (members_view es) ≡ as_object d → (length es ≡ 3 → ⊥)
    → ◌≡◌ {A = Option Exclusion} None (exclusion_in id d)
not_three id d es object three = rw (
  ← object,
  members_len-members_view es,
  differs (length es) 3 three,
) refl

pub all_three : (id : List ℕ) (d : Data) (es : List (String Global × Value))
    → Some (members_view es) ≡ as_object d → length es ≡ 3
    → (from : ℕ) (slo : List ℕ) (to : ℕ)
    → Some from ≡ whole_at (codes "from") d → Some slo ≡ label_at (codes "slo") d
    → Some to ≡ whole_at (codes "to") d
    → Some (record { id = id; slo = slo; from = from; to = to }) ≡ exclusion_in id d
all_three id d es object three from slo to a b c = rw (
  ← object,
  members_len-members_view es,
  three,
  ← a,
  ← b,
  ← c,
) refl
