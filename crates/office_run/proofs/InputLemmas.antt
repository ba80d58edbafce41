-- What a source lost in one read after another.
use Rattle.std.proofs.Common.{ℕ, ◌+◌, ◌≤◌, List, ◌++◌, length, take, Some, None, arith, ap, sym}
use Rattle.std.proofs.Common.{◌∙◌, append_assoc, length-append}
use Rattle.std.specs.declared.option.Option.{Option}
use Rattle.std.proofs.lemmas.List.{length-take}
use Rattle.office_outside.specs.Told.{Lost}
use Rattle.budget_command.specs.Input.{TakesAtMost}

pub lost_more : (a b : List ℕ) (x y z : Option (List ℕ)) → Lost a x y → Lost b y z →
    Lost (a ++ b) x z
lost_more a b None None None p q = tt
lost_more a b None None (Some z) p q = q
lost_more a b None (Some y) z p q = absurd p
lost_more a b (Some x) None z p q = absurd p
lost_more a b (Some x) (Some y) None p q = q
lost_more a b (Some x) (Some y) (Some z) p q =
    p ∙ ap (λ (l : List ℕ). a ++ l) q ∙ (let e = append_assoc a b z in sym e)

-- one more piece, whose bytes aren't kept
pub takes_piece : (most count : ℕ) (kept piece : List ℕ) (x y z : Option (List ℕ)) →
    Lost kept x y → Lost (take count piece) y z → length kept + count ≤ most → TakesAtMost most x z
takes_piece most count kept piece x y z p q few = record {
  bytes = kept ++ take count piece;
  lost = lost_more kept (take count piece) x y z p q;
  few = omega (arith, length-append kept (take count piece), length-take count piece);
}
