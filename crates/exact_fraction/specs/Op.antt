use Rattle.std.specs.Prelude.{ℕ, Bool, ◌*◌, ◌^◌, pos, ◌*ℤ◌}
use Rattle.std.specs.Ordering.{int_cmp, is_ge, is_gt, is_le, is_lt}
use Rattle.std.specs.declared.cmp.Ordering.{Ordering}
use Rattle.exact_fraction.specs.Ratio.{Ratio}
use Rattle.exact_fraction.specs.declared.op.Op.{Op}
use Rattle.exact_fraction.specs.declared.op.Op.TheVariants.{Lte, Gte, Lt, Gt}

-- whether two values in this order are so compared (OpenSLO v1: lte, gte, lt, gt)
abbrev pub holds_of : Op → Ordering → Bool
holds_of Lte order = is_le order
holds_of Gte order = is_ge order
holds_of Lt order = is_lt order
holds_of Gt order = is_gt order

-- the order of a fraction and so many billionths, by the cross products
abbrev pub order_with : Ratio → ℕ → Ordering
order_with r billionths = int_cmp (r.num *ℤ pos (10 ^ 9)) (pos (billionths * r.den))
