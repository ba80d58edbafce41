use Rattle.std.proofs.Common.{◌*◌, ◌+◌, ◌<◌, ◌^◌, arith}
use Rattle.exact_fraction.proofs.DecimalForm.{billionths-fit}
use Rattle.exact_fraction.proofs.decimal.worth.Goals as goal

pub overflow_add-billionths : goal.overflow_add-billionths
overflow_add-billionths c =
    let fit : c.capped_number.result * 1000000000
    + c.capped_number-2.result * c.pow-scale.result < 2 ^ 128 =
    rw c.pow-scale.ensures (billionths-fit c.capped_number.result c.capped_number-2.result _
    (omega arith) (omega arith) (omega arith)) in
    omega arith
