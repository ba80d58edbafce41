-- Facts on the error of a result.
use Rattle.std.specs.Prelude.{Result, Ok, Err, OnErr}

pub on_err : {T E : Type 0} (X Y : Type 0) (r : Result T E) → OnErr r X → (X → Y) → OnErr r Y
on_err X Y (Ok v) x f = tt
on_err X Y (Err e) x f = f x
