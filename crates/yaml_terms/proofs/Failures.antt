-- A call that has failed: what is said of its value says nothing.
use Rattle.std.proofs.Common.{Result, Ok, Err}
use Rattle.std.specs.Result.{IfOk, OnOk, IsErrAnd}

pub no_ok : {T E : Type 0} (Q : E → Type 0) (P : T → Type 0) (r : Result T E)
    → IsErrAnd r Q → IfOk r P
no_ok Q P (Ok x) h = absurd h
no_ok Q P (Err y) h = tt

pub no_on : {T E : Type 0} (Q : E → Type 0) (P : Type 0) (r : Result T E) → IsErrAnd r Q → OnOk r P
no_on Q P (Ok x) h = absurd h
no_on Q P (Err y) h = tt
