-- What a reading answers is a value or a fault, and one of them.
use Rattle.std.proofs.Common.{◌≡◌, Result, Ok, Err}
use Rattle.object_terms.specs.declared.fault.ObjectFault.{ObjectFault}

pub ok_same : {X : Type 0} (x y : X) → (let r : Result X ObjectFault = Ok x in r) ≡ Ok y → x ≡ y
ok_same x y e = cc

pub err_not_ok : {X : Type 0} (f : ObjectFault) (y : X)
    → (let r : Result X ObjectFault = Err f in r) ≡ Ok y → ⊥
err_not_ok f y e = cc
