use Rattle.std.proofs.Common.{inl, inr, ⊎_elim}
use Rattle.office_keep.proofs.office.Office.create.Goals as goal

pub returns-in-Err-clause-fault : goal.returns-in-Err-clause-fault
returns-in-Err-clause-fault g c same = c.in-Err.ensures.fault (c.fault_of_create.ensures.disk same)

pub returns-in-Err-clause-others : goal.returns-in-Err-clause-others
returns-in-Err-clause-others g c =
    ⊎_elim (λ disk. inl disk) (λ there. inr (inl there)) c.fault_of_create.ensures.other
