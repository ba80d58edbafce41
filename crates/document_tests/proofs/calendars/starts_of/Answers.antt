use Rattle.document_tests.proofs.calendars.starts_of.Goals as goal

pub returns-in-Ok : goal.returns-in-Ok
returns-in-Ok c = c.in-Ok.ensures.ok.sorted
