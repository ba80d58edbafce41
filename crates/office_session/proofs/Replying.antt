-- The request that is asked, and the text of its outcome.
use Rattle.std.proofs.Common.{◌≡◌, ◌⊎◌, List, [], ◌∷◌, Bool, false, ap, inl, inr}
use Rattle.std.specs.List.{AllByRecursion}
use Rattle.record_form.specs.Ranges.{IsRowInRange}
use Rattle.record_form.specs.declared.Command.{Command}
use Rattle.record_form.specs.declared.Command.TheVariants.{Define, Remove, PutZone, Samples}
use Rattle.record_form.specs.declared.Command.TheVariants.{Exclude, Lift, Tick, Take, Upgrade}
use Rattle.record_form.specs.declared.Outcome.{Outcome}
use Rattle.record_form.specs.declared.Request.{Request}
use Rattle.record_form.specs.declared.Request.TheVariants.{Change, Ask}
use Rattle.sample_book.specs.declared.Row.{Row}
use Rattle.office_counter.specs.Steps.{HasRevision, HasRevisions, HasRevisionsIn}
use Rattle.wire_routes.specs.Ranges.{IsChangeInRange, IsRequestInRange}
use Rattle.wire_replies.specs.declared.Reply.{Reply}
use Rattle.wire_replies.specs.declared.Reply.TheVariants.{NoMemory}
use Rattle.wire_replies.specs.Answers.{shown_answer}
use Rattle.wire_replies.specs.Heads.{reply_bytes}
use Rattle.wire_replies.specs.Outcomes.{answer_of, is_short}
use Rattle.office_session.specs.Messages.{IsAnswerText, whole, without_memory}

rows_have_revisions : (rows : List Row) → AllByRecursion IsRowInRange rows
    → AllByRecursion HasRevision rows
rows_have_revisions [] all = tt
rows_have_revisions (r ∷ rs) (here, rest) =
    (record { first = here.first_revision; last = here.last_revision }, rows_have_revisions rs rest)

change_has_revisions : (command : Command) → IsChangeInRange command → HasRevisions command
change_has_revisions (Define documents) range = tt
change_has_revisions (Remove kind name) range = tt
change_has_revisions (PutZone name bytes) range = tt
change_has_revisions (Samples rows) range = rows_have_revisions rows range
change_has_revisions (Exclude value) range = tt
change_has_revisions (Lift id) range = tt
change_has_revisions Tick range = tt
change_has_revisions (Take number) range = tt
change_has_revisions Upgrade range = tt

-- what was routed has the revisions that an asking needs
pub has_revisions : (request : Request) → IsRequestInRange request → HasRevisionsIn request
has_revisions (Ask query) range = tt
has_revisions (Change command) range = change_has_revisions command range

-- what was rendered tells the outcome
pub tells : (outcome : Outcome) (last : Bool) (reply : Reply)
    → (shown_answer reply ≡ answer_of outcome) ⊎ ((reply ≡ NoMemory) × (is_short outcome ≡ false))
    → IsAnswerText outcome last (reply_bytes last (shown_answer reply))
tells outcome last reply (inl is) = whole (ap (λ answer. reply_bytes last answer) is)
tells outcome last reply (inr (none, short)) =
    without_memory short (ap (λ r. reply_bytes last (shown_answer r)) none)
