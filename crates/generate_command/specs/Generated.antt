-- The session of a sample stream, as the definitions give it.
use Rattle.std.specs.Prelude.{◌≡◌, ℕ, ◌+◌, ◌*◌, List, [], length, Bool, false, Option, Some, None}
use Rattle.std.specs.Prelude.{Ok, Err}
use Rattle.message_heads.specs.Streams.{Said}
use Rattle.message_session.specs.Sessions.{EndsSo, SessionWorld, session_world}
use Rattle.message_session.specs.declared.SessionEnd.TheVariants.{Done}
use Rattle.record_form.specs.declared.Entry.{Entry}
use Rattle.record_form.specs.declared.Outcome.{Outcome}
use Rattle.record_form.specs.declared.Request.{Request}
use Rattle.office_history.specs.History.{Office, current_in}
use Rattle.office_counter.specs.Steps.{Comes, with_made}
use Rattle.wire_terms.specs.declared.NoRequest.{NoRequest}
use Rattle.wire_routes.specs.Requests.{StandsFor}
use Rattle.wire_replies.specs.Answers.{no_memory_answer}
use Rattle.wire_replies.specs.Heads.{reply_bytes}
use Rattle.wire_replies.specs.Immediate.{immediate_answer}
use Rattle.wire_replies.specs.Outcomes.{answer_of}
use Rattle.office_session.specs.Messages.{refusal_text}
use Rattle.own_counter.specs.Own.{OwnOn}
use Rattle.sample_stream.specs.Stream.{stream_of}
use Rattle.generate_command.specs.Playing.{HasNone, steady_clock}
use Rattle.generate_command.specs.Summary.{IsSummary}
use Rattle.generate_command.specs.Tallies.{no_tally, tally_with}
use Rattle.generate_command.specs.declared.tally.SessionTally.{SessionTally}
use Rattle.generate_command.specs.declared.tallying.Tallying.{Tallying}

-- an office, and what its requests have come to so far
pub record Seat : Type 0 where
  pub office : Office
  pub tally : SessionTally

abbrev pub seat : Office → SessionTally → Seat
seat office tally = record { office = office; tally = tally }

-- A message that stands for a request comes to its outcome over the office as it stands, and its
-- whole answer is told. One that stands for none is answered at once.
pub data Plainly (old : Seat) (said : Said) (last : Bool) (reading : ℕ) (text : List ℕ)
    (new : Seat) : Type 0 where
  comes : (request : Request) → (outcome : Outcome) → (made : Option Entry)
      → StandsFor said (Ok request) → Comes old.office reading request outcome made
      → new ≡ seat (with_made old.office made) (tally_with outcome old.tally)
      → text ≡ reply_bytes last (answer_of outcome) → Plainly old said last reading text new
  at_once : (reason : NoRequest) → StandsFor said (Err reason)
      → text ≡ reply_bytes last (immediate_answer reason)
      → new ≡ old → Plainly old said last reading text new

-- an office of origin 0 without entries
abbrev pub empty_office : Office
empty_office = record { origin = 0; history = [] }

-- The stream of this number was played over an empty office at a clock that always reads the minute
-- behind its last batch. The session ended well, each request of the stream was asked, and this is
-- the summary.
pub record IsGenerated (number : ℕ) (text : List ℕ) : Type 0 where
  pub after : SessionWorld Seat
  pub session : EndsSo Plainly refusal_text Done
      (session_world (Some (stream_of number)) (steady_clock (1000 * number))
      (seat empty_office no_tally) (Some [])) after
  pub all : after.handler.tally.requests ≡ number + 5
  pub exact : IsSummary after.handler.tally (length after.handler.office.history)
      (length (current_in after.handler.office.history)) text

-- nothing was asked of the counter yet, and its office is empty
pub record IsFresh {D : Type 0} (s : Tallying (OwnOn D)) : Type 0 where
  pub office : s.counter.kept.office ≡ empty_office
  pub doubt : s.counter.kept.doubt ≡ None
  pub tally : s.tally ≡ no_tally
  pub lacks : s.lacks ≡ false

-- Each request of the stream was asked, none came for want of memory or by a failure of the disk,
-- no answer says so, and this is the summary.
pub record IsSummedUp {D : Type 0} (number : ℕ) (s : Tallying (OwnOn D)) (answers text : List ℕ) :
    Type 0 where
  pub all : s.tally.requests ≡ number + 5
  pub lacks : s.lacks ≡ false
  pub none : HasNone no_memory_answer.body answers
  pub exact : IsSummary s.tally (length s.counter.kept.office.history)
      (length (current_in s.counter.kept.office.history)) text
