-- What a session does with one message, over whatever answers its requests.
use Rattle.std.specs.Prelude.{◌≡◌, ℕ, List, Bool, true, false, Ok, Err}
use Rattle.message_heads.specs.Streams.{Said}
use Rattle.record_form.specs.declared.Outcome.{Outcome}
use Rattle.record_form.specs.declared.Request.{Request}
use Rattle.wire_terms.specs.declared.NoRequest.{NoRequest}
use Rattle.wire_routes.specs.Requests.{StandsFor}
use Rattle.wire_replies.specs.Answers.{no_memory_answer}
use Rattle.wire_replies.specs.Heads.{reply_bytes}
use Rattle.wire_replies.specs.Immediate.{bad_answer, immediate_answer}
use Rattle.wire_replies.specs.Outcomes.{answer_of, is_short}

-- what one asking may do: the counter before, the clock's reading, the request, its outcome, the
-- counter after
abbrev pub Asking : Type 0 → Type 1
Asking T = T → ℕ → Request → Outcome → T → Type 0

-- The text is the outcome's answer; where that takes memory, it may say that there was none.
pub data IsAnswerText (outcome : Outcome) (last : Bool) (text : List ℕ) : Type 0 where
  whole : text ≡ reply_bytes last (answer_of outcome) → IsAnswerText outcome last text
  without_memory : is_short outcome ≡ false → text ≡ reply_bytes last no_memory_answer
      → IsAnswerText outcome last text

-- A message that stands for a request is asked once, and its outcome is told. One that stands for
-- none is answered at once, and nothing is asked. Where memory ran out before the asking, the
-- answer says so, and nothing is asked.
pub data AnswersMessage {T : Type 0} (asks : Asking T) (old : T) (said : Said) (last : Bool)
    (reading : ℕ) (text : List ℕ) (new : T) : Type 0 where
  asked : (request : Request) → (outcome : Outcome) → StandsFor said (Ok request)
      → asks old reading request outcome new
      → IsAnswerText outcome last text → AnswersMessage asks old said last reading text new
  at_once : (reason : NoRequest) → StandsFor said (Err reason)
      → text ≡ reply_bytes last (immediate_answer reason)
      → new ≡ old → AnswersMessage asks old said last reading text new
  unread : text ≡ reply_bytes last no_memory_answer → new ≡ old
      → AnswersMessage asks old said last reading text new

-- the answer to a bad message, which is the last one
abbrev pub refusal_text : {T : Type 0} → T → ℕ → List ℕ
refusal_text counter status = reply_bytes true (bad_answer status)
