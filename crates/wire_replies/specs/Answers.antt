-- The answer to a message, however it is kept until it is written.
use Rattle.std.specs.Prelude.{◌≡◌, ◌⊎◌, ℕ, List, [], ◌∷◌, Bool, true, false, codes}
use Rattle.serde_json.specs.Data.{Data, number, unsigned, object, string, Members, member}
use Rattle.serde_json.specs.Data.{no_members}
use Rattle.serde_json.specs.Written.{compact_text}
use Rattle.wire_terms.specs.declared.no_request.Allow.{Allow}
use Rattle.wire_terms.specs.declared.no_request.Allow.TheVariants as allow
use Rattle.wire_replies.specs.declared.reply.Form.{Form}
use Rattle.wire_replies.specs.declared.reply.Form.TheVariants.{Json}
use Rattle.wire_replies.specs.declared.reply.Reply.{Reply}
use Rattle.wire_replies.specs.declared.reply.Reply.TheVariants.{Full, Small, NoMemory}

-- an answer: its status, what its body is, the methods that it names, its body
pub record Answer : Type 0 where
  pub status : ℕ
  pub form : Form
  pub allow : Allow
  pub body : List ℕ

-- an answer in JSON, by its text
abbrev pub in_json : ℕ → Allow → List ℕ → Answer
in_json status methods text = record { status = status; form = Json; allow = methods; body = text }

-- an answer in JSON (RFC 8259), which has no spaces
abbrev pub json : ℕ → Data → Answer
json status d = in_json status allow.None (compact_text d)

-- members by their names; in an object they stand in the order of the names' bytes
abbrev pub members_of : List (List ℕ × Data) → Members
members_of [] = no_members
members_of (m ∷ ms) = member m.0 m.1 (members_of ms)

-- an object of these members
abbrev pub object_of : List (List ℕ × Data) → Data
object_of ms = object (members_of ms)

-- a number in digits alone
abbrev pub whole : ℕ → Data
whole n = number (unsigned n)

-- {"error":"not_found"}
abbrev pub error_data : List ℕ → Data
error_data error = object_of ((codes "error", string error) ∷ [])

-- the answer where memory was refused
abbrev pub no_memory_answer : Answer
no_memory_answer = json 503 (error_data (codes "no_memory"))

-- the answer that a reply stands for
abbrev pub shown_answer : Reply → Answer
shown_answer (Full status form methods body) =
    record { status = status; form = form; allow = methods; body = body }
shown_answer (Small status methods body) = in_json status methods body
shown_answer NoMemory = no_memory_answer

-- whether a reply was made without memory
abbrev pub is_small : Reply → Bool
is_small (Small status methods body) = true
is_small (Full status form methods body) = false
is_small NoMemory = false

-- the reply stands for that answer, or there was no memory for it
abbrev pub IsShownBy : Answer → Reply → Type 0
IsShownBy answer reply = (shown_answer reply ≡ answer) ⊎ (reply ≡ NoMemory)
