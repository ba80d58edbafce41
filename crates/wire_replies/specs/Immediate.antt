-- The answers to messages that are no requests.
use Rattle.std.specs.Prelude.{ℕ, [], ◌∷◌, codes}
use Rattle.serde_json.specs.Data.{Data, string}
use Rattle.serde_json.specs.Written.{compact_text}
use Rattle.wire_terms.specs.declared.no_request.NoRequest.{NoRequest}
use Rattle.wire_terms.specs.declared.no_request.NoRequest.TheVariants.{NotFound, Method, Query}
use Rattle.wire_terms.specs.declared.no_request.NoRequest.TheVariants.{Body}
use Rattle.wire_terms.specs.declared.no_request.NoRequest.TheVariants.{Record}
use Rattle.wire_replies.specs.Answers.{Answer, error_data, in_json, json, object_of, whole}

-- {"error":"body","record":1}
abbrev pub record_data : ℕ → Data
record_data n = object_of ((codes "error", string (codes "body")) ∷ (codes "record", whole n) ∷ [])

-- the answer to a whole message that is no request
abbrev pub immediate_answer : NoRequest → Answer
immediate_answer NotFound = json 404 (error_data (codes "not_found"))
immediate_answer (Method methods) = in_json 405 methods (compact_text (error_data (codes "method")))
immediate_answer Query = json 400 (error_data (codes "query"))
immediate_answer Body = json 400 (error_data (codes "body"))
immediate_answer (Record n) = json 400 (record_data n)

-- the answer to a bad message, of the status by which it is bad
abbrev pub bad_answer : ℕ → Answer
bad_answer status = json status (error_data (codes "message"))
