-- The bytes of an answer (RFC 9112, section 4).
use Rattle.std.specs.Prelude.{ℕ, Bool, true, false, List, [], ◌++◌, length, codes, decimal}
use Rattle.std.specs.Prelude.{unwrap_or}
use Rattle.http.specs.StatusCode.{reason_phrase}
use Rattle.wire_terms.specs.declared.no_request.Allow.{Allow}
use Rattle.wire_terms.specs.declared.no_request.Allow.TheVariants as allow
use Rattle.wire_replies.specs.declared.reply.Form.{Form}
use Rattle.wire_replies.specs.declared.reply.Form.TheVariants.{Json, Octets, Yaml}
use Rattle.wire_replies.specs.Answers.{Answer}

-- the phrase of a status, as `http` has it (RFC 9110, section 15); of another number there is none
abbrev pub phrase_of : ℕ → List ℕ
phrase_of status = unwrap_or (reason_phrase status) []

abbrev pub type_of : Form → List ℕ
type_of Json = codes "application/json"
type_of Yaml = codes "application/yaml"
type_of Octets = codes "application/octet-stream"

-- the line of the methods that a resource has (RFC 9110, section 10.2.1), where the
-- answer names them
abbrev pub allow_line : Allow → List ℕ
allow_line allow.None = []
allow_line allow.PostGet = codes "Allow: POST, GET\r\n"
allow_line allow.GetDelete = codes "Allow: GET, DELETE\r\n"
allow_line allow.PutDelete = codes "Allow: PUT, DELETE\r\n"
allow_line allow.Get = codes "Allow: GET\r\n"
allow_line allow.Post = codes "Allow: POST\r\n"
allow_line allow.Put = codes "Allow: PUT\r\n"

-- the line that says whether the connection ends after the answer
abbrev pub connection_line : Bool → List ℕ
connection_line true = codes "Connection: close\r\n"
connection_line false = codes "Connection: keep-alive\r\n"

-- the lines of a head, and the empty line
unfoldable pub head_of : ℕ → Form → Allow → ℕ → Bool → List ℕ
head_of status form methods count last =
    codes "HTTP/1.1 " ++ (decimal status ++ (codes " " ++ (phrase_of status
    ++ (codes "\r\nContent-Type: " ++ (type_of form
    ++ (codes "\r\nContent-Length: " ++ (decimal count ++ (codes "\r\n"
    ++ (allow_line methods ++ (connection_line last ++ codes "\r\n"))))))))))

-- the bytes of an answer, as the last of its connection or not
abbrev pub reply_bytes : Bool → Answer → List ℕ
reply_bytes last a = head_of a.status a.form a.allow (length a.body) last ++ a.body
