-- The messages of a stream, from its front, however reads cut its bytes.
use Rattle.std.specs.Prelude.{◌≡◌, ℕ, ◌≤◌, Bool, List, [], ◌∷◌, length, take, drop, slice_range}
use Rattle.httparse.specs.Grammar.{RequestHead, ReadsRequest}
use Rattle.message_heads.specs.declared.message.Message.{Message}
use Rattle.message_heads.specs.declared.message.Heard.TheVariants.{Bad, More}
use Rattle.message_heads.specs.Fields.{fields_of, closes}
use Rattle.message_heads.specs.Hearing.{whole, IsDecided, Hears}

-- what a message says
pub record Said : Type 0 where
  pub method : List ℕ
  pub target : List ℕ
  pub body : List ℕ
  pub close : Bool

-- what a head says with its body
abbrev pub said_of : RequestHead → List ℕ → Said
said_of head body = record {
  method = head.method;
  target = head.target;
  body = body;
  close = closes head.minor (fields_of head);
}

-- the first n bytes are a head and its counted body, and say this
pub record MessageIsWhole (bytes : List ℕ) (n : ℕ) (said : Said) : Type 0 where
  pub decided : IsDecided bytes n whole
  pub head : RequestHead
  pub body : List ℕ
  pub reads : ReadsRequest (take n bytes) head body
  pub says : said ≡ said_of head body

-- what the message of these places says
abbrev pub said_in : List ℕ → Message → Said
said_in bytes m = record {
  method = slice_range bytes m.method.0 m.method.1;
  target = slice_range bytes m.target.0 m.target.1;
  body = slice_range bytes m.body.0 m.body.1;
  close = m.close;
}

-- the bytes are these messages, one after another, and then the rest
abbrev pub AreMessages : List ℕ → List Said → List ℕ → Type 0
AreMessages bytes [] rest = bytes ≡ rest
AreMessages bytes (said ∷ saids) rest = (n : ℕ) × MessageIsWhole bytes n said
    × AreMessages (drop n bytes) saids rest

-- what a stream ends in: a bad message, with the status of its answer, or bytes that are none yet
pub data StreamEnd : Type 0 where
  bad : ℕ → StreamEnd
  open_rest : List ℕ → StreamEnd

-- the whole messages from the front, then one bad message or a rest to which more has to come
abbrev pub IsStream : List ℕ → List Said → StreamEnd → Type 0
IsStream bytes saids (bad status) = (rest : List ℕ) × AreMessages bytes saids rest
    × Hears rest (Bad status)
IsStream bytes saids (open_rest rest) = AreMessages bytes saids rest × Hears rest More

-- as many messages from the front are the same, and leave the same bytes
abbrev pub OneStream : Type 0
OneStream = (bytes : List ℕ) (saids others : List Said) (rest left : List ℕ)
    → AreMessages bytes saids rest → AreMessages bytes others left
    → length saids ≡ length others → (saids ≡ others) × (rest ≡ left)
