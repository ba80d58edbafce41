-- What is heard in bytes that came: the first message, a bad one, or that more has to come.
use Rattle.std.specs.Prelude.{◌≡◌, ◌⊎◌, ℕ, ◌<◌, ◌≤◌, ◌+◌, true, List, [], ◌∷◌, ◌++◌, length, take}
use Rattle.std.specs.Prelude.{slice_range, Option, Some, None}
use Rattle.httparse.specs.Grammar.{RequestHead, ReadsRequest, HasNoRequest, NeverHasRequest}
use Rattle.httparse.specs.Grammar.{EndsInTarget}
use Rattle.slo_limits.specs.declared.TheConstants.{MAX_HEAD_BYTES, MAX_HEADER_FIELDS}
use Rattle.slo_limits.specs.declared.TheConstants.{MAX_BODY_BYTES}
use Rattle.message_heads.specs.declared.reading.TheConstants.{MAX_MESSAGE_BYTES}
use Rattle.message_heads.specs.Fields.{fields_of, counted_length, is_encoded, closes}
use Rattle.message_heads.specs.declared.message.Message.{Message}
use Rattle.message_heads.specs.declared.message.Heard.{Heard}
use Rattle.message_heads.specs.declared.message.Heard.TheVariants.{Whole, Bad, More}
use Rattle.message_heads.specs.declared.message.Hearing.{Hearing}
use Rattle.message_heads.specs.declared.message.Hearing.TheVariants as hearing

-- what may hold of the bytes so far, in the order in which it is tried
pub data Ruling : Type 0 where
  head_too_large malformed encoded body_too_large whole : Ruling

-- the place of a ruling in that order
abbrev pub place : Ruling → ℕ
place head_too_large = 0
place malformed = 1
place encoded = 2
place body_too_large = 3
place whole = 4

-- these bytes and no more are that head
abbrev pub IsHead : List ℕ → RequestHead → Type 0
IsHead bytes h = ReadsRequest bytes h []

-- a ruling holds of the bytes so far
abbrev pub Holds : Ruling → List ℕ → Type 0
Holds head_too_large bytes =
    ((h : RequestHead) × IsHead bytes h × (MAX_HEADER_FIELDS < length h.fields))
    ⊎ ((length bytes ≡ MAX_HEAD_BYTES) × HasNoRequest bytes)
Holds malformed bytes =
    NeverHasRequest bytes ⊎ ((h : RequestHead) × IsHead bytes h
    × (counted_length (fields_of h) ≡ None))
Holds encoded bytes = (h : RequestHead) × IsHead bytes h × (is_encoded (fields_of h) ≡ true)
Holds body_too_large bytes =
    (h : RequestHead) × (n : ℕ) × IsHead bytes h × (counted_length (fields_of h) ≡ Some n)
    × (MAX_BODY_BYTES < n)
Holds whole bytes =
    (h : RequestHead) × (body : List ℕ) × ReadsRequest bytes h body
    × (counted_length (fields_of h) ≡ Some (length body))

-- nothing holds, or, inside a request's target, that the bytes are malformed: a reader may wait for
-- the target's end before it says so
abbrev pub IsPassed : List ℕ → Type 0
IsPassed bytes = (r : Ruling) → Holds r bytes → (r ≡ malformed) × EndsInTarget bytes

-- the first n bytes are the first of which a ruling holds, and it is the first that does
pub record IsDecided (bytes : List ℕ) (n : ℕ) (r : Ruling) : Type 0 where
  pub within : n ≤ length bytes
  pub holds : Holds r (take n bytes)
  pub first : (q : Ruling) → Holds q (take n bytes) → place r ≤ place q
  pub earlier : (m : ℕ) → m < n → IsPassed (take m bytes)

-- the status of the answer, none for a whole message
abbrev pub status_of : Ruling → Option ℕ
status_of head_too_large = Some 431
status_of malformed = Some 400
status_of encoded = Some 501
status_of body_too_large = Some 413
status_of whole = None

-- a place in the first n bytes: from a number up to another
abbrev pub IsPlace : ℕ → ℕ × ℕ → Type 0
IsPlace n p = (p.0 ≤ p.1) × (p.1 ≤ n)

-- the places and the last word are those of the head
pub record IsMessage (bytes : List ℕ) (m : Message) (n : ℕ) (h : RequestHead) : Type 0 where
  pub within : n ≤ length bytes
  pub places : IsPlace n m.method × IsPlace n m.target × IsPlace n m.body
  pub reads : ReadsRequest (take n bytes) h (slice_range bytes m.body.0 m.body.1)
  pub method : slice_range bytes m.method.0 m.method.1 ≡ h.method
  pub target : slice_range bytes m.target.0 m.target.1 ≡ h.target
  pub close : m.close ≡ closes h.minor (fields_of h)

-- what is heard in the bytes
abbrev pub Hears : List ℕ → Heard → Type 0
Hears bytes (Whole m n) = IsDecided bytes n whole × ((h : RequestHead) × IsMessage bytes m n h)
Hears bytes (Bad status) = (n : ℕ) × (r : Ruling) × IsDecided bytes n r
    × (status_of r ≡ Some status)
Hears bytes More = (m : ℕ) → m ≤ length bytes → IsPassed (take m bytes)

-- however the bytes go on, nothing is decided before there are n of them
abbrev pub IsOpenBelow : ℕ → List ℕ → Type 0
IsOpenBelow n bytes = (more : List ℕ) (m : ℕ) → m < n → IsPassed (take m (bytes ++ more))

-- the bytes have to become n, which no message passes
pub record Awaits (bytes : List ℕ) (n : ℕ) : Type 0 where
  pub more : length bytes < n
  pub room : n ≤ MAX_MESSAGE_BYTES
  pub below : IsOpenBelow n bytes

-- what is heard, and for how long nothing else is
abbrev pub IsHeard : List ℕ → Hearing → Type 0
IsHeard bytes (hearing.Whole m n) = Hears bytes (Whole m n)
IsHeard bytes (hearing.Bad status) = Hears bytes (Bad status)
IsHeard bytes (hearing.More n) = Awaits bytes n

-- what is heard, alone
abbrev pub heard_of : Hearing → Heard
heard_of (hearing.Whole m n) = Whole m n
heard_of (hearing.Bad status) = Bad status
heard_of (hearing.More n) = More

-- as many of the bytes as a head may have, or all where there are fewer
abbrev pub IsFront : List ℕ → List ℕ → Type 0
IsFront bytes front = (more : List ℕ) × (bytes ≡ front ++ more) × (length front ≤ MAX_HEAD_BYTES)
