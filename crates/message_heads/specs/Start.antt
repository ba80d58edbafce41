-- How bytes begin.
use Rattle.std.specs.Prelude.{◌≡◌, ◌⊎◌, Bool, true, false, ℕ, ◌<◌, ◌≤◌, List, length, drop}
use Rattle.httparse.specs.declared.spans.HeaderSpan.{HeaderSpan}
use Rattle.httparse.specs.Grammar.{RequestHead, ReadsRequest, HasNoRequest, MayBecomeRequest}
use Rattle.httparse.specs.Grammar.{NeverHasRequest, print_request}
use Rattle.httparse.specs.Spans.{IsRequestOf, IsRequestWithin}
use Rattle.message_heads.specs.declared.start.Start.{Start}
use Rattle.message_heads.specs.declared.start.Start.TheVariants.{Head, Wide, Unfinished, Never}

-- the bytes begin as the parser says
abbrev pub Begins : List ℕ → List HeaderSpan → Start → Type 0
Begins bytes slots (Head r) = IsRequestOf bytes slots r × IsRequestWithin bytes slots r
    × (r.headers ≤ 64)
Begins bytes slots (Wide n) = (h : RequestHead) × ReadsRequest bytes h (drop n bytes)
    × (n ≡ length (print_request h)) × (64 < length h.fields)
Begins bytes slots Unfinished = HasNoRequest bytes × MayBecomeRequest bytes
Begins bytes slots Never = NeverHasRequest bytes

-- the bytes begin with a head or may; or no head can come
abbrev pub WhetherHeadMayCome : Bool → List ℕ → Type 0
WhetherHeadMayCome true bytes = ((h : RequestHead) × (rest : List ℕ) × ReadsRequest bytes h rest)
    ⊎ (HasNoRequest bytes × MayBecomeRequest bytes)
WhetherHeadMayCome false bytes = NeverHasRequest bytes
