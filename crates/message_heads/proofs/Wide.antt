-- A head of more than 64 fields.
use Rattle.std.proofs.Common.{◌≡◌, ◌<◌, List, ℕ, [], ◌++◌, length, drop, append-nil}
use Rattle.httparse.specs.declared.spans.HeaderSpan.{HeaderSpan}
use Rattle.httparse.specs.declared.spans.RequestSpans.{RequestSpans}
use Rattle.httparse.specs.Grammar.{RequestHead, ReadsRequest, print_request}
use Rattle.httparse.specs.Spans.{IsRequestOf, RequestOverflows}
use Rattle.message_heads.specs.Start.{Begins}
use Rattle.message_heads.specs.declared.start.Start.TheVariants.{Wide}

pub wide : (bytes : List ℕ) (room : List HeaderSpan) (r : RequestSpans) → RequestOverflows 64 bytes
    → IsRequestOf bytes room r
    → (h : RequestHead) × ReadsRequest bytes h (drop r.len bytes)
    × (r.len ≡ length (print_request h)) × (64 < length h.fields)
wide bytes room r more (h, at) =
    (h, at.reads, at.len, more [] h (drop r.len bytes) (rw append-nil at.reads))
