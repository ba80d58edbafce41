-- What is put one behind another is how full an office is.
use Rattle.std.proofs.Common.{◌≡◌, ◌∙◌, ℕ, Option, Some, None, false, ap, codes, refl}
use Rattle.serde_json.specs.Data.{Members, no_members, object, put}
use Rattle.serde_json.specs.Written.{has_float}
use Rattle.record_form.specs.declared.status.OfficeStatus.{OfficeStatus}
use Rattle.wire_replies.specs.Answers.{whole}
use Rattle.wire_replies.specs.Bodies.{entry_data, status_data, used_data}

minute_is_whole : (minute : Option ℕ) → has_float (entry_data minute) ≡ false
minute_is_whole None = refl
minute_is_whole (Some minute) = refl

pub status_is_whole : (s : OfficeStatus) → has_float (status_data s) ≡ false
status_is_whole s = rw (minute_is_whole s.last) refl

-- the members of a status, put in their order
pub all_put : {m0 m1 m2 m3 m4 m5 m6 m7 m8 m9 m10 m11 m12 m13 m14 m15 m16 : Members}
    (s : OfficeStatus) → m0 ≡ no_members → m1 ≡ put (codes "accepted") (used_data s.accepted) m0
    → m2 ≡ put (codes "at") (whole s.at) m1
    → m3 ≡ put (codes "bindings") (used_data s.bindings) m2
    → m4 ≡ put (codes "bytes") (used_data s.bytes) m3
    → m5 ≡ put (codes "cells") (used_data s.cells) m4
    → m6 ≡ put (codes "days") (used_data s.days) m5
    → m7 ≡ put (codes "entries") (whole s.entries) m6
    → m8 ≡ put (codes "exclusions") (used_data s.exclusions) m7
    → m9 ≡ put (codes "last") (entry_data s.last) m8
    → m10 ≡ put (codes "notices") (used_data s.notices) m9
    → m11 ≡ put (codes "objects") (used_data s.objects) m10
    → m12 ≡ put (codes "origin") (whole s.origin) m11
    → m13 ≡ put (codes "slis") (used_data s.slis) m12
    → m14 ≡ put (codes "slos") (used_data s.slos) m13
    → m15 ≡ put (codes "version") (whole s.version) m14
    → m16 ≡ put (codes "zones") (used_data s.zones) m15 → object m16 ≡ status_data s
all_put s none accepted at bindings bytes cells days entries exclusions last notices objects origin
    slis slos version zones =
    ap object (zones ∙ ap (put (codes "zones") (used_data s.zones))
    (version ∙ ap (put (codes "version") (whole s.version))
    (slos ∙ ap (put (codes "slos") (used_data s.slos))
    (slis ∙ ap (put (codes "slis") (used_data s.slis))
    (origin ∙ ap (put (codes "origin") (whole s.origin))
    (objects ∙ ap (put (codes "objects") (used_data s.objects))
    (notices ∙ ap (put (codes "notices") (used_data s.notices))
    (last ∙ ap (put (codes "last") (entry_data s.last))
    (exclusions ∙ ap (put (codes "exclusions") (used_data s.exclusions))
    (entries ∙ ap (put (codes "entries") (whole s.entries))
    (days ∙ ap (put (codes "days") (used_data s.days))
    (cells ∙ ap (put (codes "cells") (used_data s.cells))
    (bytes ∙ ap (put (codes "bytes") (used_data s.bytes))
    (bindings ∙ ap (put (codes "bindings") (used_data s.bindings))
    (at ∙ ap (put (codes "at") (whole s.at))
    (accepted ∙ ap (put (codes "accepted") (used_data s.accepted)) none))))))))))))))))
