use Rattle.std.proofs.Common.{◌≡◌, ◌≤◌, ◌+◌, ◌∷◌, ◌++◌, [], sym, ap, ◌∙◌, subst, arith, rules, inl}
use Rattle.std.proofs.Common.{length, Some}
use Rattle.slo_journal.specs.File.{tail_of}
use Rattle.slo_journal.specs.Keeping.{Keeps, WithOrWithout, needed_for}
use Rattle.slo_journal.proofs.Files.{size-append}
use Rattle.office_outside.proofs.Moments.{weaker}
use Rattle.slo_journal.proofs.Run.{room_of, next_tail, doubtful, either_gate, acknowledged}
use Rattle.slo_journal.proofs.Run.{any_moment}
use Rattle.slo_journal.proofs.journal.Journal.append.Goals as goal
use Rattle.slo_limits.specs.declared.TheConstants.{MAX_JOURNAL_BYTES}

pub returns-in_default-clause-leaves : goal.returns-in_default-clause-leaves
returns-in_default-clause-leaves g c o rs k =
    let k = subst (Keeps g.D.Disk.senses o rs) (sym c.self.view_is) k in
    record { tail = k.tail; none = k.none; each = (c.stage.ensures.stays o rs k.tail k.each).now }

pub returns-in_default-clause-any_moment : goal.returns-in_default-clause-any_moment
returns-in_default-clause-any_moment g c o rs k =
    let k = subst (Keeps g.D.Disk.senses o rs) (sym c.self.view_is) k in
    rw (← c.self.view_is) (weaker {Q = WithOrWithout o rs c.args.value.now}
    (c.stage.ensures.stays o rs k.tail k.each) (λ c s. inl s)).moments

pub returns-in_default-open_gate-clause-leaves : goal.returns-in_default-open_gate-clause-leaves
returns-in_default-open_gate-clause-leaves g c o rs k =
    let k = subst (Keeps g.D.Disk.senses o rs) (sym c.self.view_is) k in
    let r = c.args.value.now in
    let room : needed_for c.self.inside.tail r ≤ MAX_JOURNAL_BYTES =
    room_of r _ c.self.inside.tail c.bytes-frame.ensures.bytes c.if-needed.false in
    let size = c.bytes-frame.ensures.is_record in
    let staged = either_gate o rs r c.self.inside.tail k.tail size room _
    (c.in-Ok.ensures.staged o rs r k.tail c.bytes-frame.ensures.bytes k.each) in
    record {
      tail = k.tail;
      doubt = ap Some (next_tail rs r _ c.self.inside.tail k.tail c.bytes-frame.ensures.bytes);
      each = doubtful o rs r c.self.inside.tail k.tail size room _
          (c.open_gate.ensures.either o rs r k.tail staged).now;
    }

pub returns-in_default-open_gate-clause-any_moment :
    goal.returns-in_default-open_gate-clause-any_moment
returns-in_default-open_gate-clause-any_moment g c o rs k =
    let k = subst (Keeps g.D.Disk.senses o rs) (sym c.self.view_is) k in
    let r = c.args.value.now in
    let room : needed_for c.self.inside.tail r ≤ MAX_JOURNAL_BYTES =
    room_of r _ c.self.inside.tail c.bytes-frame.ensures.bytes c.if-needed.false in
    let size = c.bytes-frame.ensures.is_record in
    let staged = either_gate o rs r c.self.inside.tail k.tail size room _
    (c.in-Ok.ensures.staged o rs r k.tail c.bytes-frame.ensures.bytes k.each) in
    rw (← c.self.view_is) (any_moment o rs r c.self.inside.tail k.tail size room
    (c.stage.ensures.stays o rs k.tail k.each)
    (c.open_gate.ensures.either o rs r k.tail staged)).moments

pub returns-clause-leaves : goal.returns-clause-leaves
returns-clause-leaves g c o rs k =
    let k = subst (Keeps g.D.Disk.senses o rs) (sym c.self.view_is) k in
    let r = c.args.value.now in
    let room : needed_for c.self.inside.tail r ≤ MAX_JOURNAL_BYTES =
    room_of r _ c.self.inside.tail c.bytes-frame.ensures.bytes c.if-needed.false in
    let size = c.bytes-frame.ensures.is_record in
    let staged = either_gate o rs r c.self.inside.tail k.tail size room _
    (c.in-Ok.ensures.staged o rs r k.tail c.bytes-frame.ensures.bytes k.each) in
    record {
      tail = next_tail rs r _ c.self.inside.tail k.tail c.bytes-frame.ensures.bytes;
      none = k.none;
      each = acknowledged o rs r c.self.inside.tail k.tail size room _
          (c.in-Ok-open_gate.ensures.opened o rs r k.tail staged);
    }

pub returns-clause-any_moment : goal.returns-clause-any_moment
returns-clause-any_moment g c o rs k =
    let k = subst (Keeps g.D.Disk.senses o rs) (sym c.self.view_is) k in
    let r = c.args.value.now in
    let room : needed_for c.self.inside.tail r ≤ MAX_JOURNAL_BYTES =
    room_of r _ c.self.inside.tail c.bytes-frame.ensures.bytes c.if-needed.false in
    let size = c.bytes-frame.ensures.is_record in
    let staged = either_gate o rs r c.self.inside.tail k.tail size room _
    (c.in-Ok.ensures.staged o rs r k.tail c.bytes-frame.ensures.bytes k.each) in
    rw (← c.self.view_is) (any_moment o rs r c.self.inside.tail k.tail size room
    (c.stage.ensures.stays o rs k.tail k.each)
    (c.open_gate.ensures.either o rs r k.tail staged)).moments
