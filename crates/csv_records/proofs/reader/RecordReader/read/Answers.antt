use Rattle.std.proofs.Common.{◌≡◌, ◌∙◌, List, [], ◌∷◌, sym, ap}
use Rattle.csv_records.specs.Records.{Fields}
use Rattle.csv_records.specs.Left.{left_of}
use Rattle.csv.specs.Records.{fields_of}
use Rattle.csv_records.proofs.Reading.{took, took_some, found_none}
use Rattle.csv_records.proofs.reader.RecordReader.read.Goals as goal
use Rattle.csv_records.proofs.reader.RecordReader.read.Goals.{in-Ok-true, in-Ok-false, in-Err}

pub invariant_of-self : goal.invariant_of-self
invariant_of-self c =
    let reading = rw c.if-self.false at c.self.invariant in
    let read =
    rw c.in-Ok-true.field-0-test at (c.in-Ok-true.ensures.reads reading.trim reading.ready) in
    let t =
    took c.self.inside.text c.read_byte_record.new.self (fields_of c.read_byte_record.new.row)
    reading read (c.in-Ok-true.ensures.ready reading.trim) c.in-Ok-true.ensures.flexible in
    rw c.if-self.false t.0

pub returns-clause-reads : goal.returns-clause-reads
returns-clause-reads c =
    let reading = rw c.if-self.false at c.self.invariant in
    let row = fields_of c.read_byte_record.new.row in
    elim c.match-read_byte_record.branch [
      | in-Ok-true w ↦
          let read = rw w.in-Ok-true.field-0-test at
          (w.in-Ok-true.ensures.reads reading.trim reading.ready) in
          let t = took c.self.inside.text c.read_byte_record.new.self row reading read
          (w.in-Ok-true.ensures.ready reading.trim) w.in-Ok-true.ensures.flexible in
          let was : left_of c.self.inside.ended c.self.inside.text ≡ row
          ∷ left_of c.self.inside.ended c.read_byte_record.new.self = rw c.if-self.false t.1 in
          rw w.result-is (sym c.self.view_is ∙ was
          ∙ ap (λ (t : List Fields). row ∷ t) (sym w.self-is))
      | in-Ok-false w ↦
          let read = rw w.in-Ok-false.field-0-test at
          (w.in-Ok-false.ensures.reads reading.trim reading.ready) in
          let was : left_of c.self.inside.ended c.self.inside.text ≡ [] = rw c.if-self.false
          (found_none c.self.inside.text c.read_byte_record.new.self row reading read) in
          rw w.result-is (sym c.self.view_is ∙ was, w.self-is)
      | in-Err w ↦ rw w.result-is tt
    ]

pub returns-clause-field : goal.returns-clause-field
returns-clause-field c =
    let reading = rw c.if-self.false at c.self.invariant in
    elim c.match-read_byte_record.branch [
      | in-Ok-true w ↦
          let read = rw w.in-Ok-true.field-0-test at
          (w.in-Ok-true.ensures.reads reading.trim reading.ready) in
          rw w.result-is (λ _. took_some c.self.inside.text c.read_byte_record.new.self
          (fields_of c.read_byte_record.new.row) reading read)
      | in-Ok-false w ↦ rw w.result-is (λ e. cc e)
      | in-Err w ↦ rw w.result-is tt
    ]
