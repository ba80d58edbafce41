use Rattle.std.proofs.Common.{◌≡◌, ◌∙◌, ◌≤◌, ◌++◌, ◌∷◌, [], length, ap, if◌then◌else◌}
use Rattle.std.proofs.Common.{rules}
use Rattle.std.specs.Result.{is_ok}
use Rattle.entry_records.proofs.KeptLemmas.{kept_push}
use Rattle.entry_records.proofs.entry_records.EntryRecords.push.Goals as goal

pub invariant_of-self : goal.invariant_of-self
invariant_of-self c =
    let bytes = c.self.inside.bytes.items in
    let ends = c.self.inside.ends.items in
    let new = c.extend_from_slice.new.self.items in
    let long : c.len.result ≡ length new = search rules in
    let few : length new ≤ 4294967295 = search rules in
    kept_push c.one_record_more.ensures c.records_have_sizes.ensures bytes new c.args.piece.now
    ends c.push.new.self.items c.requires.entry.0 c.self.invariant c.requires.entry.1
    (c.extend_from_slice.ensures.items
    ∙ ap (λ r. if is_ok r then bytes ++ c.args.piece.now else bytes) c.unwrap.ensures)
    (c.push.ensures.items
    ∙ ap (λ r. if is_ok r then ends ++ c.len.result ∷ [] else ends) c.unwrap-2.ensures
    ∙ ap (λ n. ends ++ n ∷ []) long)
    few
