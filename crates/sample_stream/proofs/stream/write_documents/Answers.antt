use Rattle.std.proofs.Common.{◌++◌, codes, append_assoc, List, ℕ}
use Rattle.request_texts.proofs.Pieces.{both_behind, part_behind, part_of_first}
use Rattle.sample_stream.proofs.stream.write_documents.Goals as goal

-- the line between two documents, and the second one
abbrev last_of : List ℕ → List ℕ
last_of second = codes "---\n" ++ second

pub returns-in_err-write_both-clause-part : goal.returns-in_err-write_both-clause-part
returns-in_err-write_both-clause-part g c =
    let head = c.args.head.now in
    let first = c.args.first.now in
    let last = last_of c.args.second.now in
    part_of_first (head ++ (first ++ last)) (head ++ first) last (append_assoc head first last) _ _
    c.from_residual.result c.in_err-write_both.ensures.part

pub returns-clause-gained : goal.returns-clause-gained
returns-clause-gained g c =
    let head = c.args.head.now in
    let first = c.args.first.now in
    let last = last_of c.args.second.now in
    both_behind (head ++ (first ++ last)) (head ++ first) last (append_assoc head first last) _ _ _
    c.write_both-2.result c.in_ok-write_both.ensures.gained c.write_both-2.ensures.gained

pub returns-clause-part : goal.returns-clause-part
returns-clause-part g c =
    let head = c.args.head.now in
    let first = c.args.first.now in
    let last = last_of c.args.second.now in
    part_behind (head ++ (first ++ last)) (head ++ first) last (append_assoc head first last) _ _ _
    c.write_both-2.result c.in_ok-write_both.ensures.gained c.write_both-2.ensures.part
