use Rattle.std.proofs.Common.{◌∙◌, ap, sym, subst, ◌+◌, Ok, List, ℕ, Some, length, refl}
use Rattle.std.specs.Prelude.{IfSome}
use Rattle.counter_book.specs.Book.{Book, given_of, kept_at, slot_at}
use Rattle.counter_book.specs.Judging.{IsJudged}
use Rattle.counter_book.specs.Moves.{IsNextThere}
use Rattle.counter_book.specs.Puts.{Puts}
use Rattle.counter_book.specs.Standings.{standing_in}
use Rattle.counter_book.specs.Writing.{IsCounted, IsPlaced}
use Rattle.counter_book.proofs.WriteLemmas.{put-done}
use Rattle.counter_book.proofs.NameLemmas.{kept-numbered, placed, counted, has_room}
use Rattle.counter_book.proofs.NearLemmas.{near-at, tails-noted}
use Rattle.counter_book.proofs.book.CounterBook.put.Goals as goal

pub neighbours-near-requires : goal.neighbours-near-requires
neighbours-near-requires c = λ number tail e.
    c.self.invariant.tails number tail (cc (c.deref.ensures.value, e))

pub judge-requires : goal.judge-requires
judge-requires c =
    let names = c.self.inside.names in
    let es = c.self.inside.kept.entries in
    let puts = c.self.inside.puts in
    let r = c.args.reading.now in
    let old : Book = record { names = names; entries = es; puts = puts } in
    record {
      near = near-at (kept_at old r.source) (slot_at es c.in-Some.number) r.minute
          c.neighbours-near.result (λ j. kept-numbered names es puts r.source c.in-Some.number j
          c.self.invariant.counted c.in-Some.ensures) c.neighbours-near.ensures;
      there = c.neighbours-near.ensures;
    }

pub invariant_of-self-in-Ok : goal.invariant_of-self-in-Ok
invariant_of-self-in-Ok c =
    let names = c.self.inside.names in
    let es = c.self.inside.kept.entries in
    let puts = c.self.inside.puts in
    let r = c.args.reading.now in
    let old : Book = record { names = names; entries = es; puts = puts } in
    let j : IsJudged old r (Ok (Some c.in-Ok-Some.moves)) =
    subst (λ x. IsJudged old r (Ok x)) c.in-Ok-Some.field-0-is c.in-Ok-Some.ensures.judged in
    let there = subst (λ o. IfSome o (λ moves. IsNextThere es c.in-Some.number r.minute moves.next))
    c.in-Ok-Some.field-0-is c.in-Ok-Some.ensures.next in
    record {
      counted = subst (λ (ns : List (List ℕ)). IsCounted ns c.keep.new.kept.entries (puts + 1))
          (sym c.in-Ok.ensures.named)
          (counted names es puts r c.in-Some.number c.in-Ok-Some.moves c.keep.new.kept.entries
          (puts + 1) c.self.invariant.counted c.in-Some.ensures c.in-Ok.ensures.ok
          (has_room (standing_in old r) (length es) puts j.0 j.1) there);
      tails = tails-noted es c.keep.new.kept.entries c.in-Some.number r c.in-Ok-Some.moves
          c.neighbours-near.result c.in-Ok.ensures.ok there c.neighbours-near.ensures
          c.self.inside.tails.items c.note_last.new.tails.items c.self.invariant.tails
          c.note_last.ensures;
    }

pub returns-in-Ok-clause-put : goal.returns-in-Ok-clause-put
returns-in-Ok-clause-put c =
    let names = c.self.inside.names in
    let es = c.self.inside.kept.entries in
    let puts = c.self.inside.puts in
    let r = c.args.reading.now in
    let old : Book = record { names = names; entries = es; puts = puts } in
    let new : Book = record {
      names = c.keep.new.names;
      entries = c.keep.new.kept.entries;
      puts = puts + 1;
    } in
    let j : IsJudged old r (Ok (Some c.in-Ok-Some.moves)) =
    subst (λ x. IsJudged old r (Ok x)) c.in-Ok-Some.field-0-is c.in-Ok-Some.ensures.judged in
    subst (λ (x : Book). Puts x r c.changes.result new) c.self.view_is
    (put-done old new r c.in-Ok-Some.moves c.given-given.result c.changes.result
    (c.given-given.ensures ∙ ap given_of (c.neighbours-near.ensures.here
    ∙ sym (kept-numbered names es puts r.source c.in-Some.number r.minute
    c.self.invariant.counted c.in-Some.ensures)))
    c.changes.ensures j
    (subst (λ (ns : List (List ℕ)). IsPlaced old r c.in-Ok-Some.moves
    (record { names = ns; entries = c.keep.new.kept.entries; puts = puts + 1 }))
    (sym c.in-Ok.ensures.named)
    (placed names es puts r c.in-Some.number c.in-Ok-Some.moves c.keep.new.kept.entries (puts + 1)
    c.self.invariant.counted c.in-Some.ensures c.in-Ok.ensures.ok))
    refl)
