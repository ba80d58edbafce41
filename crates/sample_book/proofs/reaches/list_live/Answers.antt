use Rattle.std.proofs.Common.{◌≡◌, ◌<◌, ◌∙◌, ◌++◌, ◌∷◌, [], List, ap, arith, length, length-append}
use Rattle.std.proofs.Common.{rules, sym, take}
use Rattle.std.proofs.lemmas.List.{append-nil}
use Rattle.sample_book.specs.Reaches.{live_reaches}
use Rattle.sample_book.specs.declared.reaches.Reach.{Reach}
use Rattle.sample_book.proofs.ReachLemmas.{live-more, live-none, live-one}
use Rattle.sample_book.proofs.reaches.list_live.Goals as goal
use Rattle.sample_book.proofs.reaches.list_live.Goals.{then-kept, else-kept}

pub unwrap-requires : goal.unwrap-requires
unwrap-requires c =
    c.extend_from_slice.ensures.succeeds (omega (
      arith,
      c.loop-kept.invariant.few,
      c.loop-kept.invariant.room,
      c.loop-kept-test.true,
      c.loop-kept.reaches.ok.0,
      c.requires,
    ))

pub loop-kept-preserved : goal.loop-kept-preserved
loop-kept-preserved c =
    let so = c.loop-kept.invariant in
    let made = c.args.made.now in
    let k = c.loop-kept.kept-index in
    let kept = c.kept-item.result in
    let less : k < length made = omega (arith, c.loop-kept-test.true) in
    let next = live-more made k kept less c.kept-item.is in
    elim c.if-kept.branch [
      | then-kept w ↦
          let pushed : w.extend_from_slice.new.self.items
          ≡ c.loop-kept.reaches.items ++ w.reach_of.result ∷ [] = search rules in
          rw w.reaches-is (record {
            listed = pushed
                ∙ ap (λ (xs : List Reach). xs ++ w.reach_of.result ∷ []) so.listed
                ∙ ap (λ (r : Reach). live_reaches (take k made) ++ r ∷ []) w.reach_of.ensures
                ∙ ap (λ (xs : List Reach). live_reaches (take k made) ++ xs)
                (sym (live-one kept w.if-kept.true)) ∙ sym next;
            few = omega (
              arith,
              ap length pushed,
              length-append c.loop-kept.reaches.items (w.reach_of.result ∷ []),
              so.few,
            );
            room = omega (arith, so.room, w.extend_from_slice.ensures.capacity);
          })
      | else-kept w ↦
          rw w.reaches-is (record {
            listed = so.listed ∙ sym (append-nil (live_reaches (take k made)))
                ∙ ap (λ (xs : List Reach). live_reaches (take k made) ++ xs)
                (sym (live-none kept w.if-kept.false)) ∙ sym next;
            few = omega (arith, so.few);
            room = so.room;
          })
    ]
