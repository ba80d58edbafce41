use Rattle.std.proofs.Common.{◌∷◌, [], ◌++◌, ◌∙◌, sym, rules, ap, append_assoc}
use Rattle.office_doors.specs.DoorMemory.{book_of}
use Rattle.office_doors.specs.DoorsMemory.{IsNew}
use Rattle.office_doors.proofs.Shares.{all_with, counted_more, dealt_more, shares_less}
use Rattle.office_doors.proofs.dealing.deal.Goals as goal

pub loop-room-preserved : goal.loop-room-preserved
loop-room-preserved g c =
    let at = c.loop-room in
    let i = at.invariant in
    let steps = c.in-Some.ensures.steps.0 in
    let door = c.open_door-door.result in
    let more = c.push_reserved.ensures.items in record {
      all = append_assoc at.yielded (c.in-Some.room ∷ []) _
          ∙ ap (λ l. at.yielded ++ l) (sym steps) ∙ i.all;
      len = search rules;
      count = counted_more at.doors.items _ door at.yielded c.in-Some.room more i.count;
      new = all_with IsNew at.doors.items c.push_reserved.new.self.items door more i.new
          c.open_door-door.ensures.new;
      space = search rules;
      shares = λ some. shares_less (λ r. r.share) _ _ c.in-Some.room _ _ steps (i.shares some)
          c.open_door-door.ensures.count;
      shared = dealt_more (λ d. (book_of d).left) _ _ _ at.doors.items _ door more i.shared
          c.open_door-door.ensures.shared;
    }
