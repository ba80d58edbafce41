use Rattle.std.proofs.Common.{◌≡◌, ◌++◌, true, length, IfSome}
use Rattle.notice_box.specs.Box.{waiting_in, waits}
use Rattle.notice_box.proofs.ListLemmas.{rest_of}
use Rattle.notice_box.proofs.notice_box.NoticeBox.first_waiting.Given as goal

abbrev pub invariant-loop-count : goal.invariant-loop-count
invariant-loop-count l = record {
  rest : l.notices.items ++ rest_of l.self.made l.next ≡ waiting_in l.self.made;
  waits : IfSome l.next (λ place. waits l.self.made place ≡ true);
  long : length l.notices.items ≡ l._count;
}
