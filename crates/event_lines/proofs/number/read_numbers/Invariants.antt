use Rattle.std.proofs.Common.{◌≡◌, ◌<◌, length, take}
use Rattle.event_lines.proofs.NumberLemmas.{AreRead, IsPart}
use Rattle.event_lines.proofs.number.read_numbers.Given as goal

-- the numbers before a place were read, and the digits from there on are a part of the next
abbrev pub invariant-loop-place : goal.invariant-loop-place
invariant-loop-place l = record {
  read : AreRead l.text l.fn.at (take l.count l.numbers) l.begin;
  part : IsPart l.text l.begin l.place l.value;
  few : l.count < 4;
  four : length l.numbers ≡ 4;
}
