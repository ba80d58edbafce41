use Rattle.std.proofs.Common.{◌≡◌, min, take, true}
use Rattle.std.specs.Char.{is_ascii_digit}
use Rattle.std.specs.List.{list_all}
use Rattle.exact_fraction.specs.Digits.{number_of}
use Rattle.plain_fields.specs.declared.number.TheConstants.{CAP}
use Rattle.plain_fields.proofs.number.capped_number.Given as goal

-- the bytes so far are digits, and this is their number, capped
abbrev pub invariant-loop-byte : goal.invariant-loop-byte
invariant-loop-byte l = record {
  digits : list_all is_ascii_digit (take l.byte-index l.text) ≡ true;
  value : l.value ≡ min (number_of (take l.byte-index l.text)) CAP;
}
