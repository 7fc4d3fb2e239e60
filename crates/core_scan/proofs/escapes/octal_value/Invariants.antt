use Rattle.std.proofs.Common.{◌≡◌, ◌≤◌, take}
use Rattle.type_kinds.specs.Digits.{number}
use Rattle.core_scan.proofs.escapes.octal_value.Given as goal

abbrev pub invariant-loop-digit : goal.invariant-loop-digit
invariant-loop-digit l = record {
  so_far : l.value ≡ number 8 (take l.digit-index l.digits);
  none : l.digit-index ≡ 0 → l.value ≤ 0;
  one : l.digit-index ≤ 1 → l.value ≤ 207;
  two : l.digit-index ≤ 2 → l.value ≤ 1863;
  three : l.value ≤ 15111;
}
