use Rattle.std.proofs.Common.{◌-◌, ◌≤◌, length, take, drop}
use Rattle.core_scan.specs.Escapes.{Inside}
use Rattle.core_scan.proofs.quotes.read_unquoted.Given as goal

-- the bytes so far spell the text so far
abbrev pub invariant-loop-next : goal.invariant-loop-next
invariant-loop-next l = record {
  within : l.len ≤ length l.rest;
  inside : Inside l.quote (take l.len l.rest) l.text (drop l.len l.rest);
}

abbrev pub decreases-loop-next : goal.decreases-loop-next
decreases-loop-next l = length l.rest - l.len
