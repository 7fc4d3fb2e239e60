use Rattle.std.proofs.Common.{◌+◌, ◌≤◌, length, map}
use Rattle.dia_session_command.specs.Script.{request_so}
use Rattle.dia_session_command.specs.steps.Lines.{BeginsWith}
use Rattle.dia_session_command.proofs.script.script_lines.Given as goal

-- the lines so far are those that the bytes begin with
abbrev pub invariant-loop-rest : goal.invariant-loop-rest
invariant-loop-rest l = record {
  begins : BeginsWith l.bytes (map request_so l.lines) l.rest;
  counted : length l.lines + length l.rest ≤ length l.bytes;
}

abbrev pub decreases-loop-rest : goal.decreases-loop-rest
decreases-loop-rest l = length l.rest
