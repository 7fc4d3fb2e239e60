use Rattle.std.proofs.Common.{◌≡◌, ◌++◌}
use Rattle.typer_command.proofs.ListedLines.{module_lines}
use Rattle.typer_command.proofs.listing.typing_lines.Given as goal

abbrev pub invariant-loop-source : goal.invariant-loop-source
invariant-loop-source l = l.output ++ module_lines l.source-iterator.a.rest.now l.source-iterator.b.rest.now ≡ module_lines l.sources l.found
