use Rattle.std.proofs.Common.{◌≡◌, ◌++◌}
use Rattle.typer_command.proofs.ListedLines.{def_lines}
use Rattle.typer_command.proofs.listing.append_lines.Given as goal

abbrev pub invariant-loop-def : goal.invariant-loop-def
invariant-loop-def l = l.out ++ def_lines l.home l.def-iterator.a.rest.now l.def-iterator.b.rest.now ≡ l.fn.out ++ def_lines l.home l.defs l.summaries
