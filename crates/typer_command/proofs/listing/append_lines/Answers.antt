use Rattle.std.proofs.lemmas.Slice.Zip.{Zip-more, either_empty_from_Zip}
use Rattle.typer_command.proofs.ListedLines.{def_line, def_end}
use Rattle.typer_command.proofs.listing.append_lines.Goals as goal

pub loop-def-preserved : goal.loop-def-preserved
loop-def-preserved c =
    let next = Zip-more c.loop-def.def-iterator c.next.new.self c.next.result (c.in-Some.def, c.in-Some.summary) c.in-Some.is c.next.ensures.steps in
    def_line c.args.home.now c.loop-def.out c.append_line_of.new.out _ _ _ _ _ c.in-Some.def.now c.get.result.now c.in-Some.summary.now next.0 next.1 c.loop-def.invariant c.get.ensures
    (rw c.get-in-loop-def.ensures at c.in_ok-append_line_of.ensures)

pub returns : goal.returns
returns c =
    def_end c.args.home.now c.loop-def.out _ _ _ (either_empty_from_Zip c.loop-def.def-iterator c.next.new.self c.next.result c.in-None.is c.next.ensures.steps) c.loop-def.invariant
