use Rattle.std.proofs.lemmas.Slice.Zip.{Zip-more, either_empty_from_Zip}
use Rattle.typer_command.proofs.ListedLines.{module_line, module_end}
use Rattle.typer_command.proofs.listing.typing_lines.Goals as goal

pub loop-source-preserved : goal.loop-source-preserved
loop-source-preserved c =
    let next = Zip-more c.loop-source.source-iterator c.next.new.self c.next.result (c.in-Some.source, c.in-Some.summaries) c.in-Some.is c.next.ensures.steps in
    module_line c.loop-source.output c.append_lines.new.out _ _ _ _ _ c.in-Some.source.now c.in-Some.summaries.now c.as_slice-in-loop-source.result.now c.module-module.result.now c.as_slice.result.now next.0 next.1 c.loop-source.invariant
    c.module-module.ensures c.as_slice.ensures c.as_slice-in-loop-source.ensures c.in_ok-append_lines.ensures

pub returns : goal.returns
returns c =
    module_end c.loop-source.output _ _ _ (either_empty_from_Zip c.loop-source.source-iterator c.next.new.self c.next.result c.in-None.is c.next.ensures.steps) c.loop-source.invariant
