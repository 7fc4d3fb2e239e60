use Rattle.std.proofs.Common.{length, Some, ap, sym, subst, ◌∙◌}
use Rattle.std.proofs.lemmas.List.{length-set}
use Rattle.std.proofs.lemmas.List.Elements.{All-pop}
use Rattle.cons_tree.specs.Callees.{found}
use Rattle.table_keep.specs.Model.{sources_so}
use Rattle.analysis.specs.steps.Reporting.{IsMade, AreKept}
use Rattle.analysis.proofs.MadeReports.{kept_set, same_lines}
use Rattle.analysis.proofs.reporting.keep_all.Goals as goal

pub loop-made-preserved : goal.loop-made-preserved
loop-made-preserved c =
    let known = found c.args.known.now in
    let M = sources_so c.args.sources.now in
    let made = c.in-Some.made in
    let it = c.loop-made.invariant in
    let split = All-pop (IsMade known M) c.loop-made.list c.pop.new.self (Some made) c.in-Some.ensures it.made in
    record {
      counted = ap length c.replace.ensures.after ∙ length-set c.loop-made.kept made.at (Some made.lines) ∙ it.counted;
      kept = subst (AreKept known M) (sym c.replace.ensures.after)
          (kept_set known M c.loop-made.kept made.at (Some made.lines) it.kept (λ s text e f. same_lines known s made.lines text e (split.1.1 s f)));
      made = split.0;
    }
