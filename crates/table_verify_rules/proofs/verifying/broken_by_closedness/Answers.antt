use Rattle.std.proofs.Common.{subst}
use Rattle.cons_tree.specs.Callees.{found}
use Rattle.analysis_summaries.specs.Functions.{all_functions}
use Rattle.table_keep.specs.Model.{entries_so, sources_so, trees}
use Rattle.table_verify_laws.specs.Rules.{closed}
use Rattle.table_verify_rules.specs.steps.Leasts.{IsLeastOpen}
use Rattle.table_verify_rules.proofs.Broken.{first_closed, none_broken, verdict_at, verdict_kept}
use Rattle.table_verify_rules.proofs.verifying.broken_by_closedness.Goals as goal

pub returns-in-Ok-Some : goal.returns-in-Ok-Some
returns-in-Ok-Some c =
    let T = entries_so c.args.table.now in let C = entries_so c.args.cert.now in let M = sources_so c.args.sources.now in
    let K = found c.in_ok-known.known in let fs = all_functions (trees M) in
    verdict_at T C M closed c.in-Ok-Some.home
    (first_closed T C M c.requires.modules c.requires.sources c.requires.functions K c.in_ok-known.ensures c.in-Ok-Some.home (subst (IsLeastOpen fs K fs) c.in-Ok-Some.field-0-is c.in-Ok-Some.ensures))

pub returns-in-Ok-None : goal.returns-in-Ok-None
returns-in-Ok-None c =
    let T = entries_so c.args.table.now in let C = entries_so c.args.cert.now in let M = sources_so c.args.sources.now in
    let K = found c.in_ok-known.known in let fs = all_functions (trees M) in
    verdict_kept T C M (none_broken T C M c.requires.modules c.requires.sources c.requires.functions K c.in_ok-known.ensures (subst (IsLeastOpen fs K fs) c.in-Ok-None.field-0-is c.in-Ok-None.ensures))
