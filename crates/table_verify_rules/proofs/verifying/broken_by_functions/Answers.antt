use Rattle.std.proofs.Common.{subst}
use Rattle.table_keep.specs.Model.{entries_so, sources_so}
use Rattle.table_verify_laws.specs.Rules.{same_functions}
use Rattle.table_verify_rules.specs.declared.entries.EntryRule.TheVariants.{SameFunctions}
use Rattle.table_verify_rules.specs.steps.Leasts.{IsLeastBreaking}
use Rattle.table_verify_rules.proofs.Broken.{all_keep, first_functions, verdict_at}
use Rattle.table_verify_rules.proofs.verifying.broken_by_functions.Goals as goal

pub returns-in-Some : goal.returns-in-Some
returns-in-Some c =
    let T = entries_so c.args.table.now in let C = entries_so c.args.cert.now in let M = sources_so c.args.sources.now in
    verdict_at T C M same_functions c.in-Some.home
    (first_functions T C M c.requires.modules c.requires.sources c.in-Some.home (subst (IsLeastBreaking SameFunctions T C M M) c.in-Some.is c.in_ok-home.ensures))

pub broken_by_closedness-requires-clause-functions : goal.broken_by_closedness-requires-clause-functions
broken_by_closedness-requires-clause-functions c =
    let T = entries_so c.args.table.now in let C = entries_so c.args.cert.now in let M = sources_so c.args.sources.now in
    all_keep T C M SameFunctions (subst (IsLeastBreaking SameFunctions T C M M) c.in-None.is c.in_ok-home.ensures)
