use Rattle.std.proofs.Common.{◌↔◌, IsTrue, IfOk, sym, subst}
use Rattle.table_keep.specs.Model.{entry_so, source_so}
use Rattle.table_verify_rules.specs.steps.Asked.{Asked}
use Rattle.table_verify_rules.proofs.entries.is_so.Goals as goal

pub returns-in-SameFunctions : goal.returns-in-SameFunctions
returns-in-SameFunctions c =
    subst (λ rule. IfOk c.lists_functions.result (λ b. IsTrue b ↔ Asked rule (entry_so c.args.entry.now) (entry_so c.args.certified.now) (source_so c.args.source.now)))
    (sym c.in-SameFunctions.is) c.lists_functions.ensures
