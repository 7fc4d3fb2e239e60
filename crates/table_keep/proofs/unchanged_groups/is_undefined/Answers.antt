use Rattle.table_keep.proofs.StandingEntries.{other_told, undefined_told}
use Rattle.table_keep.proofs.unchanged_groups.is_undefined.Goals as goal

pub returns-in-Undefined : goal.returns-in-Undefined
returns-in-Undefined c = undefined_told c.args.callee.now c.in-Undefined.is

pub returns-in_default : goal.returns-in_default
returns-in_default c = other_told c.args.callee.now c.in_default.not-Undefined
