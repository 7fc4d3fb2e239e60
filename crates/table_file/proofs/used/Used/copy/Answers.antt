use Rattle.table_file.proofs.SameLaws.{same_used}
use Rattle.table_file.proofs.used.Used.copy.Goals as goal

pub returns : goal.returns
returns c = same_used _ c.args.self.now c.in_ok-home.ensures c.in_ok-name.ensures c.in_ok-callee.ensures
