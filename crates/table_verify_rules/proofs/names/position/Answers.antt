use Rattle.table_verify_rules.proofs.Sources.{searched}
use Rattle.table_verify_rules.proofs.names.position.Goals as goal

pub returns : goal.returns
returns c = searched c.args.names.now c.args.name.now c.requires c.binary_search.result c.ok.result c.binary_search.ensures.bound c.binary_search.ensures.position c.ok.ensures.value
