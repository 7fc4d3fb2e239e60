use Rattle.std.proofs.Common.{◌∙◌}
use Rattle.core_scan.proofs.ShapeLemmas.{variable_found}
use Rattle.core_scan.proofs.shapes.variable.Goals as goal

pub returns-clause-ok : goal.returns-clause-ok
returns-clause-ok c = variable_found c.args.rest.now c.name_len-len.result c.name_len-len.ensures.run c.from_bytes.result c.requires (c.from_bytes.ensures ∙ c.in_ok-name.ensures)
