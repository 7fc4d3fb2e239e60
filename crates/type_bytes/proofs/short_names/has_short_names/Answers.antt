use Rattle.std.proofs.Common.{ap, ◌∙◌}
use Rattle.type_bytes.specs.ShortNames.{is_short_at, has_short_names}
use Rattle.type_bytes.proofs.short_names.has_short_names.Goals as goal

pub returns : goal.returns
unfolding has_short_names
returns c = c.is_short.ensures ∙ ap (is_short_at 4) c.node.ensures.value
