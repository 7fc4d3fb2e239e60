use Rattle.std.proofs.Common.{◌∙◌, subst}
use Rattle.std.specs.Prelude.{Contains}
use Rattle.table_keep.proofs.grouping.group_list.Goals as goal

pub members_at-requires : goal.members_at-requires
members_at-requires c = λ place has. c.requires c.loop-component.component place (subst (λ l. Contains l place) (c.as_slice.ensures ∙ c.members.ensures.members) has)
