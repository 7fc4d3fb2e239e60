use Rattle.std.proofs.Common.{◌∙◌}
use Rattle.table_keep.proofs.MemberLaws.{search_has}
use Rattle.table_keep.proofs.members.is_member.Goals as goal

pub returns : goal.returns
returns c = c.is_ok.ensures.value
    ∙ search_has c.args.names.now c.args.name.now c.binary_search.result c.requires c.binary_search.ensures.bound c.binary_search.ensures.position
