use Rattle.std.specs.Prelude.{slice_index}
use Rattle.std.proofs.lemmas.List.Elements.{Contains-get_or}
use Rattle.table_keep.proofs.grouping.members_at.Goals as goal

pub member_at-requires : goal.member_at-requires
member_at-requires c = c.requires (slice_index c.args.places.now c.loop-place.place-index) (Contains-get_or c.args.places.now c.loop-place.place-index 0 c.loop-place-test.true)
