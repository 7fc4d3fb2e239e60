use Rattle.std.proofs.Common.{[], sym, arith}
use Rattle.std.proofs.lemmas.Option.{get_or_from_slice_get}
use Rattle.components.proofs.Orders.{first_low, rank_room, give_step, give_falls}
use Rattle.components.proofs.ready.Order.give.Goals as goal

pub index_mut-requires : goal.index_mut-requires
index_mut-requires c = omega (arith, c.requires.taken.1.sizes, first_low _ _ _ _ _ _ _ _ c.requires.taken.1 c.requires.taken.2)

pub overflow_add-self : goal.overflow_add-self
overflow_add-self c =
    omega (arith, rank_room _ _ _ _ _ _ _ _ c.requires.taken.1 c.requires.taken.2 c.requires.taken.3 c.requires.taken.4 c.requires.none)

pub replace-requires : goal.replace-requires
replace-requires c = omega (arith, c.requires.taken.1.tables, first_low _ _ _ _ _ _ _ _ c.requires.taken.1 c.requires.taken.2)

pub returns-clause-ordered : goal.returns-clause-ordered
returns-clause-ordered c =
    give_step _ _ _ _ _ _ _ _ _ _ _ c.requires.taken.1 c.requires.taken.2 c.requires.taken.3 c.requires.taken.4 c.requires.none c.replace.ensures.after c.new.ensures
    (sym (get_or_from_slice_get c.args.self.now.watchers c.args.component c.replace.result [] c.replace.ensures.before))

pub returns-clause-unranked : goal.returns-clause-unranked
returns-clause-unranked c = give_falls _ _ _ _ _ _ _ _ c.requires.taken.1 c.requires.taken.2 c.requires.taken.3 c.requires.taken.4 c.requires.none
