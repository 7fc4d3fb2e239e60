use Rattle.std.proofs.Common.{◌<◌, [], subst, sym}
use Rattle.std.proofs.lemmas.Option.{get_or_from_slice_get}
use Rattle.components.specs.Lists.{Ascending}
use Rattle.components.specs.Numbering.{Numbering}
use Rattle.components.proofs.numbering.Comps.members.Goals as goal

pub returns-clause-ascending : goal.returns-clause-ascending
returns-clause-ascending c =
    let low : c.args.component < c.self.inside.count = subst (λ (n : Numbering). c.args.component < n.count) (sym c.self.view_is) c.requires in
    let is = sym (get_or_from_slice_get c.self.inside.members c.args.component c.at.result.now [] c.at.ensures) in
    subst Ascending (sym is) (c.self.invariant.members_sorted c.args.component low)
