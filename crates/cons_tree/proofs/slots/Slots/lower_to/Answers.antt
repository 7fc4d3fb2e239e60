use Rattle.std.proofs.Common.{refl, sym, ap, ◌∙◌, subst, true≢false}
use Rattle.type_lattice.specs.Types.{Below, meet}
use Rattle.cons_tree.specs.Environments.{type_at}
use Rattle.cons_tree.proofs.TrailLaws.{lowered_is, stays, meet_smaller}
use Rattle.cons_tree.proofs.slots.Slots.lower_to.Goals as goal

pub returns-then-leq-clause-value : goal.returns-then-leq-clause-value
returns-then-leq-clause-value c =
    let laws = c.type_laws.ensures in
    stays laws.same laws.both c.args.self.now.types c.args.slot c.args.ty c.has_value.result (subst (λ u. Below u c.args.ty) c.at.ensures (c.leq.ensures.below.0 c.if-leq.true)) c.has_value.ensures

pub put-requires-clause-smaller : goal.put-requires-clause-smaller
put-requires-clause-smaller c =
    let laws = c.type_laws.ensures in
    let xs = c.args.self.now.types in
    meet_smaller laws.same laws.both xs c.args.slot (type_at xs c.args.slot) c.args.ty c.in_ok-met.met refl (c.in_ok-met.ensures ∙ ap (meet (type_at xs c.args.slot)) c.in_ok-shared.ensures)
    (λ h. true≢false (sym (c.leq.ensures.below.1 (subst (λ u. Below u c.args.ty) (sym c.at.ensures) h)) ∙ c.if-leq.false))

pub returns-clause-value : goal.returns-clause-value
returns-clause-value c =
    let xs = c.args.self.now.types in
    lowered_is c.put.result xs c.put.new.self.types c.args.slot c.args.ty (type_at xs c.args.slot) c.in_ok-met.met refl (c.in_ok-met.ensures ∙ ap (meet (type_at xs c.args.slot)) c.in_ok-shared.ensures) c.put.ensures.value
