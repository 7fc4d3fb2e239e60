use Rattle.std.proofs.Common.{◌≡◌, sym, ◌∙◌}
use Rattle.std.proofs.lemmas.Result.{IfOk-weaker}
use Rattle.type_lattice.specs.Types.{any}
use Rattle.cons_tree.specs.Environments.{type_at}
use Rattle.cons_tree.proofs.TrailLaws.{at_past}
use Rattle.cons_tree.proofs.slots.Slots.shared_at.Goals as goal

pub returns-in-None : goal.returns-in-None
returns-in-None c =
    let xs = c.args.self.now.types in
    IfOk-weaker c.shared_any.result (λ t. t ≡ any) (λ t. t ≡ type_at xs c.args.slot) (λ t h. h ∙ at_past xs c.args.slot (sym c.in-None.ensures.value)) c.shared_any.ensures
