use Rattle.std.proofs.Common.{◌≡◌, ℕ, ◌↔◌, ◌⊎◌, subst}
use Rattle.std.specs.Prelude.{Contains}
use Rattle.components.proofs.Sets.{inserted}
use Rattle.components.proofs.node_set.NodeSet.insert.Goals as goal
use Rattle.components.proofs.node_set.NodeSet.insert.Goals.{in-Ok, in-Err}

pub returns : goal.returns
returns c =
    elim c.match-insert.branch [
      | in-Ok w ↦ rw w.result-is
          (subst (λ keys. (x : ℕ) → Contains c.insert.new.self.keys x ↔ (Contains keys x ⊎ (x ≡ c.args.node))) c.self.view_is
          (inserted c.self.inside.nodes.keys c.insert.new.self.keys c.args.node w.in-Ok.ensures.updates.0))
      | in-Err w ↦ rw w.result-is tt
    ]
