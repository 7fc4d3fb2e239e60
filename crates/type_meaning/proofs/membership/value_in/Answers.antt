use Rattle.std.proofs.Common.{subst}
use Rattle.std.specs.Prelude.{◌↔◌, IsTrue}
use Rattle.type_lattice_model.specs.HasType.{HasAt}
use Rattle.type_lattice.specs.Types.{HasType}
use Rattle.type_meaning.specs.Values.{value_of}
use Rattle.type_meaning.proofs.membership.value_in.Goals as goal

pub returns : goal.returns
unfolding HasType
returns c = subst (λ t. IsTrue c.is_in.result ↔ HasAt 4 (value_of c.args.v.now) t) c.node.ensures.value c.is_in.ensures
