use Rattle.std.proofs.Common.{refl, ◌∙◌}
use Rattle.type_kinds_sets.specs.Numbers as numbers
use Rattle.type_kinds_sets.specs.declared.bits.Bits.TheVariants.{Any}
use Rattle.type_kinds_sets.specs.declared.ends.Low.TheVariants.{Min}
use Rattle.type_kinds_sets.specs.declared.ends.High.TheVariants.{Max}
use Rattle.type_lattice_model.specs.Operations.{all_flags}
use Rattle.type_lattice_model.specs.Shapes.{all_functions}
use Rattle.type_lattice_trees.proofs.plain.Plain.all.Goals as goal

pub returns : goal.returns
returns c = λ n. record { atoms = c.all.ensures n; ints = (c.range.ensures.value ∙ numbers.range-yes Min Max refl) n; bits = Any; flags = all_flags; functions = all_functions }
