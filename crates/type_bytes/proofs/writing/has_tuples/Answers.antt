use Rattle.std.proofs.Common.{not, sym, ap, ◌∙◌}
use Rattle.type_lattice_trees.specs.View.{tuples_view}
use Rattle.type_lattice_trees.proofs.Views.{no_sizes}
use Rattle.type_bytes.specs.Spelling.{has_tuples, bytes_at}
use Rattle.type_bytes.proofs.writing.has_tuples.Goals as goal

pub returns-in-Sizes : goal.returns-in-Sizes
returns-in-Sizes c d =
    ap not (no_sizes d c.in-Sizes.sizes c.is_empty.result c.is_empty.ensures) ∙ ap (λ t. has_tuples (bytes_at d) (tuples_view d t)) (sym c.in-Sizes.is)
