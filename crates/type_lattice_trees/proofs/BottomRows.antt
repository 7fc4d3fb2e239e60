-- Rows at level 0: each element is every value.
use Rattle.std.proofs.Common.{◌≡◌, ℕ, zero, suc, List, Some, slice_index_or, refl, arith}
use Rattle.type_lattice_model.specs.HasType.{HasAt, HasRow, HasBody}
use Rattle.type_lattice_model.specs.Laws.{BelowBy}
use Rattle.type_lattice_trees.specs.declared.node.Node.{Node}
use Rattle.type_lattice_trees.specs.declared.node.BodyOf.{BodyOf}
use Rattle.type_lattice_trees.specs.declared.node.BodyOf.TheVariants as of_body
use Rattle.type_lattice_trees.specs.View.{Fits, row_view, body_view, RowFits, BodyFits}
use Rattle.type_lattice_trees.proofs.Views.{zero_fits, each_at}
use Rattle.type_lattice_trees.proofs.Inclusions.{below_any, row_length, row_below}
use Rattle.type_lattice_trees.proofs.CutTrees.{tags_fit}

pub bottom_below : (d n : ℕ) (a b : List Node) → d ≡ 0 → RowFits d n a → RowFits d n b → BelowBy (HasRow (HasAt d)) (Some (row_view d a)) (Some (row_view d b))
bottom_below zero n a b z f g =
    row_below 0 n a b f g (λ k lt x. below_any 0 (slice_index_or a k x) (slice_index_or b k x) (zero_fits (slice_index_or b k x) (each_at (Fits 0) b g.each k x (omega (arith, lt, row_length 0 n a f, row_length 0 n b g)))))
bottom_below (suc d) n a b z f g = absurd (omega (arith, z))

-- there are no tags there
pub bottom_bodies : (d n : ℕ) (a b : BodyOf Node) → d ≡ 0 → BodyFits d n a → BodyFits d n b → BelowBy (HasBody (HasAt d)) (Some (body_view d a)) (Some (body_view d b))
bottom_bodies (suc d) n a b z f g = absurd (omega (arith, z))
bottom_bodies zero n (of_body.Tags ts) b z f g = absurd (let h = (tags_fit 0 n ts f).1 in omega (arith, h))
bottom_bodies zero n (of_body.Product xs) (of_body.Tags ts) z f g = absurd (let h = (tags_fit 0 n ts g).1 in omega (arith, h))
bottom_bodies zero n (of_body.Product xs) (of_body.Product ys) z f g = bottom_below 0 n xs ys refl (record { normal = f.normal.0; each = f.each }) (record { normal = g.normal.0; each = g.each })
