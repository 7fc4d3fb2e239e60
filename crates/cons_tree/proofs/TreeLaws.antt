-- What each kind of a tree of constraints stands for.
use Rattle.std.proofs.Common.{◌≡◌, List, ap, ◌∙◌}
use Rattle.cons_tree.specs.Constraints.{Cons, only, all_of, any_of, layer, constraint, constraints}
use Rattle.cons_tree.specs.declared.parts.Part.{Part}
use Rattle.cons_tree.specs.declared.parts.Constraint.{Constraint, out-Constraint}
use Rattle.cons_tree.specs.declared.parts.Constraint.TheVariants as tree
use Rattle.cons_tree.specs.declared.parts.Constraint.TheOpen.{Constraint-F}
use Rattle.cons_tree.specs.declared.parts.Constraint.TheFolds.{map-Constraint, fold_out-Constraint}

stands_for : (x : Constraint) (y : Constraint-F Constraint) → out-Constraint x ≡ y → constraint x ≡ layer (map-Constraint Constraint (Cons Part) constraint y)
unfolding constraint
stands_for x y is = fold_out-Constraint (Cons Part) layer x ∙ ap (λ l. layer (map-Constraint Constraint (Cons Part) constraint l)) is

pub of_part : (p : Part) → constraint (tree.Part p) ≡ only p
of_part p = stands_for (tree.Part p) _ (tree.outs-Part p)

pub of_all : (cs : List Constraint) → constraint (tree.All cs) ≡ all_of (constraints cs)
of_all cs = stands_for (tree.All cs) _ (tree.outs-All cs)

pub of_any : (cs : List Constraint) → constraint (tree.Any cs) ≡ any_of (constraints cs)
of_any cs = stands_for (tree.Any cs) _ (tree.outs-Any cs)
