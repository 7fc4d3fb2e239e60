-- Constraints over parts of any kind, and the constraint that the code's tree stands for.
use Rattle.std.specs.Prelude.{List, [], ◌∷◌, map}
use Rattle.cons_tree.specs.declared.parts.Part.{Part}
use Rattle.cons_tree.specs.declared.parts.Constraint.{Constraint}
use Rattle.cons_tree.specs.declared.parts.Constraint.TheOpen.{Constraint-F}
use Rattle.cons_tree.specs.declared.parts.Constraint.TheFolds.{fold-Constraint}

module _ (P : Type 0) where
  mutual
    pub data Cons : Type 0 where
      only : (p : P) → Cons
      all_of : (cs : ConsList) → Cons
      any_of : (cs : ConsList) → Cons

    pub data ConsList : Type 0 where
      no_cons : ConsList
      and_cons : (c : Cons) (cs : ConsList) → ConsList

abbrev pub listed : List (Cons Part) → ConsList Part
listed [] = no_cons
listed (c ∷ cs) = and_cons c (listed cs)

-- one layer of the tree, whose members are constraints of the model already
abbrev pub layer : Constraint-F (Cons Part) → Cons Part
layer (Constraint-F.Part p) = only p
layer (Constraint-F.All cs) = all_of (listed cs)
layer (Constraint-F.Any cs) = any_of (listed cs)

-- the constraint of a tree, and those of a list of trees
unfoldable pub constraint : Constraint → Cons Part
constraint = fold-Constraint (Cons Part) layer

abbrev pub constraints : List Constraint → ConsList Part
constraints cs = listed (map constraint cs)
