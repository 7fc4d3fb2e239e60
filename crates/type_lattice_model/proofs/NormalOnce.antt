-- That a type is in normal form has at most one proof.
use Rattle.std.specs.Prelude.{ℕ, zero, suc, List, [], ◌∷◌, Option, Some, None}
use Rattle.std.specs.Coded.{Coded-set, codes}
use Rattle.type_lattice_model.specs.Shapes.{Functions, of_arity, Cell, Body, tags, Tuples, sizes, all_tuples, TypeAt}
use Rattle.type_lattice_model.specs.Tables.{EachOf}
use Rattle.type_lattice_model.specs.Operations.{Ops, ops}
use Rattle.type_lattice_model.specs.Normal.{NormalFunctions, NormalCell, FirstIsOpen, NormalBody, NormalTuples, NormalAt}

each_once : {A : Type 0} (Q : A → Type 0) → ((x : A) → IsProp (Q x)) → (xs : List A) → IsProp (EachOf Q xs)
each_once Q f [] = hlevel
each_once Q f (x ∷ xs) = hlevel (f, each_once Q f xs)

ruleset once_each = (each_once, Coded-set, codes)

functions_once : (f : Functions) → IsProp (NormalFunctions f)
functions_once (of_arity n) = hlevel once_each
functions_once f = hlevel

module _ {E : Type 0} (Normal : E → Type 0) (o : Ops E) (once : (e : E) → IsProp (Normal e)) where
  cell_once : (c : Option (Cell E)) → IsProp (NormalCell Normal o c)
  cell_once None = hlevel
  cell_once (Some c) = hlevel (once_each, once)

  first_once : (es : List E) → IsProp (FirstIsOpen Normal o es)
  first_once [] = hlevel
  first_once (e ∷ es) = hlevel once_each

  body_once : (b : Option (Body E)) (n : ℕ) → IsProp (NormalBody Normal o n b)
  body_once (Some (tags m)) (suc n) = hlevel (once_each, once)
  body_once b n = hlevel (once_each, once, first_once)

  tuples_once : (t : Tuples E) → IsProp (NormalTuples Normal o t)
  tuples_once (sizes m) = hlevel (once_each, body_once)
  tuples_once all_tuples = hlevel

pub normal_once : (d : ℕ) (t : TypeAt d) → IsProp (NormalAt d t)
unfolding NormalAt
normal_once zero t = hlevel
normal_once (suc d) t = hlevel (functions_once, cell_once (NormalAt d) (ops d) (normal_once d), tuples_once (NormalAt d) (ops d) (normal_once d))
