-- What holds of the tree of every accepted module.
use Rattle.core_scope.specs.declared.checked.Checked.{Checked}
use Rattle.core_scope.specs.Accepted.{IsAccepted}
use Rattle.core_scope.specs.Checked.{tree_of, is_accepted}
use Rattle.core_scope.specs.Names.{Distinct, defined_names}
use Rattle.core_scope.proofs.Unbroken.{module_defined_once}

pub checked_once : (c : Checked) → Distinct (defined_names (tree_of c).defs)
checked_once c = module_defined_once (tree_of c) (is_accepted c).sound

pub checked_accepted : (c : Checked) → IsAccepted (tree_of c)
checked_accepted c = is_accepted c

pub ruleset checked_laws = (checked_once, checked_accepted)
