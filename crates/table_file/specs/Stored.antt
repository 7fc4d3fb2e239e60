-- What may stand of a used function.
use Rattle.std.specs.Prelude.{ℕ, Bool, true, false, ◌&&◌, nat_eq, length}
use Rattle.cons_tree.specs.declared.parts.Summary.{Summary}
use Rattle.cons_tree.specs.declared.parts.Callee.{Callee}
use Rattle.cons_tree.specs.declared.parts.Callee.TheVariants.{Known, Local, Undefined, Unknown}

-- whether both signatures of a summary have n arguments
abbrev pub takes : Summary → ℕ → Bool
takes s n = nat_eq (length s.strict.args) n && nat_eq (length s.lenient.args) n

-- whether it may be what stood of a function of n arguments that another module called
abbrev pub is_stored : Callee → ℕ → Bool
is_stored (Known s) n = takes s n
is_stored (Local s) n = false
is_stored Undefined n = true
is_stored Unknown n = true
