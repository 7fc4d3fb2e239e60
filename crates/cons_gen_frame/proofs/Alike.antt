-- What a call from another module can tell of a function is, for such a call, what is known of it.
use Rattle.std.proofs.Common.{inl, inr, refl}
use Rattle.cons_tree.specs.declared.parts.Callee.{Callee}
use Rattle.cons_tree.specs.declared.parts.Callee.TheVariants.{Known, Local, Undefined, Unknown}
use Rattle.cons_tree.specs.Callees.{as_called}
use Rattle.cons_gen_frame.specs.Agreement.{AreAlike}

pub called_alike : (x : Callee) → AreAlike (as_called x) x
called_alike (Known s) = inl refl
called_alike (Local s) = inr (tt, tt)
called_alike Undefined = inl refl
called_alike Unknown = inl refl
