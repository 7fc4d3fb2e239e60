-- How many arguments a function takes; of anything it isn't asked.
use Rattle.std.specs.Prelude.{ℕ}
use Rattle.fun_flow_places.specs.declared.places.Item.{Item}
use Rattle.fun_flow_places.specs.declared.places.Item.TheVariants.{Anything, Closure, External}

abbrev pub arity_of : Item → ℕ
arity_of Anything = 0
arity_of (Closure home label arity) = arity
arity_of (External home f) = f.arity
