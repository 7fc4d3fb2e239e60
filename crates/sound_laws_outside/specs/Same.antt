-- Lists of modules that differ in their order alone.
use Rattle.std.specs.Prelude.{List, Contains}
use Rattle.core_ast.specs.Model as m

-- two lists have the same modules
pub record SameModules (xs ys : List m.Module) : Type 0 where
  pub there : (x : m.Module) → Contains xs x → Contains ys x
  pub back : (x : m.Module) → Contains ys x → Contains xs x
