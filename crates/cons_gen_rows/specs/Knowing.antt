-- What the code's passes and summaries stand for.
use Rattle.std.specs.Prelude.{Bool, true, false}
use Rattle.type_kinds.specs.declared.atom.Atom.{Atom}
use Rattle.core_ast.specs.declared.syntax.FunName.{FunName}
use Rattle.cons_tree.specs.Callees.{Tables, found}
use Rattle.cons_gen_rows.specs.Members.{is_member}
use Rattle.cons_gen_rows.specs.Passes.{Knowledge}
use Rattle.cons_gen_rows.specs.declared.passes.Pass.TheVariants.{Strict, Lenient}
use Rattle.cons_gen_rows.specs.declared.passes.Pass.{Pass}

abbrev pub is_lenient : Pass → Bool
is_lenient Strict = false
is_lenient (Lenient members) = true

-- whether the pass knows nothing of the calls of a function, since it is the component's own
abbrev pub is_own : Pass → Atom → FunName → Bool
is_own Strict h f = false
is_own (Lenient members) h f = is_member members h f

-- what a pass knows by these summaries
abbrev pub knowledge : Pass → Tables → Knowledge
knowledge pass known = record { lenient = is_lenient pass; own = is_own pass; callee = found known }
