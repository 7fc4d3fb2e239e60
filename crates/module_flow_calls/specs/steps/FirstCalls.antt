-- The walk for calls by literal names: what it has met, and what it has found.
use Rattle.std.specs.Prelude.{◌≡◌, false, List, [], ◌∷◌, ◌++◌}
use Rattle.type_kinds.specs.declared.atom.Atom.{Atom}
use Rattle.core_ast.specs.declared.syntax.Expr.{Expr}
use Rattle.core_ast.specs.declared.syntax.FunName.{FunName}
use Rattle.core_ast.specs.declared.syntax.Mark.{Mark}
use Rattle.core_ast.specs.declared.syntax.StepOf.{StepOf}
use Rattle.core_ast.specs.declared.syntax.StepOf.TheVariants.{Let, Do}
use Rattle.core_ast.specs.declared.syntax.TryOf.{TryOf}
use Rattle.core_ast.specs.Tree.{tree}
use Rattle.cons_gen_rows.specs.Members.{is_member}
use Rattle.cons_tree.specs.declared.parts.Callee.{Callee}
use Rattle.warn_list.specs.declared.finding.Finding.{Finding}
use Rattle.warn_list.specs.declared.finding.FindingKind.TheVariants.{UnknownFunction}
use Rattle.module_flow_calls.specs.declared.node_context.NodeContext.{NodeContext}
use Rattle.module_flow_calls.specs.declared.unknown.NamingWalk.{NamingWalk}
use Rattle.module_flow_calls.specs.NodeContext.{at_node}
use Rattle.module_flow_calls.specs.Unknown.{Naming, namings, is_named, found_first}

abbrev pub MemberTables : Type 0
MemberTables = List (Atom × List FunName)

-- no function is there
abbrev pub none_named : MemberTables → Type 0
none_named members = (h : Atom) (f : FunName) → is_member members h f ≡ false

-- the functions of these calls are there, and no others
abbrev pub AreNamed : MemberTables → List Naming → Type 0
AreNamed members before = (c : Naming) → is_member members c.home c.name ≡ is_named before c

-- these calls, the last first, and then those before them
abbrev pub named_after : (before : List Naming) → List Naming → List Naming
named_after before [] = before
named_after before (c ∷ cs) = named_after (c ∷ before) cs

-- from one state to the other these calls were met, one after another
pub record Notes (callees : Atom → FunName → Callee) (old new : NamingWalk) (cs : List Naming) : Type 0 where
  pub found : (before : List Naming) → AreNamed old.named before → new.found ≡ old.found ++ found_first before callees cs
  pub named : (before : List Naming) → AreNamed old.named before → AreNamed new.named (named_after before cs)

-- whatever these calls lead to from the first state, those lead to from the second
abbrev pub Leads : (callees : Atom → FunName → Callee) → (now : NamingWalk) → (left : List Naming) → (first : NamingWalk) → (whole : List Naming) → Type 0
Leads callees now left first whole = (last : NamingWalk) → Notes callees now last left → Notes callees first last whole

abbrev pub with_found : NamingWalk → List Finding → NamingWalk
with_found w fs = record w { found = w.found ++ fs }

-- the call of a function
abbrev pub naming_of : NodeContext → Mark → Atom → FunName → Naming
naming_of a i home f = record { home = home; name = f; found = at_node a i (UnknownFunction home f) }

-- the calls in the parts of a `try`
abbrev pub try_namings : NodeContext → TryOf Expr → List Naming
try_namings a x = namings a (tree x.arg) ++ namings a (tree x.body) ++ namings a (tree x.handler)

-- the expression of a step
abbrev pub step_expression : StepOf Expr → Expr
step_expression (Let k xs e) = e
step_expression (Do k e) = e
