-- The function that a member of a component is.
use Rattle.core_ast.specs.Tree.{tree}
use Rattle.comp_rounds.specs.declared.members.Member.{Member}
use Rattle.comp_rounds.specs.Rounds.{Function}

abbrev pub function_of : Member → Function
function_of x = record {
  home = x.home;
  name = x.def.name;
  parameters = x.def.fun.params;
  body = tree x.def.fun.body;
  exported = x.exported;
}
