-- Texts of accepted modules.
use Rattle.std.specs.Prelude.{◌≡◌, ℕ, List, []}
use Rattle.core_ast.specs.Model as m
use Rattle.core_scan.specs.declared.token.Token.{Token}
use Rattle.core_scan.specs.Bytes.{start}
use Rattle.core_scan.specs.Lexed.{Lexed}
use Rattle.core_parse_grammar.specs.Begins.{depth_limit}
use Rattle.core_parse_grammar.specs.Spells.{SpellsTo}
use Rattle.core_scope.specs.Breaks.{module_breaks}

-- The tokens of the text spell a module of this name without a node too deep, and it breaks no rule.
pub record SpellsAccepted (text name : List ℕ) : Type 0 where
  pub tokens : List Token
  pub tree : m.Module
  pub lexed : Lexed start text tokens
  pub spelled : SpellsTo depth_limit tokens tree
  pub sound : module_breaks tree ≡ []
  pub named : tree.name ≡ name
