-- Which modules are accepted, and what is answered of the others.
use Rattle.std.specs.Prelude.{◌≡◌, ℕ, ◌<◌, ◌⊎◌, List, [], Contains}
use Rattle.core_ast.specs.Model as m
use Rattle.core_scan.specs.declared.token.Token.{Token}
use Rattle.core_scan.specs.Bytes.{start}
use Rattle.core_scan.specs.Lexed.{Lexed}
use Rattle.core_parse_grammar.specs.Spells.{SpellsModule}
use Rattle.core_scope.specs.declared.fault.ScopeRule.{ScopeRule}
use Rattle.core_scope.specs.declared.fault.ScopeRule.TheVariants.{BoundVariables, DistinctVariables, DefinedFunctions, DistinctFunctions, DefinedExports, Degrees}
use Rattle.core_scope.specs.declared.fault.Break.{Break}
use Rattle.core_scope.specs.declared.fault.ScopeFault.{ScopeFault}
use Rattle.core_scope.specs.declared.fault.ScopeFault.TheVariants.{Unbound, RepeatedVariable, UndefinedFunction, RepeatedFunction, BadExport, Degree}
use Rattle.core_scope.specs.Breaks.{module_breaks}

-- Some text spells the module: its tokens do.
pub record TextOf (x : m.Module) : Type 0 where
  pub text : List ℕ
  pub tokens : List Token
  pub lexed : Lexed start text tokens
  pub spells : SpellsModule tokens x

abbrev pub IsSpelled : m.Module → Type 0
IsSpelled x = ∥ TextOf x ∥₁

-- Some text spells the module, and it breaks no rule.
pub record IsAccepted (x : m.Module) : Type 0 where
  pub spelled : IsSpelled x
  pub sound : module_breaks x ≡ []

-- ---- the first break

-- the number of a rule
abbrev pub rule_number : ScopeRule → ℕ
rule_number BoundVariables = 8
rule_number DistinctVariables = 9
rule_number DefinedFunctions = 10
rule_number DistinctFunctions = 11
rule_number DefinedExports = 12
rule_number Degrees = 13

-- One break comes before another: at an earlier byte, or at its byte on an earlier line, or at its place with a
-- lower number. In a text each byte has one line; the order goes by both, so that it is total on all places.
abbrev pub IsBefore : Break → Break → Type 0
IsBefore a b =
    (a.place.byte < b.place.byte)
    ⊎ ((a.place.byte ≡ b.place.byte) × ((a.place.line < b.place.line) ⊎ ((a.place.line ≡ b.place.line) × (rule_number a.rule < rule_number b.rule))))

-- The module breaks this, and nothing before it.
pub record FirstBreak (x : m.Module) (b : Break) : Type 0 where
  pub broken : Contains (module_breaks x) b
  pub first : (a : Break) → Contains (module_breaks x) a → IsBefore a b → ⊥

-- The fault that names a break.
abbrev pub fault_of : Break → ScopeFault
fault_of b = by b.rule
  where
    by : ScopeRule → ScopeFault
    by BoundVariables = Unbound b.place
    by DistinctVariables = RepeatedVariable b.place
    by DefinedFunctions = UndefinedFunction b.place
    by DistinctFunctions = RepeatedFunction b.place
    by DefinedExports = BadExport b.place
    by Degrees = Degree b.place
