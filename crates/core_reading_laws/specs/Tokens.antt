-- What tokens are, and whether modules break a rule.
use Rattle.std.specs.Prelude.{◌≡◌, ◌⊎◌, List, []}
use Rattle.type_kinds.specs.declared.place.Place.{Place}
use Rattle.core_ast.specs.Model as m
use Rattle.core_scan.specs.declared.token.Token.{Token}
use Rattle.core_parse_grammar.specs.Begins.{FailsAt, SinksAt, TooShort, IsModule}
use Rattle.core_scope.specs.declared.fault.Break.{Break}
use Rattle.core_scope.specs.Accepted.{FirstBreak}
use Rattle.core_scope.specs.Breaks.{module_breaks}

-- The tokens spell a module without a node too deep, and no other; or one of them is the first up to which no module's tokens go, or the
-- first at which a node too deep begins; or all of them begin a module without a node too deep, and they spell none.
pub data AreDecided (ts : List Token) : Type 0 where
  spelled : (x : m.Module) → IsModule ts x → AreDecided ts
  failed : (place : Place) → FailsAt ts place → AreDecided ts
  sunk : (place : Place) → SinksAt ts place → AreDecided ts
  short : TooShort ts → AreDecided ts

-- A module breaks no rule, or has a first break.
abbrev pub SomeFirstBreak : Type 0
SomeFirstBreak = (x : m.Module) → (module_breaks x ≡ []) ⊎ ((b : Break) × FirstBreak x b)
