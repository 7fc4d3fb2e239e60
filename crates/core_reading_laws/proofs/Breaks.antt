-- A module breaks no rule, or has a first break.
use Rattle.std.proofs.Common.{◌≡◌, ◌⊎◌, inl, inr, [], Option, None, Some, refl, sym}
use Rattle.core_ast.specs.Model as m
use Rattle.core_scope.specs.declared.fault.Break.{Break}
use Rattle.core_scope.specs.Accepted.{FirstBreak}
use Rattle.core_scope.specs.Breaks.{module_breaks}
use Rattle.core_scope.specs.steps.State.{first_of}
use Rattle.core_scope.proofs.FirstBreaks.{first_is, none_broken}

pub first_break : (x : m.Module) → (module_breaks x ≡ []) ⊎ ((b : Break) × FirstBreak x b)
first_break x = by (first_of None (module_breaks x)) refl
  where
    by : (o : Option Break) → first_of None (module_breaks x) ≡ o → (module_breaks x ≡ []) ⊎ ((b : Break) × FirstBreak x b)
    by None e = inl (none_broken (module_breaks x) (sym e))
    by (Some b) e = inr (b, first_is x b (sym e))
