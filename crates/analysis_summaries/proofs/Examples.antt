-- What is known before any component is solved, worked by hand: over what stands of `'c'` and `'d'`, `'a'` and `'c'` are solved.
use Rattle.std.proofs.Common.{◌≡◌, [], ◌∷◌, refl}
use Rattle.std.specs.Prelude.{codes}
use Rattle.core_ast.specs.declared.syntax.FunName.{FunName}
use Rattle.cons_tree.specs.declared.parts.Callee.TheVariants.{Known, Undefined, Unknown}
use Rattle.cons_tree.specs.declared.parts.Summary.{Summary}
use Rattle.comp_rounds.specs.Rounds.{Callees, with_callee}
use Rattle.analysis_summaries.specs.Known.{all_unknown, closed_over}

module _ (s : Summary) where
  abbrev f : FunName
  f = record { name = codes "f"; arity = 1 }

  -- of `'f'/1` a summary is known, in `'c'` and in `'d'`, and of no other function anything
  abbrev stands : Callees
  stands = with_callee (with_callee all_unknown (codes "c") f (Known s)) (codes "d") f (Known s)

  abbrev first : Callees
  first = closed_over stands (codes "a" ∷ codes "c" ∷ [])

  -- a module that is solved has no function yet, whatever stood of it
  own : first (codes "a") f ≡ Undefined
  own = refl

  own_that_stood : first (codes "c") f ≡ Undefined
  own_that_stood = refl

  -- of another module it is known what stands
  other : first (codes "d") f ≡ Known s
  other = refl

  other_name : first (codes "d") (record { name = codes "f"; arity = 2 }) ≡ Unknown
  other_name = refl

  nowhere : first (codes "e") f ≡ Unknown
  nowhere = refl
