-- When what is known of functions is closed: where what each function's constraint gives, by what is known of all, lies below what is
-- known of the function. The constraint of a function and its greatest solution are those of the analysis (Lindahl and Sagonas,
-- "Practical type inference based on success typings"); how a solution is found plays no part here.
use Rattle.std.specs.Prelude.{◌≡◌, ◌↔◌, List, Contains, Some}
use Rattle.cons_tree.specs.declared.parts.Sig.{Sig}
use Rattle.cons_tree.specs.declared.parts.Summary.{Summary}
use Rattle.cons_gen_rows.specs.Passes.{Knowledge}
use Rattle.comp_rounds.specs.Rounds.{Callees, Function, arity, strict_pass, lenient_pass}
use Rattle.sound_laws.specs.Knowledge.{summary_of}
use Rattle.sound_laws.specs.Summaries.{IsWithin, solved}
use Rattle.sound_laws_outside.specs.Over.{Together}

-- These are the functions of the component of a function: it, and each that it reaches by calls and that reaches it.
pub record IsComponent (fs : List Function) (g : Function) (gs : List Function) : Type 0 where
  pub within : (k : Function) → Contains gs k → Contains fs k
  pub together : (k : Function) → Contains fs k → Contains gs k ↔ Together fs g k

-- What the function's constraint gives by what a pass knows lies below the signature: the parameters and the result in its greatest
-- solution, where every slot may have any value at first. Where it has none, that lies below every signature.
abbrev pub GivesBelow : Knowledge → Function → Sig → Type 0
GivesBelow P g s = IsWithin (arity g) (solved P g.home g.parameters g.body) s

-- By what is known of all functions, of which these are those of the program, this function gives no more than its summary says: in the
-- strict pass no more than the strict signature, and in the lenient pass, which asks nothing of calls inside the function's component,
-- no more than the lenient one.
pub record KeepsTo (fs : List Function) (K : Callees) (g : Function) (s : Summary) : Type 0 where
  pub strict : GivesBelow (strict_pass K) g s.strict
  pub component : List Function
  pub is : IsComponent fs g component
  pub lenient : GivesBelow (lenient_pass component K) g s.lenient

-- The function has a summary, and keeps to it.
pub record IsClosedAt (fs : List Function) (K : Callees) (g : Function) : Type 0 where
  pub summary : Summary
  pub known_so : summary_of (K g.home g.name) ≡ Some summary
  pub keeps : KeepsTo fs K g summary
