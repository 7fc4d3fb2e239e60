-- What is known once functions have summaries.
use Rattle.std.proofs.Common.{◌≡◌, Bool, true, false, cond, List, [], ◌∷◌, length, refl, ap, ◌∙◌}
use Rattle.std.specs.Prelude.{◌||◌}
use Rattle.std.proofs.Math.Nat.{suc_inj}
use Rattle.comp_rounds.proofs.SameCallees.{pointwise}
use Rattle.type_kinds.proofs.Truths.{not_first, not_second}
use Rattle.type_kinds.specs.declared.atom.Atom.{Atom}
use Rattle.core_ast.specs.declared.syntax.FunName.{FunName}
use Rattle.cons_tree.specs.declared.parts.Summary.{Summary}
use Rattle.comp_rounds.specs.Rounds.{Function, Callees, is_named, is_member, callee_of, with_function, with_summaries}

-- two ways of knowing that differ at the functions alone
abbrev pub Off : List Function → Callees → Callees → Type 0
Off gs c d = (h : Atom) (f : FunName) → is_member gs h f ≡ false → c h f ≡ d h f

pub with_none : (c : Callees) (gs : List Function) → with_summaries c gs [] ≡ c
with_none c [] = refl
with_none c (g ∷ gs) = refl

-- a function with a summary hides what was known under its name
hidden : (g : Function) (gs : List Function) (s : Summary) (c d : Callees) → Off (g ∷ gs) c d → Off gs (with_function c g s) (with_function d g s)
hidden g gs s c d o h f e = by (is_named g h f) refl
  where
    by : (b : Bool) → is_named g h f ≡ b → cond b (callee_of g s) (c h f) ≡ cond b (callee_of g s) (d h f)
    by true n = refl
    by false n = o h f (ap (λ b. b || is_member gs h f) n ∙ e)

pub laid : (gs : List Function) (ss : List Summary) (c d : Callees) → length ss ≡ length gs → Off gs c d → with_summaries c gs ss ≡ with_summaries d gs ss
laid [] ss c d e o = pointwise c d (λ h f. o h f refl)
laid (g ∷ gs) [] c d e o = cc
laid (g ∷ gs) (s ∷ ss) c d e o = laid gs ss (with_function c g s) (with_function d g s) (suc_inj {m = length ss} {n = length gs} e) (hidden g gs s c d o)

-- what isn't one of the functions is known as before
pub kept : (gs : List Function) (ss : List Summary) (c : Callees) → Off gs (with_summaries c gs ss) c
kept [] ss c h f e = refl
kept (g ∷ gs) [] c h f e = refl
kept (g ∷ gs) (s ∷ ss) c h f e =
    kept gs ss (with_function c g s) h f (not_second (is_named g h f) (is_member gs h f) e)
    ∙ ap (λ b. cond b (callee_of g s) (c h f)) (not_first (is_named g h f) (is_member gs h f) e)

-- later summaries take the position of earlier ones
pub overwritten : (gs : List Function) (ss ts : List Summary) (c : Callees) → length ss ≡ length gs → with_summaries (with_summaries c gs ts) gs ss ≡ with_summaries c gs ss
overwritten gs ss ts c e = laid gs ss (with_summaries c gs ts) c e (kept gs ts c)
