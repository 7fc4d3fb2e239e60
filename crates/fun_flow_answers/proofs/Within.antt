-- The positions in a list of applications are those of modules.
use Rattle.std.proofs.Common.{◌≡◌, ℕ, zero, suc, ◌<◌, Bool, true, false, if◌then◌else◌, List, [], ◌∷◌, length, Option, None, Some, refl, subst, arith}
use Rattle.std.specs.Prelude.{Contains}
use Rattle.std.specs.List.{All}
use Rattle.std.proofs.lemmas.List.Elements.{All-contains_itself, All-weaker}
use Rattle.std.proofs.lemmas.Option.{same_Some, slice_get_within}
use Rattle.type_kinds.specs.declared.atom.Atom.{Atom}
use Rattle.core_ast.specs.Model as m
use Rattle.core_scope.specs.Asks.{function_name}
use Rattle.core_scope.specs.Names.{same_atom}
use Rattle.type_lattice_model.specs.Values.{Local}
use Rattle.core_meaning.specs.Programs.{Program, locals_of, module_named}
use Rattle.fun_flow_sets.specs.Items.{Item, anything, closure_at, external_function}
use Rattle.fun_flow_answers.specs.declared.target.AppliedCall.{AppliedCall}
use Rattle.fun_flow_answers.specs.declared.target.Target.{Target}
use Rattle.fun_flow_answers.specs.declared.target.Target.TheVariants.{Name}
use Rattle.fun_flow_answers.specs.declared.target.ListedTargets.{ListedTargets}
use Rattle.fun_flow_answers.specs.Answers.{AreCalls, AreTargets, any_function, only_these, IsCall}
use Rattle.fun_flow_answers.specs.Lines.{AreTargetsWithin, IsCallWithin, IsTargetWithin}
use Rattle.fun_flow_answers.specs.Listed.{defined_with, function_target, position_of, target_in, target_of}

position_within : (ps : Program) (home : Atom) (y : m.Module) → module_named ps home ≡ Some y → position_of ps home < length ps
position_within [] home y e = absurd cc
position_within (p ∷ ps) home y e = by (same_atom p.name home) e (position_within ps home y)
  where
    by : (b : Bool) → (if b then Some p else module_named ps home) ≡ Some y → (module_named ps home ≡ Some y → position_of ps home < length ps) → (if b then zero else suc (position_of ps home)) < suc (length ps)
    by true f more = omega arith
    by false f more = let h = more f in omega arith

function_within : (n i l : ℕ) (x : m.Module) (o : Option Local) → i < n → IsTargetWithin n (function_target i x l o)
function_within n i l x None h = h
function_within n i l x (Some d) h = tt

target_within : (U : Program) (x : Item) (t : Target) → target_of U x ≡ Some t → IsTargetWithin (length U) t
target_within U anything t e = absurd cc
target_within U (closure_at home l n) t e = by (module_named U home) refl e
  where
    by : (o : Option m.Module) → module_named U home ≡ o → target_in (position_of U home) l o ≡ Some t → IsTargetWithin (length U) t
    by None is f = absurd cc
    by (Some y) is f =
        subst (IsTargetWithin (length U)) (same_Some (function_target (position_of U home) y l (defined_with (locals_of y.defs) l)) t f)
        (function_within (length U) (position_of U home) l y (defined_with (locals_of y.defs) l) (position_within U home y is))
target_within U (external_function home name n) t e = subst (IsTargetWithin (length U)) (same_Some (Name home (function_name name n)) t e) tt

targets_within : (U : Program) (Has : Item → Type 0) (n : ℕ) (a : ListedTargets) → AreTargets U Has n a → AreTargetsWithin (length U) a
targets_within U Has n a (any_function h) = tt
targets_within U Has n a (only_these ts never s d) =
    All-weaker (Contains ts) (IsTargetWithin (length U)) (λ t h. let k = (d t).0 h in target_within U k.0 t k.3) ts (All-contains_itself ts)

pub calls_within : (U : Program) (cs : List AppliedCall) → AreCalls U cs → All (IsCallWithin (length U)) cs
calls_within U cs are = All-weaker (Contains cs) (IsCallWithin (length U)) (λ c h. one c (are.each c h)) cs (All-contains_itself cs)
  where
    one : (c : AppliedCall) → IsCall U c → IsCallWithin (length U) c
    one c f = record { module_there = slice_get_within U c.«module» f.home f.at; targets_there = targets_within U _ c.arity c.targets f.targets }
