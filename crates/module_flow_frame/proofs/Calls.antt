-- What a call gives, and what the application of a name does, rest on what is known of the function that is called or applied; so does
-- whether the head of a clause has a solution on what its guard calls.
use Rattle.std.proofs.Common.{◌≡◌, ℕ, Bool, true, false, cond, List, [], ◌∷◌, length, inl, inr, refl, sym, ap, ◌∙◌, subst, Contains}
use Rattle.std.specs.Prelude.{Option, Some, None, eqb, if◌then◌else◌}
use Rattle.type_kinds.specs.declared.atom.Atom.{Atom}
use Rattle.core_ast.specs.declared.syntax.FunName.{FunName}
use Rattle.core_ast.specs.Model as m
use Rattle.core_scope.specs.Asks.{erlang, function_name}
use Rattle.core_scope.specs.Names.{same_atom, same_function}
use Rattle.call_graph.specs.Targets.CallTarget.{remote}
use Rattle.type_lattice.specs.Types.{Type4}
use Rattle.cons_tree.specs.declared.parts.Callee.{Callee}
use Rattle.cons_tree.specs.declared.parts.Callee.TheVariants.{Known, Local, Undefined, Unknown}
use Rattle.cons_solve.specs.Environments.{solution}
use Rattle.bif_types.specs.Table.{looked_up}
use Rattle.cons_gen_rows.specs.Passes.{Knowledge}
use Rattle.cons_gen_rows.specs.Words.{together}
use Rattle.module_flow_calls.specs.Calls.{by_callee, by_row, called, by_state, may_return}
use Rattle.module_flow_state.specs.Applications.{by_meaning, applied, may_by_meaning, may_apply, inner_or}
use Rattle.module_flow_state.specs.Scopes.{WalkScope, scope_in}
use Rattle.module_flow_state.specs.States.{result_of}
use Rattle.module_flow_state.specs.World.{World}
use Rattle.module_flow_walk.specs.Clauses.{head_solved, beginning}
use Rattle.cons_gen_frame.specs.Agreement.{GivesNothing, AreAlike, Agrees}
use Rattle.cons_gen_frame.proofs.Frames.{head_by_nodes}
use Rattle.module_flow_calls.specs.Functions.{label_named}
use Rattle.cons_gen_frame.proofs.Choices.{both_ways, first_way}
use Rattle.cons_gen_frame.specs.Frame.{knowing}
use Rattle.cons_gen_rows.specs.Scopes.{or_outer}
use Rattle.cons_tree.proofs.NameLaws.{name_is}
use Rattle.cons_gen_frame.proofs.Targets.{TreeAgrees}
use Rattle.module_flow_frame.proofs.Worlds.{TwoWalks, first_world, second_world}
use Rattle.type_kinds.proofs.Lists.{contains_first, contains_later}

here : (g : FunName) (gs : List FunName) (f : FunName) (o : Option ℕ) (k l : ℕ) → ((j : ℕ) → o ≡ Some j → Contains gs f) → or_outer o (if same_function g f then Some k else None) ≡ Some l → Contains (g ∷ gs) f
here g gs f (Some j) k l later e = contains_later g f gs (later j refl)
here g gs f None k l later e = by (same_function g f) refl e
  where
    by : (b : Bool) → same_function g f ≡ b → (if b then Some k else None) ≡ Some l → Contains (g ∷ gs) f
    by true same e = subst (Contains (g ∷ gs)) (name_is g f same) (contains_first g gs)
    by false same e = absurd cc

-- a function whose label is found by its name is among those that are named
named_there : (gs : List FunName) (ls : List ℕ) (f : FunName) (l : ℕ) → label_named gs ls f ≡ Some l → Contains gs f
named_there [] ls f l e = absurd cc
named_there (g ∷ gs) [] f l e = here g gs f (label_named gs [] f) 0 l (named_there gs [] f) e
named_there (g ∷ gs) (k ∷ ls) f l e = here g gs f (label_named gs ls f) k l (named_there gs ls f) e

module _ (z : TwoWalks) where
  abbrev V : World
  V = first_world z

  abbrev W : World
  W = second_world z

  -- ---- a call by a module and a name

  abbrev K : Bool → Knowledge
  K l = knowing l (λ h f. false) z.first

  abbrev L : Bool → Knowledge
  L l = knowing l (λ h f. false) z.second

  callee_pass : (l : Bool) (x : Callee) (ts : List Type4) → by_callee (K l) x ts ≡ by_callee (L l) x ts
  callee_pass l (Known s) ts = refl
  callee_pass l (Local s) ts = refl
  callee_pass l Undefined ts = refl
  callee_pass l Unknown ts = refl

  callee_nothing : (P : Knowledge) (x : Callee) (ts : List Type4) → GivesNothing x → by_callee P x ts ≡ None
  callee_nothing P (Known s) ts a = absurd a
  callee_nothing P (Local s) ts a = refl
  callee_nothing P Undefined ts a = refl
  callee_nothing P Unknown ts a = absurd a

  callee_same : (l : Bool) (x y : Callee) (ts : List Type4) → AreAlike x y → by_callee (K l) x ts ≡ by_callee (L l) y ts
  callee_same l x y ts (inl e) = callee_pass l x ts ∙ ap (λ c. by_callee (L l) c ts) e
  callee_same l x y ts (inr both) = callee_nothing (K l) x ts both.0 ∙ sym (callee_nothing (L l) y ts both.1)

  pub called_same : (l : Bool) (h name : Atom) (n : ℕ) (ts : List Type4) → length ts ≡ n → Agrees z.first z.second z.home (remote h (function_name name n)) → called (K l) h name ts ≡ called (L l) h name ts
  called_same l h name n ts long (inl e) =
      first_way (same_atom h erlang) (by_row l (looked_up name (length ts)) ts) (by_callee (K l) (z.first h (function_name name (length ts))) ts)
      (by_row l (looked_up name (length ts)) ts) (by_callee (L l) (z.second h (function_name name (length ts))) ts) e refl
  called_same l h name n ts long (inr alike) =
      both_ways (same_atom h erlang) refl
      (callee_same l (z.first h (function_name name (length ts))) (z.second h (function_name name (length ts))) ts
      (subst (λ k. AreAlike (z.first h (function_name name k)) (z.second h (function_name name k))) (sym long) alike))

  -- ---- the application of a name

  -- a function of a `letrec`, or else one of the module
  own_named : (f : FunName) (l : ℕ) → label_named z.names z.labels f ≡ Some l → z.first z.home f ≡ z.second z.home f
  own_named f l e = z.own f (named_there z.names z.labels f l e)

  meaning_same : (f : FunName) (ts : List Type4) (a o : Option ℕ) → ((l : ℕ) → o ≡ Some l → z.first z.home f ≡ z.second z.home f) → by_meaning V f (inner_or a o) ts ≡ by_meaning W f (inner_or a o) ts
  meaning_same f ts (Some l) o own = refl
  meaning_same f ts None (Some l) own = ap (λ x. by_state (result_of z.state l) x ts) (own l refl)
  meaning_same f ts None None own = refl

  pub applied_same : (sc : WalkScope) (f : FunName) (ts : List Type4) → applied V sc f ts ≡ applied W sc f ts
  applied_same sc f ts =
      ap (λ g. cond (eqb f.arity (length ts)) g None) (meaning_same f ts (label_named sc.functions sc.labels f) (label_named z.names z.labels f) (own_named f))

  may_meaning_same : (f : FunName) (ts : List Type4) (a o : Option ℕ) → ((l : ℕ) → o ≡ Some l → z.first z.home f ≡ z.second z.home f) → may_by_meaning V f (inner_or a o) ts ≡ may_by_meaning W f (inner_or a o) ts
  may_meaning_same f ts (Some l) o own = refl
  may_meaning_same f ts None (Some l) own = ap (λ x. may_return x ts) (own l refl)
  may_meaning_same f ts None None own = refl

  pub may_apply_same : (sc : WalkScope) (f : FunName) (ts : List Type4) → may_apply V sc f ts ≡ may_apply W sc f ts
  may_apply_same sc f ts =
      ap (λ g. cond (eqb f.arity (length ts)) g None) (may_meaning_same f ts (label_named sc.functions sc.labels f) (label_named z.names z.labels f) (own_named f))

  -- ---- the head of a clause

  pub head_same : (sc : WalkScope) (qs : List ℕ) (ps : m.Patterns) (g : m.Tree) → TreeAgrees z.first z.second z.home sc.functions g → head_solved V sc qs ps g ≡ head_solved W sc qs ps g
  head_same sc qs ps g h =
      ap (λ rs. solution (together rs) (beginning sc ps g)) (head_by_nodes false (λ h f. false) z.first z.second z.home (scope_in sc) ps g h qs (length sc.types))
