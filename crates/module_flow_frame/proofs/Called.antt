-- The frame of findings, by what stands among the calls of a module.
use Rattle.std.proofs.Common.{◌≡◌, ℕ, Bool, true, false, cond, List, [], ◌∷◌, ◌⊎◌, inl, inr, Contains, refl, sym, ap, ◌∙◌, subst, true≢false}
use Rattle.std.specs.Prelude.{◌≢◌}
use Rattle.type_kinds.specs.declared.atom.Atom.{Atom}
use Rattle.core_ast.specs.declared.syntax.FunName.{FunName}
use Rattle.core_scope.specs.Asks.{erlang}
use Rattle.core_scope.specs.Names.{same_atom}
use Rattle.call_graph.specs.Targets.CallTarget.{defined, inner, remote}
use Rattle.call_graph.specs.Targets.{CallTarget, def_targets}
use Rattle.cons_tree.specs.declared.parts.Callee.{Callee}
use Rattle.cons_tree.proofs.NameLaws.{home_itself}
use Rattle.module_flow.specs.Flow.{Callees}
use Rattle.cons_tree.specs.Callees.{as_called}
use Rattle.cons_gen_frame.specs.Agreement.{AreAlike, Agrees, EachAgrees}
use Rattle.cons_gen_frame.proofs.Alike.{called_alike}
use Rattle.cons_gen_frame.proofs.Targets.{defs_agree}
use Rattle.module_flow_frame.specs.Frame.{FindingsFrame, seen_by, OutsideFrame}
use Rattle.type_kinds.proofs.Lists.{contains_first, contains_later}
use Rattle.module_flow_frame.proofs.Modules.{findings_same}

module _ (c d : Callees) (home : Atom) where
  one : (t : CallTarget) → ((f : FunName) (n : ℕ) → t ≡ defined f n → c home f ≡ d home f)
      → ((h : Atom) (f : FunName) → t ≡ remote h f → h ≢ erlang → AreAlike (c h f) (d h f)) → Agrees c d home t
  one (defined f n) own alike = own f n refl
  one (inner f n) own alike = tt
  one (remote h f) own alike = by (same_atom h erlang) refl
    where
      by : (b : Bool) → same_atom h erlang ≡ b → (same_atom h erlang ≡ true) ⊎ AreAlike (c h f) (d h f)
      by true e = inl e
      by false e = inr (alike h f refl (λ is. true≢false (sym (ap (same_atom h) (sym is) ∙ home_itself h) ∙ e)))

  each : (ts : List CallTarget) → ((f : FunName) (n : ℕ) → Contains ts (defined f n) → c home f ≡ d home f)
      → ((h : Atom) (f : FunName) → Contains ts (remote h f) → h ≢ erlang → AreAlike (c h f) (d h f)) → EachAgrees c d home ts
  each [] own alike = tt
  each (t ∷ ts) own alike = (
    one t (λ f n is. own f n (subst (Contains (t ∷ ts)) is (contains_first t ts))) (λ h f is far. alike h f (subst (Contains (t ∷ ts)) is (contains_first t ts)) far),
    each ts (λ f n has. own f n (contains_later t (defined f n) ts has)) (λ h f has far. alike h f (contains_later t (remote h f) ts has) far),
  )

pub findings_frame : FindingsFrame
findings_frame x c d same = findings_same x c d same.own (defs_agree c d x.name [] x.defs (record { each = each c d x.name (def_targets [] x.defs) same.applied same.called }))

-- ---- functions as they are seen from outside

seen_alike : (b : Bool) (y : Callee) → AreAlike (cond b y (as_called y)) y
seen_alike true y = inl refl
seen_alike false y = called_alike y

pub outside_frame : OutsideFrame
outside_frame x c inside within =
    findings_frame x (seen_by inside c) c (record {
      own = λ f there. ap (λ b. cond b (c x.name f) (as_called (c x.name f))) within;
      applied = λ f n there. ap (λ b. cond b (c x.name f) (as_called (c x.name f))) within;
      called = λ h f there far. seen_alike (inside h) (c h f);
    })
