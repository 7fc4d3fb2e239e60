-- What an application may enter is said of it.
use Rattle.std.proofs.Common.{◌≡◌, ℕ, Bool, true, false, if◌then◌else◌, List, [], ◌∷◌, Some, map, inl, inr, refl, sym, ap, ◌∙◌, subst}
use Rattle.std.specs.Prelude.{Contains, slice_get}
use Rattle.std.specs.Cmp.Lexicographic.{bytes_decides}
use Rattle.std.proofs.lemmas.Option.{same_Some}
use Rattle.type_kinds.specs.declared.atom.Atom.{Atom}
use Rattle.type_kinds.proofs.Lists.{contains_none, contains_cases, position_of}
use Rattle.core_ast.specs.Model as m
use Rattle.core_scope.specs.Asks.{function_name}
use Rattle.core_scope.specs.Checked.{tree_of}
use Rattle.core_scope.specs.Names.{Distinct, same_atom}
use Rattle.core_scope.specs.declared.checked.Checked.{Checked}
use Rattle.core_meaning.specs.Programs.{Program, module_named, locals_of}
use Rattle.fun_flow_sets.specs.Items.{Item, anything, closure_at, external_function, Place, applies}
use Rattle.fun_flow_sets.specs.Rules.{IsRule}
use Rattle.fun_flow_sets.specs.Sets.{Holds, MayEnter}
use Rattle.fun_flow_answers.specs.declared.target.AppliedCall.{AppliedCall}
use Rattle.fun_flow_answers.specs.declared.target.Target.{Target}
use Rattle.fun_flow_answers.specs.declared.target.Target.TheVariants.{Name}
use Rattle.fun_flow_answers.specs.declared.target.ListedTargets.{ListedTargets}
use Rattle.fun_flow_answers.specs.Answers.{AreCalls, AreTargets, any_function, only_these, IsCall, IsSaid, Says}
use Rattle.fun_flow_answers.specs.Listed.{defined_with, function_target, target_in, target_of}
use Rattle.fun_flow_answers.specs.Listed as listed
use Rattle.fun_flow_answers.proofs.Homes.{held_in, InProgram, module_of_application}
use Rattle.fun_flow_answers.proofs.OneList.{AreOnce, names_of, one_rule}

-- a module of the program is found under its name, it or another
found_module : (ps : Program) (x : m.Module) (home : Atom) → Contains ps x → x.name ≡ home → (y : m.Module) × (module_named ps home ≡ Some y)
found_module [] x home h e = absurd (contains_none x h)
found_module (p ∷ ps) x home h e = by (same_atom p.name home) refl (λ k. found_module ps x home k e)
  where
    by : (b : Bool) → same_atom p.name home ≡ b → (Contains ps x → (y : m.Module) × (module_named ps home ≡ Some y)) → (y : m.Module) × ((if b then Some p else module_named ps home) ≡ Some y)
    by true is more = (p, refl)
    by false is more = elim (contains_cases p x ps h) [
      | inl f ↦ absurd (let yes : same_atom p.name home ≡ true = (bytes_decides p.name home).1 (ap (λ (z : m.Module). z.name) f ∙ e) in cc)
      | inr k ↦ more k
    ]

-- a closure in a set is listed as something
closure_listed : (U : Program) (p : Place) (home : Atom) (l n : ℕ) → Holds U p (closure_at home l n) → (t : Target) × (target_of U (closure_at home l n) ≡ Some t)
closure_listed U p home l n h =
    let there : InProgram U (closure_at home l n) = held_in U p (closure_at home l n) h in
    let found = found_module U there.0 home there.1 there.2 in
    (function_target (listed.position_of U home) found.0 l (defined_with (locals_of found.0.defs) l), ap (target_in (listed.position_of U home) l) found.1)

said : (U : Program) (p : Place) (c : AppliedCall) (a : ListedTargets) (x : Item) → c.targets ≡ a → AreTargets U (Holds U p) c.arity a → Holds U p x → Says U c x
said U p c a anything is (any_function h) k = is
said U p c a anything is (only_these ts never s d) k = absurd (never k)
said U p c a (closure_at home l n) is (any_function h) k = inl is
said U p c a (closure_at home l n) is (only_these ts never s d) k =
    let t = closure_listed U p home l n k in
    inr (λ e. (ts, t.0, is, t.1, (d t.0).1 (closure_at home l n, k, e, t.1)))
said U p c a (external_function home name n) is (any_function h) k = inl is
said U p c a (external_function home name n) is (only_these ts never s d) k =
    inr (λ e. (ts, Name home (function_name name n), is, refl, (d (Name home (function_name name n))).1 (external_function home name n, k, e, refl)))

-- the application that a list has at a label says whatever may be entered there
said_at : AreOnce → (mods : List Checked) → Distinct (names_of (map tree_of mods)) → (cs : List AppliedCall) (label : ℕ) (x : Item) (i : ℕ) (y : m.Module) (p : Place) (n : ℕ) (c : AppliedCall)
    → slice_get (map tree_of mods) i ≡ Some y → IsRule (map tree_of mods) (applies p n y.name label) → Holds (map tree_of mods) p x → Contains cs c → c.«module» ≡ i → c.label ≡ label → IsCall (map tree_of mods) c
    → IsSaid (map tree_of mods) cs y.name label x
said_at once mods distinct cs label x i y p n c at rule held among here labelled f =
    let U : Program = map tree_of mods in
    let there : slice_get U c.«module» ≡ Some y = ap (slice_get U) here ∙ at in
    let home : f.home ≡ y = same_Some f.home y (sym f.at ∙ there) in
    let other : IsRule U (applies f.operator c.arity y.name label) =
    subst (λ l. IsRule U (applies f.operator c.arity y.name l)) labelled (subst (λ (z : m.Module). IsRule U (applies f.operator c.arity z.name c.label)) home f.stands) in
    let same = one_rule once mods distinct i y p f.operator n c.arity label at rule other in
    let held_there : Holds U f.operator x = subst (λ q. Holds U q x) same.0 held in
    record { call = c; among = among; module_so = y; at = there; named = refl; labelled = labelled; says = said U f.operator c c.targets x refl f.targets held_there }

pub left_out : AreOnce → (mods : List Checked) → Distinct (names_of (map tree_of mods)) → (cs : List AppliedCall) → AreCalls (map tree_of mods) cs → (home : Atom) (label : ℕ) (x : Item)
    → MayEnter (map tree_of mods) home label x → IsSaid (map tree_of mods) cs home label x
left_out once mods distinct cs are home label x (p, (n, (stands, held))) =
    let k = module_of_application (map tree_of mods) (map tree_of mods) home p n label stands in
    by k.0 k.1 k.2
  where
    by : (y : m.Module) → Contains (map tree_of mods) y → y.name ≡ home → IsSaid (map tree_of mods) cs home label x
    by y among named =
        let at = position_of (map tree_of mods) y among in
        let rule : IsRule (map tree_of mods) (applies p n y.name label) = subst (λ z. IsRule (map tree_of mods) (applies p n z label)) (sym named) stands in
        let c = are.all at.0 y p n label at.2 rule in
        subst (λ z. IsSaid (map tree_of mods) cs z label x) named (said_at once mods distinct cs label x at.0 y p n c.0 at.2 rule held c.1 c.2 c.3 (are.each c.0 c.1))
