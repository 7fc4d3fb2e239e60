-- A program of accepted modules has one list of applications.
use Rattle.std.proofs.Common.{◌≡◌, ℕ, List, [], ◌∷◌, ◌⊎◌, inl, inr, Option, None, Some, map, refl, sym, ap, ◌∙◌, subst}
use Rattle.std.specs.Prelude.{Contains, option_map, slice_get}
use Rattle.std.proofs.lemmas.Option.{same_Some, slice_get-map}
use Rattle.type_kinds.proofs.Lists.{contains_none, contains_first, contains_later, contains_cases, contains_at}
use Rattle.type_kinds.specs.declared.atom.Atom.{Atom}
use Rattle.core_ast.specs.Model as m
use Rattle.core_scope.specs.Checked.{tree_of}
use Rattle.core_scope.specs.Names.{Distinct}
use Rattle.core_scope.specs.declared.checked.Checked.{Checked}
use Rattle.core_meaning.specs.Programs.{Program}
use Rattle.fun_flow_sets.specs.Applications.{application_labels}
use Rattle.fun_flow_sets.specs.Items.{Item, Place, applies}
use Rattle.fun_flow_sets.specs.Rules.{IsAmong, IsRule, module_rules}
use Rattle.fun_flow_sets.specs.Sets.{Holds}
use Rattle.fun_flow_answers.specs.declared.target.AppliedCall.{AppliedCall}
use Rattle.fun_flow_answers.specs.declared.target.ListedTargets.{ListedTargets}
use Rattle.fun_flow_answers.specs.declared.target.ListedTargets.TheVariants.{Only}
use Rattle.fun_flow_answers.specs.Answers.{AreCalls, AreTargets, any_function, only_these, IsCall}
use Rattle.fun_flow_answers.specs.Listed.{line_at}
use Rattle.fun_flow_answers.specs.Order.{call_total, target_total}
use Rattle.fun_flow_answers.proofs.Homes.{module_of_application}
use Rattle.fun_flow_answers.proofs.OneApplication.{one_application}
use Rattle.fun_flow_answers.proofs.Sorted.{same_sorted}

-- the module at a position is one that was accepted
accepted_at : (mods : List Checked) (i : ℕ) (x : m.Module) → slice_get (map tree_of mods) i ≡ Some x → (c : Checked) × (tree_of c ≡ x)
accepted_at mods i x e = by (slice_get mods i) (sym (slice_get-map tree_of mods i) ∙ e)
  where
    by : (o : Option Checked) → option_map tree_of o ≡ Some x → (c : Checked) × (tree_of c ≡ x)
    by None f = absurd cc
    by (Some c) f = (c, same_Some (tree_of c) x f)

one_targets : (U : Program) (Has : Item → Type 0) (n : ℕ) (a b : ListedTargets) → AreTargets U Has n a → AreTargets U Has n b → a ≡ b
one_targets U Has n a b (any_function h) (any_function k) = refl
one_targets U Has n a b (any_function h) (only_these us f t e) = absurd (f h)
one_targets U Has n a b (only_these ts g s d) (any_function k) = absurd (g k)
one_targets U Has n a b (only_these ts g s d) (only_these us f t e) =
    ap Only (same_sorted target_total ts us s t (λ z w. (e z).1 ((d z).0 w)) (λ z w. (d z).1 ((e z).0 w)))

-- ---- modules by their names

abbrev pub names_of : Program → List Atom
names_of U = map (λ (x : m.Module). x.name) U

named_among : (ps : Program) (x : m.Module) → Contains ps x → Contains (names_of ps) x.name
named_among [] x h = absurd (contains_none x h)
named_among (p ∷ ps) x h = by (contains_cases p x ps h) (named_among ps x)
  where
    by : (p ≡ x) ⊎ Contains ps x → (Contains ps x → Contains (names_of ps) x.name) → Contains (names_of (p ∷ ps)) x.name
    by (inl e) more = subst (λ (z : m.Module). Contains (p.name ∷ names_of ps) z.name) e (contains_first p.name (names_of ps))
    by (inr k) more = contains_later p.name x.name (names_of ps) (more k)

same_module : (ps : Program) (x y : m.Module) → Distinct (names_of ps) → Contains ps x → Contains ps y → x.name ≡ y.name → x ≡ y
same_module [] x y d h k e = absurd (contains_none x h)
same_module (p ∷ ps) x y d h k e = by (contains_cases p x ps h) (contains_cases p y ps k) (λ f g. same_module ps x y d.1 f g e)
  where
    by : (p ≡ x) ⊎ Contains ps x → (p ≡ y) ⊎ Contains ps y → (Contains ps x → Contains ps y → x ≡ y) → x ≡ y
    by (inl f) (inl g) more = sym f ∙ g
    by (inl f) (inr g) more = absurd (d.0 (subst (Contains (names_of ps)) (sym (ap (λ (z : m.Module). z.name) f ∙ e)) (named_among ps y g)))
    by (inr f) (inl g) more = absurd (d.0 (subst (Contains (names_of ps)) (e ∙ sym (ap (λ (z : m.Module). z.name) g)) (named_among ps x f)))
    by (inr f) (inr g) more = more f g

-- no module has two applications at a label
abbrev pub AreOnce : Type 0
AreOnce = (U : Program) (c : Checked) → Distinct (application_labels (module_rules U (tree_of c)))

-- an application of a module that is named stands in its own rules
in_own_rules : (U : Program) (i : ℕ) (x : m.Module) (p : Place) (n l : ℕ) → Distinct (names_of U) → slice_get U i ≡ Some x → IsRule U (applies p n x.name l) → IsAmong (module_rules U x) (applies p n x.name l)
in_own_rules U i x p n l distinct at stands =
    let k = module_of_application U U x.name p n l stands in
    subst (λ y. IsAmong (module_rules U y) (applies p n x.name l)) (same_module U k.0 x distinct k.1 (contains_at U i x at) k.2) k.3

-- there is one such application
pub one_rule : AreOnce → (mods : List Checked) → Distinct (names_of (map tree_of mods)) → (i : ℕ) (x : m.Module) (p q : Place) (n k l : ℕ) → slice_get (map tree_of mods) i ≡ Some x
    → IsRule (map tree_of mods) (applies p n x.name l) → IsRule (map tree_of mods) (applies q k x.name l) → (p ≡ q) × (n ≡ k)
one_rule once mods distinct i x p q n k l at f g =
    let U : Program = map tree_of mods in
    let a = accepted_at mods i x at in
    let labels : Distinct (application_labels (module_rules U x)) = subst (λ y. Distinct (application_labels (module_rules U y))) a.1 (once U a.0) in
    one_application (module_rules U x) p q n k x.name x.name l labels (in_own_rules U i x p n l distinct at f) (in_own_rules U i x q k l distinct at g)

-- what is said of the application at a label
one_call : AreOnce → (mods : List Checked) → Distinct (names_of (map tree_of mods)) → (c d : AppliedCall) → IsCall (map tree_of mods) c → IsCall (map tree_of mods) d → c.«module» ≡ d.«module» → c.label ≡ d.label
    → c ≡ d
one_call once mods distinct c d f g at label =
    let U : Program = map tree_of mods in
    let home : f.home ≡ g.home = same_Some f.home g.home (sym f.at ∙ ap (slice_get U) at ∙ g.at) in
    let other : IsRule U (applies g.operator d.arity f.home.name d.label) = subst (λ (x : m.Module). IsRule U (applies g.operator d.arity x.name d.label)) (sym home) g.stands in
    let there : IsRule U (applies g.operator d.arity f.home.name c.label) = subst (λ l. IsRule U (applies g.operator d.arity f.home.name l)) (sym label) other in
    let same = one_rule once mods distinct c.«module» f.home f.operator g.operator c.arity d.arity c.label f.at f.stands there in
    let line : c.line ≡ d.line = f.line ∙ ap (λ x. line_at x c.label) home ∙ ap (line_at g.home) label ∙ sym g.line in
    let moved : AreTargets U (Holds U f.operator) c.arity d.targets = subst (λ n. AreTargets U (Holds U f.operator) n d.targets) (sym same.1) (subst (λ p. AreTargets U (Holds U p) d.arity d.targets) (sym same.0) g.targets) in
    let targets : c.targets ≡ d.targets = one_targets U (Holds U f.operator) c.arity c.targets d.targets f.targets moved in
    λ i. record { «module» = at i; label = label i; line = line i; arity = same.1 i; targets = targets i }

-- what one list has another has
part_of : AreOnce → (mods : List Checked) → Distinct (names_of (map tree_of mods)) → (cs ds : List AppliedCall) → AreCalls (map tree_of mods) cs → AreCalls (map tree_of mods) ds → (c : AppliedCall) → Contains cs c
    → Contains ds c
part_of once mods distinct cs ds a b c h =
    let f = a.each c h in
    let d = b.all c.«module» f.home f.operator c.arity c.label f.at f.stands in
    let same : c ≡ d.0 = one_call once mods distinct c d.0 f (b.each d.0 d.1) (sym d.2) (sym d.3) in
    subst (Contains ds) (sym same) d.1

pub one_list : AreOnce → (mods : List Checked) → Distinct (names_of (map tree_of mods)) → (cs ds : List AppliedCall) → AreCalls (map tree_of mods) cs → AreCalls (map tree_of mods) ds → cs ≡ ds
one_list once mods distinct cs ds a b = same_sorted call_total cs ds a.ascending b.ascending (part_of once mods distinct cs ds a b) (part_of once mods distinct ds cs b a)
