-- What is listed of applications is the list of the program.
use Rattle.std.proofs.Common.{◌≡◌, ℕ, zero, suc, ◌<◌, Bool, true, false, if◌then◌else◌, nat_eq, nat_lt, List, [], ◌∷◌, length, map}
use Rattle.std.proofs.Common.{slice_get, slice_index, Option, Some, None, inl, inr, refl, sym, ap, ◌∙◌, subst, eq-eqb, eqb-true, arith}
use Rattle.std.specs.Prelude.{Contains, option_map}
use Rattle.std.specs.List.{AllZip}
use Rattle.std.specs.List.Sorted.{IsStrictlySortedBy}
use Rattle.std.specs.Cmp.Lexicographic.{bytes_decides}
use Rattle.std.proofs.lemmas.Bool.{lt-ltb, ltb-true}
use Rattle.std.proofs.lemmas.List.{length-map}
use Rattle.std.proofs.lemmas.Option.{same_Some, slice_get_within}
use Rattle.std.proofs.lemmas.Slice.Zip.{AllZip-long}
use Rattle.type_kinds.proofs.Lists.{contains_cases, contains_first, contains_later, contains_none, item_at as item_within}
use Rattle.type_kinds.specs.declared.atom.Atom.{Atom}
use Rattle.core_ast.specs.Model as m
use Rattle.core_scope.specs.Checked.{module_of, tree_of}
use Rattle.core_scope.specs.Names.{Distinct, same_atom}
use Rattle.core_scope.specs.Sets.{StandsEarlier}
use Rattle.core_scope.specs.declared.checked.Checked.{Checked}
use Rattle.core_scope.proofs.NameLaws.{none_earlier, not_same}
use Rattle.type_lattice_model.specs.Values.{Local}
use Rattle.core_meaning.specs.Programs.{Program, locals_of, module_named}
use Rattle.fun_flow_sets.specs.Items as s
use Rattle.fun_flow_sets.specs.Rules.{IsAmong, IsRule}
use Rattle.fun_flow_sets.specs.Sets.{Holds}
use Rattle.fun_flow_answers.specs.declared.target.AppliedCall.{AppliedCall}
use Rattle.fun_flow_answers.specs.declared.target.ListedTargets.{ListedTargets}
use Rattle.fun_flow_answers.specs.declared.target.Target.{Target}
use Rattle.fun_flow_answers.specs.declared.target.Target.TheVariants.{Fun, Name}
use Rattle.fun_flow_answers.specs.Answers as said
use Rattle.fun_flow_answers.specs.Listed as listed
use Rattle.fun_flow_answers.specs.Order.{call_cmp}
use Rattle.fun_flow_numbers.specs.Held.{AreSetsOf, HeldNumbers}
use Rattle.fun_flow_places.specs.Arities.{arity_of}
use Rattle.fun_flow_places.specs.declared.places.FlowPlace.{FlowPlace}
use Rattle.fun_flow_places.specs.declared.places.FlowRule.{FlowRule}
use Rattle.fun_flow_places.specs.declared.places.FlowRule.TheVariants.{Holds as HoldsItem, Flows, Applies}
use Rattle.fun_flow_places.specs.declared.places.Item.{Item}
use Rattle.fun_flow_places.specs.declared.places.Item.TheVariants.{Anything, Closure, External}
use Rattle.fun_flow_places.proofs.TableLaws.{map_both}
use Rattle.fun_flow_places.specs.declared.table.ModuleTable.{ModuleTable}
use Rattle.fun_flow_places.specs.Tables.{IsTableOf}
use Rattle.fun_flow_places.proofs.TableLaws.{name_among}
use Rattle.fun_flow_places.specs.Naming.{AreRulesOf, item_named, module_names, name_of, place_named, rule_named}
use Rattle.fun_flow_applied.specs.declared.applications.AppliedValue.{AppliedValue}
use Rattle.fun_flow_applied.specs.declared.module_text.ModuleText.{ModuleText}
use Rattle.fun_flow_applied.specs.steps.Applications.{AreApplications, application_in}
use Rattle.fun_flow_applied.specs.steps.Calls.{IsCallOf}
use Rattle.fun_flow_applied.specs.steps.Entering.{AreEntered, IsListedAt, any_function, closure_in, function_in, listed_in, only_these, target_in}
use Rattle.fun_flow_applied.specs.steps.Texts.{AreTextsOf, IsTextOf, name_at, name_of as definition_name}
use Rattle.fun_flow_applied.proofs.CallOrder.{calls_ascend}
use Rattle.fun_flow_applied.proofs.Zipped.{zip_among, zip_from, zip_left, zip_right}

-- ---- the position of a module

position_is : (U : Program) (h : ℕ) (x : m.Module) → Distinct (module_names U) → slice_get U h ≡ Some x → listed.position_of U x.name ≡ h
position_is [] h x apart e = absurd cc
position_is (p ∷ U) zero x apart e =
    let same : p ≡ x = cc in
    ap (λ b. if b then zero else suc (listed.position_of U x.name)) (ap (λ z. same_atom z.name x.name) same ∙ (bytes_decides x.name x.name).1 refl)
position_is (p ∷ U) (suc h) x apart e =
    ap (λ b. if b then zero else suc (listed.position_of U x.name)) (not_same p.name x.name (λ is. apart.0 (subst (Contains (module_names U)) (sym is) (name_among U h x e))))
    ∙ ap suc (position_is U h x apart.1 e)

-- ---- rules that stand for others

rule_of : (U : Program) (rs : List FlowRule) (r : s.Rule) → IsAmong (map (rule_named U) rs) r → (q : FlowRule) × Contains rs q × (rule_named U q ≡ r)
rule_of U [] r h = absurd h
rule_of U (q ∷ rs) r (inl e) = (q, contains_first q rs, sym e)
rule_of U (q ∷ rs) r (inr h) = let k = rule_of U rs r h in (k.0, contains_later q k.0 rs k.1, k.2)

among_rules : (U : Program) (rs : List FlowRule) (q : FlowRule) → Contains rs q → IsAmong (map (rule_named U) rs) (rule_named U q)
among_rules U [] q has = absurd (contains_none q has)
among_rules U (p ∷ rs) q has = elim (contains_cases p q rs has) [
  | inl same ↦ inl (ap (rule_named U) (sym same))
  | inr more ↦ inr (among_rules U rs q more)
]

-- the application that a rule is
record IsApplication (n : ℕ) (r : FlowRule) (a : AppliedValue) : Type 0 where
  is : r ≡ Applies a.operator a.arity a.«module» a.label
  within : a.«module» < n

application_is : (n : ℕ) (r : FlowRule) (a : AppliedValue) → application_in n r ≡ Some a → IsApplication n r a
application_is n (HoldsItem p x) a e = absurd cc
application_is n (Flows p q) a e = absurd cc
application_is n (Applies p k home l) a e = by (nat_lt home n) refl e
  where
    by : (b : Bool) → nat_lt home n ≡ b → (if b then Some (record { «module» = home; label = l; operator = p; arity = k }) else None) ≡ Some a → IsApplication n (Applies p k home l) a
    by true below f =
        let same = same_Some _ _ f in
        record { is = ap (λ (b : AppliedValue). Applies b.operator b.arity b.«module» b.label) same; within = subst (λ (b : AppliedValue). b.«module» < n) same (ltb-true home n below) }
    by false below f = absurd cc

in_application : (n home l k : ℕ) (p : FlowPlace) → home < n → application_in n (Applies p k home l) ≡ Some (record { «module» = home; label = l; operator = p; arity = k })
in_application n home l k p within = ap (λ b. if b then Some (record { «module» = home; label = l; operator = p; arity = k }) else None) (lt-ltb home n within)

-- the code's rule of an application
record IsRuleOf (U : Program) (q : FlowRule) (n : ℕ) (home : Atom) (l : ℕ) : Type 0 where
  operator : FlowPlace
  at : ℕ
  is : q ≡ Applies operator n at l
  named : name_of U at ≡ home

rule_is : (U : Program) (q : FlowRule) (p : s.Place) (n : ℕ) (home : Atom) (l : ℕ) → rule_named U q ≡ s.applies p n home l → IsRuleOf U q n home l
rule_is U (HoldsItem o x) p n home l e = absurd cc
rule_is U (Flows o q) p n home l e = absurd cc
rule_is U (Applies o k at i) p n home l e =
    let numbers : k ≡ n = cc in
    let labels : i ≡ l = cc in
    let names : name_of U at ≡ home = cc in
    record { operator = o; at = at; is = ap (λ z. Applies o z at i) numbers ∙ ap (λ z. Applies o n at z) labels; named = names }

-- ---- the list

abbrev There : Type 0
There = (U : Program) (h : ℕ) (x : m.Module) → Distinct (module_names U) → slice_get U h ≡ Some x → (name_of U h ≡ x.name) × (module_named U (name_of U h) ≡ Some x)

abbrev Past : Type 0
Past = (U : Program) (h : ℕ) → slice_get U h ≡ None → module_named U (name_of U h) ≡ None

abbrev One : Type 0
One = (U : Program) (h k : ℕ) → Distinct (module_names U) → name_of U h ≡ name_of U k → h ≡ k

module _ (there : There) (past : Past) (one : One) (U : Program) (apart : Distinct (module_names U)) (ts : List ModuleText) (texts : AreTextsOf U ts) where
  function_so : (h l : ℕ) (x : m.Module) (t : ModuleText) → IsTextOf x t → function_in h l t (name_at t.definitions l) ≡ listed.function_target h x l (listed.defined_with (locals_of x.defs) l)
  function_so h l x t is = ap (function_in h l t) (is.definitions_so l) ∙ by (listed.defined_with (locals_of x.defs) l)
    where
      by : (o : Option Local) → function_in h l t (option_map definition_name o) ≡ listed.function_target h x l o
      by (Some d) = ap (λ home. Name home (definition_name d)) is.home_so
      by None = ap (λ ls. Fun h l (slice_index ls l)) is.lines_so

  closure_so : (h l : ℕ) → closure_in h l (slice_get ts h) ≡ listed.target_in (listed.position_of U (name_of U h)) l (module_named U (name_of U h))
  closure_so h l = by (slice_get U h) refl
    where
      none : (o : Option ModuleText) → slice_get ts h ≡ o → slice_get U h ≡ None → closure_in h l o ≡ None
      none None e f = refl
      none (Some t) e f = let k = zip_right IsTextOf U ts texts h t e in absurd (let g : None ≡ Some k.0 = sym f ∙ k.1 in cc)

      by : (o : Option m.Module) → slice_get U h ≡ o → closure_in h l (slice_get ts h) ≡ listed.target_in (listed.position_of U (name_of U h)) l (module_named U (name_of U h))
      by None e = none (slice_get ts h) refl e ∙ sym (ap (listed.target_in (listed.position_of U (name_of U h)) l) (past U h e))
      by (Some x) e =
          let k = zip_left IsTextOf U ts texts h x e in
          let is = there U h x apart e in
          ap (closure_in h l) k.1 ∙ ap Some (function_so h l x k.0 k.2)
          ∙ sym (ap (listed.target_in (listed.position_of U (name_of U h)) l) is.1
          ∙ ap (λ i. Some (listed.function_target i x l (listed.defined_with (locals_of x.defs) l))) (ap (listed.position_of U) is.0 ∙ position_is U h x apart e))

  target_so : (y : Item) → target_in ts y ≡ listed.target_of U (item_named U y)
  target_so Anything = refl
  target_so (Closure h l n) = closure_so h l
  target_so (External home f) = refl

  arity_so : (y : Item) → arity_of y ≡ listed.arity_of (item_named U y)
  arity_so Anything = refl
  arity_so (Closure h l n) = refl
  arity_so (External home f) = refl

  only_anything : (y : Item) → item_named U y ≡ s.anything → y ≡ Anything
  only_anything Anything e = refl
  only_anything (Closure h l n) e = absurd cc
  only_anything (External home f) e = absurd cc

  listed_is : (n : ℕ) (y : Item) (t : Target) → listed_in ts n y ≡ Some t → (listed.arity_of (item_named U y) ≡ n) × (listed.target_of U (item_named U y) ≡ Some t)
  listed_is n y t e = by (nat_eq (arity_of y) n) refl e
    where
      by : (b : Bool) → nat_eq (arity_of y) n ≡ b → (if b then target_in ts y else None) ≡ Some t → (listed.arity_of (item_named U y) ≡ n) × (listed.target_of U (item_named U y) ≡ Some t)
      by true same f = (sym (arity_so y) ∙ eqb-true (arity_of y) n same, sym (target_so y) ∙ f)
      by false same f = absurd cc

  is_listed : (n : ℕ) (y : Item) (t : Target) → listed.arity_of (item_named U y) ≡ n → listed.target_of U (item_named U y) ≡ Some t → listed_in ts n y ≡ Some t
  is_listed n y t a e = ap (λ b. if b then target_in ts y else None) (eq-eqb (arity_of y) n (arity_so y ∙ a)) ∙ target_so y ∙ e

  module _ (held : HeldNumbers) (sets : AreSetsOf U held) where
    entered_so : (p : FlowPlace) (n : ℕ) (a : ListedTargets) → AreEntered ts held p n a → said.AreTargets U (Holds U (place_named U p)) n a
    entered_so p n a (any_function k) = said.any_function ((sets.exact p s.anything).0 (record { number = k.0; there = k.1; item = Anything; at = k.2; named = refl }))
    entered_so p n a (only_these us none up same) = said.only_these us never up (λ t. (λ has. found t ((same t).0 has), λ h. (same t).1 (back t h)))
      where
        never : Holds U (place_named U p) s.anything → ⊥
        never h = let k = (sets.exact p s.anything).1 h in none (k.number, k.there, k.at ∙ ap Some (only_anything k.item k.named))

        found : (t : Target) → IsListedAt ts held p n t → said.IsListed U (Holds U (place_named U p)) n t
        found t h =
            let k = listed_is n h.1 t h.4 in
            (item_named U h.1, (sets.exact p (item_named U h.1)).0 (record { number = h.0; there = h.2; item = h.1; at = h.3; named = refl }), k.0, k.1)

        back : (t : Target) → said.IsListed U (Holds U (place_named U p)) n t → IsListedAt ts held p n t
        back t h =
            let k = (sets.exact p h.0).1 h.1 in
            (k.number, k.item, k.there, k.at, is_listed n k.item t (ap listed.arity_of k.named ∙ h.2) (ap (listed.target_of U) k.named ∙ h.3))

    module _ (rs : List FlowRule) (rules : AreRulesOf U rs) (found : List AppliedValue) (applications : AreApplications (length U) rs found) (calls : List AppliedCall) (zipped : AllZip (IsCallOf ts held) found calls) where
      call_is : (c : AppliedCall) → Contains calls c → said.IsCall U c
      call_is c has =
          let k = zip_from (IsCallOf ts held) found calls zipped c has in
          let r = applications.each k.0 k.1 in
          let a = application_is (length U) r.0 k.0 r.2 in
          let x = item_within U k.0.«module» a.within in
          let t = zip_left IsTextOf U ts texts k.0.«module» x.0 x.1 in
          let is = k.2 in
          let rule : IsRule U (s.applies (place_named U k.0.operator) k.0.arity (name_of U k.0.«module») k.0.label) = (rules _).0 (subst (λ q. IsAmong (map (rule_named U) rs) (rule_named U q)) a.is (among_rules U rs r.0 r.1)) in
          record {
            home = x.0;
            at = ap (slice_get U) is.module_so ∙ x.1;
            operator = place_named U k.0.operator;
            stands = subst (λ n. IsRule U (s.applies (place_named U k.0.operator) n x.0.name c.label)) (sym is.arity_so)
                (subst (λ l. IsRule U (s.applies (place_named U k.0.operator) k.0.arity x.0.name l)) (sym is.label_so)
                (subst (λ h. IsRule U (s.applies (place_named U k.0.operator) k.0.arity h k.0.label)) (there U k.0.«module» x.0 apart x.1).0 rule));
            line = is.line_so t.0 t.1 ∙ ap (λ ls. slice_index ls k.0.label) t.2.lines_so ∙ ap (listed.line_at x.0) (sym is.label_so);
            targets = subst (λ n. said.AreTargets U (Holds U (place_named U k.0.operator)) n c.targets) (sym is.arity_so) (entered_so k.0.operator k.0.arity c.targets is.targets_so);
          }

      call_of : (i : ℕ) (x : m.Module) (p : s.Place) (n l : ℕ) → slice_get U i ≡ Some x → IsRule U (s.applies p n x.name l) → (c : AppliedCall) × Contains calls c × (c.«module» ≡ i) × (c.label ≡ l)
      call_of i x p n l at rule =
          let q = rule_of U rs (s.applies p n x.name l) ((rules _).1 rule) in
          let r = rule_is U q.0 p n x.name l q.2 in
          let here : r.at ≡ i = one U r.at i apart (r.named ∙ sym (there U i x apart at).0) in
          let within : i < length U = slice_get_within U i x at in
          let a = applications.all (Applies r.operator n r.at l) _ (subst (Contains rs) r.is q.1) (in_application (length U) r.at l n r.operator (subst (λ z. z < length U) (sym here) within)) in
          let k = zip_among (IsCallOf ts held) found calls zipped a.0 a.1 in
          (k.0, k.1, k.2.module_so ∙ a.2 ∙ here, k.2.label_so ∙ a.3)

      pub calls_are : IsStrictlySortedBy call_cmp calls → said.AreCalls U calls
      calls_are up = record { ascending = up; each = call_is; all = call_of }

-- ---- from modules

-- an application that is found is of a module whose text is known
pub within_texts : {S : Type 0} (f : S → Checked) (mods : List S) (n : ℕ) (rules : List FlowRule) (found : List AppliedValue) (texts : List ModuleText) → n ≡ length mods
    → AreApplications n rules found → AreTextsOf (map (λ s. tree_of (f s)) mods) texts
    → (a : AppliedValue) → Contains found a → a.«module» < length texts
within_texts f mods n rules found texts many applications are a has =
    let r = applications.each a has in
    let k = application_is n r.0 a r.2 in
    omega (arith, k.within, many, AllZip-long IsTextOf (map (λ s. tree_of (f s)) mods) texts are, length-map mods (λ s. tree_of (f s)))

module _ (there : There) (past : Past) (one : One) {S : Type 0} (f : S → Checked) (mods : List S) where
  abbrev trees : Program
  trees = map (λ s. tree_of (f s)) mods

  abbrev names : List Atom
  names = map (λ s. (module_of (f s)).name) mods

  distinct : ((j : ℕ) → j < length mods → StandsEarlier names j → ⊥) → Distinct (module_names trees)
  distinct own =
      subst Distinct (map_both (λ s. tree_of (f s)) (λ (x : m.Module). x.name) mods) (none_earlier names (λ j low. own j (subst (λ n. j < n) (length-map mods (λ s. (module_of (f s)).name)) low)))

  pub applied_so : ((j : ℕ) → j < length mods → StandsEarlier names j → ⊥) → (rules : List FlowRule) → AreRulesOf trees rules → (table : ModuleTable) → IsTableOf trees table → (held : HeldNumbers)
      → ((U : Program) → Distinct (module_names U) → IsTableOf U table → AreRulesOf U rules → AreSetsOf U held) → (texts : List ModuleText) → AreTextsOf trees texts → (n : ℕ) → n ≡ length mods
      → (found : List AppliedValue) → AreApplications n rules found → (calls : List AppliedCall) → AllZip (IsCallOf texts held) found calls → said.AreCalls trees calls
  applied_so own rules are_rules table is_table held sets texts are_texts n many found applications calls zipped =
      calls_are there past one trees (distinct own) texts are_texts held (sets trees (distinct own) is_table are_rules) rules are_rules found
      (subst (λ k. AreApplications k rules found) (many ∙ sym (length-map mods (λ s. tree_of (f s)))) applications) calls zipped
      (calls_ascend texts held found calls zipped applications.ascending)
