-- The components of the call graph's numbering are those of the functions.
use Rattle.std.proofs.Common.{◌≡◌, ◌↔◌, ℕ, zero, suc, ◌+◌, ◌<◌, List, [], ◌∷◌, ◌++◌, Contains, length, take, get_or, slice_get, inl, inr, Some, refl, sym, ap, ◌∙◌, subst, arith}
use Rattle.std.proofs.lemmas.Bool.{cases_lt}
use Rattle.std.proofs.lemmas.List.{append_assoc, take_more}
use Rattle.std.proofs.lemmas.Option.{slice_get_within}
use Rattle.std.proofs.lemmas.List.Elements.{Contains-append_left, Contains-append_right, Contains-append_cases}
use Rattle.type_kinds.proofs.Lists.{contains_none, contains_at, position_of}
use Rattle.core_ast.specs.Model as m
use Rattle.core_scope.specs.Names.{Distinct}
use Rattle.call_graph.specs.Calls.{Calls, functions_of}
use Rattle.components.specs.Graph.{Leads}
use Rattle.components.specs.Numbering.{Numbering, component_of_node, members_of}
use Rattle.components.specs.Ready.{IsReadyNumbering}
use Rattle.comp_rounds.specs.Rounds.{Function}
use Rattle.sound_laws.specs.Accepted.{AreAccepted}
use Rattle.analysis_summaries.specs.Functions.{all_functions, perhaps, picked}
use Rattle.analysis_summaries.specs.Known.{module_names}
use Rattle.analysis_summaries.specs.Whole.{IsCallGraph}
use Rattle.sound_laws_whole.proofs.Tables.{picked_from, picked_has}
use Rattle.sound_laws_whole.proofs.Wholes as whole
use Rattle.sound_laws_outside.proofs.Folding.{own_component}
use Rattle.table_keep.specs.declared.source.Source.{Source as HandedIn}
use Rattle.table_verify_laws.specs.Closed.{IsComponent}
use Rattle.table_verify_rules.specs.steps.Components.{first_components, AreComponents}
use Rattle.table_verify_rules.proofs.Sources.{handed, handed_trees, trees_so, OwnNames}

-- ---- functions of the first components

pub in_first : (fs : List Function) (c : Numbering) (n count : ℕ) (g : Function) → n < count → Contains (picked fs (members_of c n)) g → Contains (first_components fs c count) g
in_first fs c n zero g low has = absurd (omega (arith, low))
in_first fs c n (suc k) g low has = elim (cases_lt n k) [
  | inl less ↦ Contains-append_left (first_components fs c k) (picked fs (members_of c k)) g (in_first fs c n k g less has)
  | inr high ↦ (let same : n ≡ k = omega (arith, low, high) in
      Contains-append_right (first_components fs c k) (picked fs (members_of c k)) g (subst (λ i. Contains (picked fs (members_of c i)) g) same has))
]

pub first_in : (fs : List Function) (c : Numbering) (count : ℕ) (g : Function) → Contains (first_components fs c count) g → Contains fs g
first_in fs c zero g has = absurd (contains_none g has)
first_in fs c (suc k) g has = elim (Contains-append_cases (first_components fs c k) (picked fs (members_of c k)) g has) [
  | inl early ↦ first_in fs c k g early
  | inr late ↦ (let p = picked_from fs (members_of c k) g late in contains_at fs p.0 g p.2)
]

-- ---- the call graph's

module _ (xs : List m.Module) (accepted : AreAccepted xs) (apart : Distinct (module_names xs)) (graph : List (List ℕ)) (is : IsCallGraph xs graph) (c : Numbering) (r : IsReadyNumbering graph c) where
  abbrev fs : List Function
  fs = all_functions xs

  abbrev gs : ℕ → List Function
  gs n = picked fs (members_of c n)

  whole_component : (n : ℕ) (g : Function) → Contains (gs n) g → IsComponent fs g (gs n)
  whole_component n g here = record {
    within = λ k has. (let p = picked_from fs (members_of c n) k has in contains_at fs p.0 k p.2);
    together = λ k there. own_component xs accepted apart graph is c r n g k here there;
  }

  component_at : (g : Function) → Contains fs g → (n : ℕ) × (n < c.count) × Contains (gs n) g
  component_at g has =
      let p = position_of fs g has in
      let low = slice_get_within fs p.0 g p.2 in
      let n = component_of_node c p.0 in
      (n, whole.number_low xs accepted apart graph is c r p.0 low, picked_has fs (members_of c n) p.0 g (whole.own_member xs accepted apart graph is c r p.0 low) p.2)

  pub are_components : AreComponents fs c
  are_components = record {
    each = λ n low. record { within = whole.within xs accepted apart graph is c r n; whole = whole_component n };
    all = λ g has. (let a = component_at g has in in_first fs c a.0 c.count g a.1 a.2);
  }

pub components_so : (ss : List HandedIn) → OwnNames ss → (graph : List (List ℕ)) → length graph ≡ length (functions_of (handed_trees ss)) → ((i j : ℕ) → Leads graph i j ↔ Calls (handed_trees ss) i j)
    → (c : Numbering) → IsReadyNumbering graph c → (gs : List Function) → gs ≡ all_functions (handed_trees ss) → AreComponents gs c
components_so ss own graph counted pairs c r gs e =
    subst (λ hs. AreComponents hs c) (sym e)
    (are_components (handed_trees ss) (subst AreAccepted (sym (trees_so ss)) (handed ss own).accepted) (subst (λ xs. Distinct (module_names xs)) (sym (trees_so ss)) (handed ss own).distinct) graph
    (record { counted = counted; pairs = pairs }) c r)

-- ---- one function of a component after another

picked_append : (all : List Function) (is js : List ℕ) → picked all (is ++ js) ≡ picked all is ++ picked all js
picked_append all [] js = refl
picked_append all (i ∷ is) js = ap (λ ks. perhaps (slice_get all i) ++ ks) (picked_append all is js) ∙ sym (append_assoc (perhaps (slice_get all i)) (picked all is) (picked all js))

pub picked_next : (fs : List Function) (numbers : List ℕ) (i n : ℕ) (g : Function) → i < length numbers → n ≡ get_or numbers i n → slice_get fs n ≡ Some g
    → (before : List Function) → before ++ picked fs (take (i + 1) numbers) ≡ (before ++ picked fs (take i numbers)) ++ g ∷ []
picked_next fs numbers i n g low is there before =
    ap (λ js. before ++ picked fs js) (take_more numbers i n low ∙ ap (λ k. take i numbers ++ k ∷ []) (sym is))
    ∙ ap (λ gs. before ++ gs) (picked_append fs (take i numbers) (n ∷ []) ∙ ap (λ o. picked fs (take i numbers) ++ (perhaps o ++ [])) there)
    ∙ sym (append_assoc before (picked fs (take i numbers)) (g ∷ []))
