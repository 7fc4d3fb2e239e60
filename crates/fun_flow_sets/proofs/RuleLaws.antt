-- Why each rule holds of what stands in a program.
use Rattle.std.proofs.Common.{◌≡◌, ◌<◌, ◌+◌, ℕ, zero, suc, Bool, true, false, if◌then◌else◌, List, [], ◌∷◌, ◌++◌}
use Rattle.std.proofs.Common.{length, Some, None, nat_eq, eqb-true, eq-eqb, inl, inr, refl, sym, ap, ◌∙◌, subst, arith}
use Rattle.std.proofs.lemmas.Bool.{false_from_ne_true}
use Rattle.std.specs.Cmp.Lexicographic.{bytes_decides}
use Rattle.type_kinds.specs.declared.atom.Atom.{Atom}
use Rattle.core_ast.specs.Lengths.{how_many}
use Rattle.core_ast.specs.Model as m
use Rattle.core_ast.specs.Named.{literal_atom, local_name}
use Rattle.core_ast.specs.declared.syntax.FunName.{FunName}
use Rattle.core_ast.specs.declared.syntax.Mark.{Mark}
use Rattle.core_ast.specs.declared.syntax.VarName.{VarName}
use Rattle.core_scope.specs.Asks.{function_name, one_value, width}
use Rattle.core_scope.specs.Names.{has_function, same_atom, wildcard}
use Rattle.core_scope.specs.declared.ask.Ask.{Ask}
use Rattle.core_scope.specs.declared.ask.Ask.TheVariants.{Exactly}
use Rattle.type_lattice_model.specs.Values.{Local}
use Rattle.core_meaning.specs.Programs.{Program, Found, built_in, found, is_exported, locals_of, module_named}
use Rattle.fun_flow_sets.specs.Items.{Item, anything, closure_at, external_function, Place, nowhere, anywhere, part, parameter, returned, Rule, holds, flows, applies, defined_at}
use Rattle.fun_flow_sets.specs.Rules.{all_into, application_place, application_rules, argument_rules, call_place, call_rules, found_place, found_rules, given_by, handing_on, in_function, into_parameters, into_parts, kept, name_rules}
use Rattle.fun_flow_sets.specs.Rules.{opens, opens_definition, passed_to, places, places_of_all, places_of_pairs, rules, rules_of_all, rules_of_clauses, rules_of_definitions, rules_of_heads, rules_of_pairs, IsAmong, IsRule}
use Rattle.fun_flow_sets.specs.Scopes.{Scope, and_place, definition_of, first, fit, in_frame, no_place, parameters, place_of, rest, with_heads, with_place, with_places}
use Rattle.fun_flow_sets.specs.Sets.{Holds, may_hold, may_flow}
use Rattle.fun_flow_sets.specs.Standing.{AreOthers, HasClause, this_clause, later_clause, HasDefinition, this_definition, later_definition, Stands, place_at}
use Rattle.fun_flow_sets.proofs.RulesOf.{among_left, among_right, definitions_there, exports_there}

-- ---- rules among lists of rules

opens_at : (home : Atom) (label i n j : ℕ) → j < n → IsAmong (opens home label i n) (holds (parameter home label (i + j)) anything)
opens_at home label i zero j h = absurd (omega (arith, h))
opens_at home label i (suc n) zero h = let e : i + 0 ≡ i = omega arith in subst (λ z. IsAmong (opens home label i (suc n)) (holds (parameter home label z) anything)) (sym e) (inl refl)
opens_at home label i (suc n) (suc j) h = let e : (i + 1) + j ≡ i + suc j = omega arith in subst (λ z. IsAmong (opens home label i (suc n)) (holds (parameter home label z) anything)) e
    (inr (opens_at home label (i + 1) n j (omega (arith, h))))

pub opened : (home : Atom) (label n j : ℕ) → j < n → IsAmong (opens home label 0 n) (holds (parameter home label j) anything)
opened home label n j h = let e : 0 + j ≡ j = omega arith in subst (λ z. IsAmong (opens home label 0 n) (holds (parameter home label z) anything)) e (opens_at home label 0 n j h)

all_at : (ps : List Place) (q : Place) (n : ℕ) → n < length ps → IsAmong (all_into ps q) (flows (place_at ps n) q)
all_at [] q n h = absurd (omega (arith, h))
all_at (p ∷ ps) q zero h = inl refl
all_at (p ∷ ps) q (suc n) h = inr (all_at ps q n (omega (arith, h)))

parameter_at : (home : Atom) (label i : ℕ) (ps : List Place) (n : ℕ) → n < length ps → IsAmong (into_parameters home label i ps) (flows (place_at ps n) (parameter home label (i + n)))
parameter_at home label i [] n h = absurd (omega (arith, h))
parameter_at home label i (p ∷ ps) zero h = let e : i + 0 ≡ i = omega arith in subst (λ z. IsAmong (into_parameters home label i (p ∷ ps)) (flows p (parameter home label z))) (sym e) (inl refl)
parameter_at home label i (p ∷ ps) (suc n) h = let e : (i + 1) + n ≡ i + suc n =
    omega arith in subst (λ z. IsAmong (into_parameters home label i (p ∷ ps)) (flows (place_at ps n) (parameter home label z))) e (inr (parameter_at home label (i + 1) ps n (omega (arith, h))))

part_at : (home : Atom) (label i m : ℕ) (ps : List Place) (n : ℕ) → n < m → IsAmong (into_parts home label i (fit m ps)) (flows (place_at ps n) (part home label (i + n)))
part_at home label i zero ps n h = absurd (omega (arith, h))
part_at home label i (suc m) ps zero h = let e : i + 0 ≡ i = omega arith in subst (λ z. IsAmong (into_parts home label i (fit (suc m) ps)) (flows (first ps) (part home label z))) (sym e) (inl refl)
part_at home label i (suc m) ps (suc n) h = let e : (i + 1) + n ≡ i + suc n = omega arith in subst (λ z. IsAmong (into_parts home label i (fit (suc m) ps)) (flows (place_at (rest ps) n) (part home label z))) e
    (inr (part_at home label (i + 1) m (rest ps) n (omega (arith, h))))

pub passed_at : (U : Program) (home : Atom) (label : ℕ) (k : Ask) (ps : List Place) (n : ℕ) → n < kept k → IsAmong (passed_to U home label k ps) (flows (place_at ps n) (part home label n))
passed_at U home label k ps n h = let e : 0 + n ≡ n = omega arith in subst (λ z. IsAmong (passed_to U home label k ps) (flows (place_at ps n) (part home label z))) e (part_at home label 0 (kept k) ps n h)

module _ (U : Program) (home : Atom) where
  all_long : (sc : Scope) (ts : m.Trees) → length (places_of_all U home sc ts) ≡ how_many ts
  all_long sc m.no_tree = refl
  all_long sc (m.and_tree t ts) = let e = all_long sc ts in omega (arith, e)

  within : (sc : Scope) (ts : m.Trees) (n : ℕ) → n < how_many ts → n < length (places_of_all U home sc ts)
  within sc ts n h = subst (λ z. n < z) (sym (all_long sc ts)) h

  -- what stands as one of the first rules
  pub first_flows : (sc : Scope) (k : Ask) (t : m.Tree) (p q : Place) (x : Item) → Stands U home sc k t → IsAmong (rules U home sc k t) (flows p q) → Holds U p x → Holds U q x
  first_flows sc k t p q x h i y = may_flow (h (flows p q) i) y

  -- ---- functions

  pub fun_holds : (sc : Scope) (k : Ask) (i : Mark) (xs : List VarName) (t : m.Tree) → Stands U home sc k (m.function i xs t) → Holds U (part home i.label 0) (closure_at home i.label (length xs))
  fun_holds sc k i xs t h = may_hold (h (holds (part home i.label 0) (closure_at home i.label (length xs))) (inl refl))

  pub name_stands : (sc : Scope) (k : Ask) (i : Mark) (f : FunName) (d : Local) (r : Rule) → Stands U home sc k (m.local i f) → definition_of U home sc f ≡ Some d → IsAmong (name_rules home i.label (Some d)) r → IsRule U r
  name_stands sc k i f d r h e j = h r (subst (λ z. IsAmong (name_rules home i.label z) r) (sym e) j)

  pub external_holds : (sc : Scope) (k : Ask) (i : Mark) (x : Atom) (f : FunName) → Stands U home sc k (m.external i x f) → Holds U (part home i.label 0) (external_function x f.name f.arity)
  external_holds sc k i x f h = may_hold (h (holds (part home i.label 0) (external_function x f.name f.arity)) (inl refl))

  pub fun_opens : (sc : Scope) (k : Ask) (i : Mark) (xs : List VarName) (t : m.Tree) (n : ℕ) → Stands U home sc k (m.function i xs t) → n < length xs → Holds U (parameter home i.label n) anything
  fun_opens sc k i xs t n h b =
      let own = flows (first (places U home (in_function U home i.label xs sc) one_value t)) (returned home i.label) ∷ rules U home (in_function U home i.label xs sc) one_value t in
      may_hold (h (holds (parameter home i.label n) anything) (inr (among_left (opens home i.label 0 (length xs)) own (holds (parameter home i.label n) anything) (opened home i.label (length xs) n b))))

  pub fun_gives : (sc : Scope) (k : Ask) (i : Mark) (xs : List VarName) (t : m.Tree) (x : Item) → Stands U home sc k (m.function i xs t) → Holds U (first (places U home (in_function U home i.label xs sc) one_value t)) x
      → Holds U (returned home i.label) x
  fun_gives sc k i xs t x h y =
      let r = flows (first (places U home (in_function U home i.label xs sc) one_value t)) (returned home i.label) in
      may_flow (h r (inr (among_right (opens home i.label 0 (length xs)) (r ∷ rules U home (in_function U home i.label xs sc) one_value t) r (inl refl)))) y

  definition_among : {ds : m.Defs} {j : Mark} {xs : List VarName} {u : m.Tree} (sc : Scope) → HasDefinition ds j xs u
      → IsAmong (rules_of_definitions U home sc ds) (flows (first (places U home (in_function U home j.label xs sc) one_value u)) (returned home j.label))
  definition_among sc this_definition = inl refl
  definition_among {j = j} {xs = xs} {u = u} sc (later_definition {i = i} {xs = ys} {t = t} {ds = ds} h) =
      among_right (flows (first (places U home (in_function U home i.label ys sc) one_value t)) (returned home i.label) ∷ rules U home (in_function U home i.label ys sc) one_value t) (rules_of_definitions U home sc ds)
      (flows (first (places U home (in_function U home j.label xs sc) one_value u)) (returned home j.label)) (definition_among sc h)

  pub letrec_gives : (sc : Scope) (k : Ask) (i j : Mark) (ds : m.Defs) (t u : m.Tree) (xs : List VarName) (x : Item) → Stands U home sc k (m.letrec i ds t) → HasDefinition ds j xs u
      → Holds U (first (places U home (in_function U home j.label xs (in_frame (locals_of ds) sc)) one_value u)) x → Holds U (returned home j.label) x
  letrec_gives sc k i j ds t u xs x h d y =
      let inner = in_frame (locals_of ds) sc in
      let r = flows (first (places U home (in_function U home j.label xs inner) one_value u)) (returned home j.label) in
      may_flow (h r (among_left (rules_of_definitions U home inner ds) (rules U home inner k t) r (definition_among inner d))) y

  pub module_gives : (p : m.Module) (j : Mark) (u : m.Tree) (xs : List VarName) (x : Item) → module_named U home ≡ Some p → HasDefinition p.defs j xs u
      → Holds U (first (places U home (in_function U home j.label xs no_place) one_value u)) x → Holds U (returned home j.label) x
  module_gives p j u xs x e d y = may_flow (definitions_there U home p (flows (first (places U home (in_function U home j.label xs no_place) one_value u)) (returned home j.label)) e (definition_among no_place d)) y

  pub export_opens : (f : FunName) (d : Local) (n : ℕ) → is_exported U home f ≡ true → defined_at U home f ≡ Some d → n < d.arity → Holds U (parameter home d.label n) anything
  export_opens f d n e is b = may_hold (exports_there U home f (holds (parameter home d.label n) anything) e
      (subst (λ z. IsAmong (opens_definition home z) (holds (parameter home d.label n) anything)) (sym is) (opened home d.label d.arity n b)))

  -- ---- captured variables

  others_keep : (xs : List VarName) (ps : List Place) (sc : Scope) (y : Atom) → AreOthers y xs → place_of (with_places xs ps sc) y ≡ place_of sc y
  others_keep [] ps sc y h = refl
  others_keep (x ∷ xs) ps sc y h = others_keep xs (rest ps) (with_place x.name (first ps) sc) y h.1 ∙ one (same_atom x.name wildcard)
    where
      other : same_atom x.name y ≡ false
      other = false_from_ne_true (same_atom x.name y) (λ e. h.0 ((bytes_decides x.name y).0 e))

      one : (b : Bool) → place_of (if b then sc else and_place x.name (first ps) sc) y ≡ place_of sc y
      one true = refl
      one false = ap (λ b. if b then first ps else place_of sc y) other

  pub captured : (label : ℕ) (xs : List VarName) (sc : Scope) (y : Atom) → AreOthers y xs → place_of (in_function U home label xs sc) y ≡ place_of sc y
  captured label xs sc y h = others_keep xs (parameters home label 0 (length xs)) sc y h

  -- ---- parts

  pub element_joins : (sc : Scope) (k : Ask) (i : Mark) (ts : m.Trees) (t : m.Tree) (n : ℕ) (x : Item) → Stands U home sc k (m.listed i ts t) → n < how_many ts → Holds U (place_at (places_of_all U home sc ts) n) x
      → Holds U (part home i.label 0) x
  element_joins sc k i ts t n x h b y =
      let q = part home i.label 0 in
      let r = flows (place_at (places_of_all U home sc ts) n) q in
      may_flow (h r (among_left (all_into (places_of_all U home sc ts) q) (flows (first (places U home sc one_value t)) q ∷ (rules_of_all U home sc ts ++ rules U home sc one_value t)) r
      (all_at (places_of_all U home sc ts) q n (within sc ts n b)))) y

  pub rest_joins : (sc : Scope) (k : Ask) (i : Mark) (ts : m.Trees) (t : m.Tree) (x : Item) → Stands U home sc k (m.listed i ts t) → Holds U (first (places U home sc one_value t)) x → Holds U (part home i.label 0) x
  rest_joins sc k i ts t x h y =
      let q = part home i.label 0 in
      let r = flows (first (places U home sc one_value t)) q in
      may_flow (h r (among_right (all_into (places_of_all U home sc ts) q) (r ∷ (rules_of_all U home sc ts ++ rules U home sc one_value t)) r (inl refl))) y

  pub tuple_joins : (sc : Scope) (k : Ask) (i : Mark) (ts : m.Trees) (n : ℕ) (x : Item) → Stands U home sc k (m.tuple i ts) → n < how_many ts → Holds U (place_at (places_of_all U home sc ts) n) x → Holds U (part home i.label 0) x
  tuple_joins sc k i ts n x h b y =
      let q = part home i.label 0 in
      let r = flows (place_at (places_of_all U home sc ts) n) q in
      may_flow (h r (among_left (all_into (places_of_all U home sc ts) q) (rules_of_all U home sc ts) r (all_at (places_of_all U home sc ts) q n (within sc ts n b)))) y

  pub map_joins : (sc : Scope) (k : Ask) (i : Mark) (ps : m.Pairs) (n : ℕ) (x : Item) → Stands U home sc k (m.new_map i ps) → n < length (places_of_pairs U home sc ps) → Holds U (place_at (places_of_pairs U home sc ps) n) x
      → Holds U (part home i.label 0) x
  map_joins sc k i ps n x h b y =
      let q = part home i.label 0 in
      let r = flows (place_at (places_of_pairs U home sc ps) n) q in
      may_flow (h r (among_left (all_into (places_of_pairs U home sc ps) q) (rules_of_pairs U home sc ps) r (all_at (places_of_pairs U home sc ps) q n b))) y

  pub update_joins : (sc : Scope) (k : Ask) (i : Mark) (ps : m.Pairs) (t : m.Tree) (n : ℕ) (x : Item) → Stands U home sc k (m.updated_map i ps t) → n < length (places_of_pairs U home sc ps)
      → Holds U (place_at (places_of_pairs U home sc ps) n) x → Holds U (part home i.label 0) x
  update_joins sc k i ps t n x h b y =
      let q = part home i.label 0 in
      let r = flows (place_at (places_of_pairs U home sc ps) n) q in
      may_flow (h r (among_left (all_into (places_of_pairs U home sc ps) q) (flows (first (places U home sc one_value t)) q ∷ (rules_of_pairs U home sc ps ++ rules U home sc one_value t)) r (all_at (places_of_pairs U home sc ps) q n b)))
      y

  pub bar_joins : (sc : Scope) (k : Ask) (i : Mark) (ps : m.Pairs) (t : m.Tree) (x : Item) → Stands U home sc k (m.updated_map i ps t) → Holds U (first (places U home sc one_value t)) x → Holds U (part home i.label 0) x
  bar_joins sc k i ps t x h y =
      let q = part home i.label 0 in
      let r = flows (first (places U home sc one_value t)) q in
      may_flow (h r (among_right (all_into (places_of_pairs U home sc ps) q) (r ∷ (rules_of_pairs U home sc ps ++ rules U home sc one_value t)) r (inl refl))) y

  -- ---- clauses

  clause_among : (sc : Scope) (k : Ask) (label : ℕ) (qs : List Place) (n : ℕ) {cs : m.Clauses} {inner : Scope} {u : m.Tree} → HasClause sc qs cs inner u → n < kept k
      → IsAmong (rules_of_clauses U home sc k label qs cs) (flows (place_at (places U home inner k u) n) (part home label n))
  clause_among sc k label qs n (this_clause {ps = ps} {g = g} {t = t} {cs = cs}) b =
      let inner = with_heads qs ps sc in
      let r = flows (place_at (places U home inner k t) n) (part home label n) in
      let passing = passed_to U home label k (places U home inner k t) in
      let bodies = rules U home inner k t in
      let later = rules_of_clauses U home sc k label qs cs in
      among_right (rules_of_heads U home sc qs ps) (rules U home inner one_value g ++ ((passing ++ bodies) ++ later)) r (
      among_right (rules U home inner one_value g) ((passing ++ bodies) ++ later) r (
      among_left (passing ++ bodies) later r (among_left passing bodies r (passed_at U home label k (places U home inner k t) n b))))
  clause_among sc k label qs n {inner = there} {u = u} (later_clause {ps = ps} {g = g} {t = t} {cs = cs} h) b =
      let inner = with_heads qs ps sc in
      let r = flows (place_at (places U home there k u) n) (part home label n) in
      let passing = passed_to U home label k (places U home inner k t) in
      let bodies = rules U home inner k t in
      let later = rules_of_clauses U home sc k label qs cs in
      among_right (rules_of_heads U home sc qs ps) (rules U home inner one_value g ++ ((passing ++ bodies) ++ later)) r (
      among_right (rules U home inner one_value g) ((passing ++ bodies) ++ later) r (
      among_right (passing ++ bodies) later r (clause_among sc k label qs n h b)))

  pub case_joins : (sc inner : Scope) (k : Ask) (i : Mark) (t u : m.Tree) (cs : m.Clauses) (n : ℕ) (x : Item) → Stands U home sc k (m.case i t cs) → HasClause sc (places U home sc (Exactly (width cs)) t) cs inner u → n < kept k
      → Holds U (place_at (places U home inner k u) n) x → Holds U (part home i.label n) x
  case_joins sc inner k i t u cs n x h c b y =
      let r = flows (place_at (places U home inner k u) n) (part home i.label n) in
      let qs = places U home sc (Exactly (width cs)) t in
      may_flow (h r (among_right (rules U home sc (Exactly (width cs)) t) (rules_of_clauses U home sc k i.label qs cs) r (clause_among sc k i.label qs n c b))) y

  pub receive_joins : (sc inner : Scope) (k : Ask) (i : Mark) (t u w : m.Tree) (cs : m.Clauses) (n : ℕ) (x : Item) → Stands U home sc k (m.receive i cs t u) → HasClause sc [] cs inner w → n < kept k
      → Holds U (place_at (places U home inner k w) n) x → Holds U (part home i.label n) x
  receive_joins sc inner k i t u w cs n x h c b y =
      let r = flows (place_at (places U home inner k w) n) (part home i.label n) in
      may_flow (h r (among_left (rules_of_clauses U home sc k i.label [] cs) (rules U home sc one_value t ++ (passed_to U home i.label k (places U home sc k u) ++ rules U home sc k u)) r (clause_among sc k i.label [] n c b))) y

  pub action_joins : (sc : Scope) (k : Ask) (i : Mark) (t u : m.Tree) (cs : m.Clauses) (n : ℕ) (x : Item) → Stands U home sc k (m.receive i cs t u) → n < kept k → Holds U (place_at (places U home sc k u) n) x
      → Holds U (part home i.label n) x
  action_joins sc k i t u cs n x h b y =
      let r = flows (place_at (places U home sc k u) n) (part home i.label n) in
      let passing = passed_to U home i.label k (places U home sc k u) in
      may_flow (h r (
      among_right (rules_of_clauses U home sc k i.label [] cs) (rules U home sc one_value t ++ (passing ++ rules U home sc k u)) r (
      among_right (rules U home sc one_value t) (passing ++ rules U home sc k u) r (
      among_left passing (rules U home sc k u) r (passed_at U home i.label k (places U home sc k u) n b))))) y

  pub body_joins : (sc : Scope) (k : Ask) (i : Mark) (t : m.Tree) (xs : List VarName) (u : m.Tree) (ys : List VarName) (w : m.Tree) (n : ℕ) (x : Item) → Stands U home sc k (m.try i t xs u ys w) → n < kept k
      → Holds U (place_at (places U home (with_places xs (places U home sc (Exactly (length xs)) t) sc) k u) n) x → Holds U (part home i.label n) x
  body_joins sc k i t xs u ys w n x h b y =
      let inner = with_places xs (places U home sc (Exactly (length xs)) t) sc in
      let handler = with_places ys [] sc in
      let r = flows (place_at (places U home inner k u) n) (part home i.label n) in
      let passing = passed_to U home i.label k (places U home inner k u) in
      let handled = passed_to U home i.label k (places U home handler k w) ++ rules U home handler k w in
      may_flow (h r (
      among_right (rules U home sc (Exactly (length xs)) t) ((passing ++ rules U home inner k u) ++ handled) r (
      among_left (passing ++ rules U home inner k u) handled r (
      among_left passing (rules U home inner k u) r (passed_at U home i.label k (places U home inner k u) n b))))) y

  pub handler_joins : (sc : Scope) (k : Ask) (i : Mark) (t : m.Tree) (xs : List VarName) (u : m.Tree) (ys : List VarName) (w : m.Tree) (n : ℕ) (x : Item) → Stands U home sc k (m.try i t xs u ys w) → n < kept k
      → Holds U (place_at (places U home (with_places ys [] sc) k w) n) x → Holds U (part home i.label n) x
  handler_joins sc k i t xs u ys w n x h b y =
      let inner = with_places xs (places U home sc (Exactly (length xs)) t) sc in
      let handler = with_places ys [] sc in
      let r = flows (place_at (places U home handler k w) n) (part home i.label n) in
      let body = passed_to U home i.label k (places U home inner k u) ++ rules U home inner k u in
      let passing = passed_to U home i.label k (places U home handler k w) in
      may_flow (h r (
      among_right (rules U home sc (Exactly (length xs)) t) (body ++ (passing ++ rules U home handler k w)) r (
      among_right body (passing ++ rules U home handler k w) r (
      among_left passing (rules U home handler k w) r (passed_at U home i.label k (places U home handler k w) n b))))) y

  -- ---- applications

  pub argument_flows : (sc : Scope) (k : Ask) (i j : Mark) (f : FunName) (ts : m.Trees) (d : Local) (n : ℕ) (x : Item) → Stands U home sc k (m.apply i (m.local j f) ts) → f.arity ≡ how_many ts
      → definition_of U home sc f ≡ Some d → n < how_many ts → Holds U (place_at (places_of_all U home sc ts) n) x → Holds U (parameter home d.label n) x
  argument_flows sc k i j f ts d n x h e is b y =
      let ps = places_of_all U home sc ts in
      let at : 0 + n ≡ n = omega arith in
      let r = flows (place_at ps n) (parameter home d.label n) in
      let flowing : IsAmong (into_parameters home d.label 0 ps) r = subst (λ z. IsAmong (into_parameters home d.label 0 ps) (flows (place_at ps n) (parameter home d.label z))) at (parameter_at home d.label 0 ps n (within sc ts n b)) in
      let given : IsAmong (argument_rules home (Some d) f.arity (how_many ts) ps) r = subst (λ z. IsAmong (if z then into_parameters home d.label 0 ps else []) r) (sym (eq-eqb f.arity (how_many ts) e)) flowing in
      let mine : IsAmong (argument_rules home (definition_of U home sc f) f.arity (how_many ts) ps) r = subst (λ z. IsAmong (argument_rules home z f.arity (how_many ts) ps) r) (sym is) given in
      may_flow (h r (among_left (argument_rules home (definition_of U home sc f) f.arity (how_many ts) ps) (rules_of_all U home sc ts) r mine)) y

  pub name_gives : (sc : Scope) (f : FunName) (n label : ℕ) → f.arity ≡ n → application_place U home sc label (Some f) n ∷ [] ≡ given_by home (definition_of U home sc f) ∷ []
  name_gives sc f n label e = ap (λ b. (if b then given_by home (definition_of U home sc f) else nowhere) ∷ []) (eq-eqb f.arity n e)

  pub name_gives_nothing : (sc : Scope) (f : FunName) (n label : ℕ) → (f.arity ≡ n → ⊥) → application_place U home sc label (Some f) n ∷ [] ≡ nowhere ∷ []
  name_gives_nothing sc f n label h = ap (λ b. (if b then given_by home (definition_of U home sc f) else nowhere) ∷ []) (false_from_ne_true (nat_eq f.arity n) (λ e. h (eqb-true f.arity n e)))

  pub operator_stands : (sc : Scope) (k : Ask) (i : Mark) (t : m.Tree) (ts : m.Trees) → Stands U home sc k (m.apply i t ts) → local_name t ≡ None → IsRule U (applies (first (places U home sc one_value t)) (how_many ts) home i.label)
  operator_stands sc k i t ts h e =
      let os = places U home sc one_value t in
      let rs = rules U home sc one_value t in
      let ps = places_of_all U home sc ts in
      let r = applies (first os) (how_many ts) home i.label in
      h r (among_left (application_rules U home sc i.label (local_name t) os rs (how_many ts) ps) (rules_of_all U home sc ts) r (subst (λ z. IsAmong (application_rules U home sc i.label z os rs (how_many ts) ps) r) (sym e) (inl refl)))

  pub operator_place : (sc : Scope) (k : Ask) (i : Mark) (t : m.Tree) (ts : m.Trees) → local_name t ≡ None → first (places U home sc k (m.apply i t ts)) ≡ part home i.label 0
  operator_place sc k i t ts e = ap (λ z. application_place U home sc i.label z (how_many ts)) e

  -- ---- calls

  pub call_found : (i : Mark) (t u : m.Tree) (n : ℕ) (x name : Atom) (k : Found) → literal_atom t ≡ Some x → literal_atom u ≡ Some name → found U x (function_name name n) ≡ k
      → call_place U home i.label (literal_atom t) (literal_atom u) n ≡ found_place U home i.label k x (function_name name n)
  call_found i t u n x name k e g at = ap (λ z. call_place U home i.label z (literal_atom u) n) e ∙ ap (λ z. call_place U home i.label (Some x) z n) g ∙ ap (λ z. found_place U home i.label z x (function_name name n)) at

  pub hands_on : (sc : Scope) (k : Ask) (i : Mark) (t u : m.Tree) (ts : m.Trees) (x name : Atom) (n : ℕ) (y : Item) → Stands U home sc k (m.call i t u ts) → literal_atom t ≡ Some x → literal_atom u ≡ Some name
      → found U x (function_name name (how_many ts)) ≡ built_in → has_function handing_on (function_name name (how_many ts)) ≡ true → n < how_many ts → Holds U (place_at (places_of_all U home sc ts) n) y
      → Holds U (first (places U home sc k (m.call i t u ts))) y
  hands_on sc k i t u ts x name n y h e g at on b hold =
      let f = function_name name (how_many ts) in
      let ps = places_of_all U home sc ts in
      let q = part home i.label 0 in
      let r = flows (place_at ps n) q in
      let joined : IsAmong (found_rules home i.label built_in f ps) r = subst (λ z. IsAmong (if z then all_into ps q else []) r) (sym on) (all_at ps q n (within sc ts n b)) in
      let mine : IsAmong (call_rules U home i.label (Some x) (Some name) (how_many ts) ps) r = subst (λ z. IsAmong (found_rules home i.label z f ps) r) (sym at) joined in
      let too : IsAmong (call_rules U home i.label (Some x) (literal_atom u) (how_many ts) ps) r = subst (λ z. IsAmong (call_rules U home i.label (Some x) z (how_many ts) ps) r) (sym g) mine in
      let all : IsAmong (call_rules U home i.label (literal_atom t) (literal_atom u) (how_many ts) ps) r = subst (λ z. IsAmong (call_rules U home i.label z (literal_atom u) (how_many ts) ps) r) (sym e) too in
      let own = rules U home sc one_value t ++ (rules U home sc one_value u ++ rules_of_all U home sc ts) in
      let there : Holds U q y = may_flow (h r (among_left (call_rules U home i.label (literal_atom t) (literal_atom u) (how_many ts) ps) own r all)) hold in
      let is : call_place U home i.label (literal_atom t) (literal_atom u) (how_many ts) ≡ q = call_found i t u (how_many ts) x name built_in e g at ∙ ap (λ z. if z then q else anywhere) on in
      subst (λ z. Holds U z y) (sym is) there
