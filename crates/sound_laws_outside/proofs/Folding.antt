-- What component by component is solved is known by components in the end.
use Rattle.std.proofs.Common.{◌≡◌, ◌↔◌, ℕ, zero, ◌<◌, ◌≤◌, true, false, List, [], ◌∷◌, length, ◌⊎◌, inl, inr, Some, Contains, refl, sym, ap, ◌∙◌, subst, arith}
use Rattle.std.specs.Prelude.{slice_get, if◌then◌else◌}
use Rattle.std.proofs.lemmas.Bool.{cases_lt, false_from_ne_true}
use Rattle.std.proofs.lemmas.Option.{slice_get_within, same_Some}
use Rattle.type_kinds.proofs.Lists.{contains_at, contains_first, position_of}
use Rattle.type_kinds.specs.declared.atom.Atom.{Atom}
use Rattle.core_ast.specs.declared.syntax.FunName.{FunName}
use Rattle.core_ast.specs.Model as m
use Rattle.core_scope.specs.Names.{Distinct, has_function}
use Rattle.core_scope.proofs.NameLaws.{has_contained, contained_has}
use Rattle.call_graph.specs.Calls.{ModuleFunction, functions_of, GoesTo, Calls}
use Rattle.call_graph.specs.Targets.CallTarget.{defined, inner, remote}
use Rattle.call_graph.specs.Targets.{CallTarget, targets}
use Rattle.components.specs.Graph as graphs
use Rattle.components.specs.Graph.{by_pair, by_pairs}
use Rattle.components.specs.Numbering.{Numbering, component_of_node, members_of}
use Rattle.components.specs.Ready.{IsReadyNumbering}
use Rattle.cons_tree.specs.declared.parts.Callee.TheVariants.{Undefined}
use Rattle.comp_rounds.specs.Rounds.{Callees, Function, is_member, summaries}
use Rattle.sound_laws_rounds.specs.Whole.{AreKnown}
use Rattle.sound_laws.specs.Accepted.{AreAccepted}
use Rattle.analysis_summaries.specs.Functions.{summarized, all_functions, picked}
use Rattle.analysis_summaries.specs.Known.{all_unknown, module_names, closed_over, known_over}
use Rattle.analysis_summaries.specs.Whole.{IsCallGraph}
use Rattle.sound_laws_whole.specs.Once.{NamedOnce}
use Rattle.sound_laws_whole.proofs.Named.{Positioned, search_named, member_at, one_position}
use Rattle.sound_laws_whole.proofs.Tables.{picked_once, stays_out, picked_has, picked_from}
use Rattle.sound_laws_whole.proofs.Wholes as whole
use Rattle.sound_laws_whole.proofs.Wholes.{source_of, summarized_at}
use Rattle.sound_laws_outside.specs.Over.{is_home, Finds, Leads, Reaches, by_call, by_calls, Together, IsKnownOver}
use Rattle.sound_laws_outside.specs.Laws.{SolvedLaw}
use Rattle.sound_laws_outside.proofs.Members.{clash, member_named, home_in}
use Rattle.sound_laws_outside.proofs.One.{one_number}

none_in : (is : List ℕ) → ((i : ℕ) → Contains is i → ⊥) → is ≡ []
none_in [] h = refl
none_in (i ∷ is) h = absurd (h i (contains_first i is))

-- ---- a target of a function with what its module exports, and without

finds : (f g : ModuleFunction) (t : CallTarget) → GoesTo f t g → Finds (summarized f) t (summarized g)
finds f g (defined name count) goes = goes
finds f g (inner name count) goes = goes
finds f g (remote home name) goes = (
  goes.0,
  goes.1,
  has_contained g.exports g.name (subst (λ z. Contains g.exports z) (sym goes.3) goes.2),
  goes.3,
)

goes_to : (f g : ModuleFunction) (t : CallTarget) → Finds (summarized f) t (summarized g) → GoesTo f t g
goes_to f g (defined name count) found = found
goes_to f g (inner name count) found = found
goes_to f g (remote home name) found = (
  found.0,
  found.1,
  contained_has g.exports name (subst (λ z. has_function g.exports z ≡ true) found.3 found.2),
  found.3,
)

module _ (xs : List m.Module) (accepted : AreAccepted xs) (apart : Distinct (module_names xs)) (graph : List (List ℕ)) (is : IsCallGraph xs graph) (c : Numbering) (r : IsReadyNumbering graph c) where
  abbrev fs : List Function
  fs = all_functions xs

  abbrev gs : ℕ → List Function
  gs n = picked fs (members_of c n)

  once : NamedOnce fs
  once = whole.once xs accepted apart graph is c r

  within : (n i : ℕ) → Contains (members_of c n) i → i < length fs
  within = whole.within xs accepted apart graph is c r

  -- ---- numbers

  abbrev number_by : (h : Atom) (f : FunName) → Positioned fs h f ⊎ (is_member fs h f ≡ false) → ℕ
  number_by h f (inl k) = component_of_node c k.position
  number_by h f (inr none) = zero

  abbrev number : Atom → FunName → ℕ
  number h f = number_by h f (search_named fs h f)

  number_at : (i : ℕ) (g : Function) → slice_get fs i ≡ Some g → number g.home g.name ≡ component_of_node c i
  number_at i g at = by (search_named fs g.home g.name)
    where
      by : (o : Positioned fs g.home g.name ⊎ (is_member fs g.home g.name ≡ false)) → number_by g.home g.name o ≡ component_of_node c i
      by (inl k) = ap (component_of_node c) (one_position fs once k.position i k.function g k.there at (sym k.home_is) (sym k.name_is))
      by (inr none) = clash (is_member fs g.home g.name) (member_at fs i g at) none

  numbered : (n : ℕ) (g : Function) → Contains (gs n) g → number g.home g.name ≡ n
  numbered n g has =
      let p = picked_from fs (members_of c n) g has in
      number_at p.0 g p.2 ∙ (whole.members xs accepted apart graph is c r n p.0 (slice_get_within fs p.0 g p.2)).0 p.1

  all : (g : Function) → Contains fs g → Contains (gs (number g.home g.name)) g
  all g has =
      let p = position_of fs g has in
      subst (λ n. Contains (gs n) g) (sym (number_at p.0 g p.2))
      (picked_has fs (members_of c (component_of_node c p.0)) p.0 g (whole.own_member xs accepted apart graph is c r p.0 (slice_get_within fs p.0 g p.2)) p.2)

  -- from the count on there is no component
  empty : (n : ℕ) → c.count ≤ n → members_of c n ≡ []
  empty n high =
      none_in (members_of c n)
      (λ i has.
      let number = (whole.members xs accepted apart graph is c r n i (within n i has)).0 has in
      let low = whole.number_low xs accepted apart graph is c r i (within n i has) in
      absurd (omega (arith, number, low, high)))

  by_number : (P : List Function → Type 0) → ((n : ℕ) → n < c.count → P (gs n)) → P [] → (n : ℕ) → P (gs n)
  by_number P each none n = elim (cases_lt n c.count) [
    | inl low ↦ each n low
    | inr high ↦ subst (λ ms. P (picked fs ms)) (sym (empty n high)) none
  ]

  -- ---- calls

  down : (f g : Function) (t : CallTarget) → Contains fs f → Contains fs g → Contains (targets [] f.body) t → Finds f t g → number g.home g.name ≤ number f.home f.name
  down f g t in_f in_g stands goes =
      let p = position_of fs f in_f in
      let q = position_of fs g in_g in
      let a = source_of xs p.0 f p.2 in
      let b = source_of xs q.0 g q.2 in
      let found : Finds (summarized a.source) t (summarized b.source) = subst (λ z. Finds z t (summarized b.source)) (sym a.is) (subst (λ z. Finds f t z) (sym b.is) goes) in
      let low =
      whole.call_down xs accepted apart graph is c r p.0 q.0 a.source b.source t a.there b.there (subst (λ (z : Function). Contains (targets [] z.body) t) (sym a.is) stands)
      (goes_to a.source b.source t found) in
      let at_f = number_at p.0 f p.2 in
      let at_g = number_at q.0 g q.2 in
      omega (arith, low, at_f, at_g)

  lead : (i k : ℕ) (f g : ModuleFunction) → slice_get (functions_of xs) i ≡ Some f → slice_get (functions_of xs) k ≡ Some g → Calls xs i k → Leads fs (summarized f) (summarized g)
  lead i k f g at_f at_g call =
      let caller : call.caller ≡ f = same_Some call.caller f (sym call.calling ∙ at_f) in
      let callee : call.callee ≡ g = same_Some call.callee g (sym call.called ∙ at_g) in
      record {
        calling = contains_at fs i (summarized f) (summarized_at xs i f at_f);
        called = contains_at fs k (summarized g) (summarized_at xs k g at_g);
        target = call.target;
        stands = subst (λ (z : ModuleFunction). Contains (targets [] z.body) call.target) caller call.stands;
        goes = finds f g call.target (subst (λ z. GoesTo f call.target z) callee (subst (λ z. GoesTo z call.target call.callee) caller call.goes));
      }

  reach : (i k : ℕ) → graphs.Reaches graph i k → (f g : ModuleFunction) → slice_get (functions_of xs) i ≡ Some f → slice_get (functions_of xs) k ≡ Some g → Reaches fs (summarized f) (summarized g)
  reach _ _ (by_pair i k leads) f g at_f at_g = by_call (summarized f) (summarized g) (lead i k f g at_f at_g ((is.pairs i k).0 leads))
  reach _ _ (by_pairs i k l leads more) f g at_f at_g =
      let call = (is.pairs i k).0 leads in
      by_calls (summarized f) (summarized call.callee) (summarized g) (lead i k f call.callee at_f call.called call) (reach k l more call.callee g call.called at_g)

  together : (f g : Function) → Contains fs f → Contains fs g → number f.home f.name ≡ number g.home g.name → Together fs f g
  together f g in_f in_g e =
      let p = position_of fs f in_f in
      let q = position_of fs g in_g in
      let a = source_of xs p.0 f p.2 in
      let b = source_of xs q.0 g q.2 in
      let low_p : p.0 < length graph = subst (λ n. p.0 < n) (whole.counted xs accepted apart graph is c r) (slice_get_within fs p.0 f p.2) in
      let low_q : q.0 < length graph = subst (λ n. q.0 < n) (whole.counted xs accepted apart graph is c r) (slice_get_within fs q.0 g q.2) in
      subst (λ z. Together fs z g) a.is
      (subst (λ z. Together fs (summarized a.source) z) b.is
      (by p.0 q.0 a.source b.source a.there b.there ((r.together p.0 q.0 low_p low_q).0 (sym (number_at p.0 f p.2) ∙ e ∙ number_at q.0 g q.2))))
    where
      by : (i k : ℕ) (a b : ModuleFunction) → slice_get (functions_of xs) i ≡ Some a → slice_get (functions_of xs) k ≡ Some b → graphs.Together graph i k → Together fs (summarized a) (summarized b)
      by i k a b at_a at_b (inl same) = inl (ap summarized (same_Some a b (sym at_a ∙ ap (slice_get (functions_of xs)) same ∙ at_b)))
      by i k a b at_a at_b (inr both) = inr (reach i k both.0 a b at_a at_b, reach k i both.1 b a at_b at_a)

  -- ---- what is known in the end

  module _ (outside : Callees) where
    abbrev end : Callees
    end = known_over outside xs c

    still : (h : Atom) (f : FunName) → is_member fs h f ≡ false → end h f ≡ closed_over outside (module_names xs) h f
    still h f none = stays_out (closed_over outside (module_names xs)) fs once c (whole.members xs accepted apart graph is c r) within h f none c.count

    pub is_known : IsKnownOver outside xs end
    is_known = record {
      number = number;
      component = gs;
      out = λ h f e.
          still h f (false_from_ne_true (is_member fs h f) (λ t. let j = member_named fs h f t in clash (is_home xs h) (sym (ap (is_home xs) j.home_is) ∙ home_in xs j.function j.there) e))
          ∙ ap (λ b. if b then Undefined else outside h f) e;
      none = λ h f e lacks. still h f lacks ∙ ap (λ b. if b then Undefined else outside h f) e;
      within = λ n g has. (let p = picked_from fs (members_of c n) g has in contains_at fs p.0 g p.2);
      numbered = numbered;
      all = all;
      once = by_number NamedOnce (λ n low. picked_once fs once (members_of c n) (whole.ascending xs accepted apart graph is c r n low)) tt;
      down = down;
      together = together;
      known_so = by_number (λ ks. AreKnown end ks (summaries end ks)) (λ n low. whole.known_in_end xs accepted apart graph is c r outside n low) tt;
    }

  -- the functions of a component are those that are together with one of it
  pub own_component : (n : ℕ) (g k : Function) → Contains (gs n) g → Contains fs k → Contains (gs n) k ↔ Together fs g k
  unfolding is_known
  own_component n g k here there = (
    λ has. together g k in_all there (numbered n g here ∙ sym (numbered n k has)),
    λ both. subst (λ i. Contains (gs i) k) (sym (one_number xs all_unknown (end all_unknown) (is_known all_unknown) g k both) ∙ numbered n g here) (all k there),
  )
    where
      in_all : Contains fs g
      in_all = let p = picked_from fs (members_of c n) g here in contains_at fs p.0 g p.2

pub solved : SolvedLaw
solved xs outside known accepted apart is =
    subst (IsKnownOver outside xs) (sym is.known_so) (is_known xs accepted apart is.graph is.is_graph is.numbering is.is_numbering outside)
