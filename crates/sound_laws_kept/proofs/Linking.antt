-- Solving modules by the components of their functions keeps what the law of the kept table asks of a relation of solving.
use Rattle.std.proofs.Common.{◌≡◌, ◌≢◌, ℕ, Bool, true, false, cond, List, [], Contains, ◌⊎◌, inl, inr, Some, None, refl, sym, ap, ◌∙◌, subst}
use Rattle.type_kinds.specs.declared.atom.Atom.{Atom}
use Rattle.core_ast.specs.declared.syntax.FunName.{FunName}
use Rattle.core_ast.specs.Model as m
use Rattle.core_scope.specs.Asks.{erlang}
use Rattle.core_scope.specs.Names.{same_atom}
use Rattle.call_graph.specs.Outside.{Called}
use Rattle.call_graph.specs.Targets.CallTarget.{defined, inner, remote}
use Rattle.call_graph.specs.Targets.{CallTarget, targets, def_targets}
use Rattle.cons_tree.specs.declared.parts.Callee.{Callee}
use Rattle.comp_rounds.specs.Rounds.{Callees, Function}
use Rattle.analysis_summaries.specs.Functions.{all_functions}
use Rattle.cons_gen_frame.specs.Agreement.{AreAlike}
use Rattle.module_flow.specs.Flow.{findings}
use Rattle.module_flow_frame.specs.Frame.{FindingsFrame}
use Rattle.warn_list.specs.declared.finding.Finding.{Finding}
use Rattle.warn_list.specs.Lines.{AreLines}
use Rattle.sound_laws_outside.specs.Over as over
use Rattle.sound_laws_outside.specs.Over.{is_home, Finds, IsKnownOver}
use Rattle.sound_laws_outside.specs.Laws as laws
use Rattle.sound_laws_outside.specs.Laws.{CarriedLaw, PartsLaw, OneLaw}
use Rattle.sound_laws_outside.proofs.Members.{Of, of_all, home_of, home_in}
use Rattle.table_keep.specs.Model.{Source, Result, trees, source_of, is_in, picked}
use Rattle.table_keep.specs.Calls.{called_functions, called_modules}
use Rattle.table_keep.specs.Groups.{has, Reaches, by_call, Together}
use Rattle.table_keep.specs.Kept.{Standing, Results, calls_of, calls_by, callee_among, with_results}
use Rattle.table_keep.specs.Made.{exported}
use Rattle.sound_laws_kept.specs.Solving.{IsResult, IsSolved, AreSources}
use Rattle.sound_laws_kept.proofs.Solving.{SameSources, IsPart, Carries, GivesOne, GivesParts}
use Rattle.sound_laws_kept.proofs.Names.{clash, itself, name_is, called_has, are_picked}
use Rattle.sound_laws_kept.proofs.Graphs.{joined}
use Rattle.sound_laws_kept.proofs.Calls.{leaves}
use Rattle.sound_laws_kept.proofs.Trees.{tree_stands, source_of_tree, own_source, own_name, under, picked_stands, stands_picked, home_of_sources, still_there, same_modules}
use Rattle.sound_laws_kept.proofs.Shown.{target_of_body, one_summarized, still_summarized, shown_alike}

-- findings have one text
abbrev pub TextLaw : Type 0
TextLaw = (home : Atom) (found : List Finding) (one other : List ℕ) → AreLines home found one → AreLines home found other → one ≡ other

turned : (x y : Callee) → AreAlike x y → AreAlike y x
turned x y (inl e) = inl (sym e)
turned x y (inr both) = inr (both.1, both.0)

-- ---- results over other things that stand

module _ (frame : FindingsFrame) where
  -- a result stands where what is known is the same of the module's own functions, and alike of those that it calls
  pub same_result : (x : m.Module) (known other : Callees) (r : Result) → ((f : FunName) → known x.name f ≡ other x.name f)
      → ((c : Called) → Contains (called_functions x) c → AreAlike (known c.0 c.1) (other c.0 c.1)) → IsResult known x r → IsResult other x r
  same_result x known other r own called is = record {
    exports = still_summarized known other x.name (exported x) r.exports own is.exports;
    lines = subst (λ fs. AreLines x.name fs r.lines)
        (frame x known other (record {
          own = λ f there. own f;
          applied = λ f n there. own f;
          called = λ h f there far. by h f there far (same_atom h x.name) refl;
        }))
        is.lines;
  }
    where
      by : (h : Atom) (f : FunName) → Contains (def_targets [] x.defs) (remote h f) → h ≢ erlang → (b : Bool) → same_atom h x.name ≡ b → AreAlike (known h f) (other h f)
      by h f there far true is = subst (λ z. AreAlike (known z f) (other z f)) (sym (name_is h x.name is)) (inl (own f))
      by h f there far false is = called (h, f) (leaves x h f there far (λ e. clash (same_atom h x.name) (ap (same_atom h) (sym e) ∙ itself h) is))

module _ (carried : CarriedLaw) (frame : FindingsFrame) where
  module _ (xs ys : List Source) (ax : AreSources xs) (ay : AreSources ys) (same : SameSources xs ys) (A L : Standing) (known : Callees) (is : IsKnownOver A (trees xs) known)
      (alike : (s : Source) (c : Called) → Contains xs s → Contains (called_functions s.tree) c → is_in xs c.0 ≡ false → AreAlike (A c.0 c.1) (L c.0 c.1)) where
    abbrev pub moved : Callees
    moved h f = cond (is_in xs h) (known h f) (L h f)

    inside : (h : Atom) (f : FunName) → is_in xs h ≡ true → known h f ≡ moved h f
    inside h f e = sym (ap (λ b. cond b (known h f) (L h f)) e)

    beyond : (h : Atom) (f : FunName) → is_in xs h ≡ false → moved h f ≡ L h f
    beyond h f e = ap (λ b. cond b (known h f) (L h f)) e

    -- a call that leaves the modules is one of a function that its module calls
    leaves_alike : (g : Function) (h : Atom) (f : FunName) → Contains (all_functions (trees xs)) g → Contains (targets [] g.body) (remote h f) → h ≢ erlang → is_home (trees xs) h ≡ false → AreAlike (A h f) (L h f)
    leaves_alike g h f there stands far out =
        let r = of_all (trees xs) g there in
        let s = source_of_tree xs r.source r.there in
        let call = leaves r.source h f (target_of_body r.source g r.in_it (remote h f) stands) far
        (λ e. clash (is_home (trees xs) h) (ap (is_home (trees xs)) e ∙ home_of (trees xs) r.source r.there) out) in
        alike s.source (h, f) s.there (subst (λ z. Contains (called_functions z) (h, f)) (sym s.is) call) (sym (home_of_sources xs h) ∙ out)

    pub is_moved : IsKnownOver L (trees ys) moved
    is_moved =
        carried (trees xs) (trees ys) A L known moved (same_modules xs ys ax ay same) leaves_alike is
        (λ h f e. inside h f (sym (home_of_sources xs h) ∙ e)) (λ h f e. beyond h f (sym (home_of_sources xs h) ∙ e))

    pub moved_result : (s : Source) → Contains xs s → (r : Result) → IsResult known s.tree r → IsResult moved s.tree r
    moved_result s has r = same_result frame s.tree known moved r (λ f. inside s.tree.name f (own_name xs ax s has)) (λ c call. by c call (is_in xs c.0) refl)
      where
        by : (c : Called) → Contains (called_functions s.tree) c → (b : Bool) → is_in xs c.0 ≡ b → AreAlike (known c.0 c.1) (moved c.0 c.1)
        by c call true e = inl (inside c.0 c.1 e)
        by c call false e =
            subst (λ z. AreAlike z (moved c.0 c.1)) (sym (is.out c.0 c.1 (home_of_sources xs c.0 ∙ e)))
            (subst (AreAlike (A c.0 c.1)) (sym (beyond c.0 c.1 e)) (alike s c has call e))

    pub moved_solved : (R Q : Results) → ((h : Atom) → is_in xs h ≡ true → R h ≡ Q h) → ((s : Source) → Contains xs s → IsResult known s.tree (R s.tree.name)) → IsSolved ys L Q
    moved_solved R Q equal results = record {
      known = moved;
      known_so = is_moved;
      results = λ s has.
          let there = still_there ys xs ay (λ h. sym (same h)) s has in
          subst (IsResult moved s.tree) (equal s.tree.name (own_name xs ax s there)) (moved_result s there (R s.tree.name) (results s there));
    }

  pub carries : Carries IsSolved
  carries = record {
    over = λ xs ys K L R Q ax ay same agree equal solved.
        moved_solved xs ys ax ay same K L solved.known solved.known_so
        (λ s c has call out. inl (agree s.tree.name s c (own_source xs ax.distinct s has) call out)) R Q equal solved.results;
  }

-- ---- one result

pub gives_one : OneLaw → TextLaw → GivesOne IsSolved
gives_one one_known one_text = record { one = λ xs K R Q are r q h e. same xs K R Q r q h e }
  where
    one_result : (known other : Callees) (x : m.Module) (a b : Result) → known ≡ other → IsResult known x a → IsResult other x b → a ≡ b
    one_result known other x a b e r q =
        let now = subst (λ k. IsResult k x a) e r in
        let exports = one_summarized other x.name (exported x) a.exports b.exports now.exports q.exports in
        let lines = one_text x.name (findings other x) a.lines b.lines now.lines q.lines in
        λ i. record { exports = exports i; lines = lines i }

    same : (xs : List Source) (K : Standing) (R Q : Results) → IsSolved xs K R → IsSolved xs K Q → (h : Atom) → is_in xs h ≡ true → R h ≡ Q h
    same xs K R Q r q h e =
        let u = under xs h e in
        subst (λ z. R z ≡ Q z) u.name_is
        (one_result r.known q.known u.source.tree (R u.source.tree.name) (Q u.source.tree.name) (one_known (trees xs) K r.known q.known r.known_so q.known_so)
        (r.results u.source u.there) (q.results u.source u.there))

-- ---- parts

module _ (xs : List Source) (are : AreSources xs) where
  abbrev fs : List Function
  fs = all_functions (trees xs)

  abbrev Leads_on : (a b : Atom) → Type 0
  Leads_on a b = (a ≡ b) ⊎ Reaches (is_in xs) (calls_of [] xs) a b

  in_sources : (g : Function) → Contains fs g → is_in xs g.home ≡ true
  in_sources g there = sym (home_of_sources xs g.home) ∙ home_in (trees xs) g there

  -- a call of a function is a call of its module, or stays in the module
  module_lead : (f g : Function) → over.Leads fs f g → Leads_on f.home g.home
  module_lead f g l = by l.target l.stands l.goes
    where
      by : (t : CallTarget) → Contains (targets [] f.body) t → Finds f t g → Leads_on f.home g.home
      by (defined name n) stands goes = inl (sym goes.0)
      by (inner name n) stands goes = absurd goes
      by (remote h name) stands goes = near (same_atom h r.source.name) refl
        where
          r : Of (trees xs) f
          r = of_all (trees xs) f l.calling

          near : (b : Bool) → same_atom h r.source.name ≡ b → Leads_on f.home g.home
          near true is = inl (r.home_is ∙ sym (name_is h r.source.name is) ∙ sym goes.0)
          near false is =
              let s = source_of_tree xs r.source r.there in
              let own : source_of xs f.home ≡ Some s.source = ap (source_of xs) (r.home_is ∙ sym (ap (λ (z : m.Module). z.name) s.is)) ∙ own_source xs are.distinct s.source s.there in
              let call = leaves r.source h name (target_of_body r.source f r.in_it (remote h name) stands) goes.1 (λ e. clash (same_atom h r.source.name) (ap (same_atom h) (sym e) ∙ itself h) is) in
              let named = called_has r.source (h, name) call in
              inr (by_call f.home g.home (
                in_sources f l.calling,
                in_sources g l.called,
                subst (λ ns. has ns g.home ≡ true) (sym (ap (λ z. calls_by z None) own))
                    (subst (λ z. has (called_modules s.source.tree) z ≡ true) (sym goes.0) (subst (λ z. has (called_modules z) h ≡ true) (sym s.is) named)),
              ))

  then_reach : (a b c : Atom) → Leads_on a b → Leads_on b c → Leads_on a c
  then_reach a b c (inl e) (inl f) = inl (e ∙ f)
  then_reach a b c (inl e) (inr f) = inr (subst (λ z. Reaches (is_in xs) (calls_of [] xs) z c) (sym e) f)
  then_reach a b c (inr e) (inl f) = inr (subst (Reaches (is_in xs) (calls_of [] xs) a) f e)
  then_reach a b c (inr e) (inr f) = inr (joined (is_in xs) (calls_of [] xs) a b c e f)

  module_reach : (f g : Function) → over.Reaches fs f g → Leads_on f.home g.home
  module_reach _ _ (over.by_call f g l) = module_lead f g l
  module_reach _ _ (over.by_calls f k g l rest) = then_reach f.home k.home g.home (module_lead f k l) (module_reach k g rest)

  -- the modules of functions that are together are together
  pub module_together : (f g : Function) → over.Together fs f g → Together (is_in xs) (calls_of [] xs) f.home g.home
  module_together f g (inl e) = inl (ap (λ (z : Function). z.home) e)
  module_together f g (inr both) = by (module_reach f g both.0) (module_reach g f both.1)
    where
      by : Leads_on f.home g.home → Leads_on g.home f.home → Together (is_in xs) (calls_of [] xs) f.home g.home
      by (inl e) b = inl e
      by (inr r) (inl e) = inl (sym e)
      by (inr r) (inr q) = inr (r, q)

  module _ (p : Atom → Bool) (part : IsPart xs p) where
    picked_home : (h : Atom) → is_home (trees (picked p xs)) h ≡ true → p h ≡ true
    picked_home h e =
        let u = under (picked p xs) h (sym (home_of_sources (picked p xs) h) ∙ e) in
        sym (ap p u.name_is) ∙ (picked_stands p xs u.source u.there).0

    home_picked : (h : Atom) → is_in xs h ≡ true → p h ≡ true → is_home (trees (picked p xs)) h ≡ true
    home_picked h e picks =
        let u = under xs h e in
        let there = stands_picked p xs u.source u.there (ap p u.name_is ∙ picks) in
        sym (ap (is_home (trees (picked p xs))) u.name_is) ∙ home_of (trees (picked p xs)) u.source.tree (tree_stands (picked p xs) u.source there)

    pub part_is : laws.IsPart (trees xs) (trees (picked p xs))
    part_is = record {
      there = λ x has.
          let r = source_of_tree (picked p xs) x has in
          subst (Contains (trees xs)) r.is (tree_stands xs r.source (picked_stands p xs r.source r.there).1);
      closed = λ f g in_f in_g together e.
          home_picked g.home (in_sources g in_g)
          (part f.home g.home (picked_home f.home e) (in_sources f in_f) (in_sources g in_g) (module_together f g together));
    }

module _ (carried : CarriedLaw) (of_parts : PartsLaw) (frame : FindingsFrame) where
  module _ (xs : List Source) (are : AreSources xs) (p : Atom → Bool) (part : IsPart xs p) (K : Standing) (R : Results) (solved : IsSolved xs K R) where
    abbrev now : Standing
    now = with_results xs R K

    -- what stands of a function by the results is, to a call, what is known of it
    stands_so : (c : Called) → AreAlike (solved.known c.0 c.1) (now c.0 c.1)
    stands_so c = by (is_in xs c.0) refl
      where
        by : (b : Bool) → is_in xs c.0 ≡ b → AreAlike (solved.known c.0 c.1) (now c.0 c.1)
        by false e = inl (solved.known_so.out c.0 c.1 (home_of_sources xs c.0 ∙ e) ∙ sym (ap (λ b. cond b (callee_among (R c.0).exports c.1) (K c.0 c.1)) e))
        by true e =
            let u = under xs c.0 e in
            let there = tree_stands xs u.source u.there in
            let shown = shown_alike (trees xs) are.distinct K solved.known solved.known_so u.source.tree there (R u.source.tree.name).exports (solved.results u.source u.there).exports c.1 in
            subst (AreAlike (solved.known c.0 c.1)) (sym (ap (λ b. cond b (callee_among (R c.0).exports c.1) (K c.0 c.1)) e))
            (subst (λ h. AreAlike (solved.known h c.1) (callee_among (R h).exports c.1)) u.name_is
            (turned (callee_among (R u.source.tree.name).exports c.1) (solved.known u.source.tree.name c.1) shown))

    pub part_solved : IsSolved (picked p xs) now R
    part_solved =
        moved_solved carried frame (picked p xs) (picked p xs) (are_picked p xs are) (are_picked p xs are) (λ h. refl) solved.known now solved.known
        (of_parts (trees xs) (trees (picked p xs)) K solved.known are.distinct (part_is xs are p part) solved.known_so)
        (λ s c has call out. stands_so c) R R (λ h e. refl) (λ s has. solved.results s (picked_stands p xs s has).1)

  pub gives_parts : GivesParts IsSolved
  gives_parts = record { part = λ xs K R p are part solved. part_solved xs are p part K R solved }
