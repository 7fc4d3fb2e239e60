-- Parts that a form evaluates: what each gives, and what that says of the walk of all of them.
use Rattle.std.proofs.Common.{◌≡◌, ℕ, List, [], ◌∷◌, ◌++◌, Option, Some, None, refl, sym, ap, ◌∙◌, subst}
use Rattle.std.proofs.lemmas.Option.{same_Some}
use Rattle.type_kinds.specs.declared.atom.Atom.{Atom}
use Rattle.core_ast.specs.Model as m
use Rattle.core_ast.specs.Named.{literal_atom, local_name}
use Rattle.core_ast.specs.declared.syntax.FunName.{FunName}
use Rattle.core_scope.specs.declared.ask.Ask.{Ask}
use Rattle.core_scope.specs.declared.ask.Ask.TheVariants.{Exactly}
use Rattle.type_lattice_model.specs.Values.{Value, Values, no_value, and_value, Env}
use Rattle.type_lattice.specs.Types.{Type4, HasTypes}
use Rattle.core_meaning.specs.Meaning.{Failure, Outcome, gives, Trace, with_last, both_rows, in_pairs, in_segments, in_application, operands, AllGive, give_none, give_next, OneFails, fail_here, fail_later}
use Rattle.cons_gen_rows.specs.Counts.{call_names}
use Rattle.module_flow_state.specs.Scopes.{WalkScope}
use Rattle.module_flow_walk.specs.Walk.{then, walk, walk_all, walk_pairs, walk_segments}
use Rattle.module_flow_calls.specs.TypeLists.{first}
use Rattle.module_flow_state.specs.World.{World}
use Rattle.sound_laws.proofs.Applications.{both_given, literal_is}
use Rattle.sound_laws_flow.specs.steps.Fine.{ByName, Fine, FineAll, FinePairs, FineSegments}
use Rattle.sound_laws_flow.specs.steps.Seen.{IsSeen}
use Rattle.sound_laws_flow.proofs.Results.{first_has, then_is, then_parts}
use Rattle.sound_laws_flow.proofs.Setting.{Setting, V, AreCov, IsCovEnv, AllOk, IsKnown, FineAt, FineTrees, Invariant, known_front, known_back, both_ok}

-- ---- walks of parts that stand in a row with others

pub record LastWalked (X : World) (sc : WalkScope) (ts : m.Trees) (t : m.Tree) (us : List Type4) : Type 0 where
  pub elements : List Type4
  pub last : List Type4
  pub walked : walk_all X sc ts ≡ Some elements
  pub walked_last : walk X sc (Exactly 1) t ≡ Some last
  pub are : us ≡ elements ++ first last ∷ []

pub last_walked : (X : World) (sc : WalkScope) (ts : m.Trees) (t : m.Tree) (us : List Type4) → walk_all X sc (with_last ts t) ≡ Some us → LastWalked X sc ts t us
last_walked X sc m.no_tree t us h =
    let a = then_parts (walk X sc (Exactly 1) t) (λ ls. then (Some []) (λ more. Some (first ls ∷ more))) us h in
    record { elements = []; last = a.0; walked = refl; walked_last = a.1.0; are = sym (same_Some _ _ a.1.1) }
last_walked X sc (m.and_tree u ts) t us h =
    let a = then_parts (walk X sc (Exactly 1) u) (λ ls. then (walk_all X sc (with_last ts t)) (λ more. Some (first ls ∷ more))) us h in
    let b = then_parts (walk_all X sc (with_last ts t)) (λ more. Some (first a.0 ∷ more)) us a.1.1 in
    let r = last_walked X sc ts t b.0 b.1.0 in
    record {
      elements = first a.0 ∷ r.elements;
      last = r.last;
      walked = then_is (walk X sc (Exactly 1) u) a.0 (λ ls. then (walk_all X sc ts) (λ more. Some (first ls ∷ more))) (Some (first a.0 ∷ r.elements)) a.1.0
          (then_is (walk_all X sc ts) r.elements (λ more. Some (first a.0 ∷ more)) (Some (first a.0 ∷ r.elements)) r.walked refl);
      walked_last = r.walked_last;
      are = sym (same_Some _ _ b.1.1) ∙ ap (λ xs. first a.0 ∷ xs) r.are;
    }

pub pairs_walked : (X : World) (sc : WalkScope) (ps : m.Pairs) (us : List Type4) → walk_all X sc (in_pairs ps) ≡ Some us → walk_pairs X sc ps ≡ Some []
pairs_walked X sc m.no_pair us h = refl
pairs_walked X sc (m.and_pair exact t u ps) us h =
    let a = then_parts (walk X sc (Exactly 1) t) (λ ls. then (then (walk X sc (Exactly 1) u) (λ ms. then (walk_all X sc (in_pairs ps)) (λ more. Some (first ms ∷ more)))) (λ more. Some (first ls ∷ more))) us h in
    let b = then_parts (then (walk X sc (Exactly 1) u) (λ ms. then (walk_all X sc (in_pairs ps)) (λ more. Some (first ms ∷ more)))) (λ more. Some (first a.0 ∷ more)) us a.1.1 in
    let d = then_parts (walk X sc (Exactly 1) u) (λ ms. then (walk_all X sc (in_pairs ps)) (λ more. Some (first ms ∷ more))) b.0 b.1.0 in
    let e = then_parts (walk_all X sc (in_pairs ps)) (λ more. Some (first d.0 ∷ more)) b.0 d.1.1 in
    then_is (walk X sc (Exactly 1) t) a.0 (λ key. then (walk X sc (Exactly 1) u) (λ held. walk_pairs X sc ps)) (Some []) a.1.0
    (then_is (walk X sc (Exactly 1) u) d.0 (λ held. walk_pairs X sc ps) (Some []) d.1.0 (pairs_walked X sc ps e.0 e.1.0))

both_walked : (X : World) (sc : WalkScope) (ts us : m.Trees) (ws : List Type4) → walk_all X sc (both_rows ts us) ≡ Some ws
    → ((xs : List Type4) × (walk_all X sc ts ≡ Some xs)) × ((ys : List Type4) × (walk_all X sc us ≡ Some ys))
both_walked X sc m.no_tree us ws h = (([], refl), (ws, h))
both_walked X sc (m.and_tree t ts) us ws h =
    let a = then_parts (walk X sc (Exactly 1) t) (λ ls. then (walk_all X sc (both_rows ts us)) (λ more. Some (first ls ∷ more))) ws h in
    let b = then_parts (walk_all X sc (both_rows ts us)) (λ more. Some (first a.0 ∷ more)) ws a.1.1 in
    let r = both_walked X sc ts us b.0 b.1.0 in (
      (
        first a.0 ∷ r.0.0,
        then_is (walk X sc (Exactly 1) t) a.0 (λ ls. then (walk_all X sc ts) (λ more. Some (first ls ∷ more))) (Some (first a.0 ∷ r.0.0)) a.1.0
            (then_is (walk_all X sc ts) r.0.0 (λ more. Some (first a.0 ∷ more)) (Some (first a.0 ∷ r.0.0)) r.0.1 refl),
      ),
      r.1,
    )

pub segments_walked : (X : World) (sc : WalkScope) (ss : m.Segments) (us : List Type4) → walk_all X sc (in_segments ss) ≡ Some us → walk_segments X sc ss ≡ Some []
segments_walked X sc m.no_segment us h = refl
segments_walked X sc (m.and_segment t ts ss) us h =
    let a = then_parts (walk X sc (Exactly 1) t) (λ ls. then (walk_all X sc (both_rows ts (in_segments ss))) (λ more. Some (first ls ∷ more))) us h in
    let b = then_parts (walk_all X sc (both_rows ts (in_segments ss))) (λ more. Some (first a.0 ∷ more)) us a.1.1 in
    let r = both_walked X sc ts (in_segments ss) b.0 b.1.0 in
    then_is (walk X sc (Exactly 1) t) a.0 (λ vs. then (walk_all X sc ts) (λ args. walk_segments X sc ss)) (Some []) a.1.0
    (then_is (walk_all X sc ts) r.0.0 (λ args. walk_segments X sc ss) (Some []) r.0.1 (segments_walked X sc ss r.1.0 r.1.1))

-- ---- what is borne out of the parts

module _ (X : World) (DeadClause DeadCall : ℕ → Type 0) (sc : WalkScope) where
  abbrev FineEach : m.Trees → Type 0
  FineEach ts = FineAll X DeadClause DeadCall sc ts

  abbrev FineOne : m.Tree → Type 0
  FineOne t = Fine X DeadClause DeadCall sc (Exactly 1) t

  pub fine_last : (ts : m.Trees) (t : m.Tree) → FineEach ts → FineOne t → FineEach (with_last ts t)
  fine_last m.no_tree t h g = (g, tt)
  fine_last (m.and_tree u ts) t h g = (h.0, fine_last ts t h.1 g)

  fine_both : (ts us : m.Trees) → FineEach ts → FineEach us → FineEach (both_rows ts us)
  fine_both m.no_tree us h g = g
  fine_both (m.and_tree t ts) us h g = (h.0, fine_both ts us h.1 g)

  pub fine_pairs : (ps : m.Pairs) → FinePairs X DeadClause DeadCall sc ps → FineEach (in_pairs ps)
  fine_pairs m.no_pair h = tt
  fine_pairs (m.and_pair exact t u ps) h = (h.0, (h.1.0, fine_pairs ps h.1.1))

  pub fine_segments : (ss : m.Segments) → FineSegments X DeadClause DeadCall sc ss → FineEach (in_segments ss)
  fine_segments m.no_segment h = tt
  fine_segments (m.and_segment t ts ss) h = (h.0, fine_both ts (in_segments ss) h.1.0 (fine_segments ss h.1.1))

  fine_literal : (t : m.Tree) (x : Atom) → literal_atom t ≡ Some x → FineOne t
  fine_literal t x e = let lit = literal_is t x e in subst FineOne (sym lit.1) tt

  -- the operator and the arguments, and the module, the name and the arguments
  pub fine_applied : (o : Option FunName) (t : m.Tree) (ts : m.Trees) (G : FunName → Type 0) (H : Type 0) → ByName o (λ f. FineEach ts × G f) (FineOne t × (FineEach ts × H)) → FineEach (in_application o t ts)
  fine_applied None t ts G H h = (h.0, h.1.0)
  fine_applied (Some f) t ts G H h = h.0

  pub fine_called : (t u : m.Tree) (ts : m.Trees) (G : (Atom × Atom) → Type 0) (H : Type 0) → ByName (call_names t u) (λ names. FineEach ts × G names) (FineOne t × (FineOne u × (FineEach ts × H)))
      → FineEach (m.and_tree t (m.and_tree u ts))
  fine_called t u ts G H h = by (call_names t u) refl h
    where
      by : (o : Option (Atom × Atom)) → call_names t u ≡ o → ByName o (λ names. FineEach ts × G names) (FineOne t × (FineOne u × (FineEach ts × H))) → FineEach (m.and_tree t (m.and_tree u ts))
      by None e k = (k.0, (k.1.0, k.1.1.0))
      by (Some names) e k =
          let lit = both_given (literal_atom t) (literal_atom u) names e in
          (fine_literal t names.0 lit.0, (fine_literal u names.1 lit.1, k.0))

  -- the parts that a form evaluates first
  pub fine_operands : (k : Ask) (t : m.Tree) → Fine X DeadClause DeadCall sc k t → FineEach (operands t)
  fine_operands k (m.variable i x) h = tt
  fine_operands k (m.local i f) h = tt
  fine_operands k (m.external i x f) h = tt
  fine_operands k (m.literal i l) h = tt
  fine_operands k (m.function i xs t) h = tt
  fine_operands k (m.listed i ts t) h = fine_last ts t h.0 h.1
  fine_operands k (m.tuple i ts) h = h
  fine_operands k (m.new_map i ps) h = fine_pairs ps h
  fine_operands k (m.updated_map i ps t) h = fine_last (in_pairs ps) t (fine_pairs ps h.0) h.1
  fine_operands k (m.binary i ss) h = fine_segments ss h
  fine_operands k (m.values i ts) h = h
  fine_operands k (m.chain i ss t) h = tt
  fine_operands k (m.case i t cs) h = tt
  fine_operands k (m.letrec i ds t) h = tt
  fine_operands k (m.apply i t ts) h = fine_applied (local_name t) t ts _ _ h
  fine_operands k (m.call i t u ts) h = fine_called t u ts _ _ h
  fine_operands k (m.primop i x ts) h = h
  fine_operands k (m.try i t xs u ys w) h = tt
  fine_operands k (m.receive i cs t u) h = tt
  fine_operands k (m.catch i t) h = tt

-- ---- evaluations

module _ (Z : Setting) (E : Atom → Env → m.Tree → Outcome → Trace → Type 0) (each : Invariant Z E) (home : Atom) where
  -- a part of which one value is asked
  pub one_given : {env : Env} {t : m.Tree} {v : Value} {tr : Trace} (sc : WalkScope) → E home env t (gives (and_value v no_value)) tr → IsKnown Z tr → IsCovEnv Z home env → IsSeen home sc env → FineAt Z home sc (Exactly 1) t
      → AllOk Z tr × (AreCov Z (and_value v no_value) × ((us : List Type4) × ((walk (V Z home) sc (Exactly 1) t ≡ Some us) × HasTypes (and_value v no_value) us)))
  one_given sc x k c s f = let h = each _ _ sc _ _ _ (Exactly 1) x k c s f in (h.0, (h.1.0, h.1.1 refl))

  pub all_given : {env : Env} {ts : m.Trees} {vs : Values} {tr : Trace} (sc : WalkScope) → AllGive (E home) env ts vs tr → IsKnown Z tr → IsCovEnv Z home env → IsSeen home sc env → FineTrees Z home sc ts
      → AllOk Z tr × (AreCov Z vs × ((us : List Type4) × ((walk_all (V Z home) sc ts ≡ Some us) × HasTypes vs us)))
  all_given sc give_none k c s f = (tt, (tt, ([], (refl, tt))))
  all_given sc (give_next {t = t} {ts = ts} {v = v} {tr = tr} {more = more} x xs) k c s f =
      let h = one_given sc x (known_front Z tr more k) c s f.0 in
      let i = h.1.1 in
      let r = all_given sc xs (known_back Z tr more k) c s f.1 in
      let j = r.1.1 in (
        both_ok Z tr more h.0 r.0,
        (
          (h.1.0.0, r.1.0),
          (
            first i.0 ∷ j.0,
            (
              then_is (walk (V Z home) sc (Exactly 1) t) i.0 (λ ls. then (walk_all (V Z home) sc ts) (λ more. Some (first ls ∷ more))) (Some (first i.0 ∷ j.0)) i.1.0
                  (then_is (walk_all (V Z home) sc ts) j.0 (λ more. Some (first i.0 ∷ more)) (Some (first i.0 ∷ j.0)) j.1.0 refl),
              (first_has v i.0 i.1.1, j.1.1),
            ),
          ),
        ),
      )

  pub one_failed : {env : Env} {ts : m.Trees} {f : Failure} {tr : Trace} (sc : WalkScope) → OneFails (E home) env ts f tr → IsKnown Z tr → IsCovEnv Z home env → IsSeen home sc env → FineTrees Z home sc ts → AllOk Z tr
  one_failed sc (fail_here x) k c s f = (each _ _ sc _ _ _ (Exactly 1) x k c s f.0).0
  one_failed sc (fail_later {tr = tr} {more = more} x xs) k c s f =
      both_ok Z tr more (each _ _ sc _ _ _ (Exactly 1) x (known_front Z tr more k) c s f.0).0 (one_failed sc xs (known_back Z tr more k) c s f.1)
