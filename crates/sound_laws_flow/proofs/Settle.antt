-- Where the state takes in what a walk gives, and only this walk reports at the labels of what is walked, the walk is borne out.
use Rattle.std.proofs.Common.{◌≡◌, ◌⊎◌, inl, inr, ℕ, true, false, cond, eqb, List, [], ◌∷◌, ◌++◌, length, Option, Some, None, refl, sym, subst, append-nil}
use Rattle.std.proofs.lemmas.Bool.{eq-eqb}
use Rattle.core_ast.specs.declared.syntax.FunName.{FunName}
use Rattle.core_ast.specs.Model as m
use Rattle.core_ast.specs.Named.{local_name}
use Rattle.core_scope.specs.declared.ask.Ask.{Ask}
use Rattle.core_scope.specs.declared.ask.Ask.TheVariants.{AnyNumber, Exactly}
use Rattle.core_scope.specs.Asks.{one_value, function_name, width}
use Rattle.core_scope.specs.Labels.{labels, labels_of_all, labels_of_segments, labels_of_pairs, labels_of_steps, labels_of_clauses, labels_of_defs, labels_of_patterns}
use Rattle.type_kinds.specs.declared.atom.Atom.{Atom}
use Rattle.type_lattice.specs.Types.{Type4, is_none, meet}
use Rattle.cons_tree.specs.Environments.{Types}
use Rattle.cons_tree.specs.Named.{naturals}
use Rattle.cons_gen_rows.specs.Counts.{call_names}
use Rattle.cons_gen_rows.specs.Words.{function_type}
use Rattle.warn_list.specs.declared.finding.Finding.{Finding}
use Rattle.warn_list.specs.declared.finding.FindingKind.TheVariants.{DeadCall, DeadClause}
use Rattle.warn_list.specs.declared.finding.CallText.TheVariants.{Local, Remote, Value}
use Rattle.module_flow_calls.specs.declared.node_context.NodeContext.{NodeContext}
use Rattle.module_flow_state.specs.declared.states.Contribution.{Contribution}
use Rattle.module_flow_calls.specs.declared.functions.ResolvedName.{ResolvedName}
use Rattle.module_flow_calls.specs.declared.functions.ResolvedName.TheVariants.{Inner, Top, Nothing}
use Rattle.module_flow_calls.specs.NodeContext.{under, under_steps, at_node}
use Rattle.module_flow_calls.specs.TypeLists.{Given, where_given, first}
use Rattle.module_flow_state.specs.Applications.{resolved_name, may_by_meaning, may_apply, unless_given, unless_function, enters_resolved, enters}
use Rattle.module_flow_calls.specs.Calls.{called}
use Rattle.module_flow_walk.specs.Clauses.{patterns_solved, head_solved, inside}
use Rattle.module_flow_walk.specs.Findings.{either_found, found, found_in_all, found_in_pairs, found_in_segments, found_in_steps, found_in_clauses, found_in_functions}
use Rattle.module_flow_walk.specs.Contributions.{listed_by, where_entered, where_limited, where_seen, where_solved, contributions, contributions_of_all, contributions_of_pairs}
use Rattle.module_flow_walk.specs.Contributions.{contributions_of_segments, contributions_of_steps, contributions_of_clauses, contributions_of_functions}
use Rattle.module_flow_state.specs.States.{returns, parameters_of}
use Rattle.module_flow_state.specs.Scopes.{WalkScope, with_functions, with_variables}
use Rattle.module_flow_walk.specs.Walk.{matched_slots, seen_by_clauses, seen_by_messages, see_steps, walk, walk_all}
use Rattle.module_flow_state.specs.World.{World, lenient}
use Rattle.sound_laws_flow.specs.steps.Fine.{ByName, FineApplied, Fine, FineAll, FinePairs, FineSegments, FineSteps, FineClauses, FineFunctions}
use Rattle.sound_laws_flow.specs.steps.Named.{Named, NamedAll, NamedPairs, NamedSegments, NamedSteps, NamedClauses, NamedDefs}
use Rattle.sound_laws_flow.specs.steps.Taken.{Member, Distinct, Reports, AreAt, AreTaken, Takes}
use Rattle.sound_laws_flow.proofs.Chains.{steps_keep}
use Rattle.sound_laws_flow.proofs.Reported.{member_left, member_right, member_split, reports_split, if_given, if_seen, if_entered, if_limited, to_right, in_both, found_at, all_at}
use Rattle.sound_laws_flow.proofs.Reported.{pairs_at, segments_at, steps_at, clauses_at, functions_at, call_own, clause_own, own_in, below, if_unless, if_function, if_either}

-- ---- labels

distinct_left : (a b : List ℕ) → Distinct (a ++ b) → Distinct a
distinct_left [] b d = tt
distinct_left (l ∷ a) b d = (λ h. d.0 (member_left l a b h), distinct_left a b d.1)

distinct_right : (a b : List ℕ) → Distinct (a ++ b) → Distinct b
distinct_right [] b d = d
distinct_right (l ∷ a) b d = distinct_right a b d.1

apart : (a b : List ℕ) (l : ℕ) → Distinct (a ++ b) → Member l a → Member l b → ⊥
apart [] b l d h k = h
apart (i ∷ a) b l d (inl e) k = d.0 (member_right i a b (subst (λ z. Member z b) e k))
apart (i ∷ a) b l d (inr h) k = apart a b l d.1 h k

distinct_both : (a b : List ℕ) → Distinct a → Distinct b → ((l : ℕ) → Member l a → Member l b → ⊥) → Distinct (a ++ b)
distinct_both [] b d e h = e
distinct_both (l ∷ a) b d e h = (λ k. by (member_split l a b k), distinct_both a b d.1 e (λ i x y. h i (inr x) y))
  where
    by : Member l a ⊎ Member l b → ⊥
    by (inl x) = d.0 x
    by (inr y) = h l (inl refl) y

-- ---- parts

module _ (W : World) (D : ℕ → Type 0) where
  taken_left : (gs hs : List Contribution) → AreTaken W D (gs ++ hs) → AreTaken W D gs
  taken_left [] hs h = tt
  taken_left (g ∷ gs) hs h = (h.0, taken_left gs hs h.1)

  taken_right : (gs hs : List Contribution) → AreTaken W D (gs ++ hs) → AreTaken W D hs
  taken_right [] hs h = h
  taken_right (g ∷ gs) hs h = taken_right gs hs h.1

  under_mark : {i : ℕ} {ls : List ℕ} {fs : List Finding} {gs : List Contribution} → Takes W D (i ∷ ls) fs gs → Takes W D ls fs gs
  under_mark x = record { distinct = x.distinct.1; only = λ l h. x.only l (inr h); taken = x.taken }

  -- nothing is reported at a label that is no part's
  unmarked : {i : ℕ} {ls : List ℕ} {fs : List Finding} {gs : List Contribution} → AreAt fs ls → Takes W D (i ∷ ls) fs gs → D i → ⊥
  unmarked {i} at x d = x.distinct.0 (at.at i (x.only i (inl refl) d))

  both : {a b : List ℕ} {fs fs' : List Finding} (gs gs' : List Contribution) → AreAt fs a → AreAt fs' b → Takes W D (a ++ b) (fs ++ fs') (gs ++ gs') → Takes W D a fs gs × Takes W D b fs' gs'
  both {a} {b} {fs} {fs'} gs gs' in_a in_b x = (
    record { distinct = distinct_left a b x.distinct; only = λ l h d. left l h (reports_split l fs fs' (x.only l (member_left l a b h) d)); taken = taken_left gs gs' x.taken },
    record { distinct = distinct_right a b x.distinct; only = λ l h d. right l h (reports_split l fs fs' (x.only l (member_right l a b h) d)); taken = taken_right gs gs' x.taken },
  )
    where
      left : (l : ℕ) → Member l a → Reports l fs ⊎ Reports l fs' → Reports l fs
      left l h (inl r) = r
      left l h (inr r) = absurd (apart a b l x.distinct h (in_b.at l r))

      right : (l : ℕ) → Member l b → Reports l fs ⊎ Reports l fs' → Reports l fs'
      right l h (inl r) = absurd (apart a b l x.distinct (in_a.at l r) h)
      right l h (inr r) = r

  drop_left : (a b : List ℕ) {fs : List Finding} {gs : List Contribution} → Takes W D (a ++ b) fs gs → Takes W D b fs gs
  drop_left a b x = record { distinct = distinct_right a b x.distinct; only = λ l h. x.only l (member_right l a b h); taken = x.taken }

  -- the labels in another order
  swapped : (a b c : List ℕ) {fs : List Finding} {gs : List Contribution} → Takes W D (a ++ b ++ c) fs gs → Takes W D (b ++ (a ++ c)) fs gs
  swapped a b c x =
      let d = distinct_left (a ++ b) c x.distinct in
      let ab : (l : ℕ) → Member l a → Member l b → ⊥ = λ l. apart a b l d in
      let rest : (l : ℕ) → Member l (a ++ b) → Member l c → ⊥ = λ l. apart (a ++ b) c l x.distinct in
      record {
        distinct = distinct_both b (a ++ c) (distinct_right a b d) (distinct_both a c (distinct_left a b d) (distinct_right (a ++ b) c x.distinct) (λ l h k. rest l (member_left l a b h) k)) (λ l h k. other l h (member_split l a c k));
        only = λ l h. x.only l (back l (member_split l b (a ++ c) h));
        taken = x.taken;
      }
    where
      other : (l : ℕ) → Member l b → Member l a ⊎ Member l c → ⊥
      other l h (inl k) = apart a b l (distinct_left (a ++ b) c x.distinct) k h
      other l h (inr k) = apart (a ++ b) c l x.distinct (member_right l a b h) k

      back_more : (l : ℕ) → Member l a ⊎ Member l c → Member l (a ++ b ++ c)
      back_more l (inl h) = member_left l (a ++ b) c (member_left l a b h)
      back_more l (inr h) = member_right l (a ++ b) c h

      back : (l : ℕ) → Member l b ⊎ Member l (a ++ c) → Member l (a ++ b ++ c)
      back l (inl h) = member_left l (a ++ b) c (member_right l a b h)
      back l (inr h) = back_more l (member_split l a c h)

  -- what is reported of the node itself
  of_node : {i : ℕ} {ls : List ℕ} {fs : List Finding} (own : List Finding) (gs gs' : List Contribution) → AreAt fs ls → ((l : ℕ) → Reports l own → l ≡ i) → Takes W D (i ∷ ls) (fs ++ own) (gs ++ gs')
      → Takes W D ls fs gs × ((D i → Reports i own) × AreTaken W D gs')
  of_node {i} {ls} {fs} own gs gs' at mine x = (
    record { distinct = x.distinct.1; only = λ l h d. parts l h (reports_split l fs own (x.only l (inr h) d)); taken = taken_left gs gs' x.taken },
    (λ d. self (reports_split i fs own (x.only i (inl refl) d)), taken_right gs gs' x.taken),
  )
    where
      parts : (l : ℕ) → Member l ls → Reports l fs ⊎ Reports l own → Reports l fs
      parts l h (inl r) = r
      parts l h (inr r) = absurd (x.distinct.0 (subst (λ z. Member z ls) (mine l r) h))

      self : Reports i fs ⊎ Reports i own → Reports i own
      self (inl r) = absurd (x.distinct.0 (at.at i r))
      self (inr r) = r

  alone : {i : ℕ} {ls : List ℕ} {fs : List Finding} {gs : List Contribution} (own : List Finding) → AreAt fs ls → ((l : ℕ) → Reports l own → l ≡ i) → Takes W D (i ∷ ls) (fs ++ own) gs
      → Takes W D ls fs gs × (D i → Reports i own)
  alone {i} {ls} {fs} {gs} own at mine x = let s = of_node own gs [] at mine (subst (λ z. Takes W D (i ∷ ls) (fs ++ own) z) (sym (append-nil gs)) x) in (s.0, s.1.0)

  at_given : {ls : List ℕ} (o : Given) (ts : List Type4) (f : List Type4 → List Finding) (g : List Type4 → List Contribution) → Takes W D ls (where_given o f) (where_given o g) → o ≡ Some ts → Takes W D ls (f ts) (g ts)
  at_given {ls} o ts f g x e = subst (λ z. Takes W D ls (where_given z f) (where_given z g)) e x

  at_seen : {ls : List ℕ} (o : Option WalkScope) (sc : WalkScope) (f : WalkScope → List Finding) (g : WalkScope → List Contribution) → Takes W D ls (where_seen o f) (where_seen o g) → o ≡ Some sc → Takes W D ls (f sc) (g sc)
  at_seen {ls} o sc f g x e = subst (λ z. Takes W D ls (where_seen z f) (where_seen z g)) e x

  at_entered : {ls : List ℕ} (o : Option (List Type4)) (ts : List Type4) (f : List Type4 → List Finding) (g : List Type4 → List Contribution) → Takes W D ls (where_entered o f) (where_entered o g) → o ≡ Some ts
      → Takes W D ls (f ts) (g ts)
  at_entered {ls} o ts f g x e = subst (λ z. Takes W D ls (where_entered z f) (where_entered z g)) e x

  at_limit : {ls : List ℕ} (limit : List Type4) (fs : List Finding) (gs : List Contribution) → Takes W D ls (where_limited limit fs) (where_limited limit gs) → is_none (meet (first limit) naturals) ≡ false → Takes W D ls fs gs
  at_limit {ls} limit fs gs x e = subst (λ z. Takes W D ls (cond z [] fs) (cond z [] gs)) e x

  more_taken : {ls : List ℕ} {fs : List Finding} (gs gs' : List Contribution) → Takes W D ls fs (gs ++ gs') → Takes W D ls fs gs × AreTaken W D gs'
  more_taken gs gs' x = (record { distinct = x.distinct; only = x.only; taken = taken_left gs gs' x.taken }, taken_right gs gs' x.taken)

  -- a clause: its head, its body, where it is reported, and the clauses behind it
  record ClauseTakes (i : ℕ) (lh lb lc : List ℕ) (fh fc : List Finding) (bodies rest : List Contribution) : Type 0 where
    heads : Distinct lh
    silent : (l : ℕ) → Member l lh → D l → ⊥
    body : Takes W D (i ∷ lb) fh bodies
    others : Takes W D lc fc rest

  of_clause : (i : ℕ) (lh lb lc : List ℕ) (fh fc : List Finding) (guards bodies rest : List Contribution) → AreAt fh (i ∷ lb) → AreAt fc lc → Takes W D (i ∷ (lh ++ lb ++ lc)) (fh ++ fc) (guards ++ bodies ++ rest)
      → ClauseTakes i lh lb lc fh fc bodies rest
  of_clause i lh lb lc fh fc guards bodies rest in_body in_rest x = record {
    heads = distinct_left lh lb hb;
    silent = λ l h d. silent_at l h (reports_split l fh fc (x.only l (inr (member_left l (lh ++ lb) lc (member_left l lh lb h))) d));
    body = record {
      distinct = ((λ h. x.distinct.0 (member_left i (lh ++ lb) lc (member_right i lh lb h))), distinct_right lh lb hb);
      only = λ l h d. body_at l h (reports_split l fh fc (x.only l (into l h) d));
      taken = taken_right guards bodies (taken_left (guards ++ bodies) rest x.taken);
    };
    others = record { distinct = distinct_right (lh ++ lb) lc x.distinct.1; only = λ l h d. rest_at l h (reports_split l fh fc (x.only l (inr (member_right l (lh ++ lb) lc h)) d)); taken = taken_right (guards ++ bodies) rest x.taken };
  }
    where
      hb : Distinct (lh ++ lb)
      hb = distinct_left (lh ++ lb) lc x.distinct.1

      into : (l : ℕ) → (l ≡ i) ⊎ Member l lb → (l ≡ i) ⊎ Member l (lh ++ lb ++ lc)
      into l (inl e) = inl e
      into l (inr h) = inr (member_left l (lh ++ lb) lc (member_right l lh lb h))

      head_not : (l : ℕ) → Member l lh → (l ≡ i) ⊎ Member l lb → ⊥
      head_not l h (inl e) = x.distinct.0 (member_left i (lh ++ lb) lc (member_left i lh lb (subst (λ z. Member z lh) e h)))
      head_not l h (inr k) = apart lh lb l hb h k

      silent_at : (l : ℕ) → Member l lh → Reports l fh ⊎ Reports l fc → ⊥
      silent_at l h (inl r) = head_not l h (in_body.at l r)
      silent_at l h (inr r) = apart (lh ++ lb) lc l x.distinct.1 (member_left l lh lb h) (in_rest.at l r)

      body_not : (l : ℕ) → (l ≡ i) ⊎ Member l lb → Member l lc → ⊥
      body_not l (inl e) k = x.distinct.0 (member_right i (lh ++ lb) lc (subst (λ z. Member z lc) e k))
      body_not l (inr h) k = apart (lh ++ lb) lc l x.distinct.1 (member_right l lh lb h) k

      body_at : (l : ℕ) → (l ≡ i) ⊎ Member l lb → Reports l fh ⊎ Reports l fc → Reports l fh
      body_at l h (inl r) = r
      body_at l h (inr r) = absurd (body_not l h (in_rest.at l r))

      rest_at : (l : ℕ) → Member l lc → Reports l fh ⊎ Reports l fc → Reports l fc
      rest_at l h (inl r) = absurd (body_not l (in_body.at l r) h)
      rest_at l h (inr r) = r

  -- ---- nodes that are reported

  only_one : {fs : List Finding} {i : ℕ} → AreAt fs (i ∷ []) → (l : ℕ) → Reports l fs → l ≡ i
  only_one {fs} {i} x l h = one (x.at l h)
    where
      one : (l ≡ i) ⊎ ⊥ → l ≡ i
      one (inl e) = e
      one (inr n) = absurd n

  applied_fine : (M : ResolvedName) (f : FunName) (label : ℕ) (us : List Type4) (own : List Finding) → AreTaken W D (enters_resolved M us) → (D label → Reports label (unless_given (may_by_meaning W f M us) own))
      → FineApplied W D D M f label us
  applied_fine (Inner l) f label us own x h = (x.0, λ d. h d)
  applied_fine (Top l) f label us own x h = (x.0, λ ws e d. subst (λ z. Reports label (unless_given z own)) e (h d))
  applied_fine Nothing f label us own x h = tt

  -- ---- every expression

  mutual
    pub fine : (t : m.Tree) (a : NodeContext) (sc : WalkScope) (k : Ask) → Takes W D (labels t) (found W a sc k t) (contributions W sc k t) → Named W D sc.functions sc.labels t → Fine W D D sc k t
    fine (m.variable i x) a sc k r n = tt
    fine (m.local i f) a sc k r n = n
    fine (m.external i x f) a sc k r n = tt
    fine (m.literal i l) a sc k r n = tt
    fine (m.function i xs t) a sc k r n = fine t (under a i.note) (with_variables sc xs []) one_value (under_mark r) n
    fine (m.listed i ts t) a sc k r n =
        let s = both (contributions_of_all W sc ts) (contributions W sc one_value t) (all_at W (under a i.note) sc ts) (found_at W (under a i.note) sc one_value t) (under_mark r) in
        (fine_all ts (under a i.note) sc s.0 n.0, fine t (under a i.note) sc one_value s.1 n.1)
    fine (m.tuple i ts) a sc k r n = fine_all ts (under a i.note) sc (under_mark r) n
    fine (m.new_map i ps) a sc k r n = fine_pairs ps (under a i.note) sc (under_mark r) n
    fine (m.updated_map i ps t) a sc k r n =
        let s = both (contributions_of_pairs W sc ps) (contributions W sc one_value t) (pairs_at W (under a i.note) sc ps) (found_at W (under a i.note) sc one_value t) (under_mark r) in
        (fine_pairs ps (under a i.note) sc s.0 n.0, fine t (under a i.note) sc one_value s.1 n.1)
    fine (m.binary i ss) a sc k r n = fine_segments ss (under a i.note) sc (under_mark r) n
    fine (m.values i ts) a sc k r n = fine_all ts (under a i.note) sc (under_mark r) n
    fine (m.chain i ss t) a sc k r n =
        let c = under a i.note in
        let f : WalkScope → List Finding = λ inner. found W (under_steps c ss) inner k t in
        let g : WalkScope → List Contribution = λ inner. contributions W inner k t in
        let s = both (contributions_of_steps W sc ss) (where_seen (see_steps W sc ss) g) (steps_at W c sc ss) (if_seen (see_steps W sc ss) f (λ inner. found_at W (under_steps c ss) inner k t)) (under_mark r) in (
          fine_steps ss c sc s.0 n.0,
          λ inner e.
              let same = steps_keep W sc ss inner e in
              fine t (under_steps c ss) inner k (at_seen (see_steps W sc ss) inner f g s.1 e) (subst (λ fs. Named W D fs inner.labels t) (sym same.0) (subst (λ ls. Named W D sc.functions ls t) (sym same.1) n.1)),
        )
    fine (m.case i t cs) a sc k r n =
        let c = under a i.note in
        let o = walk W sc (Exactly (width cs)) t in
        let f : List Type4 → List Finding = λ ts. found_in_clauses W c (seen_by_clauses sc cs ts) k (matched_slots sc t cs) cs in
        let g : List Type4 → List Contribution = λ ts. contributions_of_clauses W (seen_by_clauses sc cs ts) k (matched_slots sc t cs) cs in
        let s = both (contributions W sc (Exactly (width cs)) t) (where_given o g) (found_at W c sc (Exactly (width cs)) t) (if_given o f (λ ts. clauses_at W c (seen_by_clauses sc cs ts) k (matched_slots sc t cs) cs)) (under_mark r) in
        (fine t c sc (Exactly (width cs)) s.0 n.0, λ ts e. fine_clauses cs c (seen_by_clauses sc cs ts) k (matched_slots sc t cs) (at_given o ts f g s.1 e) n.1)
    fine (m.letrec i ds t) a sc k r n =
        let s = both (contributions_of_functions W (with_functions sc ds) ds) (contributions W (with_functions sc ds) k t) (functions_at W (under a i.note) (with_functions sc ds) ds) (found_at W (under a i.note) (with_functions sc ds) k t)
        (under_mark r) in
        (n.0, (fine_functions ds (under a i.note) (with_functions sc ds) s.0 n.1.0, fine t (under a i.note) (with_functions sc ds) k s.1 n.1.1))
    fine (m.apply i t ts) a sc k r n = by (local_name t) (fine t (under a i.note) sc one_value) (fine_all ts (under a i.note) sc) r n.0 n.1
      where
        c : NodeContext
        c = under a i.note

        own : FunName → List Type4 → List Finding
        own f us = at_node c i (DeadCall (Local f))

        named_found : FunName → List Type4 → List Finding
        named_found f us = unless_given (may_apply W sc f us) (own f us)

        value_own : List Type4 → List Finding
        value_own us = at_node c i (DeadCall (Value (length us)))

        value_found : List Type4 → List Type4 → List Finding
        value_found os us = unless_function (first os) (length us) (value_own us)

        by : (o : Option FunName) → (Takes W D (labels t) (found W c sc one_value t) (contributions W sc one_value t) → Named W D sc.functions sc.labels t → Fine W D D sc one_value t)
            → (Takes W D (labels_of_all ts) (found_in_all W c sc ts) (contributions_of_all W sc ts) → NamedAll W D sc.functions sc.labels ts → FineAll W D D sc ts)
            → Takes W D (i.label ∷ (labels t ++ labels_of_all ts))
            (listed_by o (λ f. found_in_all W c sc ts ++ where_given (walk_all W sc ts) (named_found f))
            (found W c sc one_value t ++ found_in_all W c sc ts ++ where_given (walk W sc one_value t) (λ os. where_given (walk_all W sc ts) (value_found os))))
            (listed_by o (λ f. contributions_of_all W sc ts ++ where_given (walk_all W sc ts) (λ us. enters W sc f us)) (contributions W sc one_value t ++ contributions_of_all W sc ts))
            → ByName o (λ f. Unit {0}) (Named W D sc.functions sc.labels t) → NamedAll W D sc.functions sc.labels ts
            → ByName o (λ f. FineAll W D D sc ts × ((us : List Type4) → walk_all W sc ts ≡ Some us → f.arity ≡ length us → FineApplied W D D (resolved_name W sc f) f i.label us))
            (Fine W D D sc one_value t × (FineAll W D D sc ts × ((os us : List Type4) → walk W sc one_value t ≡ Some os → walk_all W sc ts ≡ Some us → is_none (meet (first os) (function_type (length us))) ≡ false → D i.label
            → ⊥)))
        by None ft fts r n ns =
            let mine : AreAt (where_given (walk W sc one_value t) (λ os. where_given (walk_all W sc ts) (value_found os))) (i.label ∷ []) =
            if_given (walk W sc one_value t) (λ os. where_given (walk_all W sc ts) (value_found os))
            (λ os. if_given (walk_all W sc ts) (value_found os) (λ us. if_function (first os) (length us) (call_own c i (Value (length us))))) in
            let s = alone (where_given (walk W sc one_value t) (λ os. where_given (walk_all W sc ts) (value_found os))) (in_both (found_at W c sc one_value t) (all_at W c sc ts)) (only_one mine) r in
            let p = both (contributions W sc one_value t) (contributions_of_all W sc ts) (found_at W c sc one_value t) (all_at W c sc ts) s.0 in (
              ft p.0 n,
              (
                fts p.1 ns,
                λ os us e q z d.
                    let here = s.1 d in
                    let inner = subst (λ o. Reports i.label (where_given o (λ os. where_given (walk_all W sc ts) (value_found os)))) e here in
                    let most = subst (λ o. Reports i.label (where_given o (value_found os))) q inner in
                    subst (λ b. Reports i.label (cond b (value_own us) [])) z most,
              ),
            )
        by (Some f) ft fts r n ns =
            let mine : AreAt (where_given (walk_all W sc ts) (named_found f)) (i.label ∷ []) = if_given (walk_all W sc ts) (named_found f) (λ us. if_unless (may_apply W sc f us) (call_own c i (Local f))) in
            let s = of_node (where_given (walk_all W sc ts) (named_found f)) (contributions_of_all W sc ts) (where_given (walk_all W sc ts) (λ us. enters W sc f us)) (to_right (labels t) (labels_of_all ts) (all_at W c sc ts))
            (only_one mine) r in (
              fts (drop_left (labels t) (labels_of_all ts) s.0) ns,
              λ us e same.
                  let here : D i.label → Reports i.label (named_found f us) = λ d. subst (λ o. Reports i.label (where_given o (named_found f))) e (s.1.0 d) in
                  let given : AreTaken W D (enters W sc f us) = subst (λ o. AreTaken W D (where_given o (λ us. enters W sc f us))) e s.1.1 in
                  let right : eqb f.arity (length us) ≡ true = eq-eqb f.arity (length us) same in
                  applied_fine (resolved_name W sc f) f i.label us (own f us)
                  (subst (λ b. AreTaken W D (cond b (enters_resolved (resolved_name W sc f) us) [])) right given)
                  (λ d. subst (λ b. Reports i.label (unless_given (cond b (may_by_meaning W f (resolved_name W sc f) us) None) (own f us))) right (here d)),
            )
    fine (m.call i t u ts) a sc k r n = by (call_names t u) (fine t (under a i.note) sc one_value) (fine u (under a i.note) sc one_value) (fine_all ts (under a i.note) sc) r n.0 n.1
      where
        c : NodeContext
        c = under a i.note

        named_found : Atom × Atom → List Type4 → List Finding
        named_found names us = unless_given (called (lenient W) names.0 names.1 us) (at_node c i (DeadCall (Remote names.0 (function_name names.1 (length us)))))

        by : (o : Option (Atom × Atom)) → (Takes W D (labels t) (found W c sc one_value t) (contributions W sc one_value t) → Named W D sc.functions sc.labels t → Fine W D D sc one_value t)
            → (Takes W D (labels u) (found W c sc one_value u) (contributions W sc one_value u) → Named W D sc.functions sc.labels u → Fine W D D sc one_value u)
            → (Takes W D (labels_of_all ts) (found_in_all W c sc ts) (contributions_of_all W sc ts) → NamedAll W D sc.functions sc.labels ts → FineAll W D D sc ts)
            → Takes W D (i.label ∷ (labels t ++ labels u ++ labels_of_all ts))
            (listed_by o (λ names. found_in_all W c sc ts ++ where_given (walk_all W sc ts) (named_found names))
            (found W c sc one_value t ++ found W c sc one_value u ++ found_in_all W c sc ts))
            (listed_by o (λ names. contributions_of_all W sc ts) (contributions W sc one_value t ++ contributions W sc one_value u ++ contributions_of_all W sc ts))
            → ByName o (λ names. Unit {0}) (Named W D sc.functions sc.labels t × Named W D sc.functions sc.labels u) → NamedAll W D sc.functions sc.labels ts
            → ByName o (λ names. FineAll W D D sc ts × ((us ws : List Type4) → walk_all W sc ts ≡ Some us → called (lenient W) names.0 names.1 us ≡ Some ws → D i.label → ⊥))
            (Fine W D D sc one_value t × (Fine W D D sc one_value u × (FineAll W D D sc ts × (D i.label → ⊥))))
        by None ft fu fts r n ns =
            let s = both (contributions W sc one_value t ++ contributions W sc one_value u) (contributions_of_all W sc ts) (in_both (found_at W c sc one_value t) (found_at W c sc one_value u)) (all_at W c sc ts) (under_mark r) in
            let p = both (contributions W sc one_value t) (contributions W sc one_value u) (found_at W c sc one_value t) (found_at W c sc one_value u) s.0 in
            (ft p.0 n.0, (fu p.1 n.1, (fts s.1 ns, unmarked (in_both (in_both (found_at W c sc one_value t) (found_at W c sc one_value u)) (all_at W c sc ts)) r)))
        by (Some names) ft fu fts r n ns =
            let mine : AreAt (where_given (walk_all W sc ts) (named_found names)) (i.label ∷ []) =
            if_given (walk_all W sc ts) (named_found names) (λ us. if_unless (called (lenient W) names.0 names.1 us) (call_own c i (Remote names.0 (function_name names.1 (length us))))) in
            let s = alone (where_given (walk_all W sc ts) (named_found names)) (to_right (labels t ++ labels u) (labels_of_all ts) (all_at W c sc ts)) (only_one mine) r in (
              fts (drop_left (labels t ++ labels u) (labels_of_all ts) s.0) ns,
              λ us ws e q d.
                  let here = subst (λ o. Reports i.label (where_given o (named_found names))) e (s.1 d) in
                  subst (λ o. Reports i.label (unless_given o (at_node c i (DeadCall (Remote names.0 (function_name names.1 (length us))))))) q here,
            )
    fine (m.primop i x ts) a sc k r n = fine_all ts (under a i.note) sc (under_mark r) n
    fine (m.try i t xs u ys w) a sc k r n =
        let c = under a i.note in
        let o = walk W sc (Exactly (length xs)) t in
        let f : List Type4 → List Finding = λ ts. found W c (with_variables sc xs ts) k u in
        let g : List Type4 → List Contribution = λ ts. contributions W (with_variables sc xs ts) k u in
        let in_u = if_given o f (λ ts. found_at W c (with_variables sc xs ts) k u) in
        let s = both (contributions W sc (Exactly (length xs)) t ++ where_given o g) (contributions W (with_variables sc ys []) k w) (in_both (found_at W c sc (Exactly (length xs)) t) in_u) (found_at W c (with_variables sc ys []) k w)
        (under_mark r) in
        let p = both (contributions W sc (Exactly (length xs)) t) (where_given o g) (found_at W c sc (Exactly (length xs)) t) in_u s.0 in
        (fine t c sc (Exactly (length xs)) p.0 n.0, ((λ ts e. fine u c (with_variables sc xs ts) k (at_given o ts f g p.1 e) n.1.0), fine w c (with_variables sc ys []) k s.1 n.1.1))
    fine (m.receive i cs t u) a sc k r n =
        let c = under a i.note in
        let o = walk W sc one_value t in
        let qs = length sc.types ∷ [] in
        let fc = found_in_clauses W c (seen_by_messages sc) k qs cs in
        let gc = contributions_of_clauses W (seen_by_messages sc) k qs cs in
        let f : List Type4 → List Finding = λ limit. fc ++ where_limited limit (found W c sc k u) in
        let g : List Type4 → List Contribution = λ limit. gc ++ where_limited limit (contributions W sc k u) in
        let in_cs = clauses_at W c (seen_by_messages sc) k qs cs in
        let s = both (contributions W sc one_value t) (where_given o g) (found_at W c sc one_value t) (if_given o f (λ limit. in_both in_cs (if_limited limit (found_at W c sc k u))))
        (swapped (labels_of_clauses cs) (labels t) (labels u) (under_mark r)) in (
          fine t c sc one_value s.0 n.1.0,
          λ limit e.
              let p = both gc (where_limited limit (contributions W sc k u)) in_cs (if_limited limit (found_at W c sc k u)) (at_given o limit f g s.1 e) in
              (fine_clauses cs c (seen_by_messages sc) k qs p.0 n.0, λ q. fine u c sc k (at_limit limit (found W c sc k u) (contributions W sc k u) p.1 q) n.1.1),
        )
    fine (m.catch i t) a sc k r n = fine t (under a i.note) sc one_value (under_mark r) n

    fine_all : (ts : m.Trees) (a : NodeContext) (sc : WalkScope) → Takes W D (labels_of_all ts) (found_in_all W a sc ts) (contributions_of_all W sc ts) → NamedAll W D sc.functions sc.labels ts → FineAll W D D sc ts
    fine_all m.no_tree a sc r n = tt
    fine_all (m.and_tree t ts) a sc r n =
        let s = both (contributions W sc one_value t) (contributions_of_all W sc ts) (found_at W a sc one_value t) (all_at W a sc ts) r in
        (fine t a sc one_value s.0 n.0, fine_all ts a sc s.1 n.1)

    fine_pairs : (ps : m.Pairs) (a : NodeContext) (sc : WalkScope) → Takes W D (labels_of_pairs ps) (found_in_pairs W a sc ps) (contributions_of_pairs W sc ps) → NamedPairs W D sc.functions sc.labels ps → FinePairs W D D sc ps
    fine_pairs m.no_pair a sc r n = tt
    fine_pairs (m.and_pair exact t u ps) a sc r n =
        let s = both (contributions W sc one_value t ++ contributions W sc one_value u) (contributions_of_pairs W sc ps) (in_both (found_at W a sc one_value t) (found_at W a sc one_value u)) (pairs_at W a sc ps) r in
        let p = both (contributions W sc one_value t) (contributions W sc one_value u) (found_at W a sc one_value t) (found_at W a sc one_value u) s.0 in
        (fine t a sc one_value p.0 n.0, (fine u a sc one_value p.1 n.1.0, fine_pairs ps a sc s.1 n.1.1))

    fine_segments : (ss : m.Segments) (a : NodeContext) (sc : WalkScope) → Takes W D (labels_of_segments ss) (found_in_segments W a sc ss) (contributions_of_segments W sc ss) → NamedSegments W D sc.functions sc.labels ss
        → FineSegments W D D sc ss
    fine_segments m.no_segment a sc r n = tt
    fine_segments (m.and_segment t ts ss) a sc r n =
        let s = both (contributions W sc one_value t ++ contributions_of_all W sc ts) (contributions_of_segments W sc ss) (in_both (found_at W a sc one_value t) (all_at W a sc ts)) (segments_at W a sc ss) r in
        let p = both (contributions W sc one_value t) (contributions_of_all W sc ts) (found_at W a sc one_value t) (all_at W a sc ts) s.0 in
        (fine t a sc one_value p.0 n.0, (fine_all ts a sc p.1 n.1.0, fine_segments ss a sc s.1 n.1.1))

    fine_steps : (ss : m.Steps) (a : NodeContext) (sc : WalkScope) → Takes W D (labels_of_steps ss) (found_in_steps W a sc ss) (contributions_of_steps W sc ss) → NamedSteps W D sc.functions sc.labels ss → FineSteps W D D sc ss
    fine_steps m.no_step a sc r n = tt
    fine_steps (m.and_let i xs u ss) a sc r n =
        let c = under a i.note in
        let o = walk W sc (Exactly (length xs)) u in
        let f : List Type4 → List Finding = λ us. found_in_steps W c (with_variables sc xs us) ss in
        let g : List Type4 → List Contribution = λ us. contributions_of_steps W (with_variables sc xs us) ss in
        let s = both (contributions W sc (Exactly (length xs)) u) (where_given o g) (found_at W c sc (Exactly (length xs)) u) (if_given o f (λ us. steps_at W c (with_variables sc xs us) ss)) (under_mark r) in
        (fine u c sc (Exactly (length xs)) s.0 n.0, λ us e. fine_steps ss c (with_variables sc xs us) (at_given o us f g s.1 e) n.1)
    fine_steps (m.and_do i u ss) a sc r n =
        let c = under a i.note in
        let o = walk W sc AnyNumber u in
        let f : List Type4 → List Finding = λ us. found_in_steps W c sc ss in
        let g : List Type4 → List Contribution = λ us. contributions_of_steps W sc ss in
        let s = both (contributions W sc AnyNumber u) (where_given o g) (found_at W c sc AnyNumber u) (if_given o f (λ us. steps_at W c sc ss)) (under_mark r) in
        (fine u c sc AnyNumber s.0 n.0, λ us e. fine_steps ss c sc (at_given o us f g s.1 e) n.1)

    fine_clauses : (cs : m.Clauses) (a : NodeContext) (sc : WalkScope) (k : Ask) (qs : List ℕ) → Takes W D (labels_of_clauses cs) (found_in_clauses W a sc k qs cs) (contributions_of_clauses W sc k qs cs)
        → NamedClauses W D sc.functions sc.labels cs → FineClauses W D D sc k qs cs
    fine_clauses m.no_clause a sc k qs r n = tt
    fine_clauses (m.and_clause i ps g t cs) a sc k qs r n =
        let c = under a i.note in
        let head = head_solved W sc qs ps g in
        let lh = labels_of_patterns ps ++ labels g in
        let fb : Types → List Finding = λ solved. found W c (inside sc ps solved) k t in
        let gb : Types → List Contribution = λ solved. contributions W (inside sc ps solved) k t in
        let gg : Types → List Contribution = λ solved. contributions W (inside sc ps solved) one_value g in
        let fcs = found_in_clauses W a sc k qs cs in
        let guards = where_solved (patterns_solved sc qs ps g) gg in
        let bodies = where_solved head gb in
        let rest = contributions_of_clauses W sc k qs cs in
        let mine = if_either head (at_node c i DeadClause) fb (own_in i.label (labels t) (clause_own c i)) (λ solved. below i.label (found_at W c (inside sc ps solved) k t)) in
        let x = of_clause i.label lh (labels t) (labels_of_clauses cs) (either_found head (at_node c i DeadClause) fb) fcs guards bodies rest mine (clauses_at W a sc k qs cs) r in (
          λ solved e. fine g c (inside sc ps solved) one_value
              (record {
                distinct = distinct_right (labels_of_patterns ps) (labels g) x.heads;
                only = λ l h d. absurd (x.silent l (member_right l (labels_of_patterns ps) (labels g) h) d);
                taken = subst (λ o. AreTaken W D (where_solved o gg)) e (taken_left guards bodies (taken_left (guards ++ bodies) rest r.taken));
              })
              n.0,
          (
            (λ solved e.
                let b : Takes W D (i.label ∷ labels t) (fb solved) (gb solved) = subst (λ o. Takes W D (i.label ∷ labels t) (either_found o (at_node c i DeadClause) fb) (where_solved o gb)) e x.body in
                (unmarked (found_at W c (inside sc ps solved) k t) b, fine t c (inside sc ps solved) k (under_mark b) n.1.0)),
            fine_clauses cs a sc k qs x.others n.1.1,
          ),
        )

    pub fine_functions : (ds : m.Defs) (a : NodeContext) (sc : WalkScope) → Takes W D (labels_of_defs ds) (found_in_functions W a sc ds) (contributions_of_functions W sc ds) → NamedDefs W D sc.functions sc.labels ds
        → FineFunctions W D D sc ds
    fine_functions m.no_def a sc r n = tt
    fine_functions (m.and_def f i xs t ds) a sc r n =
        let c = under a i.note in
        let o = parameters_of W.state i.label in
        let fb : List Type4 → List Finding = λ ps. found W c (with_variables sc xs ps) one_value t in
        let gb : List Type4 → List Contribution = λ ps. contributions W (with_variables sc xs ps) one_value t ++ returns i.label (walk W (with_variables sc xs ps) one_value t) in
        let s = both (where_entered o gb) (contributions_of_functions W sc ds) (if_entered o fb (λ ps. found_at W c (with_variables sc xs ps) one_value t)) (functions_at W a sc ds) (under_mark r) in (
          (λ ps e.
              let b = more_taken (contributions W (with_variables sc xs ps) one_value t) (returns i.label (walk W (with_variables sc xs ps) one_value t)) (at_entered o ps fb gb s.0 e) in
              (fine t c (with_variables sc xs ps) one_value b.0 n.0, λ ts q. (subst (λ z. AreTaken W D (returns i.label z)) q b.1).0)),
          fine_functions ds a sc s.1 n.1,
        )
