-- The analysis with the table of some sources: what stands in the end is the solution of what is passed and of the kept sources.
use Rattle.std.proofs.Common.{◌≡◌, ℕ, suc, Bool, true, false, cond, not, ◌||◌, ◌&&◌, List, [], Contains, inl, inr, Option, Some, None, refl, sym, ap, ap₂, ◌∙◌, subst}
use Rattle.std.specs.Cmp.Lexicographic.{bytes_decides}
use Rattle.std.proofs.lemmas.Bool.{and_parts, and_from, or_left, or_right, or_cases, not_from_false, not-true, false_from_ne_true}
use Rattle.type_kinds.proofs.Truths.{same_tests}
use Rattle.type_kinds.specs.declared.atom.Atom.{Atom}
use Rattle.core_ast.specs.declared.syntax.FunName.{FunName}
use Rattle.call_graph.specs.Outside.{Called}
use Rattle.cons_tree.specs.declared.parts.Callee.TheVariants.{Unknown}
use Rattle.table_keep.specs.Model.{Source, Entry, source_of, is_there, is_in, picked, entry_of}
use Rattle.table_keep.specs.Calls.{called_functions, called_modules}
use Rattle.table_keep.specs.Groups.{Together, Groups, IsGroups, has, group_of}
use Rattle.table_keep.specs.Kept.{Solves, Standing, Results, AreResults, callee_among, is_candidate, calls_of, calls_by, is_old, all_stand, callee_by, with_results, handed, stands, is_kept, kept, is_new, finally}
use Rattle.table_keep.specs.Made.{used_of}
use Rattle.sound_laws_kept.specs.Written.{made_of, new_entry, IsAnalysisBy, with_kept}
use Rattle.sound_laws_kept.specs.Solving.{AreSources}
use Rattle.sound_laws_kept.specs.Laws.{DigestsTell}
use Rattle.sound_laws_kept.proofs.Solving.{Carries, GivesOne, GivesParts, IsPart, AgreeOutside, SameSources}
use Rattle.sound_laws_kept.proofs.Names.{clash, some_is, there_is, picked_source, picked_from, picked_there, picked_out, are_picked, append_source, are_appended}
use Rattle.sound_laws_kept.proofs.Graphs as graphs
use Rattle.sound_laws_kept.proofs.Folds as folds
use Rattle.sound_laws_kept.proofs.Entries as entries_of
use Rattle.sound_laws_kept.proofs.Entries.{FromSource, made_same}
use Rattle.sound_laws_kept.proofs.Scratch as scratch
use Rattle.sound_laws_kept.proofs.Scratch.{IsSolution, picked_is, is_in_of, node_of, candidate_in, calls_named, calls_home}

-- Two analyses write the same: the same entries under each name, and the same results of what is passed.
pub record AreSame (T : List Entry) (M U : List Source) (g n u v : Groups) (R Q : Results) : Type 0 where
  pub entries : (h : Atom) → new_entry R T M g n h ≡ new_entry Q [] U u v h
  pub results : (h : Atom) → is_in M h ≡ true → R h ≡ Q h

-- The table of sources Src, with groups S of these, groups V of its modules and what is known then; what is passed; and its groups and
-- what is known now.
module _ (solves : Solves) (carries : Carries solves) (gives_one : GivesOne solves) (gives_parts : GivesParts solves) (Src M : List Source) (T : List Entry) (are_src : AreSources Src) (are_m : AreSources M)
    (tell : DigestsTell Src M) (S V : Groups) (RS : Results) (of_src : IsAnalysisBy solves [] Src S V RS) (entries : (h : Atom) → entry_of T h ≡ new_entry RS [] Src S V h)
    (g : Groups) (R : Results) (is : IsGroups (is_candidate T M) (calls_of T M) g) (results : AreResults solves T M g R) where
  -- what stood in the end by the table's sources
  abbrev pub KS : Standing
  KS = finally RS [] Src S

  -- what stands in the end now
  abbrev pub N : Standing
  N = finally R T M g

  abbrev pub F : ℕ → Standing
  F = stands R T M g

  abbrev pub is_kept_now : Atom → Bool
  is_kept_now = kept R T M g

  abbrev pub U : List Source
  U = with_kept (kept R T M g) M Src

  -- ---- the entries of the table

  abbrev pub written : Source → Atom → Entry
  written = entries_of.written V KS RS

  entry_source : (h : Atom) (e : Entry) → entry_of T h ≡ Some e → FromSource Src V KS RS h e
  entry_source = entries_of.entry_source Src T S V RS of_src.candidates entries

  -- ---- what is passed, and the kept sources

  abbrev pub joins : Atom → Bool
  joins h = not (is_in M h) && is_kept_now h

  pub are_u : AreSources U
  are_u = are_appended M (picked joins Src) are_m (are_picked joins Src are_src) (λ h e. false_from_ne_true (is_in (picked joins Src) h) (λ b. apart h e (picked_from joins Src h b).0))
    where
      apart : (h : Atom) → is_in M h ≡ true → joins h ≡ true → ⊥
      apart h e j = clash (is_in M h) e (not-true (is_in M h) (and_parts (not (is_in M h)) (is_kept_now h) j).0)

  pub handed_there : (h : Atom) → is_in M h ≡ true → source_of U h ≡ source_of M h
  handed_there h e = append_source M (picked joins Src) h ∙ ap (λ b. cond b (source_of M h) (source_of (picked joins Src) h)) e

  kept_there : (h : Atom) → is_in M h ≡ false → is_kept_now h ≡ true → source_of U h ≡ source_of Src h
  kept_there h e k =
      append_source M (picked joins Src) h ∙ ap (λ b. cond b (source_of M h) (source_of (picked joins Src) h)) e
      ∙ picked_there joins Src h (and_from (not (is_in M h)) (is_kept_now h) (not_from_false (is_in M h) e) k)

  not_there : (h : Atom) → is_in M h ≡ false → is_kept_now h ≡ false → source_of U h ≡ None
  not_there h e k =
      append_source M (picked joins Src) h ∙ ap (λ b. cond b (source_of M h) (source_of (picked joins Src) h)) e
      ∙ picked_out joins Src h (ap (λ b. not (is_in M h) && b) k ∙ and_none (not (is_in M h)))
    where
      and_none : (b : Bool) → (b && false) ≡ false
      and_none true = refl
      and_none false = refl

  pub handed_in : (h : Atom) → is_in M h ≡ true → is_in U h ≡ true
  handed_in h e = ap is_there (handed_there h e) ∙ e

  handed_candidate : (h : Atom) → is_in M h ≡ true → is_candidate T M h ≡ true
  handed_candidate h e = or_left (is_in M h) (is_there (entry_of T h)) e

  -- ---- a kept entry is what its source gave, and that source is there now

  pub record Kept (h : Atom) : Type 0 where
    pub source : Source
    pub in_src : source_of Src h ≡ Some source
    pub in_u : source_of U h ≡ Some source
    pub entry : entry_of T h ≡ Some (written source h)
    pub group : group_of V h ≡ group_of g h
    pub used : all_stand (stands R T M g (g.number h)) (used_of (group_of V h) KS (called_functions source.tree)) ≡ true

  kept_number : (h : Atom) → is_kept_now h ≡ true → is_kept R T M g (g.number h) ≡ true
  kept_number h e = sym (folds.kept_is R T M g h (folds.kept_candidate R T M g h e)) ∙ e

  pub kept_facts : (h : Atom) → is_kept_now h ≡ true → Kept h
  kept_facts h e =
      let node = folds.kept_candidate R T M g h e in
      let facts = folds.kept_facts R T M g (g.number h) h (kept_number h e) (graphs.in_own_group (is_candidate T M) (calls_of T M) g is h node) in
      let from = entry_source h facts.entry facts.there in
      record {
        source = from.source;
        in_src = from.there;
        in_u = by from.source from.there (subst (λ (x : Entry). is_old (source_of M h) x ≡ true) from.is_written facts.old) (source_of M h) refl;
        entry = facts.there ∙ ap Some from.is_written;
        group = sym (ap (λ (x : Entry). x.group) from.is_written) ∙ facts.group_is;
        used = subst (λ (x : Entry). all_stand (stands R T M g (g.number h)) x.used ≡ true) from.is_written facts.used;
      }
    where
      by : (s : Source) → source_of Src h ≡ Some s → is_old (source_of M h) (written s h) ≡ true → (o : Option Source) → source_of M h ≡ o → source_of U h ≡ Some s
      by s there old None none = kept_there h (ap is_there none) e ∙ there
      by s there old (Some t) here =
          let digests : t.digest ≡ s.digest = (bytes_decides t.digest s.digest).0 (subst (λ o. is_old o (written s h) ≡ true) here old) in
          handed_there h (ap is_there here) ∙ here ∙ ap Some (sym (tell h s t there here (sym digests)))

  pub kept_in : (h : Atom) → is_kept_now h ≡ true → is_in U h ≡ true
  kept_in h e = ap is_there (kept_facts h e).in_u

  -- all members of a kept entry's group are kept
  all_kept : (h x : Atom) → is_kept_now h ≡ true → has (group_of g h) x ≡ true → is_kept_now x ≡ true
  all_kept h x e in_it =
      folds.kept_is R T M g x (graphs.member_is_node (is_candidate T M) (calls_of T M) g is (g.number h) x in_it)
      ∙ ap (is_kept R T M g) (graphs.member_number (is_candidate T M) (calls_of T M) g is (g.number h) x in_it) ∙ kept_number h e

  -- what is there is passed or kept
  pub there_by : (h : Atom) → is_in U h ≡ true → is_kept_now h ≡ false → is_in M h ≡ true
  there_by h e k = by (is_in M h) refl
    where
      by : (b : Bool) → is_in M h ≡ b → b ≡ true
      by true is = refl
      by false is = clash (is_in U h) e (ap is_there (not_there h is k))

  pub u_candidate : (h : Atom) → is_in U h ≡ true → is_candidate T M h ≡ true
  u_candidate h e = by (is_kept_now h) refl
    where
      by : (b : Bool) → is_kept_now h ≡ b → is_candidate T M h ≡ true
      by true k = folds.kept_candidate R T M g h k
      by false k = handed_candidate h (there_by h e k)

  result_kept : (h : Atom) → is_kept_now h ≡ true → R h ≡ RS h
  result_kept h e = let facts = kept_facts h e in results.of_entry h (written facts.source h) e facts.entry

  -- ---- what is there calls the same in both graphs

  kept_calls : (h : Atom) → is_kept_now h ≡ true → (s : Source) → source_of Src h ≡ Some s → calls_of T M h ≡ called_modules s.tree
  kept_calls h e s there = by (source_of M h) refl
    where
      facts : Kept h
      facts = kept_facts h e

      one : facts.source ≡ s
      one = some_is (sym facts.in_src ∙ there)

      by : (o : Option Source) → source_of M h ≡ o → calls_of T M h ≡ called_modules s.tree
      by None none = ap₂ (λ a b. calls_by a b) none facts.entry ∙ ap (λ (x : Source). called_modules x.tree) one
      by (Some t) here =
          let same : t ≡ facts.source = some_is (sym here ∙ sym (handed_there h (ap is_there here)) ∙ facts.in_u) in
          ap (λ o. calls_by o (entry_of T h)) here ∙ ap (λ (x : Source). called_modules x.tree) (same ∙ one)

  pub same_calls : (h : Atom) → is_in U h ≡ true → calls_of [] U h ≡ calls_of T M h
  same_calls h e = by (is_kept_now h) refl
    where
      by : (b : Bool) → is_kept_now h ≡ b → calls_of [] U h ≡ calls_of T M h
      by true k = let facts = kept_facts h k in calls_named U h facts.source facts.in_u ∙ sym (kept_calls h k facts.source facts.in_src)
      by false k =
          let there = there_is (source_of M h) (there_by h e k) in
          calls_named U h there.0 (handed_there h (there_by h e k) ∙ there.1) ∙ sym (ap (λ o. calls_by o (entry_of T h)) there.1)

  node_in : (h : Atom) → is_candidate [] U h ≡ true → is_in U h ≡ true
  node_in h e = sym (candidate_in U h) ∙ e

  pub together_up : (a b : Atom) → Together (is_candidate [] U) (calls_of [] U) a b → Together (is_candidate T M) (calls_of T M) a b
  together_up a b h =
      graphs.together_over (is_candidate [] U) (calls_of [] U) (is_candidate T M) (calls_of T M) (λ x e. u_candidate x (node_in x e)) (λ x e. same_calls x (node_in x e)) a b h

  -- ---- groups of what is there

  module _ (u : Groups) (of_u : IsGroups (is_candidate [] U) (calls_of [] U) u) where
    group_up : (h x : Atom) → is_in U h ≡ true → has (group_of u h) x ≡ true → has (group_of g h) x ≡ true
    group_up h x in_it e =
        let node = graphs.member_is_node (is_candidate [] U) (calls_of [] U) u of_u (u.number h) x e in
        graphs.together_member (is_candidate T M) (calls_of T M) g is h x (u_candidate h in_it) (u_candidate x (node_in x node))
        (together_up h x (graphs.member_together (is_candidate [] U) (calls_of [] U) u of_u h x (node_of U h in_it) e))

    kept_group : (h x : Atom) → is_kept_now h ≡ true → has (group_of g h) x ≡ true → has (group_of u h) x ≡ true
    kept_group h x k e =
        let node = folds.kept_candidate R T M g h k in
        let here = graphs.in_own_group (is_candidate T M) (calls_of T M) g is h node in
        graphs.together_member (is_candidate [] U) (calls_of [] U) u of_u h x (node_of U h (kept_in h k)) (node_of U x (kept_in x (all_kept h x k e)))
        (graphs.together_back (is_candidate [] U) (calls_of [] U) (is_candidate T M) (calls_of T M) g is (g.number h)
        (λ a m. node_of U a (kept_in a (all_kept h a k m))) (λ a m. sym (same_calls a (kept_in a (all_kept h a k m)))) h x
        (graphs.member_together (is_candidate T M) (calls_of T M) g is h x node e) here e)

    -- the group of a kept module is one among the candidates, among what is there, and among the table's sources
    pub kept_groups : (h x : Atom) → is_kept_now h ≡ true → has (group_of g h) x ≡ has (group_of u h) x
    kept_groups h x k = same_tests (has (group_of g h) x) (has (group_of u h) x) (kept_group h x k) (group_up h x (kept_in h k))

    pub source_groups : (h x : Atom) → is_kept_now h ≡ true → has (group_of S h) x ≡ has (group_of u h) x
    source_groups h x k =
        let facts = kept_facts h k in
        scratch.new_groups Src S RS of_src.candidates V of_src.new h (is_in_of Src h facts.source facts.in_src) x
        ∙ ap (λ ns. has ns x) facts.group ∙ kept_groups h x k

    -- ---- a kept module: what the table's sources gave is carried over

    same_sources : (h : Atom) → is_kept_now h ≡ true → SameSources (picked (has (group_of S h)) Src) (picked (has (group_of u h)) U)
    same_sources h k x =
        picked_source (has (group_of S h)) Src x ∙ ap (λ b. cond b (source_of Src x) None) (source_groups h x k)
        ∙ by (has (group_of u h) x) refl ∙ sym (picked_source (has (group_of u h)) U x)
      where
        by : (b : Bool) → has (group_of u h) x ≡ b → cond b (source_of Src x) None ≡ cond b (source_of U x) None
        by true e = let facts = kept_facts x (all_kept h x k (group_up h x (kept_in h k) e)) in facts.in_src ∙ sym facts.in_u
        by false e = refl

    -- what a kept module calls outside of its group stands as by the table's sources
    pub calls_stand : (y : Atom) → is_kept_now y ≡ true → (s : Source) → source_of Src y ≡ Some s → (c : Called) → Contains (called_functions s.tree) c → has (group_of g y) c.0 ≡ false
        → KS c.0 c.1 ≡ N c.0 c.1
    calls_stand y kept_y s there c call out =
        let facts = kept_facts y kept_y in
        let one : facts.source ≡ s = some_is (sym facts.in_src ∙ there) in
        let calls : has (calls_of T M y) c.0 ≡ true = ap (λ names. has names c.0) (kept_calls y kept_y s there ∙ sym (calls_named Src y s there)) ∙ calls_home Src y s c there call in
        folds.used_stands (group_of V y) (stands R T M g (g.number y)) KS (called_functions facts.source.tree) facts.used c
        (subst (λ (x : Source). Contains (called_functions x.tree) c) (sym one) call) (ap (λ ns. has ns c.0) facts.group ∙ out)
        ∙ sym (folds.calls_before R T M g is y c.0 c.1 (folds.kept_candidate R T M g y kept_y) calls out)

    agree_kept : (h : Atom) → is_kept_now h ≡ true → AgreeOutside (picked (has (group_of S h)) Src) KS N
    agree_kept h k y s c there call out =
        let at = picked_is (has (group_of S h)) Src y s there in
        let in_group : has (group_of g h) y ≡ true = kept_groups h y k ∙ sym (source_groups h y k) ∙ at.by_name in
        let number = graphs.member_number (is_candidate T M) (calls_of T M) g is (g.number h) y in_group in
        let none : has (group_of g y) c.0 ≡ false = ap (λ n. has (g.members n) c.0) number ∙ false_from_ne_true (has (group_of g h) c.0) (λ e. lacks e) in
        calls_stand y (all_kept h y k in_group) s at.there c call none
      where
        lacks : has (group_of g h) c.0 ≡ true → ⊥
        lacks e =
            let facts = kept_facts c.0 (all_kept h c.0 k e) in
            clash (is_in Src c.0) (is_in_of Src c.0 facts.source facts.in_src)
            (sym (ap is_there (picked_there (has (group_of S h)) Src c.0 (source_groups h c.0 k ∙ sym (kept_groups h c.0 k) ∙ e))) ∙ out)

    solved_kept : (h : Atom) → is_kept_now h ≡ true → solves (picked (has (group_of u h)) U) N R
    solved_kept h k =
        let facts = kept_facts h k in
        let in_it = is_in_of Src h facts.source facts.in_src in
        carries.over (picked (has (group_of S h)) Src) (picked (has (group_of u h)) U) KS N RS R (are_picked (has (group_of S h)) Src are_src) (are_picked (has (group_of u h)) U are_u)
        (same_sources h k) (agree_kept h k) (λ x e. sym (result_kept x (all_kept h x k (in_kept h k x e))))
        ((scratch.scratch_solution solves carries gives_one Src are_src S RS of_src.candidates of_src.results).solved h in_it)
      where
        in_kept : (h : Atom) → is_kept_now h ≡ true → (x : Atom) → is_in (picked (has (group_of S h)) Src) x ≡ true → has (group_of g h) x ≡ true
        in_kept h k x e = kept_groups h x k ∙ sym (source_groups h x k) ∙ (picked_from (has (group_of S h)) Src x e).0

    -- ---- a module that is solved: its group is a part of what was solved together, and that is carried over

    module _ (h : Atom) (in_u : is_in U h ≡ true) (k : is_kept_now h ≡ false) where
      abbrev xs : List Source
      xs = handed M g (g.number h)

      abbrev p : Atom → Bool
      p = has (group_of u h)

      group_solved : is_kept R T M g (g.number h) ≡ false
      group_solved = sym (folds.kept_is R T M g h (u_candidate h in_u)) ∙ k

      from_handed : (x : Atom) → is_in xs x ≡ true → (has (group_of g h) x ≡ true) × (is_in M x ≡ true)
      from_handed x e = picked_from (has (group_of g h)) M x e

      handed_source : (x : Atom) → is_in xs x ≡ true → source_of xs x ≡ source_of U x
      handed_source x e = let from = from_handed x e in picked_there (has (group_of g h)) M x from.0 ∙ sym (handed_there x from.1)

      -- a name of the group among what is there is passed
      member_handed : (x : Atom) → p x ≡ true → is_in xs x ≡ true
      member_handed x e =
          let up = group_up h x in_u e in
          let in_it = node_in x (graphs.member_is_node (is_candidate [] U) (calls_of [] U) u of_u (u.number h) x e) in
          let number = graphs.member_number (is_candidate T M) (calls_of T M) g is (g.number h) x up in
          let not_kept : is_kept_now x ≡ false = folds.kept_is R T M g x (u_candidate x in_it) ∙ ap (is_kept R T M g) number ∙ group_solved in
          ap is_there (picked_there (has (group_of g h)) M x up) ∙ there_by x in_it not_kept

      is_part : IsPart xs p
      is_part a b pa in_a in_b together =
          let ua = handed_in a (from_handed a in_a).1 in
          let ub = handed_in b (from_handed b in_b).1 in
          let up : Together (is_candidate [] U) (calls_of [] U) a b =
          graphs.together_over (is_in xs) (calls_of [] xs) (is_candidate [] U) (calls_of [] U) (λ x e. node_of U x (handed_in x (from_handed x e).1))
          (λ x e. ap (λ o. calls_by o None) (handed_source x e)) a b together in
          let number = graphs.member_number (is_candidate [] U) (calls_of [] U) u of_u (u.number h) a pa in
          (of_u.members (u.number h) b).1 (node_of U b ub, sym ((of_u.together a b (node_of U a ua) (node_of U b ub)).1 up) ∙ number)

      same_picked : SameSources (picked p xs) (picked p U)
      same_picked x = picked_source p xs x ∙ by (p x) refl ∙ sym (picked_source p U x)
        where
          by : (b : Bool) → p x ≡ b → cond b (source_of xs x) None ≡ cond b (source_of U x) None
          by true e = handed_source x (member_handed x e)
          by false e = refl

      agree_solved : AgreeOutside (picked p xs) (with_results xs R (F (g.number h))) N
      agree_solved y s c there call out =
          let at = picked_is p xs y s there in
          let in_xs = is_in_of xs y s at.there in
          let from = from_handed y in_xs in
          let there_u : source_of U y ≡ Some s = sym (handed_source y in_xs) ∙ at.there in
          let in_y = is_in_of U y s there_u in
          let calls : has (calls_of T M y) c.0 ≡ true = ap (λ names. has names c.0) (sym (same_calls y in_y)) ∙ calls_home U y s c there_u call in
          let number = graphs.member_number (is_candidate T M) (calls_of T M) g is (g.number h) y from.0 in
          sym (folds.solved_step R T M g (g.number h) c.0 c.1 group_solved)
          ∙ ap (λ n. stands R T M g (suc n) c.0 c.1) (sym number)
          ∙ sym (folds.calls_settled R T M g is y c.0 c.1 (u_candidate y in_y) calls)

      solved_now : solves (picked p U) N R
      solved_now =
          let are_xs = are_picked (has (group_of g h)) M are_m in
          carries.over (picked p xs) (picked p U) (with_results xs R (F (g.number h))) N R R (are_picked p xs are_xs) (are_picked p U are_u)
          same_picked agree_solved (λ x e. refl)
          (gives_parts.part xs (F (g.number h)) R p are_xs is_part (results.solved (g.number h) (is.low h (u_candidate h in_u)) group_solved))

    -- ---- so it is a solution

    pub mixed_solution : IsSolution solves U u N R
    mixed_solution = record {
      outside = λ h f none. outside_by h f none (is_candidate T M h) refl;
      inside = λ h f in_it. inside_by h f in_it (is_kept_now h) refl;
      solved = λ h in_it. solved_by h in_it (is_kept_now h) refl;
    }
      where
        outside_by : (h : Atom) (f : FunName) → is_in U h ≡ false → (b : Bool) → is_candidate T M h ≡ b → N h f ≡ Unknown
        outside_by h f none false c = folds.final_outside R T M g is h f c
        outside_by h f none true c =
            let not_kept : is_kept_now h ≡ false = false_from_ne_true (is_kept_now h) (λ e. clash (is_in U h) (kept_in h e) none) in
            let not_handed : is_in M h ≡ false = false_from_ne_true (is_in M h) (λ e. clash (is_in U h) (handed_in h e) none) in
            folds.final_solved R T M g is h f c (sym (folds.kept_is R T M g h c) ∙ not_kept)
            ∙ ap (λ b. cond b (callee_among (R h).exports f) Unknown) not_handed

        inside_by : (h : Atom) (f : FunName) → is_in U h ≡ true → (b : Bool) → is_kept_now h ≡ b → N h f ≡ callee_among (R h).exports f
        inside_by h f in_it true k =
            folds.final_kept R T M g is h f (u_candidate h in_it) (kept_number h k)
            ∙ ap (λ o. callee_by o f) (kept_facts h k).entry
            ∙ ap (λ r. callee_among r.exports f) (sym (result_kept h k))
        inside_by h f in_it false k =
            folds.final_solved R T M g is h f (u_candidate h in_it) (sym (folds.kept_is R T M g h (u_candidate h in_it)) ∙ k)
            ∙ ap (λ b. cond b (callee_among (R h).exports f) Unknown) (there_by h in_it k)

        solved_by : (h : Atom) → is_in U h ≡ true → (b : Bool) → is_kept_now h ≡ b → solves (picked (has (group_of u h)) U) N R
        solved_by h in_it true k = solved_kept h k
        solved_by h in_it false k = solved_now h in_it k

  -- ---- the new table's modules are what is there

  new_in : (h : Atom) → is_new R T M g h ≡ true → is_in U h ≡ true
  unfolding is_new
  new_in h e = elim (or_cases (is_in M h) (is_kept_now h) e) [
    | inl a ↦ handed_in h a
    | inr b ↦ kept_in h b
  ]

  in_new : (h : Atom) → is_in U h ≡ true → is_new R T M g h ≡ true
  unfolding is_new
  in_new h e = by (is_kept_now h) refl
    where
      by : (b : Bool) → is_kept_now h ≡ b → (is_in M h || is_kept_now h) ≡ true
      by true k = or_right (is_in M h) (is_kept_now h) k
      by false k = or_left (is_in M h) (is_kept_now h) (there_by h e k)

  new_over : (a b : Atom) → Together (is_new R T M g) (calls_of T M) a b → Together (is_candidate [] U) (calls_of [] U) a b
  new_over a b t =
      graphs.together_over (is_new R T M g) (calls_of T M) (is_candidate [] U) (calls_of [] U) (λ x e. node_of U x (new_in x e)) (λ x e. sym (same_calls x (new_in x e))) a b t

  over_new : (a b : Atom) → Together (is_candidate [] U) (calls_of [] U) a b → Together (is_new R T M g) (calls_of T M) a b
  over_new a b t =
      graphs.together_over (is_candidate [] U) (calls_of [] U) (is_new R T M g) (calls_of T M) (λ x e. in_new x (node_in x e)) (λ x e. same_calls x (node_in x e)) a b t

  -- so the groups of the new table's modules are groups of what is there
  pub there_groups : (n : Groups) → IsGroups (is_new R T M g) (calls_of T M) n → IsGroups (is_candidate [] U) (calls_of [] U) n
  there_groups n of_n =
      graphs.groups_over (is_new R T M g) (calls_of T M) (is_candidate [] U) (calls_of [] U) (λ a e. node_of U a (new_in a e)) (λ a e. in_new a (node_in a e))
      (λ a e. sym (same_calls a (new_in a e))) n of_n

  -- ---- and the same entries and results

  module _ (u : Groups) (of_u : IsGroups (is_candidate [] U) (calls_of [] U) u) (n v : Groups) (RU : Results) (of_n : IsGroups (is_new R T M g) (calls_of T M) n) (of_v : IsGroups (is_new RU [] U u) (calls_of [] U) v)
      (u_results : AreResults solves [] U u RU) where
    abbrev KU : Standing
    KU = finally RU [] U u

    from_scratch : IsSolution solves U u KU RU
    from_scratch = scratch.scratch_solution solves carries gives_one U are_u u RU of_u u_results

    results_same : (h : Atom) → is_in U h ≡ true → R h ≡ RU h
    results_same h e = scratch.same_results solves carries gives_one U are_u u of_u u of_u N KU R RU (mixed_solution u of_u) from_scratch h e

    standing_same : (h : Atom) (f : FunName) → N h f ≡ KU h f
    standing_same h f = scratch.same_standing solves carries gives_one U are_u u of_u u of_u N KU R RU (mixed_solution u of_u) from_scratch h f

    groups_same : (h : Atom) → is_in U h ≡ true → (x : Atom) → has (group_of n h) x ≡ has (group_of v h) x
    groups_same h e x =
        graphs.one_group (is_new R T M g) (calls_of T M) n of_n (is_candidate [] U) (calls_of [] U) u of_u h (in_new h e) (node_of U h e)
        (λ a node t. (node_of U a (new_in a node), new_over h a t)) (λ a node t. (in_new a (node_in a node), over_new h a t)) x
        ∙ scratch.new_groups U u RU of_u v of_v h e x

    group_list : (h : Atom) → is_in U h ≡ true → group_of n h ≡ group_of v h
    group_list h e = graphs.one_list (is_new R T M g) (calls_of T M) n of_n (is_new RU [] U u) (calls_of [] U) v of_v h (groups_same h e)

    kept_list : (h : Atom) → is_kept_now h ≡ true → group_of V h ≡ group_of v h
    kept_list h k =
        (kept_facts h k).group
        ∙ graphs.one_list (is_candidate T M) (calls_of T M) g is (is_new RU [] U u) (calls_of [] U) v of_v h
        (λ x. kept_groups u of_u h x k ∙ scratch.new_groups U u RU of_u v of_v h (kept_in h k) x)

    scratch_entry : (h : Atom) → new_entry RU [] U u v h ≡ made_of (source_of U h) (group_of v h) KU (RU h)
    unfolding new_entry
    scratch_entry h = ap (λ b. cond b (entry_of [] h) (made_of (source_of U h) (group_of v h) KU (RU h))) (scratch.none_kept RU U u of_u h)

    kept_entry : (h : Atom) → is_kept_now h ≡ true → new_entry R T M g n h ≡ entry_of T h
    unfolding new_entry
    kept_entry h k = ap (λ b. cond b (entry_of T h) (made_of (source_of M h) (group_of n h) N (R h))) k

    solved_entry : (h : Atom) → is_kept_now h ≡ false → new_entry R T M g n h ≡ made_of (source_of M h) (group_of n h) N (R h)
    unfolding new_entry
    solved_entry h k = ap (λ b. cond b (entry_of T h) (made_of (source_of M h) (group_of n h) N (R h))) k

    entries_same : (h : Atom) → new_entry R T M g n h ≡ new_entry RU [] U u v h
    entries_same h = by (is_kept_now h) refl
      where
        from_m : is_kept_now h ≡ false → (o : Option Source) → source_of M h ≡ o → made_of o (group_of n h) N (R h) ≡ made_of (source_of U h) (group_of v h) KU (RU h)
        from_m k None none = sym (ap (λ o. made_of o (group_of v h) KU (RU h)) (not_there h (ap is_there none) k))
        from_m k (Some s) there =
            let in_m = is_in_of M h s there in
            let in_u = handed_in h in_m in
            ap Some (made_same s (group_of n h) (group_of v h) N KU (R h) (RU h) (group_list h in_u) (λ c e out. standing_same c.0 c.1) (results_same h in_u))
            ∙ sym (ap (λ o. made_of o (group_of v h) KU (RU h)) (handed_there h in_m ∙ there))

        by : (b : Bool) → is_kept_now h ≡ b → new_entry R T M g n h ≡ new_entry RU [] U u v h
        by true k =
            let facts = kept_facts h k in
            kept_entry h k ∙ facts.entry
            ∙ ap Some (made_same facts.source (group_of V h) (group_of v h) KS KU (RS h) (RU h) (kept_list h k)
            (λ c e out. calls_stand u of_u h k facts.source facts.in_src c e (ap (λ ns. has ns c.0) (sym facts.group) ∙ out) ∙ standing_same c.0 c.1)
            (sym (result_kept h k) ∙ results_same h (kept_in h k)))
            ∙ sym (ap (λ o. made_of o (group_of v h) KU (RU h)) facts.in_u) ∙ sym (scratch_entry h)
        by false k = solved_entry h k ∙ from_m k (source_of M h) refl ∙ sym (scratch_entry h)

    pub are_same : AreSame T M U g n u v R RU
    are_same = record { entries = entries_same; results = λ h e. results_same h (handed_in h e) }
