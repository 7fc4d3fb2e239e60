-- What is decided before the first wave, and what is written behind the last one.
use Rattle.std.proofs.Common.{◌≡◌, ℕ, Bool, true, false, not, cond, ◌||◌, List, [], ◌∷◌, map, Contains, length, Option, Some, None, IsTrue, refl, sym, ap, ap₂, ◌∙◌, subst, arith}
use Rattle.std.proofs.lemmas.Bool.{false_from_ne_true}
use Rattle.type_kinds.proofs.Lists.{position_of}
use Rattle.type_kinds.specs.declared.atom.Atom.{Atom}
use Rattle.core_ast.specs.declared.syntax.FunName.{FunName}
use Rattle.core_scope.specs.Names.{same_atom}
use Rattle.cons_tree.specs.Callees.{as_called}
use Rattle.cons_tree.specs.declared.parts.Callee.TheVariants.{Unknown}
use Rattle.comp_rounds.specs.Rounds.{Callees}
use Rattle.table_file.specs.Order.{rises, is_name_before}
use Rattle.table_keep.specs.Model.{Source, Entry, Result, source_of, is_there, is_in, entry_of}
use Rattle.table_keep.specs.Groups.{Groups, has, group_of}
use Rattle.table_keep.specs.Kept.{Standing, Results, is_candidate, calls_of, calls_by, is_kept, kept, is_new, finally}
use Rattle.table_keep.specs.Made.{made, exported}
use Rattle.sound_laws_kept.specs.Written.{new_entry, made_of}
use Rattle.sound_laws_kept.specs.Solving.{IsWritten, AreSources}
use Rattle.sound_laws_kept.proofs.Names.{clash, map_there, name_is, some_is, none_some, there_is}
use Rattle.sound_laws_kept.proofs.Graphs.{in_own_group, groups_over}
use Rattle.sound_laws_kept.proofs.Folds.{kept_is, kept_candidate, kept_facts, finally_is, none_stands}
use Rattle.sound_laws_kept.proofs.Trees.{own_name, source_stands}
use Rattle.sound_laws_kept.proofs.Shown.{one_summarized}
use Rattle.analysis.specs.steps.Deciding.{seen, IsDecided, AreDecided}
use Rattle.analysis.specs.steps.Making.{kept_of, lines_in, AreNew, AreOpen}

-- ---- before the first wave

pub none_decided : (T : List Entry) (M : List Source) (g : Groups) (known : Callees) (lines : List (List ℕ)) → ((h : Atom) (f : FunName) → known h f ≡ Unknown) → length lines ≡ length M
    → IsDecided T M g 0 known [] lines
none_decided T M g known lines unknown counted = record {
  results = λ h. record { exports = []; lines = [] };
  low = omega arith;
  known_so = λ h f. ap as_called (unknown h f) ∙ sym (none_stands (λ h. record { exports = []; lines = [] }) T M g h f);
  of_entry = λ h e is low at. absurd (omega (arith, low));
  solved = λ k low less is. absurd (omega (arith, less));
  changed_so = λ h. (λ e. clash false e refl, λ r. absurd (omega (arith, r.1)));
  counted = counted;
  summarized = λ s has_s e. clash false e refl;
  revealed = λ s has_s e. clash false e refl;
  lines_so = λ i s at e. clash false e refl;
}

-- ---- the entries that are kept

pub kept_entry_of : (changed : List Atom) (T : List Entry) (h : Atom) → entry_of (kept_of changed T) h ≡ cond (has changed h) None (entry_of T h)
kept_entry_of changed [] h = by (has changed h)
  where
    by : (b : Bool) → entry_of [] h ≡ cond b None (entry_of [] h)
    by true = refl
    by false = refl
kept_entry_of changed (e ∷ es) h = by (has changed e.name) refl (same_atom h e.name) refl (kept_entry_of changed es h)
  where
    by : (b : Bool) → has changed e.name ≡ b → (c : Bool) → same_atom h e.name ≡ c → entry_of (kept_of changed es) h ≡ cond (has changed h) None (entry_of es h)
        → entry_of (cond (not b) (e ∷ kept_of changed es) (kept_of changed es)) h ≡ cond (has changed h) None (cond c (Some e) (entry_of es h))
    by false out true is rest =
        ap (λ c. cond c (Some e) (entry_of (kept_of changed es) h)) is
        ∙ sym (ap (λ b. cond b None (Some e)) (ap (has changed) (name_is h e.name is) ∙ out))
    by false out false is rest = ap (λ c. cond c (Some e) (entry_of (kept_of changed es) h)) is ∙ rest
    by true in_it true is rest =
        let here : has changed h ≡ true = ap (has changed) (name_is h e.name is) ∙ in_it in
        rest ∙ ap (λ b. cond b None (entry_of es h)) here ∙ sym (ap (λ b. cond b None (Some e)) here)
    by true in_it false is rest = rest

-- ---- behind the last wave

module _ (T : List Entry) (M : List Source) (are : AreSources M) (known : Callees) (changed : List Atom) (lines : List (List ℕ)) (D : AreDecided T M known changed lines) where
  abbrev g : Groups
  g = D.groups

  abbrev d : IsDecided T M g g.count known changed lines
  d = D.decided

  abbrev R : Results
  R = d.results

  abbrev K : List Entry
  K = kept_of changed T

  changed_candidate : (h : Atom) → has changed h ≡ true → is_candidate T M h ≡ true
  changed_candidate h e = ((d.changed_so h).0 e).0

  not_kept : (h : Atom) → has changed h ≡ true → kept R T M g h ≡ false
  not_kept h e = let r = (d.changed_so h).0 e in kept_is R T M g h r.0 ∙ r.2

  group_kept : (h : Atom) → is_candidate T M h ≡ true → has changed h ≡ false → is_kept R T M g (g.number h) ≡ true
  group_kept h node out = by (is_kept R T M g (g.number h)) refl
    where
      by : (b : Bool) → is_kept R T M g (g.number h) ≡ b → is_kept R T M g (g.number h) ≡ true
      by true e = e
      by false e = clash (has changed h) ((d.changed_so h).1 (node, D.candidates.low h node, e)) out

  is_kept_one : (h : Atom) → is_candidate T M h ≡ true → has changed h ≡ false → kept R T M g h ≡ true
  is_kept_one h node out = kept_is R T M g h node ∙ group_kept h node out

  no_candidate : (h : Atom) → is_candidate T M h ≡ false → kept R T M g h ≡ false
  no_candidate h none = false_from_ne_true (kept R T M g h) (λ e. clash (is_candidate T M h) (kept_candidate R T M g h e) none)

  -- the entry of a candidate of a kept group
  pub record KeptEntry (h : Atom) : Type 0 where
    pub entry : Entry
    pub stored : entry_of T h ≡ Some entry
    pub there : entry_of K h ≡ Some entry

  kept_one : (h : Atom) → is_candidate T M h ≡ true → has changed h ≡ false → KeptEntry h
  kept_one h node out =
      let facts = kept_facts R T M g (g.number h) h (group_kept h node out) (in_own_group (is_candidate T M) (calls_of T M) g D.candidates h node) in
      record {
        entry = facts.entry;
        stored = facts.there;
        there = kept_entry_of changed T h ∙ ap (λ b. cond b None (entry_of T h)) out ∙ facts.there;
      }

  none_there : (h : Atom) → has changed h ≡ true → entry_of K h ≡ None
  none_there h e = kept_entry_of changed T h ∙ ap (λ b. cond b None (entry_of T h)) e

  in_candidate : (h : Atom) → is_in M h ≡ true → is_candidate T M h ≡ true
  in_candidate h e = ap (λ b. b || is_there (entry_of T h)) e

  not_in : (h : Atom) → is_candidate T M h ≡ false → is_in M h ≡ false
  not_in h none = false_from_ne_true (is_in M h) (λ e. clash (is_candidate T M h) (in_candidate h e) none)

  -- a module that is passed and has no kept entry was solved
  was_solved : (s : Source) → Contains M s → entry_of K s.tree.name ≡ None → has changed s.tree.name ≡ true
  was_solved s has_s none = by (has changed s.tree.name) refl
    where
      by : (b : Bool) → has changed s.tree.name ≡ b → has changed s.tree.name ≡ true
      by true e = e
      by false e = none_some (sym none ∙ (kept_one s.tree.name (in_candidate s.tree.name (own_name M are s has_s)) e).there)

  pub are_open : AreOpen K M known
  are_open s has_s none f there = d.revealed s has_s (was_solved s has_s none) f there

  -- ---- the modules of the new table

  new_node : (h : Atom) → is_candidate K M h ≡ is_new R T M g h
  unfolding is_new
  new_node h = by (has changed h) refl (is_candidate T M h) refl
    where
      by : (b : Bool) → has changed h ≡ b → (c : Bool) → is_candidate T M h ≡ c → is_candidate K M h ≡ (is_in M h || kept R T M g h)
      by true e c node = ap (λ (o : Option Entry). is_in M h || is_there o) (none_there h e) ∙ sym (ap (λ b. is_in M h || b) (not_kept h e))
      by false e true node =
          ap (λ (o : Option Entry). is_in M h || is_there o) (kept_one h node e).there ∙ sym (ap (λ b. is_in M h || b) (is_kept_one h node e))
      by false e false none =
          ap (λ (o : Option Entry). is_in M h || is_there o) (kept_entry_of changed T h ∙ ap (λ b. cond b None (entry_of T h)) e)
          ∙ none ∙ sym (ap₂ (λ a b. a || b) (not_in h none) (no_candidate h none))

  new_calls : (h : Atom) → is_candidate K M h ≡ true → calls_of K M h ≡ calls_of T M h
  new_calls h node = by (source_of M h) refl
    where
      by : (o : Option Source) → source_of M h ≡ o → calls_by o (entry_of K h) ≡ calls_by o (entry_of T h)
      by (Some s) e = refl
      by None e =
          let there = there_is (entry_of K h) (sym (ap (λ (p : Option Source). is_there p || is_there (entry_of K h)) e) ∙ node) in
          more there.0 there.1 (has changed h) refl
        where
          more : (x : Entry) → entry_of K h ≡ Some x → (b : Bool) → has changed h ≡ b → calls_by None (entry_of K h) ≡ calls_by None (entry_of T h)
          more x there true in_it = none_some (sym (none_there h in_it) ∙ there)
          more x there false out = ap (calls_by None) (kept_entry_of changed T h ∙ ap (λ b. cond b None (entry_of T h)) out)

  known_finally : seen known ≡ finally R T M g
  known_finally = λ i. λ h f. (d.known_so h f ∙ sym (finally_is R T M g h f)) i

  module _ (entry : Atom → Option Entry) (N : AreNew K M known lines entry) where
    -- the entry of a module that was solved
    made_entry : (s : Source) → Contains M s → has changed s.tree.name ≡ true → entry s.tree.name ≡ Some (made s (group_of N.groups s.tree.name) (finally R T M g) (R s.tree.name))
    made_entry s has_s e =
        let at = position_of M s has_s in
        let r = N.made at.0 s at.2 (none_there s.tree.name e) in
        let exports = one_summarized known s.tree.name (exported s.tree) r.0.exports (R s.tree.name).exports r.2 (d.summarized s has_s e) in
        let text : r.0.lines ≡ (R s.tree.name).lines = some_is (sym r.3 ∙ d.lines_so at.0 s at.2 e) in
        let result : r.0 ≡ R s.tree.name = λ i. record { exports = exports i; lines = text i } in
        r.1 ∙ ap₂ (λ (L : Standing) (q : Result). Some (made s (group_of N.groups s.tree.name) L q)) known_finally result

    entry_is : (h : Atom) → entry h ≡ new_entry R T M g N.groups h
    unfolding new_entry
    entry_is h = by (has changed h) refl (is_candidate T M h) refl
      where
        otherwise : Option Source → Option Entry
        otherwise o = made_of o (group_of N.groups h) (finally R T M g) (R h)

        solved : (o : Option Source) → source_of M h ≡ o → has changed h ≡ true → entry h ≡ otherwise o
        solved None at e = N.others h (ap is_there at) (none_there h e)
        solved (Some s) at e =
            let r = source_stands M h s at in
            subst (λ k. entry k ≡ made_of (Some s) (group_of N.groups k) (finally R T M g) (R k)) r.1 (made_entry s r.0 (ap (has changed) r.1 ∙ e))

        beyond : (o : Option Source) → source_of M h ≡ o → is_candidate T M h ≡ false → has changed h ≡ false → entry h ≡ otherwise o
        beyond (Some s) at none e = clash (is_candidate T M h) (in_candidate h (ap is_there at)) none
        beyond None at none e = N.others h (ap is_there at) (kept_entry_of changed T h ∙ ap (λ b. cond b None (entry_of T h)) e ∙ no_entry (entry_of T h) refl)
          where
            no_entry : (p : Option Entry) → entry_of T h ≡ p → p ≡ None
            no_entry None q = refl
            no_entry (Some x) q = clash (is_candidate T M h) (ap₂ (λ (a : Option Source) (b : Option Entry). is_there a || is_there b) at q) none

        by : (b : Bool) → has changed h ≡ b → (c : Bool) → is_candidate T M h ≡ c → entry h ≡ cond (kept R T M g h) (entry_of T h) (otherwise (source_of M h))
        by true e c node = solved (source_of M h) refl e ∙ sym (ap (λ k. cond k (entry_of T h) (otherwise (source_of M h))) (not_kept h e))
        by false e true node =
            let k = kept_one h node e in
            N.kept h k.entry k.there ∙ sym (ap (λ b. cond b (entry_of T h) (otherwise (source_of M h))) (is_kept_one h node e) ∙ k.stored)
        by false e false none =
            beyond (source_of M h) refl none e ∙ sym (ap (λ k. cond k (entry_of T h) (otherwise (source_of M h))) (no_candidate h none))

    lines_are : (s : Source) → Contains M s → lines_in (entry s.tree.name) ≡ (R s.tree.name).lines
    lines_are s has_s = by (has changed s.tree.name) refl
      where
        node : is_candidate T M s.tree.name ≡ true
        node = in_candidate s.tree.name (own_name M are s has_s)

        by : (b : Bool) → has changed s.tree.name ≡ b → lines_in (entry s.tree.name) ≡ (R s.tree.name).lines
        by true e = ap lines_in (made_entry s has_s e)
        by false e =
            let k = kept_one s.tree.name node e in
            ap lines_in (N.kept s.tree.name k.entry k.there)
            ∙ sym (ap (λ (r : Result). r.lines) (d.of_entry s.tree.name k.entry (is_kept_one s.tree.name node e) (D.candidates.low s.tree.name node) k.stored))

    pub written : (new : List Entry) (reports : List (List ℕ)) → ((h : Atom) → entry_of new h ≡ entry h) → IsTrue (rises is_name_before (map (λ e. e.name) new))
        → reports ≡ map (λ s. lines_in (entry s.tree.name)) M → IsWritten T M reports new
    written new reports stored rising told = record {
      groups = g;
      new_groups = N.groups;
      known = R;
      analysis = record {
        candidates = D.candidates;
        new = groups_over (is_candidate K M) (calls_of K M) (is_new R T M g) (calls_of T M) (λ h e. sym (new_node h) ∙ e) (λ h e. new_node h ∙ e) new_calls N.groups N.grouped;
        results = record {
          of_entry = λ h e is at. d.of_entry h e is (D.candidates.low h (kept_candidate R T M g h is)) at;
          solved = λ n less is. d.solved n (omega arith) less is;
        };
      };
      reports_so = told ∙ map_there (λ s. lines_in (entry s.tree.name)) (λ s. (R s.tree.name).lines) M lines_are;
      entries = λ h. stored h ∙ entry_is h;
      rising = rising;
    }
