-- Each new entry is that of one that a table holds: of a kept one the table to begin with holds it, and of a module that was solved it is
-- made, and keeps every rule.
use Rattle.std.proofs.Common.{◌≡◌, ◌<◌, ◌≤◌, ℕ, zero, suc, Bool, true, false, cond, ◌&&◌, List, [], ◌∷◌, Contains, map, length, Option, Some, None, IsTrue, refl, sym, ap, ◌∙◌, subst, arith}
use Rattle.std.specs.Prelude.{nat_lt}
use Rattle.std.specs.List.{list_all}
use Rattle.std.proofs.lemmas.Bool.{or_left}
use Rattle.type_kinds.proofs.Lists.{contains_first, contains_later}
use Rattle.type_kinds.proofs.Truths.{first, second}
use Rattle.type_kinds.specs.declared.atom.Atom.{Atom}
use Rattle.core_ast.specs.declared.syntax.FunName.{FunName}
use Rattle.core_scope.specs.Names.{same_atom}
use Rattle.core_scope.proofs.NameLaws.{function_is}
use Rattle.call_graph.specs.Outside.{Called}
use Rattle.cons_tree.specs.Callees.{same_name}
use Rattle.cons_tree.specs.declared.parts.Callee.{Callee}
use Rattle.cons_tree.specs.declared.parts.Callee.TheVariants.{Known}
use Rattle.cons_tree.specs.declared.parts.Summary.{Summary}
use Rattle.comp_rounds.specs.Rounds.{Callees, Function, summaries}
use Rattle.comp_rounds.specs.Takes.{AllTake}
use Rattle.table_file.specs.Order.{rises, is_name_before}
use Rattle.table_file.specs.Rules.{is_export}
use Rattle.table_file.specs.Stored.{takes, is_stored}
use Rattle.table_file.specs.declared.used.Used.{Used}
use Rattle.table_file.specs.declared.entries.Entry.{Entry as StoredEntry}
use Rattle.table_file.specs.declared.tables.Table.{Table}
use Rattle.table_keep.specs.Calls.{called_functions, called_modules}
use Rattle.table_keep.specs.Groups.{Groups, has, group_of}
use Rattle.table_keep.specs.Kept.{Standing, Results, callee_among, callee_by, is_candidate, calls_of, handed, stands, is_kept, kept, is_new, finally}
use Rattle.table_keep.specs.Made.{made, exported, used_of, AreSummarized}
use Rattle.table_keep.specs.Model.{Source, Entry, Result, source_of, is_there, is_in, entry_of, used_so, entry_so, entries_so}
use Rattle.table_keep.proofs.CallLaws.{modules_rise}
use Rattle.table_keep.proofs.MadeLaws.{exports_rise, group_has, used_are_outside, used_rise}
use Rattle.sound_laws_kept.specs.Solving.{AreSources, IsSolved}
use Rattle.sound_laws_kept.specs.Written.{IsAnalysisBy, made_of, new_entry}
use Rattle.sound_laws_kept.proofs.Folds as folds
use Rattle.sound_laws_kept.proofs.Graphs.{in_own_group}
use Rattle.sound_laws_kept.proofs.Names.{are_picked, none_some, some_is}
use Rattle.sound_laws_kept.proofs.Trees.{source_stands, stands_picked, under}
use Rattle.sound_laws_written.specs.Laws.{HaveDigests}
use Rattle.sound_laws_written.proofs.Fit.{AreFit, solved_fit}

-- an entry is that of one that a table holds
abbrev pub IsHeld : Entry → Type 0
IsHeld e = (s : StoredEntry) × (entry_so s ≡ e)

fit_of : (e : Entry) → IsHeld e → AreFit e.result.exports
fit_of e h = subst (λ (x : Entry). AreFit x.result.exports) h.1 h.0.exports_fit

-- ---- used functions

abbrev may_stand : Called × Callee → Bool
may_stand u = is_stored u.1 u.0.1.arity

used_held : (us : List (Called × Callee)) → list_all may_stand us ≡ true → (vs : List Used) × (map used_so vs ≡ us)
used_held [] h = ([], refl)
used_held (u ∷ us) h =
    let rest = used_held us (second (may_stand u) (list_all may_stand us) h) in
    let here : Used = record { home = u.0.0; name = u.0.1; callee = u.1; stored = first (may_stand u) (list_all may_stand us) h } in
    (here ∷ rest.0, ap (λ vs. u ∷ vs) rest.1)

-- what stands of each function may be stored
abbrev AreStored : Standing → Type 0
AreStored K = (h : Atom) (f : FunName) → is_stored (K h f) f.arity ≡ true

used_stored : (group : List Atom) (K : Standing) → AreStored K → (cs : List Called) → list_all may_stand (used_of group K cs) ≡ true
used_stored group K stored [] = refl
used_stored group K stored (c ∷ cs) = by (has group c.0) (used_stored group K stored cs)
  where
    by : (b : Bool) → list_all may_stand (used_of group K cs) ≡ true → list_all may_stand (cond b (used_of group K cs) ((c, K c.0 c.1) ∷ used_of group K cs)) ≡ true
    by true rest = rest
    by false rest = let here : is_stored (K c.0 c.1) c.1.arity ≡ true = stored c.0 c.1 in (λ i. here i && rest i)

exports_stored : (xs : List (FunName × Summary)) → AreFit xs → (f : FunName) → is_stored (callee_among xs f) f.arity ≡ true
exports_stored [] fit f = refl
exports_stored (x ∷ xs) fit f = by (same_name f x.0) refl (exports_stored xs (second (is_export x) (list_all is_export xs) fit) f)
  where
    here : takes x.1 x.0.arity ≡ true
    here = second (nat_lt x.0.arity 256) (takes x.1 x.0.arity) (first (is_export x) (list_all is_export xs) fit)

    by : (b : Bool) → same_name f x.0 ≡ b → is_stored (callee_among xs f) f.arity ≡ true → is_stored (cond b (Known x.1) (callee_among xs f)) f.arity ≡ true
    by true is rest = subst (λ (g : FunName). takes x.1 g.arity ≡ true) (sym (function_is f x.0 is)) here
    by false is rest = rest

-- ---- an entry that is made

made_held : (s : Source) (group : List Atom) (K : Standing) (r : Result) → length s.digest ≡ 32 → IsTrue (rises is_name_before group) → has group s.tree.name ≡ true → AreStored K
    → (known : Callees) → AreSummarized known s.tree.name (exported s.tree) r.exports → AreFit r.exports → IsHeld (made s group K r)
made_held s group K r whole up own stored known summarized fit =
    let us = used_held (used_of group K (called_functions s.tree)) (used_stored group K stored (called_functions s.tree)) in (
      record {
        name = s.tree.name;
        digest = record { 0 = s.digest };
        group = group;
        calls = called_modules s.tree;
        used = us.0;
        exports = r.exports;
        lines = r.lines;
        digest_whole = whole;
        group_rises = up;
        group_has_own = group_has group group s.tree.name s.tree.name refl refl own;
        calls_rise = modules_rise s.tree;
        used_rise = used_rise group K s.tree us.0 us.1;
        used_outside = used_are_outside group K s.tree (called_modules s.tree) us.0 refl us.1;
        exports_rise = exports_rise known s.tree.name s.tree r.exports summarized;
        exports_fit = fit;
      },
      ap (λ vs. let entry : Entry = record { name = s.tree.name; digest = s.digest; group = group; calls = called_modules s.tree; used = vs; result = r } in entry) us.1,
    )

-- ---- the new entries

module _ (take : (outside : Callees) (gs : List Function) → AllTake gs (summaries outside gs)) (T : List Entry) (M : List Source) (are : AreSources M) (whole : HaveDigests M)
    (held : (h : Atom) (e : Entry) → entry_of T h ≡ Some e → IsHeld e) (g n : Groups) (R : Results) (is : IsAnalysisBy IsSolved T M g n R) where
  -- the results of a group that was solved are fit
  group_fit : (k : ℕ) → k < g.count → is_kept R T M g k ≡ false → (s : Source) → Contains (handed M g k) s → AreFit (R s.tree.name).exports
  group_fit k low changes s there =
      solved_fit take (handed M g k) (are_picked (has (g.members k)) M are) (stands R T M g k) R (is.results.solved k low changes) s there

  stored_at : (k : ℕ) → k ≤ g.count → AreStored (stands R T M g k)
  stored_at zero low h f = subst (λ c. is_stored c f.arity ≡ true) (sym (folds.none_stands R T M g h f)) refl
  stored_at (suc k) low h f = by (is_kept R T M g k) refl (stored_at k (omega (arith, low)) h f)
    where
      by_entry : (b : Bool) (o : Option Entry) → entry_of T h ≡ o → is_stored (stands R T M g k h f) f.arity ≡ true → is_stored (cond b (callee_by o f) (stands R T M g k h f)) f.arity ≡ true
      by_entry true None e before = refl
      by_entry true (Some x) e before = exports_stored x.result.exports (fit_of x (held h x e)) f
      by_entry false o e before = before

      by_result : (b : Bool) → is_in (handed M g k) h ≡ b → is_kept R T M g k ≡ false → is_stored (stands R T M g k h f) f.arity ≡ true
          → is_stored (cond b (callee_among (R h).exports f) (stands R T M g k h f)) f.arity ≡ true
      by_result true e changes before =
          let u = under (handed M g k) h e in
          exports_stored (R h).exports (subst (λ a. AreFit (R a).exports) u.name_is (group_fit k (omega (arith, low)) changes u.source u.there)) f
      by_result false e changes before = before

      by : (b : Bool) → is_kept R T M g k ≡ b → is_stored (stands R T M g k h f) f.arity ≡ true → is_stored (stands R T M g (suc k) h f) f.arity ≡ true
      by true e before = subst (λ c. is_stored c f.arity ≡ true) (sym (folds.kept_step R T M g k h f e)) (by_entry (has (g.members k) h) (entry_of T h) refl before)
      by false e before = subst (λ c. is_stored c f.arity ≡ true) (sym (folds.solved_step R T M g k h f e)) (by_result (is_in (handed M g k) h) refl e before)

  stored_finally : AreStored (finally R T M g)
  stored_finally h f = subst (λ c. is_stored c f.arity ≡ true) (sym (folds.finally_is R T M g h f)) (stored_at g.count (omega arith) h f)

  node : (h : Atom) → is_in M h ≡ true → is_candidate T M h ≡ true
  node h there = or_left (is_in M h) (is_there (entry_of T h)) there

  new_node : (h : Atom) → is_in M h ≡ true → is_new R T M g h ≡ true
  unfolding is_new
  new_node h there = or_left (is_in M h) (kept R T M g h) there

  source_held : (h : Atom) → kept R T M g h ≡ false → (s : Source) → source_of M h ≡ Some s → IsHeld (made s (group_of n h) (finally R T M g) (R h))
  source_held h changes s q =
      let there = source_stands M h s q in
      let in_it : is_in M h ≡ true = ap is_there q in
      let candidate = node h in_it in
      let solved : is_kept R T M g (g.number h) ≡ false = sym (folds.kept_is R T M g h candidate) ∙ changes in
      let low = is.candidates.low h candidate in
      let own : has (g.members (g.number h)) s.tree.name ≡ true = ap (has (g.members (g.number h))) there.1 ∙ in_own_group (is_candidate T M) (calls_of T M) g is.candidates h candidate in
      let picked = stands_picked (has (g.members (g.number h))) M s there.0 own in
      let result = is.results.solved (g.number h) low solved in
      made_held s (group_of n h) (finally R T M g) (R h) (whole s there.0) (is.new.sorted (n.number h))
      (ap (has (group_of n h)) there.1 ∙ in_own_group (is_new R T M g) (calls_of T M) n is.new h (new_node h in_it)) stored_finally result.known
      (subst (λ a. AreSummarized result.known s.tree.name (exported s.tree) (R a).exports) there.1 (result.results s picked).exports)
      (subst (λ a. AreFit (R a).exports) there.1 (group_fit (g.number h) low solved s picked))

  pub new_held : (h : Atom) (e : Entry) → new_entry R T M g n h ≡ Some e → IsHeld e
  unfolding new_entry
  new_held h e at = by (kept R T M g h) refl at
    where
      by_source : (o : Option Source) → source_of M h ≡ o → kept R T M g h ≡ false → made_of o (group_of n h) (finally R T M g) (R h) ≡ Some e → IsHeld e
      by_source None q changes at = none_some at
      by_source (Some s) q changes at = subst IsHeld (some_is at) (source_held h changes s q)

      by : (b : Bool) → kept R T M g h ≡ b → cond b (entry_of T h) (made_of (source_of M h) (group_of n h) (finally R T M g) (R h)) ≡ Some e → IsHeld e
      by true stays at = held h e at
      by false changes at = by_source (source_of M h) refl changes at

-- ---- a table

pub entry_held : (ss : List StoredEntry) (h : Atom) (e : Entry) → entry_of (map entry_so ss) h ≡ Some e → IsHeld e
entry_held [] h e q = none_some q
entry_held (s ∷ ss) h e q = by (same_atom h s.name) q (entry_held ss h e)
  where
    by : (b : Bool) → cond b (Some (entry_so s)) (entry_of (map entry_so ss) h) ≡ Some e → (entry_of (map entry_so ss) h ≡ Some e → IsHeld e) → IsHeld e
    by true q rest = (s, some_is q)
    by false q rest = rest q

all_held : (es : List Entry) → ((e : Entry) → Contains es e → IsHeld e) → (ss : List StoredEntry) × (map entry_so ss ≡ es)
all_held [] held = ([], refl)
all_held (e ∷ es) held =
    let here = held e (contains_first e es) in
    let rest = all_held es (λ d there. held d (contains_later e d es there)) in
    (here.0 ∷ rest.0, λ i. here.1 i ∷ rest.1 i)

names_so : (ss : List StoredEntry) → map (λ (s : StoredEntry). s.name) ss ≡ map (λ (e : Entry). e.name) (map entry_so ss)
names_so [] = refl
names_so (s ∷ ss) = ap (λ names. s.name ∷ names) (names_so ss)

-- entries that rise, each of which a table holds, are those of a table
pub table_held : (es : List Entry) → ((e : Entry) → Contains es e → IsHeld e) → IsTrue (rises is_name_before (map (λ e. e.name) es)) → (table : Table) × (entries_so table ≡ es)
table_held es held up =
    let all = all_held es held in (
      record { entries = all.0; entries_rise = ap (rises is_name_before) (names_so all.0 ∙ ap (map (λ (e : Entry). e.name)) all.1) ∙ up },
      all.1,
    )
