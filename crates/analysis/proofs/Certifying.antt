-- The certificate: where the module of an entry stands, the functions that it lists, and the entries one after another.
use Rattle.std.proofs.Common.{◌≡◌, ◌↔◌, ℕ, zero, suc, ◌+◌, ◌<◌, Bool, true, false, cond, ◌||◌, ◌&&◌, List, [], ◌∷◌, ◌++◌}
use Rattle.std.proofs.Common.{drop, length, map, get_or, slice_get, Contains, Option, Some, None, Result, Ok, Err, refl}
use Rattle.std.proofs.Common.{sym, ap, ap₂, ◌∙◌, subst, arith, true≢false}
use Rattle.std.specs.Prelude.{IfOk, IsSome, nat_lt}
use Rattle.std.specs.List.{list_any}
use Rattle.std.proofs.lemmas.List.{length-map, map-append}
use Rattle.std.proofs.lemmas.Option.{slice_get_within}
use Rattle.type_kinds.proofs.Lists.{contains_at}
use Rattle.type_kinds.proofs.Truths.{or_first}
use Rattle.type_kinds.specs.declared.atom.Atom.{Atom}
use Rattle.type_kinds.specs.declared.memory.Memory.{Memory}
use Rattle.type_kinds_sets.specs.Ascending.{is_ascending, merged}
use Rattle.core_ast.specs.Model as m
use Rattle.core_ast.specs.Tree.{all_defs}
use Rattle.core_ast.specs.declared.syntax.Expr.{Expr}
use Rattle.core_ast.specs.declared.syntax.FunDefOf.{FunDefOf}
use Rattle.core_ast.specs.declared.syntax.FunName.{FunName}
use Rattle.core_scope.specs.Checked.{module_of, tree_of}
use Rattle.core_scope.specs.Names.{defined_names, same_atom}
use Rattle.core_scope.specs.Sets.{StandsEarlier}
use Rattle.cons_tree.specs.Callees.{Fits}
use Rattle.cons_tree.specs.declared.parts.Callee.{Callee}
use Rattle.cons_tree.specs.declared.parts.Callee.TheVariants.{Unknown}
use Rattle.cons_tree.specs.declared.parts.Summary.{Summary}
use Rattle.comp_rounds.specs.Rounds.{Callees}
use Rattle.sound_laws.specs.Knowledge.{summary_of}
use Rattle.analysis_summaries.specs.Known.{all_unknown, module_names}
use Rattle.analysis_summaries.specs.Whole.{IsWholeOver, IsWholeOf}
use Rattle.table_file.specs.declared.entries.Entry.{Entry as StoredEntry}
use Rattle.table_file.specs.declared.tables.Table.{Table}
use Rattle.table_file.specs.Order.{rises, is_name_before}
use Rattle.table_file.specs.Rules.{is_export, is_export_before}
use Rattle.table_file.specs.Stored.{takes}
use Rattle.table_keep.specs.declared.source.Source.{Source as HandedIn}
use Rattle.table_keep.specs.Made.{function_cmp}
use Rattle.table_keep.specs.Model.{Source, Entry, source_so, sources_so, trees, source_of, is_in, is_there, entry_so, entries_so}
use Rattle.table_keep.proofs.MadeLaws.{takes_from}
use Rattle.table_keep.proofs.Rises.{ascending_rises, tells_function}
use Rattle.sound_laws_kept.specs.Solving.{IsWritten}
use Rattle.sound_laws_kept.proofs.Entries.{entry_source}
use Rattle.sound_laws_kept.proofs.Names.{name_is, clash}
use Rattle.sound_laws_kept.proofs.Trees.{own_source, source_stands, tree_stands}
use Rattle.table_verify_laws.specs.Certificates.{AreListed, ListsAll, EachListsAll, IsCertificate}
use Rattle.table_verify_laws.specs.Lined.{entry_names}
use Rattle.table_verify_laws.specs.Listed.{defined}
use Rattle.table_verify_laws.proofs.Listing.{listed_so, defined_rise, entry_there}
use Rattle.analysis_typings.specs.Typings.{HasSummary}
use Rattle.analysis_typings.proofs.Known.{all_have}
use Rattle.analysis_typings.proofs.Listed.{names_in, takes_known}
use Rattle.analysis.proofs.Handed.{are_sources, chosen_trees, names_so}

abbrev pub names : List HandedIn → List Atom
names ss = map (λ (s : HandedIn). (module_of s.checked).name) ss

abbrev pub AreApart : List HandedIn → Type 0
AreApart ss = (j : ℕ) → j < length ss → StandsEarlier (names ss) j → ⊥

-- ---- where the module of a name stands

-- the last module of a name
last_source : (p : ℕ) (M : List Source) (x : Atom) → list_any (same_atom x) (drop p (module_names (trees M))) ≡ true → list_any (same_atom x) (drop (suc p) (module_names (trees M))) ≡ false
    → (s : Source) × (slice_get M p ≡ Some s) × (x ≡ s.tree.name)
last_source zero [] x there last = absurd cc
last_source (suc p) [] x there last = absurd cc
last_source zero (s ∷ ss) x there last = (s, refl, name_is x s.tree.name (or_first (same_atom x s.tree.name) (list_any (same_atom x) (module_names (trees ss))) there last))
last_source (suc p) (s ∷ ss) x there last = last_source p ss x there last

-- a module of the name is among them
named_there : (M : List Source) (x : Atom) → is_in M x ≡ true → list_any (same_atom x) (module_names (trees M)) ≡ true
named_there [] x e = clash false e refl
named_there (s ∷ ss) x e = by (same_atom x s.tree.name) e (named_there ss x)
  where
    by : (b : Bool) → is_there (cond b (Some s) (source_of ss x)) ≡ true → (is_in ss x ≡ true → list_any (same_atom x) (module_names (trees ss)) ≡ true) → (b || list_any (same_atom x) (module_names (trees ss))) ≡ true
    by true e rest = refl
    by false e rest = rest e

module _ (ss : List HandedIn) (apart : AreApart ss) (hs : List Atom) (are : hs ≡ names ss) (x : Atom) where
  so : hs ≡ module_names (trees (sources_so ss))
  so = are ∙ names_so ss

  pub not_there : (o : Option ℕ) → o ≡ None → IsSome o ↔ (list_any (same_atom x) hs ≡ true) → is_in (sources_so ss) x ≡ true → ⊥
  not_there o none both e = true≢false (sym (subst IsSome none (both.1 (ap (list_any (same_atom x)) so ∙ named_there (sources_so ss) x e))))

  module _ (p : ℕ) (there : list_any (same_atom x) (drop p hs) ≡ true) (last : list_any (same_atom x) (drop (p + 1) hs) ≡ false) where
    found : (s : Source) × (slice_get (sources_so ss) p ≡ Some s) × (x ≡ s.tree.name)
    found =
        last_source p (sources_so ss) x (ap (λ ns. list_any (same_atom x) (drop p ns)) (sym so) ∙ there)
        (ap (λ n. list_any (same_atom x) (drop n (module_names (trees (sources_so ss))))) (let e : suc p ≡ p + 1 = omega arith in e)
        ∙ ap (λ ns. list_any (same_atom x) (drop (p + 1) ns)) (sym so) ∙ last)

    pub place_within : p < length ss
    place_within = let low = slice_get_within (sources_so ss) p found.0 found.1 in omega (arith, low, length-map ss source_so)

    pub place_is : slice_get (sources_so ss) p ≡ source_of (sources_so ss) x
    place_is =
        found.1
        ∙ sym (ap (source_of (sources_so ss)) found.2 ∙ own_source (sources_so ss) (are_sources ss apart).distinct found.0 (contains_at (sources_so ss) p found.0 found.1))

-- the source there
source_here : (ss : List HandedIn) (p : ℕ) (d s : HandedIn) (x : Atom) → p < length ss → s ≡ get_or ss p d → slice_get (sources_so ss) p ≡ source_of (sources_so ss) x → source_of (sources_so ss) x ≡ Some (source_so s)
source_here [] p d s x low is e = absurd (omega (arith, low))
source_here ss p d s x low is e = sym e ∙ at ss p low is
  where
    at : (ts : List HandedIn) (q : ℕ) → q < length ts → s ≡ get_or ts q d → slice_get (sources_so ts) q ≡ Some (source_so s)
    at [] q low is = absurd (omega (arith, low))
    at (t ∷ ts) zero low is = ap (λ u. Some (source_so u)) (sym is)
    at (t ∷ ts) (suc q) low is = at ts q (omega (arith, low)) is

known_here : (K : Callees) (M : List Source) (s : Source) (x : Atom) → source_of M x ≡ Some s → ((t : Source) → Contains M t → (f : FunName) → Contains (defined_names t.tree.defs) f → HasSummary (K t.tree.name f))
    → (f : FunName) → Contains (defined_names s.tree.defs) f → HasSummary (K s.tree.name f)
known_here K M s x there known = known s (source_stands M x s there).0

module _ (K : Callees) (ss : List HandedIn) (p : ℕ) (s : HandedIn) (x : Atom) (low : p < length ss) (is : s ≡ get_or ss p s) (at : slice_get (sources_so ss) p ≡ source_of (sources_so ss) x) where
  here : source_of (sources_so ss) x ≡ Some (source_so s)
  here = source_here ss p s s x low is at

  pub known_at : ((t : Source) → Contains (sources_so ss) t → (f : FunName) → Contains (defined_names t.tree.defs) f → HasSummary (K t.tree.name f))
      → (f : FunName) → Contains (defined_names (tree_of s.checked).defs) f → HasSummary (K (tree_of s.checked).name f)
  known_at known = known_here K (sources_so ss) (source_so s) x here known

-- ---- the functions of a module

pub listed_more : (known : Callees) (home : Atom) (fs : List FunName) (xs : List (FunName × Summary)) (f : FunName) (s : Summary) → AreListed known home fs xs
    → summary_of (known home f) ≡ Some s → AreListed known home (fs ++ f ∷ []) (xs ++ (f, s) ∷ [])
listed_more known home [] [] f s are is = (refl, is, tt)
listed_more known home [] (x ∷ xs) f s are is = absurd are
listed_more known home (g ∷ fs) [] f s are is = absurd are
listed_more known home (g ∷ fs) (x ∷ xs) f s are is = (are.0, are.1, listed_more known home fs xs f s are.2 is)

pub fits_listed : (f : FunName) (s : Summary) (k : Callee) → f.arity < 256 → summary_of k ≡ Some s → Fits k f.arity → is_export (f, s) ≡ true
fits_listed f s k small is fits =
    let t : takes s f.arity ≡ true = takes_from s f.arity (takes_known k s f.arity fits is) in
    let l : nat_lt f.arity 256 ≡ true = grind arith in
    (λ i. l i && t i)

pub names_defined : (ds : List (FunDefOf Expr)) (fs : List FunName) → fs ≡ map (λ d. d.name) ds → fs ≡ defined_names (all_defs ds)
names_defined ds fs e = e ∙ sym (names_in ds)

pub defined_is : (x : m.Module) (fs once : List FunName) → once ≡ merged function_cmp [] fs → fs ≡ defined_names x.defs → once ≡ defined x
unfolding defined
defined_is x fs once is copied = is ∙ ap (merged function_cmp []) copied

pub functions_rise : (known : Callees) (home : Atom) (x : m.Module) (xs : List (FunName × Summary)) → AreListed known home (defined x) xs → rises is_export_before xs ≡ true
functions_rise known home x xs are =
    ascending_rises function_cmp is_export_before (λ (y : FunName × Summary). y.0) (λ y z t. tells_function y.0 z.0 t) xs
    (ap (is_ascending function_cmp) (listed_so known home (defined x) xs are) ∙ defined_rise x)

-- ---- an entry

lists_all : (known : Callees) (M : List Source) (before now : StoredEntry) (s : Source) (functions : List (FunName × Summary)) → source_of M before.name ≡ Some s → AreListed known s.tree.name (defined s.tree) functions
    → entry_so now ≡ record (entry_so before) { result = record { exports = functions; lines = before.lines } } → ListsAll known M (entry_so before) (entry_so now)
lists_all known M before now s functions there are is =
    let same : now.exports ≡ functions = ap (λ (e : Entry). e.result.exports) is in
    record {
      source = s;
      there = there;
      functions = subst (AreListed known before.name (defined s.tree)) (sym same) (subst (λ h. AreListed known h (defined s.tree) functions) (source_stands M before.name s there).1 are);
      others = is ∙ ap (λ xs. record (entry_so before) { result = record { exports = xs; lines = before.lines } }) (sym same);
    }

pub lists_at : (known : Callees) (ss : List HandedIn) (before now : StoredEntry) (p : ℕ) (s : HandedIn) (functions : List (FunName × Summary)) → p < length ss → s ≡ get_or ss p s
    → slice_get (sources_so ss) p ≡ source_of (sources_so ss) before.name → AreListed known (tree_of s.checked).name (defined (tree_of s.checked)) functions
    → entry_so now ≡ record (entry_so before) { result = record { exports = functions; lines = before.lines } } → ListsAll known (sources_so ss) (entry_so before) (entry_so now)
lists_at known ss before now p s functions low same at are is = lists_all known (sources_so ss) before now (source_so s) functions (here known ss p s before.name low same at) are is

-- ---- the entries

each_more : (known : Callees) (M : List Source) (es cs : List Entry) (e c : Entry) → EachListsAll known M es cs → ListsAll known M e c → EachListsAll known M (es ++ e ∷ []) (cs ++ c ∷ [])
each_more known M [] [] e c are is = (is, tt)
each_more known M [] (d ∷ cs) e c are is = absurd are
each_more known M (x ∷ es) [] e c are is = absurd are
each_more known M (x ∷ es) (d ∷ cs) e c are is = (are.0, each_more known M es cs e c are.1 is)

names_kept : (known : Callees) (M : List Source) (es cs : List Entry) → EachListsAll known M es cs → entry_names cs ≡ entry_names es
names_kept known M [] [] are = refl
names_kept known M [] (d ∷ cs) are = absurd are
names_kept known M (x ∷ es) [] are = absurd are
names_kept known M (x ∷ es) (d ∷ cs) are = ap₂ (λ n ns. n ∷ ns) (ap (λ (e : Entry). e.name) are.0.others) (names_kept known M es cs are.1)

stored_names : (es : List StoredEntry) → map (λ (e : StoredEntry). e.name) es ≡ entry_names (map entry_so es)
stored_names [] = refl
stored_names (e ∷ es) = ap (λ ns. e.name ∷ ns) (stored_names es)

pub still_rise : (known : Callees) (M : List Source) (es cs : List StoredEntry) → EachListsAll known M (map entry_so es) (map entry_so cs) → rises is_name_before (map (λ (e : StoredEntry). e.name) es) ≡ true
    → rises is_name_before (map (λ (e : StoredEntry). e.name) cs) ≡ true
still_rise known M es cs are up =
    ap (rises is_name_before) (stored_names cs ∙ names_kept known M (map entry_so es) (map entry_so cs) are ∙ sym (stored_names es)) ∙ up

pub stored_more : (known : Callees) (M : List Source) (es cs : List StoredEntry) (e c : StoredEntry) → EachListsAll known M (map entry_so es) (map entry_so cs) → ListsAll known M (entry_so e) (entry_so c)
    → EachListsAll known M (map entry_so (es ++ e ∷ [])) (map entry_so (cs ++ c ∷ []))
stored_more known M es cs e c are is =
    subst (λ xs. EachListsAll known M xs (map entry_so (cs ++ c ∷ []))) (sym (map-append entry_so es (e ∷ [])))
    (subst (λ ys. EachListsAll known M (map entry_so es ++ entry_so e ∷ []) ys) (sym (map-append entry_so cs (c ∷ []))) (each_more known M (map entry_so es) (map entry_so cs) (entry_so e) (entry_so c) are is))

pub entry_among : (es items : List StoredEntry) (i : ℕ) (e : StoredEntry) → items ≡ es → i < length items → e ≡ get_or items i e → Contains (map entry_so es) (entry_so e)
entry_among es items i e same low is = subst (λ xs. Contains (map entry_so xs) (entry_so e)) same (i, subst (λ n. i < n) (sym (length-map items entry_so)) low, at items i low is)
  where
    at : (xs : List StoredEntry) (q : ℕ) → q < length xs → e ≡ get_or xs q e → get_or (map entry_so xs) q (entry_so e) ≡ entry_so e
    at [] q low is = absurd (omega (arith, low))
    at (x ∷ xs) zero low is = ap entry_so (sym is)
    at (x ∷ xs) (suc q) low is = at xs q (omega (arith, low)) is

-- ---- what the analysis says

name_among : (T : List Entry) (e : Entry) → Contains T e → Contains (entry_names T) e.name
name_among T e has = (has.0, subst (λ n. has.0 < n) (sym (length-map T (λ (x : Entry). x.name))) has.1, at T has.0 has.1 has.2)
  where
    at : (xs : List Entry) (q : ℕ) → q < length xs → get_or xs q e ≡ e → get_or (entry_names xs) q e.name ≡ e.name
    at [] q low is = absurd (omega (arith, low))
    at (x ∷ xs) zero low is = ap (λ (y : Entry). y.name) is
    at (x ∷ xs) (suc q) low is = at xs q (omega (arith, low)) is

pub written_there : (M : List Source) (T : List Entry) → (reports : List (List ℕ)) × IsWritten [] M reports T → (e : Entry) → Contains T e → is_in M e.name ≡ true
written_there M T (reports, w) e has =
    let at = entry_there T e.name (name_among T e has) in
    ap is_there (entry_source M T w.groups w.new_groups w.known w.analysis.candidates w.entries e.name at.0 at.1).there

pub whole_known : (ss : List HandedIn) (around known : Callees) → AreApart ss → IsWholeOver around (map (λ (s : HandedIn). tree_of s.checked) ss) known
    → (s : Source) → Contains (sources_so ss) s → (f : FunName) → Contains (defined_names s.tree.defs) f → HasSummary (known s.tree.name f)
whole_known ss around known apart whole s has f named =
    all_have (λ (t : HandedIn). t.checked) ss around known apart whole s.tree
    (subst (λ xs. Contains xs s.tree) (sym (chosen_trees (λ (t : HandedIn). t) ss)) (tree_stands (sources_so ss) s has)) f named

pub is_certificate : (ss : List HandedIn) (first known : Callees) (table : List Entry) (r : Result Table Memory) → ((h : Atom) (f : FunName) → first h f ≡ Unknown)
    → IsWholeOver first (map (λ (s : HandedIn). tree_of s.checked) ss) known
    → (reports : List (List ℕ)) × IsWritten [] (sources_so ss) reports table → IfOk r (λ cert. EachListsAll known (sources_so ss) table (entries_so cert)) → IfOk r (λ cert. IsCertificate (sources_so ss) (entries_so cert))
is_certificate ss first known table (Err e) none whole written lists = tt
is_certificate ss first known table (Ok cert) none whole written lists =
    let same : first ≡ all_unknown = λ i h f. none h f i in
    record {
      known = known;
      whole = subst (λ xs. IsWholeOf xs known) (chosen_trees (λ (t : HandedIn). t) ss) (subst (λ around. IsWholeOver around (map (λ (s : HandedIn). tree_of s.checked) ss) known) same whole);
      reports = written.0;
      table = table;
      written = written.1;
      lists = lists;
    }
