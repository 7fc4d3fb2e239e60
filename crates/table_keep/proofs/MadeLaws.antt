-- The parts of an entry that is made: used functions and exports, and the rules that they keep.
use Rattle.std.proofs.Common.{◌≡◌, ◌<◌, ℕ, Bool, true, false, not, ◌&&◌, cond, List, [], ◌∷◌, ◌++◌, Contains, filter, map, refl, sym, ap, ◌∙◌, arith, length, get_or, subst}
use Rattle.std.specs.Prelude.{nat_lt}
use Rattle.std.specs.List.{list_all}
use Rattle.std.proofs.lemmas.List.{append-nil, map-append}
use Rattle.type_kinds.specs.declared.atom.Atom.{Atom}
use Rattle.type_kinds.proofs.Lists.{contains_first, contains_later}
use Rattle.type_kinds.proofs.Truths.{first, second}
use Rattle.type_kinds_sets.specs.Ascending.{is_ascending, merged}
use Rattle.type_kinds_sets.specs.Names.{name_cmp}
use Rattle.type_kinds_sets.proofs.AscendingLaws.{ascending-filter, ascending-merged}
use Rattle.core_ast.specs.declared.syntax.FunName.{FunName}
use Rattle.core_ast.specs.Model as m
use Rattle.call_graph.specs.Outside.{Called}
use Rattle.cons_tree.specs.Callees.{Fits, Takes, as_called}
use Rattle.cons_tree.specs.declared.parts.Summary.{Summary}
use Rattle.cons_tree.specs.declared.parts.Callee.{Callee}
use Rattle.cons_tree.specs.declared.parts.Callee.TheVariants.{Known, Local, Undefined, Unknown}
use Rattle.table_file.specs.Order.{rises, has_name}
use Rattle.table_file.specs.Rules.{is_used_before, is_outside, is_export_before, is_export}
use Rattle.table_file.specs.Stored.{takes, is_stored}
use Rattle.table_file.specs.declared.used.Used.{Used}
use Rattle.table_keep.specs.Calls.{called_cmp, called_functions, called_modules, homes}
use Rattle.table_keep.specs.Groups.{has}
use Rattle.table_keep.specs.Kept.{Standing}
use Rattle.table_keep.specs.Made.{function_cmp, exported, made, AreSummarized, used_of}
use Rattle.table_keep.specs.Model.{Source, Entry, Result, used_so}
use Rattle.table_keep.proofs.CallLaws.{called_rise, modules_exactly}
use Rattle.table_keep.proofs.MemberLaws.{has_name_is_has}
use Rattle.table_keep.specs.Orders.{called_total, called_same, function_total, function_same}
use Rattle.table_keep.proofs.Rises.{ascending_rises, tells_called, tells_function}
use Rattle.table_keep.proofs.RisingLaws.{merged_in}

-- ---- what is stored of a callee

pub takes_from : (s : Summary) (n : ℕ) → Takes s n → takes s n ≡ true
takes_from s n h = let a = h.0 in let b = h.1 in grind arith

pub stored_as_called : (k : Callee) (n : ℕ) → Fits k n → is_stored (as_called k) n ≡ true
stored_as_called (Known s) n h = takes_from s n h
stored_as_called (Local s) n h = refl
stored_as_called Undefined n h = refl
stored_as_called Unknown n h = refl

pub fits_export : (f : FunName) (s : Summary) (k : Callee) → f.arity < 256 → k ≡ Known s → Fits k f.arity → is_export (f, s) ≡ true
fits_export f s k small is fits =
    let t : takes s f.arity ≡ true = takes_from s f.arity (rw is at fits) in
    let l : nat_lt f.arity 256 ≡ true = grind arith in
    (λ i. l i && t i)

-- ---- used functions

module _ (group : List Atom) (K : Standing) where
  pub used_more : (cs : List Called) (c : Called) → used_of group K (cs ++ c ∷ []) ≡ used_of group K cs ++ used_of group K (c ∷ [])
  used_more [] c = refl
  used_more (d ∷ cs) c = by (has group d.0) (used_more cs c)
    where
      by : (b : Bool) → used_of group K (cs ++ c ∷ []) ≡ used_of group K cs ++ used_of group K (c ∷ [])
          → cond b (used_of group K (cs ++ c ∷ [])) ((d, K d.0 d.1) ∷ used_of group K (cs ++ c ∷ []))
          ≡ cond b (used_of group K cs) ((d, K d.0 d.1) ∷ used_of group K cs) ++ used_of group K (c ∷ [])
      by true e = e
      by false e = ap (λ us. (d, K d.0 d.1) ∷ us) e

  pub used_inside : (cs : List Called) (c : Called) (us : List (Called × Callee)) → us ≡ used_of group K cs → has group c.0 ≡ true → us ≡ used_of group K (cs ++ c ∷ [])
  used_inside cs c us e h = e ∙ sym (used_more cs c ∙ ap (λ b. used_of group K cs ++ cond b [] ((c, K c.0 c.1) ∷ [])) h ∙ append-nil (used_of group K cs))

  pub used_outside : (cs : List Called) (c : Called) (us : List Used) (u : Used) → map used_so us ≡ used_of group K cs → used_so u ≡ (c, K c.0 c.1) → has group c.0 ≡ false
      → map used_so (us ++ u ∷ []) ≡ used_of group K (cs ++ c ∷ [])
  used_outside cs c us u e is h =
      map-append used_so us (u ∷ []) ∙ (λ i. e i ++ is i ∷ [])
      ∙ sym (used_more cs c ∙ ap (λ b. used_of group K cs ++ cond b [] ((c, K c.0 c.1) ∷ [])) h)

  -- they rise as the called functions do
  names_of_used : (cs : List Called) → map (λ (u : Called × Callee). u.0) (used_of group K cs) ≡ filter (λ c. not (has group c.0)) cs
  names_of_used [] = refl
  names_of_used (c ∷ cs) = by (has group c.0) (names_of_used cs)
    where
      by : (b : Bool) → map (λ (u : Called × Callee). u.0) (used_of group K cs) ≡ filter (λ d. not (has group d.0)) cs
          → map (λ (u : Called × Callee). u.0) (cond b (used_of group K cs) ((c, K c.0 c.1) ∷ used_of group K cs))
          ≡ cond (not b) (c ∷ filter (λ d. not (has group d.0)) cs) (filter (λ d. not (has group d.0)) cs)
      by true e = e
      by false e = ap (λ ds. c ∷ ds) e

  key_names : (us : List Used) → map (λ (u : Used). (u.home, u.name)) us ≡ map (λ (u : Called × Callee). u.0) (map used_so us)
  key_names [] = refl
  key_names (u ∷ us) = ap (λ cs. (u.home, u.name) ∷ cs) (key_names us)

  pub used_rise : (x : m.Module) (us : List Used) → map used_so us ≡ used_of group K (called_functions x) → rises is_used_before us ≡ true
  used_rise x us e = ascending_rises called_cmp is_used_before (λ (u : Used). (u.home, u.name)) (λ u v h. tells_called (u.home, u.name) (v.home, v.name) h) us
      (ap (is_ascending called_cmp) (key_names us ∙ ap (map (λ (u : Called × Callee). u.0)) e ∙ names_of_used (called_functions x))
      ∙ ascending-filter called_total called_same (λ c. not (has group c.0)) (called_functions x) (called_rise x))

  -- their modules are called, and outside of the group
  all_outside : (calls : List Atom) (cs : List Called) → ((c : Called) → Contains cs c → has calls c.0 ≡ true)
      → list_all (λ (u : Called × Callee). has_name calls u.0.0 && not (has_name group u.0.0)) (used_of group K cs) ≡ true
  all_outside calls [] h = refl
  all_outside calls (c ∷ cs) h = by (has group c.0) refl (all_outside calls cs (λ d t. h d (contains_later c d cs t)))
    where
      by : (b : Bool) → has group c.0 ≡ b → list_all (λ (u : Called × Callee). has_name calls u.0.0 && not (has_name group u.0.0)) (used_of group K cs) ≡ true
          → list_all (λ (u : Called × Callee). has_name calls u.0.0 && not (has_name group u.0.0)) (cond b (used_of group K cs) ((c, K c.0 c.1) ∷ used_of group K cs)) ≡ true
      by true e rest = rest
      by false e rest =
          let here : has_name calls c.0 ≡ true = has_name_is_has calls c.0 ∙ h c (contains_first c cs) in
          let out : has_name group c.0 ≡ false = has_name_is_has group c.0 ∙ e in
          (λ i. (here i && not (out i)) && rest i)

  all_so : (calls : List Atom) (us : List Used) → list_all (is_outside group calls) us ≡ list_all (λ (u : Called × Callee). has_name calls u.0.0 && not (has_name group u.0.0)) (map used_so us)
  all_so calls [] = refl
  all_so calls (u ∷ us) = ap (λ b. is_outside group calls u && b) (all_so calls us)

  pub used_are_outside : (x : m.Module) (calls : List Atom) (us : List Used) → calls ≡ called_modules x → map used_so us ≡ used_of group K (called_functions x) → list_all (is_outside group calls) us ≡ true
  used_are_outside x calls us is e =
      all_so calls us ∙ ap (list_all (λ (u : Called × Callee). has_name calls u.0.0 && not (has_name group u.0.0))) e
      ∙ all_outside calls (called_functions x) (λ c t. ap (λ hs. has hs c.0) is ∙ (modules_exactly x c.0).1 (c, t, refl))

-- ---- exports

pub summarized_more : (known : Atom → FunName → Callee) (home : Atom) (fs : List FunName) (xs : List (FunName × Summary)) (f : FunName) (s : Summary)
    → AreSummarized known home fs xs → known home f ≡ Known s → AreSummarized known home (fs ++ f ∷ []) (xs ++ (f, s) ∷ [])
summarized_more known home [] [] f s h is = (refl, is, tt)
summarized_more known home [] (x ∷ xs) f s h is = absurd h
summarized_more known home (g ∷ fs) [] f s h is = absurd h
summarized_more known home (g ∷ fs) (x ∷ xs) f s h is = (h.0, h.1, summarized_more known home fs xs f s h.2 is)

pub fit_more : (xs : List (FunName × Summary)) (x : FunName × Summary) → list_all is_export xs ≡ true → is_export x ≡ true → list_all is_export (xs ++ x ∷ []) ≡ true
fit_more [] x h t = ap (λ b. b && true) t
fit_more (y ∷ xs) x h t = (λ i. first (is_export y) (list_all is_export xs) h i && fit_more xs x (second (is_export y) (list_all is_export xs) h) t i)

-- a function among those that are exported once each
pub exported_among : (xs names once items : List FunName) (i : ℕ) (f : FunName) → items ≡ once → once ≡ merged function_cmp [] names → names ≡ xs
    → i < length items → f ≡ get_or items i f → Contains xs f
exported_among xs names once items i f a b c within is =
    merged_in function_total function_same xs f (subst (λ fs. Contains fs f) (a ∙ b ∙ ap (merged function_cmp []) c) (i, within, sym is))

pub exported_is : (x : m.Module) (names once : List FunName) → once ≡ merged function_cmp [] names → names ≡ x.exports → once ≡ exported x
unfolding exported
exported_is x names once is copied = is ∙ ap (merged function_cmp []) copied

names_of : (known : Atom → FunName → Callee) (home : Atom) (fs : List FunName) (xs : List (FunName × Summary)) → AreSummarized known home fs xs → map (λ (x : FunName × Summary). x.0) xs ≡ fs
names_of known home [] [] h = refl
names_of known home [] (x ∷ xs) h = absurd h
names_of known home (f ∷ fs) [] h = absurd h
names_of known home (f ∷ fs) (x ∷ xs) h = λ i. h.0 i ∷ names_of known home fs xs h.2 i

pub exports_rise : (known : Atom → FunName → Callee) (home : Atom) (x : m.Module) (xs : List (FunName × Summary)) → AreSummarized known home (exported x) xs → rises is_export_before xs ≡ true
unfolding exported
exports_rise known home x xs h = ascending_rises function_cmp is_export_before (λ (y : FunName × Summary). y.0) (λ y z t. tells_function y.0 z.0 t) xs
    (ap (is_ascending function_cmp) (names_of known home (exported x) xs h) ∙ ascending-merged function_total function_same [] x.exports refl)

-- ---- the entry

pub modules_are : (x : m.Module) (called : List Called) (calls : List Atom) → called ≡ called_functions x → calls ≡ merged name_cmp [] (homes called) → calls ≡ called_modules x
unfolding called_modules
modules_are x called calls is made = made ∙ ap (λ cs. merged name_cmp [] (homes cs)) is

pub made_of : (s : Source) (group : List Atom) (K : Standing) (r : Result) (name : Atom) (digest : List ℕ) (names calls : List Atom) (used : List (Called × Callee))
    → name ≡ s.tree.name → digest ≡ s.digest → names ≡ group → calls ≡ called_modules s.tree → used ≡ used_of group K (called_functions s.tree)
    → (let entry : Entry = record { name = name; digest = digest; group = names; calls = calls; used = used; result = r } in entry) ≡ made s group K r
made_of s group K r name digest names calls used a b c d e = λ i. record { name = a i; digest = b i; group = c i; calls = d i; used = e i; result = r }

-- the copies of a group and of a name that it has
pub group_has : (group names : List Atom) (h name : Atom) → names ≡ group → name ≡ h → has group h ≡ true → has_name names name ≡ true
group_has group names h name a b own = has_name_is_has names name ∙ (λ i. has (a i) (b i)) ∙ own

pub groups_outside : (group names : List Atom) → names ≡ group → (calls : List Atom) (us : List Used) → list_all (is_outside group calls) us ≡ true → list_all (is_outside names calls) us ≡ true
groups_outside group names e calls us h = ap (λ g. list_all (is_outside g calls) us) e ∙ h
