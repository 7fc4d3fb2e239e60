-- A report that is kept still is the report where the same is known of the functions that it rests on.
use Rattle.std.proofs.Common.{◌≡◌, ◌≢◌, ℕ, ◌+◌, ◌<◌, ◌≤◌, Bool, true, false, List, [], ◌∷◌, ◌++◌, Contains, map, length, get_or, set, take, slice_get}
use Rattle.std.proofs.Common.{◌⊎◌, inl, inr, Option, Some, None, refl, sym, ap, ap₂, ◌∙◌, subst}
use Rattle.std.specs.Prelude.{All}
use Rattle.std.proofs.lemmas.List.{take_all}
use Rattle.std.proofs.lemmas.List.Elements.{All-contains, All-more, Contains-append_left, Contains-append_right}
use Rattle.type_kinds.proofs.Lists.{contains_none, contains_first, contains_later, contains_cases}
use Rattle.type_kinds.specs.declared.atom.Atom.{Atom}
use Rattle.core_ast.specs.declared.syntax.FunName.{FunName}
use Rattle.core_ast.specs.Model as m
use Rattle.core_ast.specs.Tree.{all_defs}
use Rattle.core_ast.specs.declared.syntax.Expr.{Expr}
use Rattle.core_ast.specs.declared.syntax.FunDefOf.{FunDefOf}
use Rattle.core_ast.specs.declared.syntax.Module.{Module}
use Rattle.core_scope.specs.Asks.{erlang}
use Rattle.core_scope.specs.declared.checked.Checked.{Checked}
use Rattle.core_scope.specs.Checked.{module_of, tree_of}
use Rattle.core_scope.specs.Names.{Distinct, defined_names, has_function, same_atom}
use Rattle.core_scope.proofs.NameLaws.{has_contained, contained_has}
use Rattle.call_graph.specs.Calls.{functions_in}
use Rattle.call_graph.specs.Outside.{Called}
use Rattle.call_graph.specs.Targets.CallTarget.{remote}
use Rattle.call_graph.specs.Targets.{def_targets}
use Rattle.comp_rounds.specs.Rounds.{Callees, Function, is_member}
use Rattle.cons_gen_frame.specs.Agreement.{AreAlike}
use Rattle.module_flow.specs.Flow.{findings}
use Rattle.module_flow_frame.specs.Frame.{FindingsFrame}
use Rattle.warn_list.specs.Lines.{AreLines}
use Rattle.analysis_summaries.specs.Functions.{summarized, all_functions}
use Rattle.analysis_summaries.specs.Known.{module_names}
use Rattle.sound_laws_outside.specs.Over.{IsKnownOver}
use Rattle.sound_laws_outside.proofs.Members.{functions_at, home_of, member_named, of_all, one_module}
use Rattle.table_keep.specs.Calls.{called_functions}
use Rattle.table_keep.specs.Model.{Source}
use Rattle.sound_laws_kept.proofs.Calls.{leaves}
use Rattle.sound_laws_kept.proofs.Names.{clash, itself, name_is, none_some, some_is}
use Rattle.analysis.specs.declared.kept.Rest.{Rest}
use Rattle.analysis.specs.declared.kept.KeptReport.{KeptReport}
use Rattle.analysis.specs.steps.Deciding.{IsReported}
use Rattle.analysis.specs.Keeping.{rest_of, rests_of, IsStill, IsClosedOn, IsKeptOf, AreKeptOf}
use Rattle.analysis.proofs.MadeReports.{get_set, get_more}

-- what is made of each item has what is made of one of them
mapped_there : {A B : Type 0} (g : A → B) (xs : List A) (x : A) → Contains xs x → Contains (map g xs) (g x)
mapped_there g [] x has = absurd (contains_none x has)
mapped_there g (y ∷ xs) x has = elim (contains_cases y x xs has) [
  | inl same ↦ subst (λ z. Contains (g y ∷ map g xs) (g z)) same (contains_first (g y) (map g xs))
  | inr more ↦ contains_later (g y) (g x) (map g xs) (mapped_there g xs x more)
]

-- ---- what a report rests on

pub still_more : (known : Callees) (rests : List Rest) (i : ℕ) (rest : Rest) → i < length rests → rest ≡ get_or rests i rest → IsStill known rest → All (IsStill known) (take i rests) → All (IsStill known) (take (i + 1) rests)
still_more known rests i rest low is still all = All-more (IsStill known) rests i rest low all (subst (IsStill known) is still)

pub still_all : (known : Callees) (rests all : List Rest) (i : ℕ) → rests ≡ all → length rests ≤ i → All (IsStill known) (take i rests) → All (IsStill known) all
still_all known rests all i same past some = subst (All (IsStill known)) same (subst (All (IsStill known)) (take_all i rests past) some)

-- what is noted of definitions is noted of their names
rests_named : (known : Callees) (h : Atom) (ds : List (FunDefOf Expr)) → map (λ d. rest_of known h d.name) ds ≡ map (rest_of known h) (defined_names (all_defs ds))
rests_named known h [] = refl
rests_named known h (d ∷ ds) = ap (λ rs. rest_of known h d.name ∷ rs) (rests_named known h ds)

-- what is noted of a module, in the order of the code
pub rests_noted : (known : Callees) (source : Checked) (x : Module) → x ≡ module_of source → (called : List Called) → called ≡ called_functions (tree_of source)
    → (ds : List (FunDefOf Expr)) → ds ≡ x.defs → (cs : List Called) → cs ≡ called → (none : List Rest) → none ≡ []
    → (own : List Rest) → own ≡ none ++ map (λ d. rest_of known x.name d.name) ds → (all : List Rest) → all ≡ own ++ map (λ c. rest_of known c.0 c.1) cs
    → all ≡ rests_of known (tree_of source)
rests_noted known source x at called call_is ds ds_are cs cs_are none none_is own own_is all all_is = all_is ∙ ap₂ (λ xs ys. xs ++ ys) first (ap (map (λ (c : Called). rest_of known c.0 c.1)) (cs_are ∙ call_is))
  where
    first : own ≡ map (rest_of known (tree_of source).name) (defined_names (tree_of source).defs)
    first =
        own_is ∙ ap (λ rs. rs ++ map (λ d. rest_of known x.name d.name) ds) none_is ∙ ap (map (λ d. rest_of known x.name d.name)) ds_are ∙ rests_named known x.name x.defs
        ∙ ap (λ (y : Module). map (rest_of known y.name) (defined_names (all_defs y.defs))) at

-- ---- the report is the same

module _ (frame : FindingsFrame) (x : m.Module) (kept : KeptReport) (now : Callees) (is : IsKeptOf x kept) (closed : IsClosedOn now x) (still : All (IsStill now) kept.rests) where
  noted : (h : Atom) (f : FunName) → Contains (rests_of is.known x) (rest_of is.known h f) → is.known h f ≡ now h f
  noted h f has = All-contains (IsStill now) kept.rests (rest_of is.known h f) still (subst (λ rs. Contains rs (rest_of is.known h f)) (sym is.rests) has)

  own_by : (f : FunName) (b : Bool) → has_function (defined_names x.defs) f ≡ b → is.known x.name f ≡ now x.name f
  own_by f false e = is.closed f e ∙ sym (closed f e)
  own_by f true e =
      noted x.name f
      (Contains-append_left (map (rest_of is.known x.name) (defined_names x.defs)) (map (λ (c : Called). rest_of is.known c.0 c.1) (called_functions x)) (rest_of is.known x.name f)
      (mapped_there (rest_of is.known x.name) (defined_names x.defs) f (contained_has (defined_names x.defs) f e)))

  own : (f : FunName) → is.known x.name f ≡ now x.name f
  own f = own_by f (has_function (defined_names x.defs) f) refl

  called_by : (h : Atom) (f : FunName) → Contains (def_targets [] x.defs) (remote h f) → h ≢ erlang → (b : Bool) → same_atom h x.name ≡ b → AreAlike (is.known h f) (now h f)
  called_by h f there far true same = subst (λ z. AreAlike (is.known z f) (now z f)) (sym (name_is h x.name same)) (inl (own f))
  called_by h f there far false apart =
      let call = leaves x h f there far (λ e. clash (same_atom h x.name) (ap (same_atom h) (sym e) ∙ itself h) apart) in
      inl (noted h f
      (Contains-append_right (map (rest_of is.known x.name) (defined_names x.defs)) (map (λ (c : Called). rest_of is.known c.0 c.1) (called_functions x)) (rest_of is.known h f)
      (mapped_there (λ (c : Called). rest_of is.known c.0 c.1) (called_functions x) (h, f) call)))

  pub still_lines : AreLines x.name (findings now x) kept.lines
  still_lines =
      subst (λ fs. AreLines x.name fs kept.lines)
      (frame x is.known now (record {
        own = λ f there. own f;
        applied = λ f n there. own f;
        called = λ h f there far. called_by h f there far (same_atom h x.name) refl;
      }))
      is.lines

-- ---- what is solved is closed

defined_in : (x : m.Module) (g : Function) → Contains (functions_at x) g → Contains (defined_names x.defs) g.name
defined_in x g has = by x.defs has
  where
    by : (ds : m.Defs) → Contains (map summarized (functions_in x.name x.exports ds)) g → Contains (defined_names ds) g.name
    by m.no_def has = absurd (contains_none g has)
    by (m.and_def f i vs t ds) has = elim (contains_cases _ g (map summarized (functions_in x.name x.exports ds)) has) [
      | inl same ↦ subst (λ (k : Function). Contains (f ∷ defined_names ds) k.name) same (contains_first f (defined_names ds))
      | inr more ↦ contains_later f g.name (defined_names ds) (by ds more)
    ]

pub closed_on : (xs : List m.Module) → Distinct (module_names xs) → (outside known : Callees) → IsKnownOver outside xs known → (x : m.Module) → Contains xs x → IsClosedOn known x
closed_on xs apart outside known is x there f none = is.none x.name f (home_of xs x there) (by (is_member (all_functions xs) x.name f) refl)
  where
    by : (b : Bool) → is_member (all_functions xs) x.name f ≡ b → is_member (all_functions xs) x.name f ≡ false
    by false e = e
    by true e =
        let k = member_named (all_functions xs) x.name f e in
        let o = of_all xs k.function k.there in
        let same = one_module xs apart o.source x o.there there (sym o.home_is ∙ k.home_is) in
        let in_it = subst (λ z. Contains (functions_at z) k.function) same o.in_it in
        let defines = subst (Contains (defined_names x.defs)) k.name_is (defined_in x k.function in_it) in
        clash (has_function (defined_names x.defs) f) (has_contained (defined_names x.defs) f defines) none

-- ---- what is kept, position by position

-- the text that stands where a report was made
pub text_reported : (known : Callees) (x : m.Module) (slot : Option (List ℕ)) (text : List ℕ) → slot ≡ Some text → IsReported known x slot → AreLines x.name (findings known x) text
text_reported known x slot text is reported = subst (AreLines x.name (findings known x)) (some_is (sym reported.1 ∙ is)) reported.2

-- a report that is put at its module's position
pub kept_anew : (M : List Source) (kept : List (Option KeptReport)) → AreKeptOf M kept → (i : ℕ) (x : Source) → slice_get M i ≡ Some x → (k : KeptReport) → IsKeptOf x.tree k → AreKeptOf M (set kept i (Some k))
kept_anew M kept are i x at k is j s there z e = by (get_set kept i j (Some k) (Some z) e)
  where
    by : ((j ≡ i) × (Some k ≡ Some z)) ⊎ (slice_get kept j ≡ Some (Some z)) → IsKeptOf s.tree z
    by (inl p) =
        let same : x ≡ s = some_is (sym at ∙ ap (slice_get M) (sym p.0) ∙ there) in
        subst (IsKeptOf s.tree) (some_is p.1) (subst (λ (y : Source). IsKeptOf y.tree k) same is)
    by (inr old) = are j s there z old

-- a position at which nothing is kept
pub kept_none : (M : List Source) (kept : List (Option KeptReport)) → AreKeptOf M kept → AreKeptOf M (kept ++ None ∷ [])
kept_none M kept are j s there z e = by (get_more kept None j (Some z) e)
  where
    by : (slice_get kept j ≡ Some (Some z)) ⊎ ((j ≡ length kept) × (None ≡ Some z)) → IsKeptOf s.tree z
    by (inl old) = are j s there z old
    by (inr new) = none_some new.1

pub nothing_kept : (M : List Source) → AreKeptOf M []
nothing_kept M i s at k e = none_some e
