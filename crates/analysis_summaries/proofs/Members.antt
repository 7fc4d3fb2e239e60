-- The functions of modules, made one after another.
use Rattle.std.proofs.Common.{◌≡◌, ℕ, ◌+◌, ◌<◌, ◌≤◌, Bool, List, [], ◌∷◌, ◌++◌, length, drop, get_or, map, refl, sym, ap, ◌∙◌, Some, None, append_assoc, append-nil}
use Rattle.std.specs.Prelude.{slice_get, option_map}
use Rattle.std.proofs.lemmas.List.{map-append}
use Rattle.std.proofs.lemmas.Option.{slice_get-map, slice_get_within, get_or_from_slice_get}
use Rattle.type_kinds.specs.declared.atom.Atom.{Atom}
use Rattle.core_ast.specs.declared.syntax.Expr.{Expr}
use Rattle.core_ast.specs.declared.syntax.FunDefOf.{FunDefOf}
use Rattle.core_ast.specs.declared.syntax.FunName.{FunName}
use Rattle.core_ast.specs.Model as m
use Rattle.core_ast.specs.Tree.{tree, all_defs}
use Rattle.core_ast.proofs.Items.{all_defs-next}
use Rattle.core_scope.specs.Names.{has_function}
use Rattle.call_graph.specs.Calls.{functions_in, module_functions, functions_of}
use Rattle.comp_rounds.specs.declared.members.Member.{Member}
use Rattle.comp_rounds.specs.Members.{function_of}
use Rattle.comp_rounds.specs.Rounds.{Function}
use Rattle.analysis_summaries.specs.Functions.{summarized, all_functions, perhaps, picked}
use Rattle.analysis_summaries.proofs.Listing.{made_more, made_all}

-- ---- the functions of one module

like : Atom → FunDefOf Expr → Bool → Function
like h d e = record { home = h; name = d.name; parameters = d.fun.params; body = tree d.fun.body; exported = e }

same_function : (x : Member) (home : Atom) (e : Bool) → x.home ≡ home → x.exported ≡ e → function_of x ≡ like home x.def e
unfolding like
same_function x home e a c = ap (λ h. like h x.def x.exported) a ∙ ap (like home x.def) c

-- the functions of definitions
abbrev pub summarized_in : (home : Atom) (exports : List FunName) → m.Defs → List Function
summarized_in home exports ds = map summarized (functions_in home exports ds)

next_function : (home : Atom) (exports : List FunName) (ds : List (FunDefOf Expr)) (i : ℕ) (d : FunDefOf Expr) → slice_get ds i ≡ Some d
    → summarized_in home exports (all_defs (drop i ds)) ≡ like home d (has_function exports d.name) ∷ summarized_in home exports (all_defs (drop (i + 1) ds))
unfolding like
next_function home exports ds i d h =
    ap (summarized_in home exports)
    (all_defs-next ds i d (slice_get_within ds i d h)
    ∙ ap (λ x. m.and_def x.name x.mark x.fun.params (tree x.fun.body) (all_defs (drop (i + 1) ds))) (get_or_from_slice_get ds i d d h))

pub member_made : (out : List Member) (x : Member) (home : Atom) (exports : List FunName) (ds : List (FunDefOf Expr)) (i : ℕ)
    → slice_get ds i ≡ Some x.def → x.home ≡ home → x.exported ≡ has_function exports x.def.name → (all : List Function)
    → map function_of out ++ summarized_in home exports (all_defs (drop i ds)) ≡ all
    → map function_of (out ++ x ∷ []) ++ summarized_in home exports (all_defs (drop (i + 1) ds)) ≡ all
member_made out x home exports ds i h a c all is =
    let rest = summarized_in home exports (all_defs (drop (i + 1) ds)) in
    ap (λ fs. fs ++ rest) (map-append function_of out (x ∷ []))
    ∙ append_assoc (map function_of out) (function_of x ∷ []) rest
    ∙ ap (λ g. map function_of out ++ g ∷ rest) (same_function x home (has_function exports x.def.name) a c)
    ∙ ap (λ fs. map function_of out ++ fs) (sym (next_function home exports ds i x.def h))
    ∙ is

-- ---- the functions of all modules

pub functions_append : (x : m.Module) (xs : List m.Module) → all_functions (x ∷ xs) ≡ map summarized (module_functions x) ++ all_functions xs
functions_append x xs = map-append summarized (module_functions x) (functions_of xs)

module _ {S : Type 0} (tree_of : S → m.Module) where
  abbrev pub of_sources : List S → List Function
  of_sources ss = all_functions (map tree_of ss)

  pub module_made : (ss : List S) (i : ℕ) (s : S) (out new : List Member) (x : m.Module) → i < length ss → s ≡ get_or ss i s → x ≡ tree_of s
      → map function_of new ≡ map function_of out ++ map summarized (module_functions x) → (all : List Function)
      → map function_of out ++ of_sources (drop i ss) ≡ all → map function_of new ++ of_sources (drop (i + 1) ss) ≡ all
  module_made ss i s out new x h e is added all before =
      ap (λ fs. fs ++ of_sources (drop (i + 1) ss)) (added ∙ ap (λ y. map function_of out ++ map summarized (module_functions y)) is)
      ∙ made_more of_sources (λ t. map summarized (module_functions (tree_of t))) (λ t ts. functions_append (tree_of t) (map tree_of ts)) ss i s h e (map function_of out) all before

  pub modules_made : (ss : List S) (i : ℕ) (out : List Member) (all : List Function) → length ss ≤ i
      → map function_of out ++ of_sources (drop i ss) ≡ all → map function_of out ≡ all
  modules_made ss i out all h before = made_all of_sources refl ss i h (map function_of out) all before

-- ---- the functions of some numbers

pub picked_all : (fs : List Function) (numbers : List ℕ) (i : ℕ) (out : List Member) (all : List Function) → length numbers ≤ i
    → map function_of out ++ picked fs (drop i numbers) ≡ all → map function_of out ≡ all
picked_all fs numbers i out all h before = made_all (picked fs) refl numbers i h (map function_of out) all before

-- the function of a number that a member has
pub member_there : (ms : List Member) (n : ℕ) (x y : Member) (out : List Member) → slice_get ms n ≡ Some x → function_of y ≡ function_of x
    → map function_of (out ++ y ∷ []) ≡ map function_of out ++ perhaps (slice_get (map function_of ms) n)
member_there ms n x y out there same =
    map-append function_of out (y ∷ [])
    ∙ ap (λ g. map function_of out ++ g ∷ []) same
    ∙ ap (λ o. map function_of out ++ perhaps o) (sym (slice_get-map function_of ms n ∙ ap (option_map function_of) there))

pub no_member : (ms : List Member) (n : ℕ) (out : List Member) → slice_get ms n ≡ None
    → map function_of out ≡ map function_of out ++ perhaps (slice_get (map function_of ms) n)
no_member ms n out none =
    sym (append-nil (map function_of out))
    ∙ ap (λ o. map function_of out ++ perhaps o) (sym (slice_get-map function_of ms n ∙ ap (option_map function_of) none))
