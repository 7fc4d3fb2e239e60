-- Which entries of a table are kept, and what stands of functions: group after group.
use Rattle.std.specs.Prelude.{◌≡◌, ◌<◌, ℕ, zero, suc, Bool, true, false, ◌&&◌, ◌||◌, cond, nat_eq, Option, Some, None, List, [], ◌∷◌}
use Rattle.std.specs.Cmp.Lexicographic.{pointwise}
use Rattle.type_kinds.specs.declared.atom.Atom.{Atom}
use Rattle.core_ast.specs.declared.syntax.FunName.{FunName}
use Rattle.core_scope.specs.Names.{same_atom}
use Rattle.call_graph.specs.Outside.{Called}
use Rattle.cons_tree.specs.Callees.{same_name}
use Rattle.cons_tree.specs.Codes.{callee_code}
use Rattle.cons_tree.specs.SameBy.{same_by}
use Rattle.cons_tree.specs.declared.parts.Summary.{Summary}
use Rattle.cons_tree.specs.declared.parts.Callee.{Callee}
use Rattle.cons_tree.specs.declared.parts.Callee.TheVariants.{Known, Undefined, Unknown}
use Rattle.table_keep.specs.Model.{Source, Entry, Result, source_of, is_there, is_in, picked, entry_of}
use Rattle.table_keep.specs.Calls.{called_modules}
use Rattle.table_keep.specs.Groups.{Groups, has}

-- what stands of functions of other modules, which is never `Local`
abbrev pub Standing : Type 0
Standing = Atom → FunName → Callee

-- nothing is known of any
abbrev pub nothing : Standing
nothing h f = Unknown

-- What is known of each module. The analysis gives it for the modules that it solves.
abbrev pub Results : Type 0
Results = Atom → Result

-- what another module knows of a function, where these are exported
abbrev pub callee_among : List (FunName × Summary) → FunName → Callee
callee_among [] f = Undefined
callee_among (x ∷ xs) f = cond (same_name f x.0) (Known x.1) (callee_among xs f)

-- ---- the graph of a table and of sources that are passed

abbrev pub calls_by : Option Source → Option Entry → List Atom
calls_by (Some s) e = called_modules s.tree
calls_by None (Some e) = e.calls
calls_by None None = []

-- a name is a candidate where it is passed or has an entry; it calls by its text, or else by its entry
module _ (T : List Entry) (M : List Source) where
  abbrev pub is_candidate : Atom → Bool
  is_candidate h = is_in M h || is_there (entry_of T h)

  abbrev pub calls_of : Atom → List Atom
  calls_of h = calls_by (source_of M h) (entry_of T h)

-- ---- one group

-- the text is not passed, or is the one of the entry
abbrev pub is_old : Option Source → Entry → Bool
is_old None e = true
is_old (Some s) e = pointwise nat_eq s.digest e.digest

-- each function that an entry uses is what stands now
abbrev pub all_stand : Standing → List (Called × Callee) → Bool
all_stand K [] = true
all_stand K (u ∷ us) = same_by callee_code u.1 (K u.0.0 u.0.1) && all_stand K us

abbrev pub entry_stands : (group : List Atom) → Standing → Option Source → Option Entry → Bool
entry_stands group K s None = false
entry_stands group K s (Some e) = is_old s e && (pointwise same_atom e.group group && all_stand K e.used)

abbrev pub all_unchanged : List Entry → List Source → (group : List Atom) → Standing → List Atom → Bool
all_unchanged T M group K [] = true
all_unchanged T M group K (h ∷ hs) = entry_stands group K (source_of M h) (entry_of T h) && all_unchanged T M group K hs

-- A group is unchanged: each member has an entry, none is passed with another digest, each has this group, and each function
-- that an entry uses is what stands now.
abbrev pub unchanged : List Entry → List Source → (group : List Atom) → Standing → Bool
unchanged T M group K = all_unchanged T M group K group

-- what stands of a function by an entry
abbrev pub callee_by : Option Entry → FunName → Callee
callee_by None f = Unknown
callee_by (Some e) f = callee_among e.result.exports f

abbrev pub with_entries : List Entry → (group : List Atom) → Standing → Standing
with_entries T group K h f = cond (has group h) (callee_by (entry_of T h) f) (K h f)

abbrev pub with_results : List Source → Results → Standing → Standing
with_results xs R K h f = cond (is_in xs h) (callee_among (R h).exports f) (K h f)

-- the members of a group that are passed
abbrev pub handed : List Source → Groups → ℕ → List Source
handed M g n = picked (has (g.members n)) M

-- ---- all groups in ready order

-- R: what is known of each module that is solved
module _ (R : Results) (T : List Entry) (M : List Source) (g : Groups) where
  -- what stands when a group was decided, where this stood: its entries, or what its members that are passed have now
  abbrev pub decided : ℕ → Standing → Standing
  decided n K = cond (unchanged T M (g.members n) K) (with_entries T (g.members n) K) (with_results (handed M g n) R K)

  -- what stands when so many groups are decided
  unfoldable pub stands : ℕ → Standing
  stands zero = nothing
  stands (suc n) = decided n (stands n)

  -- whether the entries of a group are kept
  unfoldable pub is_kept : ℕ → Bool
  is_kept n = unchanged T M (g.members n) (stands n)

  -- whether the entry of a name is kept
  unfoldable pub kept : Atom → Bool
  kept h = is_candidate T M h && is_kept (g.number h)

  -- a module of the new table
  unfoldable pub is_new : Atom → Bool
  is_new h = is_in M h || kept h

  -- what stands in the end
  unfoldable pub finally : Standing
  finally = stands g.count

-- How modules are solved together, as a relation: of these sources, over what stands outside, this is known.
abbrev pub Solves : Type 1
Solves = List Source → Standing → Results → Type 0

-- What is known is what the groups give one after another: of a kept module what its entry says, and of every other what it has
-- solved among the members of its group that are passed, over what stands then.
pub record AreResults (solves : Solves) (T : List Entry) (M : List Source) (g : Groups) (R : Results) : Type 0 where
  pub of_entry : (h : Atom) (e : Entry) → kept R T M g h ≡ true → entry_of T h ≡ Some e → R h ≡ e.result
  pub solved : (n : ℕ) → n < g.count → is_kept R T M g n ≡ false → solves (handed M g n) (stands R T M g n) R
