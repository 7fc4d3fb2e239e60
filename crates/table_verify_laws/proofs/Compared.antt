-- What tells whether entries list the functions of a module: a list that rises has all functions where it is as long as the definitions and
-- has only theirs; and what is listed of exports is what is listed of all of them that are exported.
use Rattle.std.proofs.Common.{◌≡◌, ◌↔◌, ℕ, suc, ◌+◌, ◌≤◌, Bool, true, false, cond, ◌||◌, List, [], ◌∷◌, length, filter}
use Rattle.std.proofs.Common.{Contains, inl, inr, Some, Less, Equal, Greater, refl, sym, ap, ap₂, ◌∙◌, subst, true≢false, arith}
use Rattle.std.specs.Prelude.{nat_lt}
use Rattle.std.specs.declared.cmp.Ordering.{Ordering}
use Rattle.std.specs.Ordering.{is_lt, eq_by_cmp, nat_cmp, ordering_then}
use Rattle.std.specs.Cmp.Lexicographic.{pointwise, pointwise_decides}
use Rattle.std.proofs.lemmas.Bool.{and_from, and_parts, false_from_ne_true}
use Rattle.std.proofs.lemmas.Cmp.{eq_by_cmp_equiv}
use Rattle.std.proofs.lemmas.Map.Views.{list_any-from_Contains, Contains-from_any}
use Rattle.std.proofs.lemmas.Option.{same_Some}
use Rattle.type_kinds.proofs.Lists.{contains_none, contains_first, contains_later, contains_cases}
use Rattle.type_kinds.proofs.Truths.{first, second}
use Rattle.type_kinds_sets.specs.Ascending.{is_ascending, is_below_all, has_item, placed, merged}
use Rattle.type_kinds_sets.specs.Names.{name_cmp}
use Rattle.type_kinds_sets.proofs.AscendingLaws as ascending
use Rattle.core_ast.specs.Model as m
use Rattle.core_ast.specs.declared.syntax.FunName.{FunName}
use Rattle.core_scope.specs.Names.{Distinct, defined_names, same_function, has_function}
use Rattle.core_scope.proofs.NameLaws.{function_is, function_itself, has_contained, contained_has}
use Rattle.core_scope.specs.Breaks.{module_breaks}
use Rattle.core_scope.specs.Checked.{is_accepted}
use Rattle.cons_tree.specs.declared.parts.Summary.{Summary}
use Rattle.sound_laws.specs.Accepted.{AreAccepted}
use Rattle.sound_laws_whole.proofs.Wholes.{accepted_once, exports_defined}
use Rattle.table_file.specs.Order.{rises, rises_from, by_first, is_function_before}
use Rattle.table_keep.specs.Made.{function_cmp, exported}
use Rattle.table_keep.specs.Model.{Source, Entry}
use Rattle.table_keep.specs.Orders.{function_total, function_same}
use Rattle.table_verify_laws.specs.Counted.{ListsAsMany}
use Rattle.table_verify_laws.specs.Listed.{listed, summary_among, defined}
use Rattle.table_verify_laws.specs.Rules.{ListsFunctions}
use Rattle.table_verify_laws.proofs.Listing.{ExportsLaw, names_of, among_rising, defined_has, defined_rise}

-- ---- functions that rise

tells_less : (a b : Ordering) (t : Bool) → (t ≡ true → is_lt b ≡ true) → by_first a t ≡ true → is_lt (ordering_then a b) ≡ true
tells_less Less b t f h = refl
tells_less Equal b t f h = f h
tells_less Greater b t f h = absurd (true≢false (sym h))

number_less : (n k : ℕ) → nat_lt n k ≡ true → is_lt (nat_cmp n k) ≡ true
number_less n k h = grind arith

function_less : (f g : FunName) → is_function_before f g ≡ true → is_lt (function_cmp f g) ≡ true
function_less f g h = tells_less (name_cmp f.name g.name) (nat_cmp f.arity g.arity) (nat_lt f.arity g.arity) (number_less f.arity g.arity) h

rising_ascends : (f : FunName) (fs : List FunName) → rises_from is_function_before f fs ≡ true → is_ascending function_cmp (f ∷ fs) ≡ true
rising_ascends f [] up = refl
rising_ascends f (g ∷ fs) up =
    let less = function_less f g (first (is_function_before f g) (rises_from is_function_before g fs) up) in
    let rest = rising_ascends g fs (second (is_function_before f g) (rises_from is_function_before g fs) up) in
    and_from (is_below_all function_cmp f (g ∷ fs)) (is_ascending function_cmp (g ∷ fs))
    (and_from (is_lt (function_cmp f g)) (is_below_all function_cmp f fs) less
    (ascending.below_all-from_items function_total function_same f fs
    (λ q there. ascending.below-below function_total function_same f g q less
    (ascending.below_all-item function_total function_same g q fs (first (is_below_all function_cmp g fs) (is_ascending function_cmp fs) rest) there))))
    rest

all_ascend : (fs : List FunName) → rises is_function_before fs ≡ true → is_ascending function_cmp fs ≡ true
all_ascend [] up = refl
all_ascend (f ∷ fs) up = rising_ascends f fs up

decides_function : (f g : FunName) → (same_function f g ≡ true) ↔ (f ≡ g)
decides_function f g = (function_is f g, λ e. subst (λ k. same_function f k ≡ true) e (function_itself f))

item_of : (fs : List FunName) (f : FunName) → Contains fs f → has_item function_cmp fs f ≡ true
item_of fs f has = list_any-from_Contains (eq_by_cmp_equiv function_total) f fs has

of_item : (fs : List FunName) (f : FunName) → has_item function_cmp fs f ≡ true → Contains fs f
of_item fs f has = Contains-from_any (ascending.is_it function_total function_same) f fs has

-- ---- how many functions a merge has

placed_few : (f : FunName) (fs : List FunName) → length (placed function_cmp f fs) ≤ suc (length fs)
placed_few f [] = omega arith
placed_few f (g ∷ fs) = grind (arith, placed_few f fs)

merged_few : (fs gs : List FunName) → length (merged function_cmp fs gs) ≤ length fs + length gs
merged_few fs [] = omega arith
merged_few fs (g ∷ gs) = omega (arith, merged_few (placed function_cmp g fs) gs, placed_few g fs)

placed_new : (f : FunName) (fs : List FunName) → has_item function_cmp fs f ≡ false → length (placed function_cmp f fs) ≡ suc (length fs)
placed_new f [] new = refl
placed_new f (g ∷ fs) new = grind (arith, placed_new f fs)

merged_new : (fs gs : List FunName) → Distinct gs → ((g : FunName) → Contains gs g → has_item function_cmp fs g ≡ false) → length (merged function_cmp fs gs) ≡ length fs + length gs
merged_new fs [] apart new = omega arith
merged_new fs (g ∷ gs) apart new =
    let rest = merged_new (placed function_cmp g fs) gs apart.1 (λ k has. later k has) in
    let placed_is = placed_new g fs (new g (contains_first g gs)) in
    omega (arith, rest, placed_is)
  where
    later : (k : FunName) → Contains gs k → has_item function_cmp (placed function_cmp g fs) k ≡ false
    later k has =
        ascending.has-placed function_total function_same g fs k
        ∙ ap₂ (λ a b. a || b)
        (false_from_ne_true (eq_by_cmp function_cmp k g) (λ e. apart.0 (subst (Contains gs) (ascending.is_it function_total function_same k g e) has)))
        (new k (contains_later g k gs has))

-- ---- all functions of a module

module _ (exports : ExportsLaw) (x : m.Module) where
  defined_in : (f : FunName) → Contains (defined x) f → Contains (defined_names x.defs) f
  unfolding defined exported
  defined_in f has = (exports (record x { exports = defined_names x.defs }) f).0 has

  defined_few : length (defined x) ≤ length (defined_names x.defs)
  unfolding defined
  defined_few = let few : length (defined x) ≤ 0 + length (defined_names x.defs) = merged_few [] (defined_names x.defs) in omega (arith, few)

  defined_as_many : Distinct (defined_names x.defs) → length (defined x) ≡ length (defined_names x.defs)
  unfolding defined
  defined_as_many apart =
      let many : length (defined x) ≡ 0 + length (defined_names x.defs) = merged_new [] (defined_names x.defs) apart (λ g has. refl) in
      omega (arith, many)

  pub all_listed : (fs : List FunName) → rises is_function_before fs ≡ true → length fs ≡ length (defined_names x.defs)
      → ((f : FunName) → Contains fs f → Contains (defined_names x.defs) f) → fs ≡ defined x
  all_listed fs up many within = by (pointwise same_function fs (defined x)) refl
    where
      short : (fs ≡ defined x → ⊥) → ⊥
      short differs =
          let less = ascending.shorter-part function_total function_same (defined x) fs (all_ascend fs up) (defined_rise x)
          (λ q has. item_of (defined x) q (defined_has exports x q (within q (of_item fs q has)))) differs in
          let few = defined_few in
          omega (arith, less, few, many)

      by : (b : Bool) → pointwise same_function fs (defined x) ≡ b → fs ≡ defined x
      by true is = (pointwise_decides decides_function fs (defined x)).0 is
      by false is = absurd (short (λ e. true≢false (sym ((pointwise_decides decides_function fs (defined x)).1 e) ∙ is)))

  pub listed_all : Distinct (defined_names x.defs) → (fs : List FunName) → fs ≡ defined x
      → (length fs ≡ length (defined_names x.defs)) × ((f : FunName) → Contains fs f → Contains (defined_names x.defs) f)
  listed_all apart fs e = (ap length e ∙ defined_as_many apart, λ f has. defined_in f (subst (λ gs. Contains gs f) e has))

-- ---- exported functions among all

-- whether the function of a summary is among these
abbrev pub is_open : List FunName → FunName × Summary → Bool
is_open fs y = has_function fs y.0

names_filtered : (fs : List FunName) (es : List (FunName × Summary)) → names_of (filter (is_open fs) es) ≡ filter (has_function fs) (names_of es)
names_filtered fs [] = refl
names_filtered fs (e ∷ es) = by (has_function fs e.0) (names_filtered fs es)
  where
    by : (b : Bool) → names_of (filter (is_open fs) es) ≡ filter (has_function fs) (names_of es)
        → names_of (cond b (e ∷ filter (is_open fs) es) (filter (is_open fs) es)) ≡ cond b (e.0 ∷ filter (has_function fs) (names_of es)) (filter (has_function fs) (names_of es))
    by true rest = ap (λ gs. e.0 ∷ gs) rest
    by false rest = rest

filtered_there : (fs : List FunName) (es : List (FunName × Summary)) (y : FunName × Summary) → Contains (filter (is_open fs) es) y → Contains es y
filtered_there fs [] y has = absurd (contains_none y has)
filtered_there fs (e ∷ es) y has = by (has_function fs e.0) has (filtered_there fs es y)
  where
    by : (b : Bool) → Contains (cond b (e ∷ filter (is_open fs) es) (filter (is_open fs) es)) y → (Contains (filter (is_open fs) es) y → Contains es y) → Contains (e ∷ es) y
    by true has rest = elim (contains_cases e y (filter (is_open fs) es) has) [
      | inl same ↦ subst (Contains (e ∷ es)) same (contains_first e es)
      | inr more ↦ contains_later e y es (rest more)
    ]
    by false has rest = contains_later e y es (rest has)

-- lists with the same names are one where each has the summaries of a third
same_lists : (cs es ds : List (FunName × Summary)) → names_of es ≡ names_of ds → ((f : FunName) (s : Summary) → Contains es (f, s) → summary_among cs f ≡ Some s)
    → ((f : FunName) (s : Summary) → Contains ds (f, s) → summary_among cs f ≡ Some s) → es ≡ ds
same_lists cs [] [] names a b = refl
same_lists cs [] (d ∷ ds) names a b = absurd cc
same_lists cs (e ∷ es) [] names a b = absurd cc
same_lists cs (e ∷ es) (d ∷ ds) names a b =
    let name : e.0 ≡ d.0 = cc in
    let rest : names_of es ≡ names_of ds = cc in
    let summary : e.1 ≡ d.1 = same_Some _ _ (sym (a e.0 e.1 (contains_first e es)) ∙ ap (summary_among cs) name ∙ b d.0 d.1 (contains_first d ds)) in
    ap₂ (λ y ys. y ∷ ys) (ap₂ {A = FunName} {B = Summary} (λ g s. (g, s)) name summary)
    (same_lists cs es ds rest (λ f s has. a f s (contains_later e (f, s) es has)) (λ f s has. b f s (contains_later d (f, s) ds has)))

module _ (exports : ExportsLaw) (x : m.Module) (stand : (f : FunName) → Contains x.exports f → Contains (defined_names x.defs) f) where
  exported_rise : is_ascending function_cmp (exported x) ≡ true
  unfolding exported
  exported_rise = ascending.ascending-merged function_total function_same [] x.exports refl

  open_of_all : filter (has_function x.exports) (defined x) ≡ exported x
  open_of_all =
      ascending.same-items function_total function_same (filter (has_function x.exports) (defined x)) (exported x)
      (ascending.ascending-filter function_total function_same (has_function x.exports) (defined x) (defined_rise x)) exported_rise
      (λ q has.
      let both = and_parts (has_item function_cmp (defined x) q) (has_function x.exports q) (sym (ascending.has-filter function_total function_same (has_function x.exports) (defined x) q) ∙ has) in
      item_of (exported x) q ((exports x q).1 (contained_has x.exports q both.1)))
      (λ q has.
      let there = (exports x q).0 (of_item (exported x) q has) in
      ascending.has-filter function_total function_same (has_function x.exports) (defined x) q
      ∙ and_from (has_item function_cmp (defined x) q) (has_function x.exports q) (item_of (defined x) q (defined_has exports x q (stand q there))) (has_contained x.exports q there))

  module _ (es cs : List (FunName × Summary)) (all : names_of cs ≡ defined x) where
    open_named : names_of (filter (is_open x.exports) cs) ≡ exported x
    open_named = names_filtered x.exports cs ∙ ap (filter (has_function x.exports)) all ∙ open_of_all

    open_certified : (f : FunName) (s : Summary) → Contains (filter (is_open x.exports) cs) (f, s) → summary_among cs f ≡ Some s
    open_certified f s has =
        among_rising cs f s (subst (λ fs. is_ascending function_cmp fs ≡ true) (sym all) (defined_rise x)) (filtered_there x.exports cs (f, s) has)

    pub open_listed : es ≡ filter (is_open x.exports) cs → (names_of es ≡ exported x) × ((f : FunName) (s : Summary) → Contains es (f, s) → summary_among cs f ≡ Some s)
    open_listed e = (ap names_of e ∙ open_named, λ f s has. open_certified f s (subst (λ ys. Contains ys (f, s)) e has))

    pub listed_open : names_of es ≡ exported x → ((f : FunName) (s : Summary) → Contains es (f, s) → summary_among cs f ≡ Some s) → es ≡ filter (is_open x.exports) cs
    listed_open named certified = same_lists cs es (filter (is_open x.exports) cs) (named ∙ sym open_named) certified open_certified

-- ---- the third rule

module _ (exports : ExportsLaw) (e c : Entry) (s : Source) (accepted : AreAccepted (s.tree ∷ [])) (up : rises is_function_before (listed c) ≡ true) where
  apart : Distinct (defined_names s.tree.defs)
  apart = (accepted_once (s.tree ∷ []) accepted).0

  stand : (f : FunName) → Contains s.tree.exports f → Contains (defined_names s.tree.defs) f
  stand f has = exports_defined s.tree (subst (λ (x : m.Module). module_breaks x ≡ []) accepted.0.1 (is_accepted accepted.0.0).sound) f (has_contained s.tree.exports f has)

  as_many : ListsFunctions e c s → ListsAsMany e c s
  as_many lists =
      let all = listed_all exports s.tree apart (listed c) lists.all in
      record {
        as_many = all.0;
        defined_alone = all.1;
        those_exported = listed_open exports s.tree stand e.result.exports c.result.exports lists.all lists.exported_alone lists.as_certified;
      }

  of_many : ListsAsMany e c s → ListsFunctions e c s
  of_many lists =
      let all = all_listed exports s.tree (listed c) up lists.as_many lists.defined_alone in
      let open_ones = open_listed exports s.tree stand e.result.exports c.result.exports all lists.those_exported in
      record { all = all; exported_alone = open_ones.0; as_certified = open_ones.1 }

  pub told : ListsFunctions e c s ↔ ListsAsMany e c s
  told = (as_many, of_many)
