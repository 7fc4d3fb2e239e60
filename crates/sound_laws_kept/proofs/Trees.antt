-- Sources by name, and the modules of sources.
use Rattle.std.proofs.Common.{◌≡◌, Bool, true, false, cond, ◌||◌, List, [], ◌∷◌, Contains, ◌⊎◌, inl, inr, Some, refl, sym, ap, ◌∙◌, subst, true≢false}
use Rattle.type_kinds.proofs.Lists.{contains_none, contains_first, contains_later, contains_cases}
use Rattle.type_kinds.specs.declared.atom.Atom.{Atom}
use Rattle.core_ast.specs.Model as m
use Rattle.core_scope.specs.Names.{Distinct, same_atom}
use Rattle.cons_tree.specs.Callees.{same_home}
use Rattle.cons_tree.proofs.NameLaws.{home_is, home_itself}
use Rattle.analysis_summaries.specs.Known.{module_names}
use Rattle.sound_laws_outside.specs.Same.{SameModules}
use Rattle.sound_laws_outside.specs.Over.{is_home}
use Rattle.table_keep.specs.Model.{Source, trees, source_of, is_there, is_in, picked}
use Rattle.sound_laws_kept.specs.Solving.{AreSources}
use Rattle.sound_laws_kept.proofs.Solving.{SameSources}
use Rattle.sound_laws_kept.proofs.Names.{some_is, none_some, there_is}

-- ---- a source stands among the sources, and its module among the modules

pub source_stands : (xs : List Source) (h : Atom) (s : Source) → source_of xs h ≡ Some s → Contains xs s × (s.tree.name ≡ h)
source_stands [] h s e = none_some e
source_stands (t ∷ xs) h s e = by (same_atom h t.tree.name) refl (source_stands xs h s)
  where
    by : (b : Bool) → same_atom h t.tree.name ≡ b → (source_of xs h ≡ Some s → Contains xs s × (s.tree.name ≡ h)) → Contains (t ∷ xs) s × (s.tree.name ≡ h)
    by true is rest =
        let same : t ≡ s = some_is (sym (ap (λ b. cond b (Some t) (source_of xs h)) is) ∙ e) in
        (subst (Contains (t ∷ xs)) same (contains_first t xs), sym (ap (λ (z : Source). z.tree.name) same) ∙ sym (home_is h t.tree.name is))
    by false is rest =
        let r = rest (sym (ap (λ b. cond b (Some t) (source_of xs h)) is) ∙ e) in
        (contains_later t s xs r.0, r.1)

pub tree_stands : (xs : List Source) (s : Source) → Contains xs s → Contains (trees xs) s.tree
tree_stands [] s has = absurd (contains_none s has)
tree_stands (t ∷ xs) s has = elim (contains_cases t s xs has) [
  | inl same ↦ subst (λ (z : Source). Contains (t.tree ∷ trees xs) z.tree) same (contains_first t.tree (trees xs))
  | inr more ↦ contains_later t.tree s.tree (trees xs) (tree_stands xs s more)
]

-- the source of a module
pub record SourceOf (xs : List Source) (x : m.Module) : Type 0 where
  pub source : Source
  pub there : Contains xs source
  pub is : source.tree ≡ x

pub source_of_tree : (xs : List Source) (x : m.Module) → Contains (trees xs) x → SourceOf xs x
source_of_tree [] x has = absurd (contains_none x has)
source_of_tree (t ∷ xs) x has = elim (contains_cases t.tree x (trees xs) has) [
  | inl same ↦ record { source = t; there = contains_first t xs; is = same }
  | inr more ↦ (let r = source_of_tree xs x more in record { source = r.source; there = contains_later t r.source xs r.there; is = r.is })
]

name_stands : (xs : List Source) (s : Source) → Contains xs s → Contains (module_names (trees xs)) s.tree.name
name_stands [] s has = absurd (contains_none s has)
name_stands (t ∷ xs) s has = elim (contains_cases t s xs has) [
  | inl same ↦ subst (λ (z : Source). Contains (t.tree.name ∷ module_names (trees xs)) z.tree.name) same (contains_first t.tree.name (module_names (trees xs)))
  | inr more ↦ contains_later t.tree.name s.tree.name (module_names (trees xs)) (name_stands xs s more)
]

-- where names are distinct a source is the one of its name
pub own_source : (xs : List Source) → Distinct (module_names (trees xs)) → (s : Source) → Contains xs s → source_of xs s.tree.name ≡ Some s
own_source [] apart s has = absurd (contains_none s has)
own_source (t ∷ xs) apart s has = by (same_atom s.tree.name t.tree.name) refl (contains_cases t s xs has) (own_source xs apart.1 s)
  where
    by : (b : Bool) → same_atom s.tree.name t.tree.name ≡ b → (t ≡ s) ⊎ Contains xs s → (Contains xs s → source_of xs s.tree.name ≡ Some s) → cond b (Some t) (source_of xs s.tree.name) ≡ Some s
    by true is (inl same) rest = ap Some same
    by true is (inr more) rest = absurd (apart.0 (subst (Contains (module_names (trees xs))) (home_is s.tree.name t.tree.name is) (name_stands xs s more)))
    by false is (inl same) rest = absurd (true≢false (sym (ap (λ (z : Source). same_atom s.tree.name z.tree.name) same ∙ home_itself s.tree.name) ∙ is))
    by false is (inr more) rest = rest more

pub own_name : (xs : List Source) → AreSources xs → (s : Source) → Contains xs s → is_in xs s.tree.name ≡ true
own_name xs are s has = ap is_there (own_source xs are.distinct s has)

-- a source that is found under a name
pub record Under (xs : List Source) (h : Atom) : Type 0 where
  pub source : Source
  pub there : Contains xs source
  pub name_is : source.tree.name ≡ h

pub under : (xs : List Source) (h : Atom) → is_in xs h ≡ true → Under xs h
under xs h e =
    let there = there_is (source_of xs h) e in
    let r = source_stands xs h there.0 there.1 in
    record { source = there.0; there = r.0; name_is = r.1 }

-- ---- some of the sources

pub picked_stands : (p : Atom → Bool) (xs : List Source) (s : Source) → Contains (picked p xs) s → (p s.tree.name ≡ true) × Contains xs s
picked_stands p [] s has = absurd (contains_none s has)
picked_stands p (t ∷ xs) s has = by (p t.tree.name) refl has (picked_stands p xs s)
  where
    by : (b : Bool) → p t.tree.name ≡ b → Contains (cond b (t ∷ picked p xs) (picked p xs)) s → (Contains (picked p xs) s → (p s.tree.name ≡ true) × Contains xs s)
        → (p s.tree.name ≡ true) × Contains (t ∷ xs) s
    by true is has rest = elim (contains_cases t s (picked p xs) has) [
      | inl same ↦ (ap (λ (z : Source). p z.tree.name) (sym same) ∙ is, subst (Contains (t ∷ xs)) same (contains_first t xs))
      | inr more ↦ (let r = rest more in (r.0, contains_later t s xs r.1))
    ]
    by false is has rest = let r = rest has in (r.0, contains_later t s xs r.1)

pub stands_picked : (p : Atom → Bool) (xs : List Source) (s : Source) → Contains xs s → p s.tree.name ≡ true → Contains (picked p xs) s
stands_picked p [] s has e = absurd (contains_none s has)
stands_picked p (t ∷ xs) s has e = by (p t.tree.name) refl (contains_cases t s xs has) (λ more. stands_picked p xs s more e)
  where
    by : (b : Bool) → p t.tree.name ≡ b → (t ≡ s) ⊎ Contains xs s → (Contains xs s → Contains (picked p xs) s) → Contains (cond b (t ∷ picked p xs) (picked p xs)) s
    by true is (inl same) rest = subst (Contains (t ∷ picked p xs)) same (contains_first t (picked p xs))
    by true is (inr more) rest = contains_later t s (picked p xs) (rest more)
    by false is (inl same) rest = absurd (true≢false (sym (ap (λ (z : Source). p z.tree.name) same ∙ e) ∙ is))
    by false is (inr more) rest = rest more

-- ---- names of modules

pub home_of_sources : (xs : List Source) (h : Atom) → is_home (trees xs) h ≡ is_in xs h
home_of_sources [] h = refl
home_of_sources (t ∷ xs) h = by (same_home h t.tree.name) (home_of_sources xs h)
  where
    by : (b : Bool) → is_home (trees xs) h ≡ is_in xs h → (b || is_home (trees xs) h) ≡ is_there (cond b (Some t) (source_of xs h))
    by true rest = refl
    by false rest = rest

-- ---- the same sources have the same modules

module _ (xs ys : List Source) (ax : AreSources xs) (same : SameSources xs ys) where
  pub still_there : (s : Source) → Contains xs s → Contains ys s
  still_there s has = (source_stands ys s.tree.name s (sym (same s.tree.name) ∙ own_source xs ax.distinct s has)).0

  pub module_still : (x : m.Module) → Contains (trees xs) x → Contains (trees ys) x
  module_still x has =
      let r = source_of_tree xs x has in
      subst (Contains (trees ys)) r.is (tree_stands ys r.source (still_there r.source r.there))

pub same_modules : (xs ys : List Source) → AreSources xs → AreSources ys → SameSources xs ys → SameModules (trees xs) (trees ys)
same_modules xs ys ax ay same = record {
  there = module_still xs ys ax same;
  back = module_still ys xs ay (λ h. sym (same h));
}
