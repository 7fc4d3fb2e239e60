-- What is known before any component is solved, module by module, over what stands of others.
use Rattle.std.proofs.Common.{◌≡◌, ℕ, ◌+◌, ◌<◌, Bool, true, false, ◌||◌, List, [], ◌∷◌, ◌++◌, length, take, map, get_or, refl, sym, ap, ◌∙◌, subst, take_all, ◌≤◌}
use Rattle.std.specs.Prelude.{if◌then◌else◌}
use Rattle.std.specs.List.{list_any}
use Rattle.std.specs.Cmp.Lexicographic.{bytes_decides}
use Rattle.std.proofs.lemmas.List.Folds.{list_any-append}
use Rattle.std.proofs.Math.Bool.{or-true, or-false}
use Rattle.type_kinds.proofs.Lists.{map_next}
use Rattle.type_kinds.specs.declared.atom.Atom.{Atom}
use Rattle.core_ast.specs.declared.syntax.FunName.{FunName}
use Rattle.cons_tree.specs.Callees.{same_home}
use Rattle.cons_tree.specs.declared.parts.Callee.{Callee}
use Rattle.cons_tree.specs.declared.parts.Callee.TheVariants.{Undefined}
use Rattle.core_scope.specs.Checked.{module_of, tree_of}
use Rattle.core_scope.specs.declared.checked.Checked.{Checked}
use Rattle.components.specs.Numbering.{Numbering}
use Rattle.comp_rounds.specs.Rounds.{Callees, Function}
use Rattle.analysis_summaries.specs.Functions.{all_functions}
use Rattle.analysis_summaries.specs.Known.{module_names, closed_over, after_components, known_over}

-- ---- closing

any_more : (p : Atom → Bool) (hs : List Atom) (h : Atom) → list_any p (hs ++ h ∷ []) ≡ (list_any p hs || p h)
any_more p hs h = list_any-append p hs (h ∷ []) ∙ ap (λ b. list_any p hs || b) (or-false (p h))

abbrev home_kind : Callee → Bool → Callee
home_kind c b = if b then Undefined else c

pub closed_more : (outside old new : Callees) (homes : List Atom) (home : Atom) → ((h : Atom) (f : FunName) → old h f ≡ closed_over outside homes h f)
    → ((f : FunName) → new home f ≡ Undefined) → ((h : Atom) (f : FunName) → (h ≡ home → ⊥) → new h f ≡ old h f)
    → (h : Atom) (f : FunName) → new h f ≡ closed_over outside (homes ++ home ∷ []) h f
closed_more outside old new homes home before closed others h f = by (same_home h home) refl
  where
    whole : (b : Bool) → same_home h home ≡ b → closed_over outside (homes ++ home ∷ []) h f ≡ home_kind (outside h f) (list_any (same_home h) homes || b)
    whole b e = ap (home_kind (outside h f)) (any_more (same_home h) homes home ∙ ap (λ c. list_any (same_home h) homes || c) e)

    by : (b : Bool) → same_home h home ≡ b → new h f ≡ closed_over outside (homes ++ home ∷ []) h f
    by true e =
        ap (λ k. new k f) ((bytes_decides h home).0 e) ∙ closed f ∙ sym (whole true e ∙ ap (home_kind (outside h f)) (or-true (list_any (same_home h) homes)))
    by false e =
        others h f (λ is. let k = sym e ∙ (bytes_decides h home).1 is in absurd cc) ∙ before h f
        ∙ sym (whole false e ∙ ap (home_kind (outside h f)) (or-false (list_any (same_home h) homes)))

-- one more module is closed
pub source_closed : {S : Type 0} (name_of : S → Atom) (outside old new : Callees) (ss : List S) (i : ℕ) (s : S) (home : Atom) → i < length ss → s ≡ get_or ss i s
    → home ≡ name_of s → ((f : FunName) → new home f ≡ Undefined) → ((h : Atom) (f : FunName) → (h ≡ home → ⊥) → new h f ≡ old h f)
    → ((h : Atom) (f : FunName) → old h f ≡ closed_over outside (map name_of (take i ss)) h f)
    → (h : Atom) (f : FunName) → new h f ≡ closed_over outside (map name_of (take (i + 1) ss)) h f
source_closed name_of outside old new ss i s home h e is closed others before =
    subst (λ hs. (h : Atom) (f : FunName) → new h f ≡ closed_over outside hs h f)
    (ap (λ n. map name_of (take i ss) ++ n ∷ []) is ∙ sym (map_next name_of ss i s h e))
    (closed_more outside old new (map name_of (take i ss)) home before closed others)

pub all_closed : {S : Type 0} (name_of : S → Atom) (outside known : Callees) (ss : List S) (i : ℕ) → length ss ≤ i
    → ((h : Atom) (f : FunName) → known h f ≡ closed_over outside (map name_of (take i ss)) h f) → known ≡ closed_over outside (map name_of ss)
all_closed name_of outside known ss i h before =
    let whole : (k : Atom) (f : FunName) → known k f ≡ closed_over outside (map name_of ss) k f = subst (λ ts. (k : Atom) (f : FunName) → known k f ≡ closed_over outside (map name_of ts) k f) (take_all i ss h) before in
    λ j k f. whole k f j

-- ---- all components

names_of : {S : Type 0} (f : S → Checked) (ss : List S) → module_names (map (λ s. tree_of (f s)) ss) ≡ map (λ s. (module_of (f s)).name) ss
names_of f [] = refl
names_of f (s ∷ ss) = ap (λ names. (module_of (f s)).name ∷ names) (names_of f ss)

pub known_all : {S : Type 0} (f : S → Checked) (ss : List S) (outside known start : Callees) (fs : List Function) (c : Numbering)
    → known ≡ after_components start fs c c.count → start ≡ closed_over outside (map (λ s. (module_of (f s)).name) ss) → fs ≡ all_functions (map (λ s. tree_of (f s)) ss)
    → known ≡ known_over outside (map (λ s. tree_of (f s)) ss) c
known_all f ss outside known start fs c solved begin functions =
    solved
    ∙ ap (λ k. after_components k fs c c.count) (begin ∙ ap (closed_over outside) (sym (names_of f ss)))
    ∙ ap (λ gs. after_components (closed_over outside (module_names (map (λ s. tree_of (f s)) ss))) gs c c.count) functions
