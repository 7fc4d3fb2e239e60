-- Walks joined end to end, and blocks one before another.
use Rattle.std.proofs.Common.{ℕ, ◌<◌, inl, inr, List, [], ◌∷◌, ◌++◌, length, get_or, refl, sym, ◌∙◌, subst, arith}
use Rattle.std.specs.Prelude.{All, slice_index_or}
use Rattle.std.proofs.lemmas.List.{length_push, get_or_append_left, get_or_push, get_or_default}
use Rattle.components.specs.declared.search.Block.{Block}
use Rattle.components.specs.Graph.{Leads, Reaches, by_pair, by_pairs, Together}
use Rattle.components.specs.steps.Search.{Walk, Before, bottom, Cut}

pub reaches_on : (graph : List (List ℕ)) (f g h : ℕ) → Reaches graph f g → Reaches graph g h → Reaches graph f h
reaches_on graph f g h (by_pair _ _ leads) rest = by_pairs f g h leads rest
reaches_on graph f g h (by_pairs _ m _ leads more) rest = by_pairs f m h leads (reaches_on graph m g h more rest)

pub walk_on : (graph : List (List ℕ)) (f g h : ℕ) → Walk graph f g → Walk graph g h → Walk graph f h
walk_on graph f g h (inl e) (inl d) = inl (e ∙ d)
walk_on graph f g h (inl e) (inr more) = inr (subst (λ v. Reaches graph v h) (sym e) more)
walk_on graph f g h (inr first) (inl d) = inr (subst (λ v. Reaches graph f v) d first)
walk_on graph f g h (inr first) (inr more) = inr (reaches_on graph f g h first more)

pub walk_pair : (graph : List (List ℕ)) (f g : ℕ) → Leads graph f g → Walk graph f g
walk_pair graph f g leads = inr (by_pair f g leads)

pub both_walk : (graph : List (List ℕ)) (f g : ℕ) → Walk graph f g → Walk graph g f → Together graph f g
both_walk graph f g (inl e) back = inl e
both_walk graph f g (inr there) (inl e) = inl (sym e)
both_walk graph f g (inr there) (inr back) = inr (there, back)

-- every block stands before the last
pub before_end : (rest : List Block) (t : Block) (path pending : List ℕ) → Cut (rest ++ t ∷ []) path pending → All (λ b. Before b t) rest
before_end rest t path pending cut k d under =
    let fact = cut.ascending k (length rest) under (omega (arith, length_push rest t)) in
    subst (λ (b : Block). Before b t) (get_or_default rest k bottom d under)
    (subst (λ (b : Block). Before (get_or rest k bottom) b) (get_or_push rest t bottom (length rest) refl)
    (subst (λ (b : Block). Before b (get_or (rest ++ t ∷ []) (length rest) bottom)) (get_or_append_left rest (t ∷ []) bottom k under) fact))

pub front_ascending : (rest : List Block) (t : Block) (path pending : List ℕ) → Cut (rest ++ t ∷ []) path pending
    → (i j : ℕ) → i < j → j < length rest → Before (slice_index_or rest i bottom) (slice_index_or rest j bottom)
front_ascending rest t path pending cut i j less under =
    let fact = cut.ascending i j less (omega (arith, length_push rest t)) in
    subst (λ (b : Block). Before (get_or rest i bottom) b) (get_or_append_left rest (t ∷ []) bottom j under)
    (subst (λ (b : Block). Before b (get_or (rest ++ t ∷ []) j bottom)) (get_or_append_left rest (t ∷ []) bottom i (omega arith)) fact)
