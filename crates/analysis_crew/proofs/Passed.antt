-- Modules that are passed: each is accepted, and where no name stands twice they have distinct names.
use Rattle.std.proofs.Common.{◌≡◌, ℕ, ◌<◌, List, [], ◌∷◌, length, map, refl, ap, subst}
use Rattle.std.proofs.lemmas.List.{length-map}
use Rattle.core_scope.proofs.NameLaws.{none_earlier}
use Rattle.core_scope.specs.Checked.{module_of, tree_of}
use Rattle.core_scope.specs.Names.{Distinct}
use Rattle.core_scope.specs.Sets.{StandsEarlier}
use Rattle.core_scope.specs.declared.checked.Checked.{Checked}
use Rattle.sound_laws.specs.Accepted.{AreAccepted}
use Rattle.analysis_summaries.specs.Known.{module_names}

pub accepted_all : {S : Type 0} (f : S → Checked) (ss : List S) → AreAccepted (map (λ s. tree_of (f s)) ss)
accepted_all f [] = tt
accepted_all f (s ∷ ss) = ((f s, refl), accepted_all f ss)

pub names_of : {S : Type 0} (f : S → Checked) (ss : List S) → map (λ s. (module_of (f s)).name) ss ≡ module_names (map (λ s. tree_of (f s)) ss)
names_of f [] = refl
names_of f (s ∷ ss) = ap (λ names. (module_of (f s)).name ∷ names) (names_of f ss)

pub apart_all : {S : Type 0} (f : S → Checked) (ss : List S) → ((j : ℕ) → j < length ss → StandsEarlier (map (λ s. (module_of (f s)).name) ss) j → ⊥) → Distinct (module_names (map (λ s. tree_of (f s)) ss))
apart_all f ss h =
    subst Distinct (names_of f ss)
    (none_earlier (map (λ s. (module_of (f s)).name) ss) (λ j within before. h j (subst (λ n. j < n) (length-map ss (λ s. (module_of (f s)).name)) within) before))
