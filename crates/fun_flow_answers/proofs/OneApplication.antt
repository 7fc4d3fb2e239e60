-- At each label of a module stands at most one application of a value.
use Rattle.std.proofs.Common.{◌≡◌, ℕ, List, [], ◌∷◌, inl, inr, sym, ◌∙◌, subst}
use Rattle.std.specs.Prelude.{Contains}
use Rattle.type_kinds.specs.declared.atom.Atom.{Atom}
use Rattle.type_kinds.proofs.Lists.{contains_first, contains_later}
use Rattle.core_scope.specs.Names.{Distinct}
use Rattle.fun_flow_sets.specs.Applications.{application_labels}
use Rattle.fun_flow_sets.specs.Items.{Place, Rule, holds, flows, applies}
use Rattle.fun_flow_sets.specs.Rules.{IsAmong}

-- what an application says
abbrev label_in : Rule → ℕ
label_in (holds p x) = 0
label_in (flows p q) = 0
label_in (applies p n home label) = label

abbrev number_in : Rule → ℕ
number_in (holds p x) = 0
number_in (flows p q) = 0
number_in (applies p n home label) = n

abbrev operator_in : Rule → Place
operator_in (holds p x) = p
operator_in (flows p q) = p
operator_in (applies p n home label) = p

pub labelled : (rs : List Rule) (p : Place) (n : ℕ) (home : Atom) (l : ℕ) → IsAmong rs (applies p n home l) → Contains (application_labels rs) l
labelled [] p n home l h = absurd h
labelled (holds q x ∷ rs) p n home l (inl e) = absurd cc
labelled (holds q x ∷ rs) p n home l (inr h) = labelled rs p n home l h
labelled (flows q r ∷ rs) p n home l (inl e) = absurd cc
labelled (flows q r ∷ rs) p n home l (inr h) = labelled rs p n home l h
labelled (applies q k other m ∷ rs) p n home l (inl e) =
    let same : l ≡ m = λ i. label_in (e i) in subst (λ z. Contains (m ∷ application_labels rs) z) (sym same) (contains_first m (application_labels rs))
labelled (applies q k other m ∷ rs) p n home l (inr h) = contains_later m l (application_labels rs) (labelled rs p n home l h)

pub one_application : (rs : List Rule) (p q : Place) (n k : ℕ) (home other : Atom) (l : ℕ) → Distinct (application_labels rs) → IsAmong rs (applies p n home l) → IsAmong rs (applies q k other l) → (p ≡ q) × (n ≡ k)
one_application [] p q n k home other l d f g = absurd f
one_application (holds a x ∷ rs) p q n k home other l d (inl e) g = absurd cc
one_application (holds a x ∷ rs) p q n k home other l d (inr f) (inl e) = absurd cc
one_application (holds a x ∷ rs) p q n k home other l d (inr f) (inr g) = one_application rs p q n k home other l d f g
one_application (flows a b ∷ rs) p q n k home other l d (inl e) g = absurd cc
one_application (flows a b ∷ rs) p q n k home other l d (inr f) (inl e) = absurd cc
one_application (flows a b ∷ rs) p q n k home other l d (inr f) (inr g) = one_application rs p q n k home other l d f g
one_application (applies a c h m ∷ rs) p q n k home other l d (inl e) (inl f) = (λ i. operator_in ((e ∙ sym f) i), λ i. number_in ((e ∙ sym f) i))
one_application (applies a c h m ∷ rs) p q n k home other l d (inl e) (inr g) =
    let same : l ≡ m = λ i. label_in (e i) in absurd (d.0 (subst (Contains (application_labels rs)) same (labelled rs q k other l g)))
one_application (applies a c h m ∷ rs) p q n k home other l d (inr f) (inl e) =
    let same : l ≡ m = λ i. label_in (e i) in absurd (d.0 (subst (Contains (application_labels rs)) same (labelled rs p n home l f)))
one_application (applies a c h m ∷ rs) p q n k home other l d (inr f) (inr g) = one_application rs p q n k home other l d.1 f g
