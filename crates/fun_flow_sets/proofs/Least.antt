-- The sets are the least, and what is recorded at the end is exactly the sets.
use Rattle.std.proofs.Common.{◌≡◌, Bool, true}
use Rattle.core_meaning.specs.Programs.{Program}
use Rattle.fun_flow_sets.specs.Items.{Item, Place, part, Rule, holds, flows, applies}
use Rattle.fun_flow_sets.specs.Rules.{IsRule}
use Rattle.fun_flow_sets.specs.Sets.{Holds, IsMet, Meets, may_any, may_hold, may_flow, may_enter, may_give}
use Rattle.fun_flow_sets.specs.AtEnd.{IsAtEnd, IsJustified}

pub are_least : (U : Program) (has : Place → Item → Bool) → Meets U has → (p : Place) (x : Item) → Holds U p x → has p x ≡ true
are_least U has h p x may_any = h.all_anywhere
are_least U has h p x (may_hold r) = h.met (holds p x) r
are_least U has h p x (may_flow {p = q} r k) = h.met (flows q p) r x (are_least U has h q x k)
are_least U has h p x (may_enter {p = o} {q = q} {n = n} {home = home} {label = label} {x = z} r k e i) = (h.met (applies o n home label) r z (are_least U has h o z k)).0 q x e (are_least U has h q x i)
are_least U has h p x (may_give {p = o} {n = n} {home = home} {label = label} {x = z} r k e) = (h.met (applies o n home label) r z (are_least U has h o z k)).1 e

pub met_at_end : (U : Program) (pair : Place → Item → Bool) (edge : Place → Place → Bool) → IsAtEnd U pair edge → Meets U pair
met_at_end U pair edge h = record { all_anywhere = h.begun; met = met }
  where
    met : (r : Rule) → IsRule U r → IsMet U pair r
    met (holds p x) r = h.held p x r
    met (flows p q) r = λ x k. h.flowed p q x r k
    met (applies p n home label) r = λ x k. (λ q y e i. h.followed q (part home label 0) y (h.linked p q n home label x r k e) i, h.given p n home label x r k)

pub complete_at_end : (U : Program) (pair : Place → Item → Bool) (edge : Place → Place → Bool) → IsAtEnd U pair edge → IsJustified U pair edge → (p : Place) (x : Item) → Holds U p x → pair p x ≡ true
complete_at_end U pair edge h j p x k = are_least U pair (met_at_end U pair edge h) p x k

pub sound_at_end : (U : Program) (pair : Place → Item → Bool) (edge : Place → Place → Bool) → IsAtEnd U pair edge → IsJustified U pair edge → (p : Place) (x : Item) → pair p x ≡ true → Holds U p x
sound_at_end U pair edge h j p x k = j.pairs p x k
