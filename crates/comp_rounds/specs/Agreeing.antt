-- Types that keep the rule of signatures.
use Rattle.std.specs.Prelude.{◌≡◌, ℕ, zero, suc, true, false, not, ◌||◌, ◌&&◌, List, ◌∷◌, replicate, refl}
use Rattle.std.proofs.Common.{ap, ◌∙◌}
use Rattle.type_lattice_model.proofs.LevelLaws.{level_laws}
use Rattle.type_lattice.specs.Types.{Type4, none, is_none}
use Rattle.cons_tree.specs.Signatures.{has_none, all_none, agree}

pub something_agrees : (ts : List Type4) → has_none ts ≡ false → agree ts ≡ true
something_agrees ts e = ap (λ b. not b || all_none ts) e

pub none_is_none : is_none none ≡ true
unfolding is_none none
none_is_none = (level_laws 4).is_none-none

all_are_none : (n : ℕ) → all_none (replicate n none) ≡ true
all_are_none zero = refl
all_are_none (suc n) = ap (λ b. b && all_none (replicate n none)) none_is_none ∙ all_are_none n

pub nothing_agrees : (n : ℕ) → agree (none ∷ replicate n none) ≡ true
nothing_agrees n =
    ap (λ b. not (b || has_none (replicate n none)) || (b && all_none (replicate n none))) none_is_none ∙ all_are_none n
