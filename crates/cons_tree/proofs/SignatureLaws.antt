-- Types by the rule of signatures.
use Rattle.std.proofs.Common.{◌≡◌, suc, true, false, cond, not, ◌&&◌, [], ◌∷◌, map, length, refl, sym, ap, ◌∙◌}
use Rattle.std.specs.Prelude.{◌||◌}
use Rattle.std.specs.List.{list_all}
use Rattle.type_lattice.specs.Types.{Type4, none, is_none}
use Rattle.cons_tree.specs.Environments.{Types}
use Rattle.cons_tree.specs.Signatures.{has_none, all_none, agree, agreed}

all_become : is_none none ≡ true → (ts : Types) → list_all is_none (map (λ t. none) ts) ≡ true
all_become e [] = refl
all_become e (t ∷ ts) = ap (λ b. b && list_all is_none (map (λ u. none) ts)) e ∙ all_become e ts

pub some_agree : (ts : Types) → has_none ts ≡ false → agree ts ≡ true
some_agree ts e = ap (λ b. not b || all_none ts) e

pub none_agree : is_none none ≡ true → (ts us : Types) → us ≡ map (λ t. none) ts → agree (none ∷ us) ≡ true
none_agree e ts us is =
    ap (λ vs. agree (none ∷ vs)) is ∙ ap (λ b. not (b || has_none (map (λ t. none) ts)) || (b && all_none (map (λ t. none) ts))) e ∙ all_become e ts

pub agreed_kept : (ts : Types) → has_none ts ≡ false → ts ≡ agreed ts
agreed_kept ts e = sym (ap (λ b. cond b (map (λ t. none) ts) ts) e)

pub agreed_none : (t : Type4) (ts us : Types) → has_none (t ∷ ts) ≡ true → us ≡ map (λ u. none) ts → none ∷ us ≡ agreed (t ∷ ts)
agreed_none t ts us e is = ap (λ vs. none ∷ vs) is ∙ sym (ap (λ b. cond b (none ∷ map (λ u. none) ts) (t ∷ ts)) e)

pub map_length : (ts us : Types) → us ≡ map (λ t. none) ts → length us ≡ length ts
map_length ts us is = ap length is ∙ by ts
  where
    by : (vs : Types) → length (map (λ t. none) vs) ≡ length vs
    by [] = refl
    by (v ∷ vs) = ap suc (by vs)
