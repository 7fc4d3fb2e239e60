-- A signature that is made of the types of one is this one.
use Rattle.std.proofs.Common.{◌≡◌, ◌↔◌, Bool, true, false, cond, not, List, [], ◌∷◌, drop, get_or, map, refl, sym, ap, ap₂, ◌∙◌}
use Rattle.std.specs.Prelude.{◌||◌, IsTrue}
use Rattle.std.proofs.lemmas.Bool.{and_parts}
use Rattle.type_lattice.specs.Types.{Type4, none, is_none}
use Rattle.cons_tree.specs.declared.parts.Sig.{Sig}
use Rattle.cons_tree.specs.Signatures.{has_none, all_none, agree, agreed}
use Rattle.cons_tree.proofs.Copied.{same_signature}

abbrev NoneLaw : Type 0
NoneLaw = (t : Type4) → IsTrue (is_none t) ↔ (t ≡ none)

all_are : NoneLaw → (ts : List Type4) → all_none ts ≡ true → map (λ t. none) ts ≡ ts
all_are law [] e = refl
all_are law (t ∷ ts) e =
    let b = and_parts (is_none t) (all_none ts) e in
    ap₂ (λ u us. u ∷ us) (sym ((law t).0 b.0)) (all_are law ts b.1)

agreed_same : NoneLaw → (ts : List Type4) → agree ts ≡ true → agreed ts ≡ ts
agreed_same law ts e = by (has_none ts) refl
  where
    by : (b : Bool) → has_none ts ≡ b → agreed ts ≡ ts
    by false is = ap (λ b. cond b (map (λ t. none) ts) ts) is
    by true is = ap (λ b. cond b (map (λ t. none) ts) ts) is ∙ all_are law ts (sym (ap (λ b. not b || all_none ts) is) ∙ e)

pub made_again : NoneLaw → (made s : Sig) → made.result ∷ made.args ≡ agreed (s.result ∷ s.args) → made ≡ s
made_again law made s e =
    let types = e ∙ agreed_same law (s.result ∷ s.args) s.agreed in
    same_signature made s (ap (drop 1) types) (ap (λ ts. get_or ts 0 none) types)
