-- The types of a line, one after another: each way out of reading them.
use Rattle.std.proofs.Common.{◌≡◌, ℕ, ◌-◌, List, [], ◌∷◌, ◌++◌, drop, length, map, Option, Some, None, sym, ap, ◌∙◌, arith, append_assoc}
use Rattle.std.specs.Prelude.{codes}
use Rattle.std.specs.Borrow.{Bor}
use Rattle.type_lattice.specs.Types.{Type4}
use Rattle.type_text.specs.Texts.{after, text_of}
use Rattle.type_text.specs.Words.{TypeStop}
use Rattle.typer_lines.specs.steps.Reads.{Adds, ReadsOne, ReadsTypes, ReadsMore}
use Rattle.typer_lines.proofs.LineLaws.{later_stop, first_text}

-- ---- a type, and those behind it

module _ (text : List ℕ) (before between now : List Type4) (t : Type4) (ts : List Type4) (rest : List ℕ) (f : TypeStop rest)
    (e : text ≡ (text_of t ++ after (codes ",") (map text_of ts)) ++ rest) where
  first_lacks : ReadsOne text before now None → ⊥
  first_lacks one = (one t (after (codes ",") (map text_of ts) ++ rest) (later_stop ts rest f) (e ∙ first_text t ts rest)).0

  first_read : (left : Bor (List ℕ)) (r : Option (Bor (List ℕ))) (count : ℕ) → ReadsOne text before between (Some left) → ReadsMore count left.now between now r
      → length ts ≡ count → Adds before now (t ∷ ts) rest r
  first_read left r count one more n =
      let first = one t (after (codes ",") (map text_of ts) ++ rest) (later_stop ts rest f) (e ∙ first_text t ts rest) in
      let later = more ts rest n f first.0 in
      (later.0, later.1 ∙ ap (λ us. us ++ ts) first.1 ∙ append_assoc before (t ∷ []) ts)

-- ---- with commas between

pub types_lack : (text : List ℕ) (before now : List Type4) (count : ℕ) → (count ≡ 0 → ⊥) → ReadsOne text before now None → ReadsTypes count text before now None
types_lack text before now count some one [] rest n f e = absurd (some (sym n))
types_lack text before now count some one (t ∷ ts) rest n f e = absurd (first_lacks text before before now t ts rest f e one)

pub types_read : (text : List ℕ) (before between now : List Type4) (left : Bor (List ℕ)) (r : Option (Bor (List ℕ))) (count : ℕ) → (count ≡ 0 → ⊥)
    → ReadsOne text before between (Some left) → ReadsMore (count - 1) left.now between now r → ReadsTypes count text before now r
types_read text before between now left r count some one more [] rest n f e = absurd (some (sym n))
types_read text before between now left r count some one more (t ∷ ts) rest n f e =
    first_read text before between now t ts rest f e left r (count - 1) one more (omega arith)

-- ---- with a comma before each

pub no_comma : (text : List ℕ) (types : List Type4) (count : ℕ) → (count ≡ 0 → ⊥) → ((rest : List ℕ) → text ≡ codes "," ++ rest → ⊥) → ReadsMore count text types types None
no_comma text types count some lacks [] rest n f e = absurd (some (sym n))
no_comma text types count some lacks (t ∷ ts) rest n f e = absurd (lacks _ e)

pub more_lack : (text from : List ℕ) (before now : List Type4) (count : ℕ) → (count ≡ 0 → ⊥) → text ≡ codes "," ++ from → ReadsOne from before now None
    → ReadsMore count text before now None
more_lack text from before now count some comma one [] rest n f e = absurd (some (sym n))
more_lack text from before now count some comma one (t ∷ ts) rest n f e = absurd (first_lacks from before before now t ts rest f (ap (drop 1) (sym comma ∙ e)) one)

pub more_read : (text from : List ℕ) (before between now : List Type4) (left : Bor (List ℕ)) (r : Option (Bor (List ℕ))) (count : ℕ) → (count ≡ 0 → ⊥)
    → text ≡ codes "," ++ from → ReadsOne from before between (Some left) → ReadsMore (count - 1) left.now between now r → ReadsMore count text before now r
more_read text from before between now left r count some comma one more [] rest n f e = absurd (some (sym n))
more_read text from before between now left r count some comma one more (t ∷ ts) rest n f e =
    first_read from before between now t ts rest f (ap (drop 1) (sym comma ∙ e)) left r (count - 1) one more (omega arith)
