-- The laws of larger types: cut, or taken for the type of an element, they give larger types.
use Rattle.std.proofs.Common.{ℕ, suc, ◌-◌, cond, inl, inr, List, [], ◌∷◌, Option, Some, None, arith}
use Rattle.std.specs.Prelude.{slice_get}
use Rattle.std.specs.Ordering.{nat_cmp}
use Rattle.type_lattice_model.specs.Values.{Value, tuple}
use Rattle.type_lattice_model.specs.Tables.{find}
use Rattle.type_lattice_model.specs.Shapes.{Body, Tuples, sizes, all_tuples, TypeAt}
use Rattle.type_lattice_model.specs.HasType.{HasBody, HasTuple, HasAt}
use Rattle.type_lattice_model.specs.Operations.{Ops, is_empty, ops}
use Rattle.type_lattice_model.specs.Normal.{AreElements, NormalBody, NormalTuples, NormalAt}
use Rattle.type_lattice_model.specs.Cut.{cut}
use Rattle.type_lattice_model.specs.Parts.{element_at, lifted, project_at}
use Rattle.type_lattice_model.specs.Laws.{BelowBy, Laws}
use Rattle.type_lattice_model.proofs.RowLaws.{BelowEach}
use Rattle.type_lattice_model.proofs.BodyLaws.{elements_normal, elements_above, elements_least, body_lattice}
use Rattle.type_lattice_model.proofs.TupleLaws.{normal_at, to_size, not_all, tuples_lattice}
use Rattle.type_lattice_model.proofs.LevelLaws.{level_laws}
use Rattle.type_lattice_model.proofs.CutLaws.{cut_lowering}
use Rattle.type_lattice_model.proofs.MadeLaws.{at_position}

module _ {E : Type 0} {Has : Value → E → Type 0} {Normal : E → Type 0} {o : Ops E} (l : Laws Has Normal o) where
  -- the first type, if it is there, is below the second, which then is there too
  abbrev Rises : Option E → Option E → Type 0
  Rises None y = Unit {0}
  Rises (Some e) None = ⊥
  Rises (Some e) (Some g) = Normal e × (Normal g × BelowBy Has e g)

  -- ---- an element of a tuple

  position_rises : (es fs : List E) → AreElements Normal o es → AreElements Normal o fs → BelowEach Has es fs → (i : ℕ) → Rises (slice_get es i) (slice_get fs i)
  position_rises [] fs j k f i = grind arith
  position_rises (e ∷ es) fs j k f i = grind (arith, position_rises es)

  -- the least product that contains a body is below the one that contains a larger body
  body_rises : (n : ℕ) (b c : Option (Body E)) → NormalBody Normal o n b → NormalBody Normal o n c → BelowBy (HasBody Has) b c → (i : ℕ) → Rises (at_position l b i) (at_position l c i)
  body_rises n None c j k f i = tt
  body_rises n (Some b) None j k f i = elim ((body_lattice l n).filled (Some b) j) [ inl z ↦ absurd cc | inr v ↦ absurd (f v.0 v.1) ]
  body_rises n (Some b) (Some c) j k f i = grind (arith, position_rises, elements_normal l, elements_least l, elements_above l)

  -- of long tuples it is told only whether there are tuples
  long_rises : (m w : List (ℕ × Body E)) → NormalTuples Normal o (sizes m) → BelowBy (HasTuple Has) (sizes m) (sizes w) → Rises (cond (is_empty m) None (Some o.any)) (cond (is_empty w) None (Some o.any))
  long_rises [] w j f = tt
  long_rises (x ∷ m) [] j f = elim ((tuples_lattice l).filled (sizes (x ∷ m)) j) [ inl z ↦ absurd cc | inr v ↦ absurd (f v.0 v.1) ]
  long_rises (x ∷ m) (y ∷ w) j f = (l.any_normal, (l.any_normal, λ v h. h))

  sizes_rise : (m w : List (ℕ × Body E)) → NormalTuples Normal o (sizes m) → NormalTuples Normal o (sizes w) → BelowBy (HasTuple Has) (sizes m) (sizes w) → (n i : ℕ)
      → Rises (element_at o (sizes m) n i) (element_at o (sizes w) n i)
  sizes_rise m w j k f n i = grind (arith, body_rises n (find nat_cmp m n) (find nat_cmp w n) (normal_at l m j.2 n) (normal_at l w k.2 n) (to_size l m w j.2 f n) i, long_rises m w j f)

  to_any : (x : Option E) → Rises x x → Rises x (Some o.any)
  to_any None r = tt
  to_any (Some e) r = (r.0, (l.any_normal, λ v h. l.any_in v))

  tuple_rises : (s t : Tuples E) → NormalTuples Normal o s → NormalTuples Normal o t → BelowBy (HasTuple Has) s t → (n i : ℕ) → Rises (element_at o s n i) (element_at o t n i)
  tuple_rises all_tuples all_tuples j k f n i = (l.any_normal, (l.any_normal, λ v h. h))
  tuple_rises all_tuples (sizes w) j k f n i = absurd (not_all l w k (λ vs. f vs tt))
  tuple_rises (sizes m) all_tuples j k f n i = to_any (element_at o (sizes m) n i) (sizes_rise m m j j (λ vs h. h) n i)
  tuple_rises (sizes m) (sizes w) j k f n i = sizes_rise m w j k f n i

-- a larger type is cut to a larger one
pub cut-more : (e d : ℕ) (s t : TypeAt e) → NormalAt e s → NormalAt e t → BelowBy (HasAt e) s t → BelowBy (HasAt d) (cut e d s) (cut e d t)
cut-more e d s t j k f =
    let c = cut_lowering e d in
    c.least s (cut e d t) j (c.normal t k) (λ v h. c.above t k v (f v h))

lifted_more : (d : ℕ) (x y : Option (TypeAt d)) → Rises (level_laws d) x y → BelowBy (HasAt (suc d)) (lifted d x) (lifted d y)
lifted_more d x y r v h = grind (arith, cut-more d (suc d), (level_laws (suc d)).lattice.none_empty)

pub project-more : (d : ℕ) (s t : TypeAt (suc d)) → NormalAt (suc d) s → NormalAt (suc d) t → BelowBy (HasAt (suc d)) s t → (n i : ℕ) → BelowBy (HasAt (suc d)) (project_at d s n i) (project_at d t n i)
unfolding NormalAt
project-more d s t j k f n i =
    lifted_more d (element_at (ops d) s.tuples n (i - 1)) (element_at (ops d) t.tuples n (i - 1)) (tuple_rises (level_laws d) s.tuples t.tuples j.2 k.2 (λ vs h. f (tuple vs) h) n (i - 1))
