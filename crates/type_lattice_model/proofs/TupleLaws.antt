-- The laws of tuples: all of them, or those of at most eight sizes, each size with a body of its own.
use Rattle.std.proofs.Common.{◌≡◌, ◌≤◌, ◌⊎◌, inl, inr, ℕ, zero, suc, true, List, [], ◌∷◌, Option, Some, length, refl, sym, ap, ◌∙◌, subst, arith, nat_lt, is_some, nat_cmp}
use Rattle.std.specs.Cmp.{IsTotalOrder, nat_cmp_total}
use Rattle.std.specs.FinSet.{IsAntisymmetric, nat_cmp-IsAntisymmetric}
use borrow.Author.Tests.{ltb-true, ltb-false, lt-ltb}
use Rattle.type_lattice_model.specs.Values.{Value, nil, Values, no_value, and_value, count}
use Rattle.type_lattice_model.specs.Tables.{is_table, find, united}
use Rattle.type_lattice_model.specs.Shapes.{Body, Tuples, sizes, all_tuples}
use Rattle.type_lattice_model.specs.HasType.{HasBody, HasTuple}
use Rattle.type_lattice_model.specs.Operations.{Ops, met_with, body_meet, body_join, sizes_meet, tuples_meet, capped_sizes, tuples_join}
use Rattle.type_lattice_model.specs.Normal.{NormalBody, NormalSize, NormalSizes, NormalTuples}
use Rattle.type_lattice_model.specs.Laws.{BelowBy, Lattice, Laws}
use Rattle.type_lattice_model.proofs.TableLaws as tables
use Rattle.type_lattice_model.proofs.LeastLaws.{IsLeast, IsJust, InBoth, InEither, cond_least, at-met, at-united, length-below}
use Rattle.type_lattice_model.proofs.BodyLaws.{body_value, body_lattice, count_body}

-- ---- tables by size

abbrev pub size_total : IsTotalOrder nat_cmp
size_total = nat_cmp_total

abbrev pub size_same : IsAntisymmetric nat_cmp
size_same = nat_cmp-IsAntisymmetric

-- a tuple of each size
pub many : (n : ℕ) → (vs : Values) × (count vs ≡ n)
many zero = (no_value, refl)
many (suc n) = let w = many n in (and_value nil w.0, ap suc w.1)

module _ {E : Type 0} {Has : Value → E → Type 0} {Normal : E → Type 0} {o : Ops E} (l : Laws Has Normal o) where
  abbrev At : List (ℕ × Body E) → ℕ → Option (Body E)
  At m n = find nat_cmp m n

  abbrev HasT : Values → Tuples E → Type 0
  HasT = HasTuple Has

  abbrev NormalT : Tuples E → Type 0
  NormalT = NormalTuples Normal o

  -- ---- what is held at a size

  -- the body of a size is normal at it
  pub normal_at : (m : List (ℕ × Body E)) → NormalSizes Normal o m → (q : ℕ) → NormalBody Normal o q (At m q)
  normal_at m k q = grind (arith, tables.each_at, size_total, size_same)

  -- a size that is there is at most 64
  pub small_at : (m : List (ℕ × Body E)) → NormalSizes Normal o m → (q : ℕ) → is_some (At m q) ≡ true → nat_lt q 65 ≡ true
  small_at m k q h = let x = tables.found_at (At m q) h in (tables.each_at size_total size_same (NormalSize Normal o) m k q x.0 x.1).0

  pub some_at : (b : Option (Body E)) (vs : Values) → HasBody Has vs b → is_some b ≡ true
  some_at b vs h = grind arith

  -- a tuple of the body at a size has that size, so it is among the tuples
  pub from_size : (m : List (ℕ × Body E)) → NormalSizes Normal o m → (q : ℕ) (vs : Values) → HasBody Has vs (At m q) → HasT vs (sizes m)
  from_size m k q vs h = subst (λ n. HasBody Has vs (At m n)) (sym (count_body l q vs (At m q) (normal_at m k q) h)) h

  -- where tuples are among others, the body at each size is below theirs
  pub to_size : (m w : List (ℕ × Body E)) → NormalSizes Normal o m → BelowBy HasT (sizes m) (sizes w) → (q : ℕ) → BelowBy (HasBody Has) (At m q) (At w q)
  to_size m w k f q vs h = subst (λ n. HasBody Has vs (At w n)) (count_body l q vs (At m q) (normal_at m k q) h) (f vs (from_size m k q vs h))

  -- no sizes have all tuples: those of 65 elements are in none
  pub not_all : (m : List (ℕ × Body E)) → NormalT (sizes m) → ((vs : Values) → HasT vs (sizes m)) → ⊥
  not_all m k f =
      let w = many 65 in
      absurd (omega (arith, w.1, ltb-true (count w.0) 65 (small_at m k.2 (count w.0) (some_at (At m (count w.0)) w.0 (f w.0)))))

  -- ---- sizes of the same tuples are the same

  tuples-same : (s t : Tuples E) → NormalT s → NormalT t → BelowBy HasT s t → BelowBy HasT t s → s ≡ t
  tuples-same all_tuples all_tuples j k f h = refl
  tuples-same all_tuples (sizes m) j k f h = absurd (not_all m k (λ vs. f vs tt))
  tuples-same (sizes m) all_tuples j k f h = absurd (not_all m j (λ vs. h vs tt))
  tuples-same (sizes m) (sizes w) j k f h =
      ap sizes (tables.same_table size_total size_same m w j.0 k.0 (λ q. (body_lattice l q).same (At m q) (At w q) (normal_at m j.2 q) (normal_at w k.2 q) (to_size m w j.2 f q) (to_size w m k.2 h q)))

  tuples-filled : (s : Tuples E) → NormalT s → (s ≡ sizes []) ⊎ ((vs : Values) × HasT vs s)
  tuples-filled all_tuples k = inr (no_value, tt)
  tuples-filled (sizes []) k = inl refl
  tuples-filled (sizes (e ∷ m)) k =
      let v = body_value l e.0 e.1 k.2.0.1 in
      inr (v.0, from_size (e ∷ m) k.2 e.0 v.0 (subst (HasBody Has v.0) (sym (tables.find-first size_total size_same e m)) v.1))

  -- ---- the meet

  tuples_meets : (s t : Tuples E) → NormalT s → NormalT t → IsJust HasT NormalT (InBoth HasT s t) (tuples_meet o s t)
  tuples_meets all_tuples t j k = record { normal = k; enter = λ vs h. h.1; leave = λ vs h. (tt, h) }
  tuples_meets (sizes m) all_tuples j k = record { normal = j; enter = λ vs h. h.0; leave = λ vs h. (h, tt) }
  tuples_meets (sizes m) (sizes w) j k =
      let f = λ (n : ℕ) (b : Body E). met_with (body_meet o b) (At w n) in
      let c = sizes_meet o m w in
      let p = λ (n : ℕ). at-met size_total size_same (body_lattice l n) n m (At w) j.0 (normal_at m j.2 n) (normal_at w k.2 n) in
      let table = tables.table-chosen size_total size_same f m j.0 in
      let short = tables.length-chosen size_total size_same f m in
      let few = ltb-true (length m) 9 j.1 in
      let had = λ (q : ℕ) (h : is_some (At c q) ≡ true). tables.find-key size_total size_same m q ∙ tables.keys-chosen size_total size_same f m q (sym (tables.find-key size_total size_same c q) ∙ h) in
      let each = tables.each_from size_total size_same (NormalSize Normal o) c table (λ q b e. (small_at m j.2 q (had q (ap is_some e)), subst (NormalBody Normal o q) e (p q).normal)) in
      record { normal = (table, lt-ltb (length c) 9 (omega arith), each); enter = λ vs. (p (count vs)).enter vs; leave = λ vs. (p (count vs)).leave vs }

  -- ---- the join

  -- tuples are the least where they are so among sizes, since all tuples are above all
  pub sizes_least : {In : Values → Type 0} (s : Tuples E) → NormalT s → ((vs : Values) → In vs → HasT vs s)
      → ((w : List (ℕ × Body E)) → NormalT (sizes w) → ((vs : Values) → In vs → HasT vs (sizes w)) → BelowBy HasT s (sizes w)) → IsLeast HasT NormalT In s
  sizes_least s k f g = record { normal = k; above = f; least = λ u i h. grind (arith, g) }

  -- too many sizes become all tuples: no sizes have all these tuples
  capped : (m : List (ℕ × Body E)) → is_table nat_cmp m ≡ true → NormalSizes Normal o m → IsLeast HasT NormalT (λ vs. HasT vs (sizes m)) (capped_sizes o m)
  capped m t k = cond_least (nat_lt (length m) 9) (λ e. record { normal = (t, e, k); above = λ vs h. h; least = λ u i f. f }) (λ e. sizes_least all_tuples tt (λ vs h. tt) (λ u i f.
      let le : length m ≤ length u = length-below size_total size_same (body_lattice l) m u t i.0 (normal_at m k) (to_size m u k f) in
      absurd (omega (arith, le, ltb-false (length m) 9 e, ltb-true (length u) 9 i.1))))

  tuples_joins : (s t : Tuples E) → NormalT s → NormalT t → IsLeast HasT NormalT (InEither HasT s t) (tuples_join o s t)
  tuples_joins all_tuples t j k = record { normal = tt; above = λ vs h. tt; least = λ u i f vs h. f vs (inl tt) }
  tuples_joins (sizes m) all_tuples j k = record { normal = tt; above = λ vs h. tt; least = λ u i f vs h. f vs (inr tt) }
  tuples_joins (sizes m) (sizes w) j k =
      let p = λ (n : ℕ). at-united size_total size_same (body_lattice l n) n m w j.0 k.0 (normal_at m j.2 n) (normal_at w k.2 n) in
      let normal = tables.each-united size_same (body_join o) (NormalSize Normal o) (λ q b d x y. (x.0, (body_lattice l q).join_normal (Some b) (Some d) x.1 y.1)) m w j.2 k.2 in
      let c = capped (united nat_cmp (body_join o) m w) (tables.table-united size_total size_same (body_join o) m w j.0) normal in
      sizes_least (tuples_join o (sizes m) (sizes w)) c.normal (λ vs h. c.above vs ((p (count vs)).above vs h)) (λ u i f. c.least (sizes u) i (λ vs h.
      let n = count vs in
      (p n).least (At u n) (normal_at u i.2 n) (λ ws x. elim x [ inl y ↦ to_size m u j.2 (λ us z. f us (inl z)) n ws y | inr y ↦ to_size w u k.2 (λ us z. f us (inr z)) n ws y ]) vs h))

  -- ---- the family of tuples

  pub tuples_lattice : Lattice HasT NormalT (sizes []) (tuples_meet o) (tuples_join o)
  tuples_lattice = grind (arith, tuples-filled, tuples-same, tuples_meets, tuples_joins)
