-- A key that comes after the first entries of a list, and where it goes.
use Rattle.std.proofs.Common.{[], ◌≡◌, ℕ, zero, suc, ◌+◌, ◌<◌, ◌≤◌, List, ◌∷◌, map, length, Some, slice_index_or, slice_set, cond, Less, Equal, Greater, refl, sym, ap, ◌∙◌, subst, arith}
use Rattle.std.specs.Prelude.{slice_get}
use Rattle.std.specs.declared.cmp.Ordering.{Ordering}
use Rattle.std.specs.Ordering.{is_lt, is_eq}
use Rattle.type_kinds_sets.specs.Names.{Name, name_cmp}
use Rattle.type_lattice_model.specs.Tables.{put}
use Rattle.type_lattice_trees.specs.declared.node.Node.{Node}
use Rattle.type_lattice_trees.specs.declared.node.TagOf.{TagOf}
use Rattle.type_lattice_trees.specs.declared.node.SizeOf.{SizeOf}
use Rattle.type_lattice_trees.specs.Positions.{StandsAt, GoesAt}

-- what becomes of the first entry where another is put
put-first : {K X : Type 0} (R : K → K → Ordering) (j : X → X → X) (k : K) (v : X) (e : K × X) (m : List (K × X)) (r : Ordering) → R k e.0 ≡ r
    → put R j k v (e ∷ m) ≡ cond (is_lt r) ((k, v) ∷ e ∷ m) (cond (is_eq r) ((e.0, j e.1 v) ∷ m) (e ∷ put R j k v m))
put-first R j k v e m r h = ap (λ s. cond (is_lt s) ((k, v) ∷ e ∷ m) (cond (is_eq s) ((e.0, j e.1 v) ∷ m) (e ∷ put R j k v m))) h

module _ {A K : Type 0} (R : K → K → Ordering) (key : A → K) (k : K) where
  -- the key comes after those of the first items
  abbrev pub Behind : List A → ℕ → Type 0
  Behind xs zero = Unit {0}
  Behind [] (suc i) = Unit {0}
  Behind (x ∷ xs) (suc i) = (R k (key x) ≡ Greater) × Behind xs i

  pub behind-more : (xs : List A) (i j : ℕ) (x : A) → j ≡ i + 1 → i < length xs → x ≡ slice_index_or xs i x → R k (key x) ≡ Greater → Behind xs i → Behind xs j
  behind-more [] i j x s h e g b = absurd (omega arith)
  behind-more (y ∷ ys) i zero x s h e g b = absurd (omega arith)
  behind-more (y ∷ ys) zero (suc zero) x s h e g b = (sym (ap (λ z. R k (key z)) e) ∙ g, tt)
  behind-more (y ∷ ys) zero (suc (suc j)) x s h e g b = absurd (omega arith)
  behind-more (y ∷ ys) (suc i) (suc j) x s h e g b = (b.0, behind-more ys i j x (omega arith) (omega arith) e g b.1)

-- what is at its position among the entries
module _ {A K X : Type 0} (R : K → K → Ordering) (entry : A → K × X) (k : K) where
  abbrev StandsBehind : List A → ℕ → Type 0
  StandsBehind = Behind R (λ x. (entry x).0) k

  pub goes-before : (xs : List A) (i : ℕ) (x : A) → i < length xs → x ≡ slice_index_or xs i x → R k (entry x).0 ≡ Less → StandsBehind xs i → GoesAt R k (map entry xs) i
  goes-before [] i x h e l b = absurd (omega arith)
  goes-before (y ∷ ys) zero x h e l b = λ j v. put-first R j k v (entry y) (map entry ys) Less (sym (ap (λ z. R k (entry z).0) e) ∙ l)
  goes-before (y ∷ ys) (suc i) x h e l b = λ j v.
      put-first R j k v (entry y) (map entry ys) Greater b.0 ∙ ap (λ m. entry y ∷ m) (goes-before ys i x (omega arith) e l b.1 j v)

  goes-end : (xs : List A) (i : ℕ) → i ≡ length xs → StandsBehind xs i → GoesAt R k (map entry xs) i
  goes-end [] zero h b = λ j v. refl
  goes-end [] (suc i) h b = absurd (omega arith)
  goes-end (y ∷ ys) zero h b = absurd (omega arith)
  goes-end (y ∷ ys) (suc i) h b = λ j v.
      put-first R j k v (entry y) (map entry ys) Greater b.0 ∙ ap (λ m. entry y ∷ m) (goes-end ys i (omega arith) b.1 j v)

  pub goes-last : (xs : List A) (i : ℕ) → i ≤ length xs → length xs ≤ i → StandsBehind xs i → GoesAt R k (map entry xs) (length xs)
  goes-last xs i g h b = let e : i ≡ length xs = omega arith in subst (λ n. GoesAt R k (map entry xs) n) e (goes-end xs i e b)

  -- what stands at the position of an equal key
  there : (xs : List A) (i : ℕ) (x : A) → i < length xs → x ≡ slice_index_or xs i x → k ≡ (entry x).0 → slice_get (map entry xs) i ≡ Some (k, (entry x).1)
  there [] i x h e s = absurd (omega arith)
  there (y ∷ ys) zero x h e s = λ n. Some ((sym (ap (λ z. (entry z).0) e) ∙ sym s) n, sym (ap (λ z. (entry z).1) e) n)
  there (y ∷ ys) (suc i) x h e s = there ys i x (omega arith) e s

  puts : (xs : List A) (i : ℕ) (x : A) → i < length xs → x ≡ slice_index_or xs i x → k ≡ (entry x).0 → R k (entry x).0 ≡ Equal → StandsBehind xs i → (j : X → X → X) (v : X)
      → put R j k v (map entry xs) ≡ slice_set (map entry xs) i (k, j (entry x).1 v)
  puts [] i x h e s q b j v = absurd (omega arith)
  puts (y ∷ ys) zero x h e s q b j v =
      put-first R j k v (entry y) (map entry ys) Equal (sym (ap (λ z. R k (entry z).0) e) ∙ q) ∙ (λ n. ((sym (ap (λ z. (entry z).0) e) ∙ sym s) n, j (sym (ap (λ z. (entry z).1) e) n) v) ∷ map entry ys)
  puts (y ∷ ys) (suc i) x h e s q b j v =
      put-first R j k v (entry y) (map entry ys) Greater b.0 ∙ ap (λ m. entry y ∷ m) (puts ys i x (omega arith) e s q b.1 j v)

  pub stands-at : (xs : List A) (i : ℕ) (x : A) → i < length xs → x ≡ slice_index_or xs i x → k ≡ (entry x).0 → R k (entry x).0 ≡ Equal → StandsBehind xs i → StandsAt R k (map entry xs) i
  stands-at xs i x h e s q b = ((entry x).1, (there xs i x h e s, puts xs i x h e s q b))

-- the outcome of comparing the bytes of two atoms
pub compared : (k l x y : Name) (r s : Ordering) → x ≡ k → y ≡ l → r ≡ name_cmp x y → r ≡ s → name_cmp k l ≡ s
compared k l x y r s e f g h = sym (λ n. name_cmp (e n) (f n)) ∙ sym g ∙ h

abbrev pub atom_of : TagOf Node → Name
atom_of t = t.atom

abbrev pub number_of : SizeOf Node → ℕ
number_of s = s.size

pub ruleset positions = (behind-more, goes-before, goes-last)
