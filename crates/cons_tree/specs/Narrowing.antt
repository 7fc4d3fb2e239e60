-- How a part narrows an environment. Each row of the table replaces types of slots by meets, in the order in which it names
-- them; each replacement goes by what the slots are by then. A slot that comes to none makes the environment Bottom.
use Rattle.std.specs.Prelude.{ℕ, suc, Bool, true, cond, List, [], ◌∷◌, Some, length, map}
use Rattle.type_lattice.specs.Types.{Type4, none, tuple, cons, project, elem, tail}
use Rattle.type_lattice.specs.Inclusion.{leq}
use Rattle.cons_tree.specs.Environments.{Types, State, type_at, on_types, lowered}
use Rattle.cons_tree.specs.Named.{just_true, just_false, arithmetic, absolute, selected, tested, tested_some, same_values, other_values}
use Rattle.cons_tree.specs.declared.parts.Part.{Part}
use Rattle.cons_tree.specs.declared.parts.Part.TheVariants.{Bound, Equal, Tuple, Cons, Builtin, Call}
use Rattle.cons_tree.specs.declared.parts.Transfer.{Transfer}
use Rattle.cons_tree.specs.declared.parts.Transfer.TheVariants.{Plain, Arith, Abs, Head, Tail, Element, Test, TestSome, Same, Differ, Never}

-- ---- steps from one environment to the next

-- first the one, then the other
abbrev pub and_then : (Types → State) → (Types → State) → Types → State
and_then f g xs = on_types (f xs) g

-- a step that is made where a test of the environment says so
abbrev pub only_where : (Types → Bool) → (Types → State) → Types → State
only_where c f xs = cond (c xs) (f xs) (Some xs)

-- the slot with the meet of its type and of what the environment gives
abbrev pub meets : ℕ → (Types → Type4) → Types → State
meets v f xs = lowered xs v (f xs)

-- both slots with the meet of their types
unfoldable pub alike : ℕ → ℕ → Types → State
alike v w = and_then (meets v (λ xs. type_at xs w)) (meets w (λ xs. type_at xs v))

-- each slot with its type
unfoldable pub each_typed : List ℕ → List Type4 → Types → State
each_typed [] ts xs = Some xs
each_typed (v ∷ vs) [] xs = Some xs
each_typed (v ∷ vs) (t ∷ ts) xs = on_types (lowered xs v t) (each_typed vs ts)

-- each slot with what stands at its position in the tuples of n elements of v; the first of these slots is at position i
unfoldable pub each_projected : ℕ → ℕ → ℕ → List ℕ → Types → State
each_projected v n i [] xs = Some xs
each_projected v n i (w ∷ ws) xs = on_types (lowered xs w (project (type_at xs v) n i)) (each_projected v n (suc i) ws)

-- whether the slot is below `true`, and whether it is below `false`
abbrev pub is_true : ℕ → Types → Bool
is_true v xs = leq (type_at xs v) just_true

abbrev pub is_false : ℕ → Types → Bool
is_false v xs = leq (type_at xs v) just_false

-- ---- the table

-- the rows of the transfers, for the slot of the value and those of the arguments. Where a transfer reads more arguments
-- than there are it narrows nothing
unfoldable pub transferred : Transfer → ℕ → List ℕ → Types → State
transferred (Plain t) v args = meets v (λ xs. t)
transferred Arith v args = meets v (λ xs. arithmetic (map (type_at xs) args))
transferred Abs v (a ∷ args) = meets v (λ xs. absolute (type_at xs a))
transferred Head v (a ∷ args) = meets v (λ xs. elem (type_at xs a))
transferred Tail v (a ∷ args) = meets v (λ xs. tail (type_at xs a))
transferred Element v (i ∷ a ∷ args) = meets v (λ xs. selected (type_at xs i) (type_at xs a))
transferred (Test t) v (a ∷ args) = and_then (meets v (λ xs. tested t (type_at xs a))) (only_where (is_true v) (meets a (λ xs. t)))
transferred (TestSome t) v (a ∷ args) = and_then (meets v (λ xs. tested_some t (type_at xs a))) (only_where (is_true v) (meets a (λ xs. t)))
transferred Same v (a ∷ b ∷ args) = and_then (meets v (λ xs. same_values (type_at xs a) (type_at xs b))) (only_where (is_true v) (alike a b))
transferred Differ v (a ∷ b ∷ args) = and_then (meets v (λ xs. other_values (type_at xs a) (type_at xs b))) (only_where (is_false v) (alike a b))
transferred Never v args = meets v (λ xs. none)
transferred f v args = λ xs. Some xs

-- the rows of the parts
unfoldable pub narrowed : Part → Types → State
narrowed (Bound v t) = meets v (λ xs. t)
narrowed (Equal v w) = alike v w
narrowed (Tuple v ws) = and_then (meets v (λ xs. tuple (map (type_at xs) ws))) (each_projected v (length ws) 1 ws)
narrowed (Cons v h t) = and_then (meets v (λ xs. cons (type_at xs h) (type_at xs t) true)) (and_then (meets h (λ xs. elem (type_at xs v))) (meets t (λ xs. tail (type_at xs v))))
narrowed (Call v args sig) = and_then (each_typed args sig.args) (meets v (λ xs. sig.result))
narrowed (Builtin v args ts f) = and_then (each_typed args ts) (transferred f v args)
