-- What a constraint says of values: which assignments of values to slots satisfy it.
use Rattle.std.specs.Prelude.{◌≡◌, ℕ, suc, ℤ, pos, ◌⊎◌, List, [], ◌∷◌, Some, codes}
use Rattle.type_lattice_model.specs.Values.{Value, int, float, atom, cons, tuple, Values, no_value, and_value}
use Rattle.type_lattice_model.specs.Parts.{value_at}
use Rattle.type_lattice.specs.Types.{HasType, HasTypes}
use Rattle.cons_tree.specs.Environments.{Assignment}
use Rattle.cons_tree.specs.Constraints.{Cons, ConsList, only, all_of, any_of, no_cons, and_cons}
use Rattle.cons_tree.specs.declared.parts.Part.{Part}
use Rattle.cons_tree.specs.declared.parts.Part.TheVariants.{Bound, Equal, Tuple, Cons as cons_of, Builtin, Call}
use Rattle.cons_tree.specs.declared.parts.Transfer.{Transfer}
use Rattle.cons_tree.specs.declared.parts.Transfer.TheVariants.{Plain, Arith, Abs, Head, Tail, Element, Test, TestSome, Same, Differ, Never}

-- the values of some slots
abbrev pub values_of : Assignment → List ℕ → Values
values_of a [] = no_value
values_of a (s ∷ ss) = and_value (a s) (values_of a ss)

-- the value is an integer, one from 0 on, or a float
abbrev pub IsInteger : Value → Type 0
IsInteger v = (n : ℤ) × (v ≡ int n)

abbrev pub IsNatural : Value → Type 0
IsNatural v = (n : ℕ) × (v ≡ int (pos n))

abbrev pub IsFloat : Value → Type 0
IsFloat v = (s : List ℕ) × (v ≡ float s)

-- all of the values are integers, and one of them is a float
abbrev pub AreIntegers : Values → Type 0
AreIntegers no_value = Unit {0}
AreIntegers (and_value v vs) = IsInteger v × AreIntegers vs

abbrev pub HaveFloat : Values → Type 0
HaveFloat no_value = ⊥
HaveFloat (and_value v vs) = IsFloat v ⊎ HaveFloat vs

abbrev pub true_value : Value
true_value = atom (codes "true")

abbrev pub false_value : Value
false_value = atom (codes "false")

-- the value says whether something is so, or whether it is not
abbrev pub Tells : Value → Type 0 → Type 0
Tells v P = (P × (v ≡ true_value)) ⊎ ((P → ⊥) × (v ≡ false_value))

abbrev pub Denies : Value → Type 0 → Type 0
Denies v P = (P × (v ≡ false_value)) ⊎ ((P → ⊥) × (v ≡ true_value))

-- what a transfer says of the arguments and the value
abbrev pub SatTransfer : Transfer → Values → Value → Type 0
SatTransfer (Plain t) vs v = HasType v t
SatTransfer Arith vs v = (AreIntegers vs × IsInteger v) ⊎ (HaveFloat vs × IsFloat v)
SatTransfer Abs (and_value x vs) v = (IsInteger x × IsNatural v) ⊎ (IsFloat x × IsFloat v)
SatTransfer Head (and_value x vs) v = (t : Value) × (x ≡ cons v t)
SatTransfer Tail (and_value x vs) v = (h : Value) × (x ≡ cons h v)
SatTransfer Element (and_value i (and_value x vs)) v = (n : ℕ) × (i ≡ int (pos (suc n))) × ((es : Values) × (x ≡ tuple es) × (value_at es n ≡ Some v))
SatTransfer (Test t) (and_value x vs) v = Tells v (HasType x t)
SatTransfer (TestSome t) (and_value x vs) v = (HasType x t × (v ≡ true_value)) ⊎ (v ≡ false_value)
SatTransfer Same (and_value x (and_value y vs)) v = Tells v (x ≡ y)
SatTransfer Differ (and_value x (and_value y vs)) v = Denies v (x ≡ y)
SatTransfer Never vs v = ⊥
SatTransfer f vs v = ⊥

-- what a part says
abbrev pub SatPart : Part → Assignment → Type 0
SatPart (Bound v t) a = HasType (a v) t
SatPart (Equal v w) a = a v ≡ a w
SatPart (Tuple v ws) a = a v ≡ tuple (values_of a ws)
SatPart (cons_of v h t) a = a v ≡ cons (a h) (a t)
SatPart (Call v args sig) a = HasTypes (values_of a args) sig.args × HasType (a v) sig.result
SatPart (Builtin v args ts f) a = HasTypes (values_of a args) ts × SatTransfer f (values_of a args) (a v)

-- what a constraint says, in whatever sense its parts say it: all of them, or at least one
module _ {P : Type 0} (Holds : P → Type 0) where
  abbrev mutual
    pub Satisfied : Cons P → Type 0
    Satisfied (only p) = Holds p
    Satisfied (all_of cs) = SatisfiedEach cs
    Satisfied (any_of cs) = SatisfiedSome cs

    pub SatisfiedEach : ConsList P → Type 0
    SatisfiedEach no_cons = Unit {0}
    SatisfiedEach (and_cons c cs) = Satisfied c × SatisfiedEach cs

    pub SatisfiedSome : ConsList P → Type 0
    SatisfiedSome no_cons = ⊥
    SatisfiedSome (and_cons c cs) = Satisfied c ⊎ SatisfiedSome cs

-- the assignment satisfies the constraint
abbrev pub Sat : Cons Part → Assignment → Type 0
Sat c a = Satisfied (λ p. SatPart p a) c
