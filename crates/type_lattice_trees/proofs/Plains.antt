-- What it says of a plain part that a test of the code is true.
use Rattle.std.proofs.Common.{◌≡◌, ◌↔◌, IsTrue, ℕ, ◌==◌, Bool, true, false, ◌&&◌, not, Bor, List, Option, Some, is_some, inl, inr, refl, sym, ap, ◌∙◌, true≢false, arith}
use Rattle.std.specs.Cmp.{booleans_Decides}
use Rattle.std.specs.Option.{option_copied, option_eq}
use Rattle.std.proofs.Math.Bool.{beq}
use Rattle.std.proofs.lemmas.Bool.Decides.{Decides-and, Decides-at, Decides-eqb, Decides-like}
use Rattle.std.proofs.lemmas.Bool.{or_right, or_left, or_cases}
use Rattle.type_kinds.proofs.Truths.{same_tests}
use borrow.Author.Tests.{eqb-true, eq-eqb}
use Rattle.type_kinds_sets.specs.Names as names
use Rattle.type_kinds_sets.specs.Names.{Name, Names, every}
use Rattle.type_kinds_sets.specs.Numbers as numbers
use Rattle.type_kinds_sets.specs.Numbers.{Numbers}
use Rattle.type_kinds_sets.specs.BitLengths as bit_lengths
use Rattle.type_kinds_sets.specs.declared.ends.Low.{Low}
use Rattle.type_kinds_sets.specs.declared.ends.Low.TheVariants.{Min}
use Rattle.type_kinds_sets.specs.declared.ends.High.{High}
use Rattle.type_kinds_sets.specs.declared.ends.High.TheVariants.{Max}
use Rattle.type_kinds_sets.specs.declared.bits.Bits.{Bits}
use Rattle.type_kinds_sets.specs.declared.bits.Bits.TheVariants.{Any}
use Rattle.type_kinds_sets.specs.contracts.ends.LowPartialEq.TheImpl as low
use Rattle.type_kinds_sets.specs.contracts.ends.HighPartialEq.TheImpl as high
use Rattle.type_kinds_sets.specs.contracts.bits.BitsPartialEq.TheImpl as bits
use Rattle.type_kinds_sets.proofs.NumberLaws.{between-same}
use Rattle.type_lattice_model.specs.Shapes.{Flag, Flags, Functions, no_function, of_arity, all_functions, PlainParts}
use Rattle.type_lattice_model.specs.HasType.{has_flag, has_arity}
use Rattle.type_lattice_model.specs.Operations.{flags_join, plain_all, all_flags}
use Rattle.type_lattice_model.specs.ValueShapes.{an_int, an_atom, some_bits, of_flag, a_function, PlainBelow}
use Rattle.type_lattice_model.proofs.PlainLaws.{same_flags, has_flag-join, same_functions}
use Rattle.type_lattice_model.proofs.TableLaws.{some-none}
use Rattle.type_lattice_trees.specs.declared.plain.FlagSet.{FlagSet}
use Rattle.type_lattice_trees.specs.declared.plain.FunSet.{FunSet}
use Rattle.type_lattice_trees.specs.declared.plain.FunSet.TheVariants as fun
use Rattle.type_lattice_trees.specs.contracts.plain.FunSetPartialEq.TheImpl as fun_eq
use Rattle.type_lattice_trees.specs.Plains.{flags_of, functions_of}

-- ---- a test of several parts, each of which is looked at where the one before holds

both_tell : {P Q : Type 0} (a v : Bool) → IsTrue a ↔ P → (a ≡ true → IsTrue v ↔ Q) → (a ≡ false → v ≡ false) → IsTrue v ↔ (P × Q)
both_tell true v p f g = (λ h. (p.0 refl, (f refl).0 h), λ h. (f refl).1 h.1)
both_tell false v p f g = (λ h. absurd (true≢false (sym h ∙ g refl)), λ h. absurd (true≢false (sym (p.1 h.0))))

pub five_tell : {P Q R S T : Type 0} (a v w x y : Bool) → IsTrue a ↔ P → (a ≡ true → IsTrue v ↔ Q) → (a ≡ false → v ≡ false) → (v ≡ true → IsTrue w ↔ R) → (v ≡ false → w ≡ false)
    → (w ≡ true → IsTrue x ↔ S) → (w ≡ false → x ≡ false) → (x ≡ true → IsTrue y ↔ T) → (x ≡ false → y ≡ false) → IsTrue y ↔ ((((P × Q) × R) × S) × T)
five_tell a v w x y p f g h i j k l m = both_tell x y (both_tell w x (both_tell v w (both_tell a v p f g) h i) j k) l m

-- ---- inclusion

abbrev pub FlagsBelow : Flags → Flags → Type 0
FlagsBelow k l = (x : Flag) → has_flag k x ≡ true → has_flag l x ≡ true

abbrev pub FunctionsBelow : Functions → Functions → Type 0
FunctionsBelow f g = (n : ℕ) → has_arity f n ≡ true → has_arity g n ≡ true

abbrev flags_test : FlagSet → FlagSet → Bool
flags_test j l = beq j.float l.float && (beq j.pid l.pid && (beq j.port l.port && (beq j.reference l.reference && (beq j.nil l.nil && beq j.map l.map))))

-- flags are the same where each of the six tests finds them so
flags_equal : (j l : FlagSet) → IsTrue (flags_test j l) ↔ (flags_of j ≡ flags_of l)
flags_equal j l =
    Decides-like (flags_test j l) (λ h i. record { float = h.0 i; pid = h.1.0 i; port = h.1.1.0 i; reference = h.1.1.1.0 i; nil = h.1.1.1.1.0 i; map = h.1.1.1.1.1 i })
    (λ e. (ap (λ k. k.float) e, (ap (λ k. k.pid) e, (ap (λ k. k.port) e, (ap (λ k. k.reference) e, (ap (λ k. k.nil) e, ap (λ k. k.map) e))))))
    (Decides-and _ _ (booleans_Decides j.float l.float) (Decides-and _ _ (booleans_Decides j.pid l.pid)
    (Decides-and _ _ (booleans_Decides j.port l.port) (Decides-and _ _ (booleans_Decides j.reference l.reference) (Decides-and _ _ (booleans_Decides j.nil l.nil) (booleans_Decides j.map l.map))))))

-- flags are among others where the join of both is the others
join-below : (k l : Flags) → flags_join k l ≡ l → FlagsBelow k l
join-below k l e x h = sym (ap (λ m. has_flag m x) e) ∙ has_flag-join k l x ∙ or_left (has_flag k x) (has_flag l x) h

below-join : (k l : Flags) → FlagsBelow k l → flags_join k l ≡ l
below-join k l f = same_flags (flags_join k l) l (λ x. same_tests (has_flag (flags_join k l) x) (has_flag l x) (λ h. elim (or_cases (has_flag k x) (has_flag l x) (sym (has_flag-join k l x) ∙ h)) [ inl y ↦ f x y | inr y ↦ y ])
    (λ h. has_flag-join k l x ∙ or_right (has_flag k x) (has_flag l x) h))

pub flags_below : (j k l : FlagSet) (b : Bool) → flags_of j ≡ flags_join (flags_of k) (flags_of l) → b ≡ flags_test j l → IsTrue b ↔ FlagsBelow (flags_of k) (flags_of l)
flags_below j k l b e f =
    Decides-like b (λ h. join-below (flags_of k) (flags_of l) (sym e ∙ h)) (λ h. e ∙ below-join (flags_of k) (flags_of l) h) (Decides-at b (flags_test j l) f (flags_equal j l))

pub arities_below : (f g : Functions) (m n : ℕ) → f ≡ of_arity m → g ≡ of_arity n → IsTrue (m == n) ↔ FunctionsBelow f g
arities_below f g m n d e =
    Decides-like (m == n) (λ h k i. ap (λ x. has_arity x k) (e ∙ ap of_arity (sym h) ∙ sym d) ∙ i) (λ h. sym (eqb-true n m (sym (ap (λ x. has_arity x m) e) ∙ h m (ap (λ x. has_arity x m) d ∙ eq-eqb m m refl))))
    (Decides-eqb m n)

pub arity-no_function : (f g : Functions) (m : ℕ) → f ≡ of_arity m → g ≡ no_function → IsTrue false ↔ FunctionsBelow f g
arity-no_function f g m d e = (λ h. absurd (true≢false (sym h)), λ h. sym (ap (λ x. has_arity x m) e) ∙ h m (ap (λ x. has_arity x m) d ∙ eq-eqb m m refl))

pub functions_all : (f : FunSet) (b : Bool) → b ≡ (fun_eq.ghosts).eq f fun.Every → IsTrue b ↔ (functions_of f ≡ all_functions)
functions_all x0 x1 x2 = grind arith

every_below : (f g : Functions) → f ≡ all_functions → (g ≡ all_functions) ↔ FunctionsBelow f g
every_below f g d = (λ h n i. ap (λ x. has_arity x n) h, λ h. sym (same_functions f g h (λ n i. ap (λ x. has_arity x n) d)) ∙ d)

pub every-below : (f g : FunSet) (b : Bool) → f ≡ fun.Every → b ≡ (fun_eq.ghosts).eq g fun.Every → IsTrue b ↔ FunctionsBelow (functions_of f) (functions_of g)
every-below f g b d e =
    let t = functions_all g b e in
    let u = every_below (functions_of f) (functions_of g) (ap functions_of d) in
    (λ h. u.0 (t.0 h), λ h. t.1 (u.1 h))

abbrev pub PartsBelow : PlainParts → PlainParts → Type 0
PartsBelow p q = (((names.Below p.atoms q.atoms × numbers.Below p.ints q.ints) × bit_lengths.Below p.bits q.bits) × FlagsBelow p.flags q.flags) × FunctionsBelow p.functions q.functions

parts-below : (p q : PlainParts) → PartsBelow p q → PlainBelow p q
parts-below x0 x1 x2 x3 = grind arith

below-parts : (p q : PlainParts) → PlainBelow p q → PartsBelow p q
below-parts p q k = ((((λ a. k (an_atom a), λ n. k (an_int n)), λ n. k (some_bits n)), λ x. k (of_flag x)), λ n. k (a_function n))

-- what holds of the parts that are kept holds of what they stand for
pub plain_below : (p q s t : PlainParts) (b : Bool) → p ≡ s → q ≡ t → IsTrue b ↔ PartsBelow p q → IsTrue b ↔ PlainBelow s t
plain_below p q s t b d e h = grind (arith, Decides-like, parts-below, below-parts)

-- ---- every value

low_is : (l : Low) → IsTrue ((low.ghosts).eq l Min) ↔ (l ≡ Min)
low_is x0 = grind arith

high_is : (h : High) → IsTrue ((high.ghosts).eq h Max) ↔ (h ≡ Max)
high_is x0 = grind arith

abbrev ends_test : Option (Low × High) → Bool
ends_test e = option_eq (λ x y. (low.ghosts).eq x.0 y.0 && (high.ghosts).eq x.1 y.1) e (Some (Min, Max))

pub ints_all : (s : Numbers) (e : Option (Low × High)) (b : Bool) → e ≡ numbers.ends_of s → b ≡ ends_test e → IsTrue b ↔ (s ≡ numbers.all)
ints_all (numbers.some xs k) e b f g = (λ h. absurd (true≢false (sym h ∙ g ∙ ap ends_test f)), λ h. absurd (some-none (Min, Max) (sym (ap numbers.ends_of h))))
ints_all (numbers.between l h k) e b f g =
    Decides-like b (λ x. between-same l Min h Max k refl x.0 x.1) (λ x. (ap numbers.low_end x, ap numbers.high_end x))
    (Decides-at b ((low.ghosts).eq l Min && (high.ghosts).eq h Max) (g ∙ ap ends_test f) (Decides-and _ _ (low_is l) (high_is h)))

pub atoms_all : (s : Names) (m : Option (Bor (List Name))) (b : Bool) → option_copied m ≡ names.members_of s → is_some m ≡ not b → IsTrue b ↔ (s ≡ every)
atoms_all x0 x1 x2 x3 x4 = grind (arith, some-none)

pub bits_all : (s : Bits) (b : Bool) → b ≡ (bits.ghosts).eq s Any → IsTrue b ↔ (s ≡ Any)
bits_all x0 x1 x2 = grind arith

abbrev pub PartsAll : PlainParts → Type 0
PartsAll p = ((((p.atoms ≡ every) × (p.ints ≡ numbers.all)) × (p.bits ≡ Any)) × (p.flags ≡ all_flags)) × (p.functions ≡ all_functions)

pub plain_is_all : (p s : PlainParts) (b : Bool) → p ≡ s → IsTrue b ↔ PartsAll p → IsTrue b ↔ (s ≡ plain_all)
plain_is_all p s b d h = grind (arith, Decides-like)
