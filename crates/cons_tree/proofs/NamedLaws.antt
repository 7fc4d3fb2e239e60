-- The types that narrowing names: they rise with the types that they are made of, and have what transfers say.
use Rattle.std.proofs.Common.{◌≡◌, ℕ, ℤ, pos, suc, Bool, true, false, not, cond, ◌&&◌, List, [], ◌∷◌, Some, refl, sym, ap, ◌∙◌, subst, arith, inl, inr, ◌⊎◌, true≢false}
use Rattle.std.specs.Prelude.{◌||◌, codes}
use Rattle.std.specs.List.{list_any, list_all}
use Rattle.std.proofs.lemmas.Bool.{le-leb, or_right, not-true, or_left}
use Rattle.type_kinds.proofs.Truths.{first, second}
use Rattle.type_kinds_sets.specs.Names as names
use Rattle.type_kinds_sets.specs.Names.{Name, Names}
use Rattle.type_kinds_sets.specs.Numbers as numbers
use Rattle.type_kinds_sets.specs.Numbers.{Numbers}
use Rattle.type_kinds_sets.specs.declared.ends.Low.TheVariants.{Min, Zero}
use Rattle.type_kinds_sets.specs.declared.ends.High.TheVariants.{Max}
use Rattle.type_kinds_sets.proofs.NameLaws.{has-one}
use Rattle.type_kinds_sets.proofs.NumberLaws.{not_listed}
use Rattle.type_lattice_model.specs.Parts.{value_at}
use Rattle.type_lattice_model.specs.Values.{Value, Values, no_value, and_value, int, atom, float, tuple as tuple_value}
use Rattle.type_lattice.specs.Types.{Type4, HasType, HasTypes, Below, AreBelow, none, is_none, meet}
use Rattle.type_lattice.specs.Inclusion.{leq}
use Rattle.type_lattice.specs.Elements.{ints_of}
use Rattle.type_lattice.specs.Kinds.{HasAtom}
use Rattle.cons_tree.specs.Facts.{TypeFacts}
use Rattle.cons_tree.specs.Named.{integers, naturals, floats, just_true, just_false, truths, has_integer, has_float, where_so, arithmetic, absolute, positions, selected, tested, tested_some, same_values, other_values}
use Rattle.cons_tree.specs.Satisfied.{IsInteger, IsNatural, IsFloat, AreIntegers, HaveFloat, true_value, false_value, Tells, Denies}
use Rattle.cons_tree.proofs.StepLaws.{none_under, not_none}

-- ---- tests of all types and of some

all_grows : (p : Type4 → Bool) → ((s t : Type4) → Below s t → p s ≡ true → p t ≡ true) → (ss ts : List Type4) → AreBelow ss ts → list_all p ss ≡ true → list_all p ts ≡ true
all_grows p grows [] [] h e = refl
all_grows p grows [] (t ∷ ts) h e = absurd h
all_grows p grows (s ∷ ss) [] h e = absurd h
all_grows p grows (s ∷ ss) (t ∷ ts) h e =
    ap (λ b. b && list_all p ts) (grows s t h.0 (first (p s) (list_all p ss) e)) ∙ all_grows p grows ss ts h.1 (second (p s) (list_all p ss) e)

any_grows : (p : Type4 → Bool) → ((s t : Type4) → Below s t → p s ≡ true → p t ≡ true) → (ss ts : List Type4) → AreBelow ss ts → list_any p ss ≡ true → list_any p ts ≡ true
any_grows p grows [] ts h e = absurd (true≢false (sym e))
any_grows p grows (s ∷ ss) [] h e = absurd h
any_grows p grows (s ∷ ss) (t ∷ ts) h e = by (p s) refl e (λ i. any_grows p grows ss ts h.1 i)
  where
    by : (b : Bool) → p s ≡ b → (b || list_any p ss) ≡ true → (list_any p ss ≡ true → list_any p ts ≡ true) → (p t || list_any p ts) ≡ true
    by true k i more = or_left (p t) (list_any p ts) (grows s t h.0 k)
    by false k i more = or_right (p t) (list_any p ts) (more i)

module _ (F : TypeFacts) where
  where_grows : (b c : Bool) (s t : Type4) → (b ≡ true → c ≡ true) → Below s t → Below (where_so b s) (where_so c t)
  where_grows true true s t h k = k
  where_grows true false s t h k = absurd (true≢false (sym (h refl)))
  where_grows false c s t h k = λ v i. absurd (F.empty v i)

  where_has : (b : Bool) (t : Type4) (v : Value) → b ≡ true → HasType v t → HasType v (where_so b t)
  where_has b t v e h = subst (λ c. HasType v (where_so c t)) (sym e) h

  -- ---- numbers

  has_int : (t : Type4) (n : ℤ) → HasType (int n) t → has_integer t ≡ true
  unfolding has_integer
  has_int t n h = by (numbers.is_none (ints_of t)) refl
    where
      by : (b : Bool) → numbers.is_none (ints_of t) ≡ b → not b ≡ true
      by true e = absurd (true≢false (sym ((F.ints_are t n).0 h) ∙ ap (λ s. numbers.has s n) (F.no_number (ints_of t) e)))
      by false e = refl

  some_int : (t : Type4) → has_integer t ≡ true → (n : ℤ) × HasType (int n) t
  unfolding has_integer
  some_int t e =
      let it = F.some_number (ints_of t) (not-true (numbers.is_none (ints_of t)) e) in
      (it.0, (F.ints_are t it.0).1 it.1)

  integer_grows : (s t : Type4) → Below s t → has_integer s ≡ true → has_integer t ≡ true
  integer_grows s t h e = let it = some_int s e in has_int t it.0 (h (int it.0) it.1)

  float_grows : (s t : Type4) → Below s t → has_float s ≡ true → has_float t ≡ true
  unfolding has_float
  float_grows s t h e = by (is_none (meet t floats)) refl
    where
      by : (b : Bool) → is_none (meet t floats) ≡ b → not b ≡ true
      by true k = absurd (true≢false (sym (none_under F (meet s floats) (meet t floats) (F.meet_grows s floats t floats h (λ v i. i)) k) ∙ not-true (is_none (meet s floats)) e))
      by false k = refl

  integer_in : (v : Value) → IsInteger v → HasType v integers
  unfolding integers
  integer_in v h =
      let all : numbers.has (numbers.range Min Max) h.0 ≡ true = ap (λ s. numbers.has s h.0) (numbers.range-yes Min Max refl) in
      subst (λ w. HasType w integers) (sym h.1) ((F.ints (numbers.range Min Max) (int h.0)).1 all)

  natural_in : (v : Value) → IsNatural v → HasType v naturals
  unfolding naturals
  natural_in v h =
      let all : numbers.has (numbers.range Zero Max) (pos h.0) ≡ true = ap (λ s. numbers.has s (pos h.0)) (numbers.range-yes Zero Max refl) ∙ ap (λ b. b && true) (le-leb 0 h.0 (omega arith)) in
      subst (λ w. HasType w naturals) (sym h.1) ((F.ints (numbers.range Zero Max) (int (pos h.0))).1 all)

  float_in : (v : Value) → IsFloat v → HasType v floats
  unfolding floats
  float_in v h = subst (λ w. HasType w floats) (sym h.1) ((F.floats (float h.0)).1 tt)

  has_some_float : (t : Type4) (v : Value) → IsFloat v → HasType v t → has_float t ≡ true
  unfolding has_float
  has_some_float t v f h = ap not (not_none F (meet t floats) v ((F.both t floats v).1 (h, float_in v f)))

  has_some_integer : (t : Type4) (v : Value) → IsInteger v → HasType v t → has_integer t ≡ true
  has_some_integer t v i h = has_int t i.0 (subst (λ w. HasType w t) i.1 h)

  all_integers : (vs : Values) (ts : List Type4) → HasTypes vs ts → AreIntegers vs → list_all has_integer ts ≡ true
  all_integers no_value [] h k = refl
  all_integers no_value (t ∷ ts) h k = absurd h
  all_integers (and_value v vs) [] h k = absurd h
  all_integers (and_value v vs) (t ∷ ts) h k =
      ap (λ b. b && list_all has_integer ts) (has_some_integer t v k.0 h.0) ∙ all_integers vs ts h.1 k.1

  some_floats : (vs : Values) (ts : List Type4) → HasTypes vs ts → HaveFloat vs → list_any has_float ts ≡ true
  some_floats no_value ts h k = absurd k
  some_floats (and_value v vs) [] h k = absurd h
  some_floats (and_value v vs) (t ∷ ts) h (inl k) = or_left (has_float t) (list_any has_float ts) (has_some_float t v k h.0)
  some_floats (and_value v vs) (t ∷ ts) h (inr k) = or_right (has_float t) (list_any has_float ts) (some_floats vs ts h.1 k)

  pub arithmetic_grows : (ss ts : List Type4) → AreBelow ss ts → Below (arithmetic ss) (arithmetic ts)
  unfolding arithmetic
  arithmetic_grows ss ts h =
      F.join_grows (where_so (list_all has_integer ss) integers) (where_so (list_any has_float ss) floats) (where_so (list_all has_integer ts) integers) (where_so (list_any has_float ts) floats)
      (where_grows (list_all has_integer ss) (list_all has_integer ts) integers integers (all_grows has_integer integer_grows ss ts h) (λ v k. k))
      (where_grows (list_any has_float ss) (list_any has_float ts) floats floats (any_grows has_float float_grows ss ts h) (λ v k. k))

  pub arithmetic_has : (vs : Values) (ts : List Type4) (v : Value) → HasTypes vs ts → (AreIntegers vs × IsInteger v) ⊎ (HaveFloat vs × IsFloat v) → HasType v (arithmetic ts)
  unfolding arithmetic
  arithmetic_has vs ts v h (inl k) =
      F.left (where_so (list_all has_integer ts) integers) (where_so (list_any has_float ts) floats) v (where_has (list_all has_integer ts) integers v (all_integers vs ts h k.0) (integer_in v k.1))
  arithmetic_has vs ts v h (inr k) =
      F.right (where_so (list_all has_integer ts) integers) (where_so (list_any has_float ts) floats) v (where_has (list_any has_float ts) floats v (some_floats vs ts h k.0) (float_in v k.1))

  pub absolute_grows : (s t : Type4) → Below s t → Below (absolute s) (absolute t)
  unfolding absolute
  absolute_grows s t h =
      F.join_grows (where_so (has_integer s) naturals) (where_so (has_float s) floats) (where_so (has_integer t) naturals) (where_so (has_float t) floats)
      (where_grows (has_integer s) (has_integer t) naturals naturals (integer_grows s t h) (λ v k. k))
      (where_grows (has_float s) (has_float t) floats floats (float_grows s t h) (λ v k. k))

  pub absolute_has : (x : Value) (t : Type4) (v : Value) → HasType x t → (IsInteger x × IsNatural v) ⊎ (IsFloat x × IsFloat v) → HasType v (absolute t)
  unfolding absolute
  absolute_has x t v h (inl k) =
      F.left (where_so (has_integer t) naturals) (where_so (has_float t) floats) v (where_has (has_integer t) naturals v (has_some_integer t x k.0 h) (natural_in v k.1))
  absolute_has x t v h (inr k) =
      F.right (where_so (has_integer t) naturals) (where_so (has_float t) floats) v (where_has (has_float t) floats v (has_some_float t x k.0 h) (float_in v k.1))

  -- ---- elements

  every_position : (n : ℤ) → numbers.has (numbers.range Min Max) n ≡ true
  every_position n = ap (λ s. numbers.has s n) (numbers.range-yes Min Max refl)

  positions_above : (s : Numbers) → numbers.Below s (positions s)
  positions_above (numbers.some xs e) n h = h
  positions_above (numbers.between l g e) n h = every_position n

  -- no listed set contains an interval, since an interval has more than any list
  positions_grow : (s t : Numbers) → numbers.Below s t → numbers.Below (positions s) (positions t)
  positions_grow (numbers.some xs e) (numbers.some ys f) h = h
  positions_grow s (numbers.between m k f) h = λ n _. every_position n
  positions_grow (numbers.between l g e) (numbers.some ys f) h = absurd (not_listed l g e ys f h)

  ints_grow : (s t : Type4) → Below s t → numbers.Below (ints_of s) (ints_of t)
  ints_grow s t h n k = (F.ints_are t n).0 (h (int n) ((F.ints_are s n).1 k))

  pub selected_grows : (i t j u : Type4) → Below i j → Below t u → Below (selected i t) (selected j u)
  unfolding selected
  selected_grows i t j u h k = F.elements_grow t u (positions (ints_of i)) (positions (ints_of j)) k (positions_grow (ints_of i) (ints_of j) (ints_grow i j h))

  pub selected_has : (i t : Type4) (n : ℕ) (es : Values) (v : Value) → HasType (int (pos (suc n))) i → HasType (tuple_value es) t → value_at es n ≡ Some v → HasType v (selected i t)
  unfolding selected
  selected_has i t n es v h k e = F.elements_have t (positions (ints_of i)) es n v k e (positions_above (ints_of i) (pos (suc n)) ((F.ints_are i (pos (suc n))).0 h))

  -- ---- truth

  true_in : HasType true_value just_true
  unfolding just_true
  true_in = (F.atoms (names.listed (codes "true" ∷ [])) true_value).1 ((has-one (codes "true") (codes "true")).1 refl)

  false_in : HasType false_value just_false
  unfolding just_false
  false_in = (F.atoms (names.listed (codes "false" ∷ [])) false_value).1 ((has-one (codes "false") (codes "false")).1 refl)

  an_atom : (v : Value) (s : Names) → HasAtom v s → (a : Name) × ((v ≡ atom a) × (names.has s a ≡ true))
  an_atom (atom a) s h = (a, (refl, h))
  an_atom v s h = absurd h

  -- the values of a type below `true`, or below `false`
  pub only_true : (t : Type4) (v : Value) → leq t just_true ≡ true → HasType v t → v ≡ true_value
  unfolding just_true
  only_true t v e h =
      let it = an_atom v (names.listed (codes "true" ∷ [])) ((F.atoms (names.listed (codes "true" ∷ [])) v).0 ((F.tells_below t just_true).0 e v h)) in
      it.1.0 ∙ ap atom ((has-one (codes "true") it.0).0 it.1.1)

  pub only_false : (t : Type4) (v : Value) → leq t just_false ≡ true → HasType v t → v ≡ false_value
  unfolding just_false
  only_false t v e h =
      let it = an_atom v (names.listed (codes "false" ∷ [])) ((F.atoms (names.listed (codes "false" ∷ [])) v).0 ((F.tells_below t just_false).0 e v h)) in
      it.1.0 ∙ ap atom ((has-one (codes "false") it.0).0 it.1.1)

  no_below : Below just_false truths
  unfolding truths
  no_below = F.left just_false just_true

  yes_below : Below just_true truths
  unfolding truths
  yes_below = F.right just_false just_true

  true_among : (v : Value) → v ≡ true_value → HasType v just_true
  true_among v e = subst (λ w. HasType w just_true) (sym e) true_in

  false_among : (v : Value) → v ≡ false_value → HasType v just_false
  false_among v e = subst (λ w. HasType w just_false) (sym e) false_in

  told_among : (v : Value) (P : Type 0) → Tells v P → HasType v truths
  told_among v P (inl h) = yes_below v (true_among v h.1)
  told_among v P (inr h) = no_below v (false_among v h.1)

  -- an answer that is settled for the larger type is settled for the smaller one
  settled_grows : (b c : Bool) (p : Type4) → Below p truths → (c ≡ true → b ≡ true) → Below (cond b p truths) (cond c p truths)
  settled_grows true true p h k = λ v i. i
  settled_grows true false p h k = h
  settled_grows false true p h k = absurd (true≢false (sym (k refl)))
  settled_grows false false p h k = λ v i. i

  -- types without a value in common
  apart : (s t : Type4) (v : Value) → is_none (meet s t) ≡ true → HasType v s → HasType v t → ⊥
  apart s t v e h k = F.empty v (subst (HasType v) ((F.tells_none (meet s t)).0 e) ((F.both s t v).1 (h, k)))

  apart_falls : (s t u w : Type4) → Below s u → Below t w → is_none (meet u w) ≡ true → is_none (meet s t) ≡ true
  apart_falls s t u w h k e = none_under F (meet s t) (meet u w) (F.meet_grows s t u w h k) e

  pub tested_grows : (t a b : Type4) → Below a b → Below (tested t a) (tested t b)
  unfolding tested
  tested_grows t a b h = empty (is_none a) refl
    where
      inside : (m l n k : Bool) → (n ≡ true → m ≡ true) → (k ≡ true → l ≡ true) → (m ≡ true → l ≡ true → ⊥) → Below (cond m just_false (cond l just_true truths)) (cond n just_false (cond k just_true truths))
      inside true l true k f g d = λ v i. i
      inside true l false true f g d = absurd (d refl (g refl))
      inside true l false false f g d = no_below
      inside false l true k f g d = absurd (true≢false (sym (f refl)))
      inside false true false true f g d = λ v i. i
      inside false true false false f g d = yes_below
      inside false false false true f g d = absurd (true≢false (sym (g refl)))
      inside false false false false f g d = λ v i. i

      full : is_none a ≡ false → (c : Bool) → is_none b ≡ c → Below (cond (is_none (meet a t)) just_false (cond (leq a t) just_true truths)) (cond c none (cond (is_none (meet b t)) just_false (cond (leq b t) just_true truths)))
      full e true i = absurd (true≢false (sym (none_under F a b h i) ∙ e))
      full e false i =
          inside (is_none (meet a t)) (leq a t) (is_none (meet b t)) (leq b t)
          (apart_falls a t b t h (λ v k. k))
          (λ k. (F.tells_below a t).1 (λ v j. (F.tells_below b t).0 k v (h v j)))
          (λ m l.
          let below = (F.tells_below a t).0 l in
          let is : a ≡ none = F.same a none (λ v j. absurd (apart a t v m j (below v j))) (λ v j. absurd (F.empty v j)) in
          true≢false (sym ((F.tells_none a).1 is) ∙ e))

      empty : (c : Bool) → is_none a ≡ c → Below (cond c none (cond (is_none (meet a t)) just_false (cond (leq a t) just_true truths))) (cond (is_none b) none (cond (is_none (meet b t)) just_false (cond (leq b t) just_true truths)))
      empty true e = λ v i. absurd (F.empty v i)
      empty false e = full e (is_none b) refl

  pub tested_has : (t a : Type4) (x v : Value) → HasType x a → Tells v (HasType x t) → HasType v (tested t a)
  unfolding tested
  tested_has t a x v h k =
      subst (λ b. HasType v (cond b none (cond (is_none (meet a t)) just_false (cond (leq a t) just_true truths)))) (sym (not_none F a x h)) (by (is_none (meet a t)) (leq a t) refl refl k)
    where
      by : (m l : Bool) → is_none (meet a t) ≡ m → leq a t ≡ l → Tells v (HasType x t) → HasType v (cond m just_false (cond l just_true truths))
      by true l e f (inl i) = absurd (apart a t x e h i.0)
      by true l e f (inr i) = false_among v i.1
      by false true e f (inl i) = true_among v i.1
      by false true e f (inr i) = absurd (i.0 ((F.tells_below a t).0 f x h))
      by false false e f i = told_among v (HasType x t) i

  pub tested_some_grows : (t a b : Type4) → Below a b → Below (tested_some t a) (tested_some t b)
  unfolding tested_some
  tested_some_grows t a b h = settled_grows (is_none (meet a t)) (is_none (meet b t)) just_false no_below (apart_falls a t b t h (λ v k. k))

  pub tested_some_has : (t a : Type4) (x v : Value) → HasType x a → (HasType x t × (v ≡ true_value)) ⊎ (v ≡ false_value) → HasType v (tested_some t a)
  unfolding tested_some
  tested_some_has t a x v h k = by (is_none (meet a t)) refl k
    where
      by : (m : Bool) → is_none (meet a t) ≡ m → (HasType x t × (v ≡ true_value)) ⊎ (v ≡ false_value) → HasType v (cond m just_false truths)
      by true e (inl i) = absurd (apart a t x e h i.0)
      by true e (inr i) = false_among v i
      by false e (inl i) = yes_below v (true_among v i.1)
      by false e (inr i) = no_below v (false_among v i)

  pub same_grows : (s t u w : Type4) → Below s u → Below t w → Below (same_values s t) (same_values u w)
  unfolding same_values
  same_grows s t u w h k = settled_grows (is_none (meet s t)) (is_none (meet u w)) just_false no_below (apart_falls s t u w h k)

  pub same_has : (s t : Type4) (x y v : Value) → HasType x s → HasType y t → Tells v (x ≡ y) → HasType v (same_values s t)
  unfolding same_values
  same_has s t x y v h k i = by (is_none (meet s t)) refl i
    where
      by : (m : Bool) → is_none (meet s t) ≡ m → Tells v (x ≡ y) → HasType v (cond m just_false truths)
      by true e (inl j) = absurd (apart s t y e (subst (λ z. HasType z s) j.0 h) k)
      by true e (inr j) = false_among v j.1
      by false e j = told_among v (x ≡ y) j

  pub other_grows : (s t u w : Type4) → Below s u → Below t w → Below (other_values s t) (other_values u w)
  unfolding other_values
  other_grows s t u w h k = settled_grows (is_none (meet s t)) (is_none (meet u w)) just_true yes_below (apart_falls s t u w h k)

  pub other_has : (s t : Type4) (x y v : Value) → HasType x s → HasType y t → Denies v (x ≡ y) → HasType v (other_values s t)
  unfolding other_values
  other_has s t x y v h k i = by (is_none (meet s t)) refl i
    where
      by : (m : Bool) → is_none (meet s t) ≡ m → Denies v (x ≡ y) → HasType v (cond m just_true truths)
      by true e (inl j) = absurd (apart s t y e (subst (λ z. HasType z s) j.0 h) k)
      by true e (inr j) = true_among v j.1
      by false e (inl j) = no_below v (false_among v j.1)
      by false e (inr j) = yes_below v (true_among v j.1)

  pub differ : true_value ≡ false_value → ⊥
  differ e = absurd cc
