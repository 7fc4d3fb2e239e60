-- Narrowing by a part: the rows of the table keep what every step owes, and each assignment that satisfies the part.
use Rattle.std.proofs.Common.{◌≡◌, ℕ, true, List, [], ◌∷◌, length, map, sym, ◌∙◌, subst, inl, inr, ◌⊎◌}
use Rattle.cons_tree.proofs.SlotLaws.{at_below}
use Rattle.type_lattice.specs.Types.{Type4, HasType, HasTypes, AreBelow, none, tuple, cons, elem, tail}
use Rattle.cons_tree.specs.Environments.{Types, Assignment, type_at, LiesIn}
use Rattle.cons_tree.specs.Facts.{TypeFacts}
use Rattle.cons_tree.specs.Named.{just_true, just_false, arithmetic, absolute, selected, tested, tested_some, same_values, other_values}
use Rattle.cons_tree.specs.Narrowing.{and_then, only_where, meets, alike, each_typed, each_projected, is_true, is_false, transferred, narrowed}
use Rattle.cons_tree.specs.Satisfied.{values_of, true_value, false_value, Tells, Denies, SatTransfer, SatPart}
use Rattle.cons_tree.specs.declared.parts.Part.{Part}
use Rattle.cons_tree.specs.declared.parts.Part.TheVariants.{Bound, Equal, Tuple, Cons, Builtin, Call}
use Rattle.cons_tree.specs.declared.parts.Transfer.{Transfer}
use Rattle.cons_tree.specs.declared.parts.Transfer.TheVariants.{Plain, Arith, Abs, Head, Tail, Element, Test, TestSome, Same, Differ, Never}
use Rattle.cons_tree.proofs.StepLaws.{IsLawful, Keeps, lawful_then, lawful_skip, lawful_where, lawful_meets, lawful_alike, lawful_typed}
use Rattle.cons_tree.proofs.StepLaws.{lawful_projected, keeps_then, keeps_where, keeps_meets, keeps_lowered, keeps_alike, keeps_typed, keeps_projected}
use Rattle.cons_tree.proofs.NamedLaws.{arithmetic_grows, arithmetic_has, absolute_grows, absolute_has, selected_grows, selected_has, only_true, only_false}
use Rattle.cons_tree.proofs.NamedLaws.{tested_grows, tested_has, tested_some_grows, tested_some_has, same_grows, same_has, other_grows, other_has, differ}

-- the types of some slots
types_below : (xs ys : Types) (ws : List ℕ) → AreBelow xs ys → AreBelow (map (type_at xs) ws) (map (type_at ys) ws)
types_below xs ys [] h = tt
types_below xs ys (w ∷ ws) h = (at_below xs ys w h, types_below xs ys ws h)

have_types : (a : Assignment) (xs : Types) (ws : List ℕ) → LiesIn a xs → HasTypes (values_of a ws) (map (type_at xs) ws)
have_types a xs [] l = tt
have_types a xs (w ∷ ws) l = (l w, have_types a xs ws l)

module _ (F : TypeFacts) where
  true_falls : (v : ℕ) (xs ys : Types) → AreBelow xs ys → is_true v ys ≡ true → is_true v xs ≡ true
  true_falls v xs ys h e = (F.tells_below (type_at xs v) just_true).1 (λ x k. (F.tells_below (type_at ys v) just_true).0 e x (at_below xs ys v h x k))

  false_falls : (v : ℕ) (xs ys : Types) → AreBelow xs ys → is_false v ys ≡ true → is_false v xs ≡ true
  false_falls v xs ys h e = (F.tells_below (type_at xs v) just_false).1 (λ x k. (F.tells_below (type_at ys v) just_false).0 e x (at_below xs ys v h x k))

  lawful_typed_where : (v a : ℕ) (t : Type4) → IsLawful (only_where (is_true v) (meets a (λ xs. t)))
  lawful_typed_where v a t = lawful_where (is_true v) (meets a (λ xs. t)) (true_falls v) (lawful_meets F a (λ xs. t) (λ xs ys h x k. k))

  lawful_transfer : (f : Transfer) (v : ℕ) (args : List ℕ) → IsLawful (transferred f v args)
  unfolding transferred
  lawful_transfer (Plain t) v args = lawful_meets F v (λ xs. t) (λ xs ys h x k. k)
  lawful_transfer Arith v args = lawful_meets F v (λ xs. arithmetic (map (type_at xs) args)) (λ xs ys h. arithmetic_grows F (map (type_at xs) args) (map (type_at ys) args) (types_below xs ys args h))
  lawful_transfer Abs v [] = lawful_skip
  lawful_transfer Abs v (a ∷ args) = lawful_meets F v (λ xs. absolute (type_at xs a)) (λ xs ys h. absolute_grows F (type_at xs a) (type_at ys a) (at_below xs ys a h))
  lawful_transfer Head v [] = lawful_skip
  lawful_transfer Head v (a ∷ args) = lawful_meets F v (λ xs. elem (type_at xs a)) (λ xs ys h. F.elem_grows (type_at xs a) (type_at ys a) (at_below xs ys a h))
  lawful_transfer Tail v [] = lawful_skip
  lawful_transfer Tail v (a ∷ args) = lawful_meets F v (λ xs. tail (type_at xs a)) (λ xs ys h. F.tail_grows (type_at xs a) (type_at ys a) (at_below xs ys a h))
  lawful_transfer Element v [] = lawful_skip
  lawful_transfer Element v (i ∷ []) = lawful_skip
  lawful_transfer Element v (i ∷ a ∷ args) =
      lawful_meets F v (λ xs. selected (type_at xs i) (type_at xs a)) (λ xs ys h. selected_grows F (type_at xs i) (type_at xs a) (type_at ys i) (type_at ys a) (at_below xs ys i h) (at_below xs ys a h))
  lawful_transfer (Test t) v [] = lawful_skip
  lawful_transfer (Test t) v (a ∷ args) =
      lawful_then (meets v (λ xs. tested t (type_at xs a))) (only_where (is_true v) (meets a (λ xs. t)))
      (lawful_meets F v (λ xs. tested t (type_at xs a)) (λ xs ys h. tested_grows F t (type_at xs a) (type_at ys a) (at_below xs ys a h)))
      (lawful_typed_where v a t)
  lawful_transfer (TestSome t) v [] = lawful_skip
  lawful_transfer (TestSome t) v (a ∷ args) =
      lawful_then (meets v (λ xs. tested_some t (type_at xs a))) (only_where (is_true v) (meets a (λ xs. t)))
      (lawful_meets F v (λ xs. tested_some t (type_at xs a)) (λ xs ys h. tested_some_grows F t (type_at xs a) (type_at ys a) (at_below xs ys a h)))
      (lawful_typed_where v a t)
  lawful_transfer Same v [] = lawful_skip
  lawful_transfer Same v (a ∷ []) = lawful_skip
  lawful_transfer Same v (a ∷ b ∷ args) =
      lawful_then (meets v (λ xs. same_values (type_at xs a) (type_at xs b))) (only_where (is_true v) (alike a b))
      (lawful_meets F v (λ xs. same_values (type_at xs a) (type_at xs b)) (λ xs ys h. same_grows F (type_at xs a) (type_at xs b) (type_at ys a) (type_at ys b) (at_below xs ys a h) (at_below xs ys b h)))
      (lawful_where (is_true v) (alike a b) (true_falls v) (lawful_alike F a b))
  lawful_transfer Differ v [] = lawful_skip
  lawful_transfer Differ v (a ∷ []) = lawful_skip
  lawful_transfer Differ v (a ∷ b ∷ args) =
      lawful_then (meets v (λ xs. other_values (type_at xs a) (type_at xs b))) (only_where (is_false v) (alike a b))
      (lawful_meets F v (λ xs. other_values (type_at xs a) (type_at xs b)) (λ xs ys h. other_grows F (type_at xs a) (type_at xs b) (type_at ys a) (type_at ys b) (at_below xs ys a h) (at_below xs ys b h)))
      (lawful_where (is_false v) (alike a b) (false_falls v) (lawful_alike F a b))
  lawful_transfer Never v args = lawful_meets F v (λ xs. none) (λ xs ys h x k. k)

  pub lawful_part : (p : Part) → IsLawful (narrowed p)
  unfolding narrowed
  lawful_part (Bound v t) = lawful_meets F v (λ xs. t) (λ xs ys h x k. k)
  lawful_part (Equal v w) = lawful_alike F v w
  lawful_part (Tuple v ws) =
      lawful_then (meets v (λ xs. tuple (map (type_at xs) ws))) (each_projected v (length ws) 1 ws)
      (lawful_meets F v (λ xs. tuple (map (type_at xs) ws)) (λ xs ys h. F.tuple_grows (map (type_at xs) ws) (map (type_at ys) ws) (types_below xs ys ws h)))
      (lawful_projected F v (length ws) 1 ws)
  lawful_part (Cons v h t) =
      lawful_then (meets v (λ xs. cons (type_at xs h) (type_at xs t) true)) (and_then (meets h (λ xs. elem (type_at xs v))) (meets t (λ xs. tail (type_at xs v))))
      (lawful_meets F v (λ xs. cons (type_at xs h) (type_at xs t) true) (λ xs ys l. F.cons_grows (type_at xs h) (type_at xs t) (type_at ys h) (type_at ys t) true (at_below xs ys h l) (at_below xs ys t l)))
      (lawful_then (meets h (λ xs. elem (type_at xs v))) (meets t (λ xs. tail (type_at xs v)))
      (lawful_meets F h (λ xs. elem (type_at xs v)) (λ xs ys l. F.elem_grows (type_at xs v) (type_at ys v) (at_below xs ys v l)))
      (lawful_meets F t (λ xs. tail (type_at xs v)) (λ xs ys l. F.tail_grows (type_at xs v) (type_at ys v) (at_below xs ys v l))))
  lawful_part (Call v args sig) =
      lawful_then (each_typed args sig.args) (meets v (λ xs. sig.result)) (lawful_typed F args sig.args) (lawful_meets F v (λ xs. sig.result) (λ xs ys h x k. k))
  lawful_part (Builtin v args ts f) =
      lawful_then (each_typed args ts) (transferred f v args) (lawful_typed F args ts) (lawful_transfer f v args)

  module _ (a : Assignment) where
    told_true : (v : ℕ) (xs : Types) (P : Type 0) → LiesIn a xs → is_true v xs ≡ true → Tells (a v) P → P
    told_true v xs P l e (inl h) = h.0
    told_true v xs P l e (inr h) = absurd (differ F (sym (only_true F (type_at xs v) (a v) e (l v)) ∙ h.1))

    told_false : (v : ℕ) (xs : Types) (P : Type 0) → LiesIn a xs → is_false v xs ≡ true → Denies (a v) P → P
    told_false v xs P l e (inl h) = h.0
    told_false v xs P l e (inr h) = absurd (differ F (sym h.1 ∙ only_false F (type_at xs v) (a v) e (l v)))

    keeps_transfer : (f : Transfer) (v : ℕ) (args : List ℕ) → SatTransfer f (values_of a args) (a v) → Keeps a (transferred f v args)
    unfolding transferred
    keeps_transfer (Plain t) v args h = keeps_meets F a v (λ xs. t) (λ xs l. h)
    keeps_transfer Arith v args h = keeps_meets F a v (λ xs. arithmetic (map (type_at xs) args)) (λ xs l. arithmetic_has F (values_of a args) (map (type_at xs) args) (a v) (have_types a xs args l) h)
    keeps_transfer Abs v [] h = absurd h
    keeps_transfer Abs v (x ∷ args) h = keeps_meets F a v (λ xs. absolute (type_at xs x)) (λ xs l. absolute_has F (a x) (type_at xs x) (a v) (l x) h)
    keeps_transfer Head v [] h = absurd h
    keeps_transfer Head v (x ∷ args) h =
        keeps_meets F a v (λ xs. elem (type_at xs x)) (λ xs l. ((F.cons_parts (type_at xs x) (a v) h.0).0 (subst (λ y. HasType y (type_at xs x)) h.1 (l x))).0)
    keeps_transfer Tail v [] h = absurd h
    keeps_transfer Tail v (x ∷ args) h =
        keeps_meets F a v (λ xs. tail (type_at xs x)) (λ xs l. ((F.cons_parts (type_at xs x) h.0 (a v)).0 (subst (λ y. HasType y (type_at xs x)) h.1 (l x))).1)
    keeps_transfer Element v [] h = absurd h
    keeps_transfer Element v (i ∷ []) h = absurd h
    keeps_transfer Element v (i ∷ x ∷ args) (n, e, (es, k, g)) =
        keeps_meets F a v (λ xs. selected (type_at xs i) (type_at xs x))
        (λ xs l. selected_has F (type_at xs i) (type_at xs x) n es (a v) (subst (λ y. HasType y (type_at xs i)) e (l i)) (subst (λ y. HasType y (type_at xs x)) k (l x)) g)
    keeps_transfer (Test t) v [] h = absurd h
    keeps_transfer (Test t) v (x ∷ args) h =
        keeps_then a (meets v (λ xs. tested t (type_at xs x))) (only_where (is_true v) (meets x (λ xs. t)))
        (keeps_meets F a v (λ xs. tested t (type_at xs x)) (λ xs l. tested_has F t (type_at xs x) (a x) (a v) (l x) h))
        (keeps_where a (is_true v) (meets x (λ xs. t)) (λ xs l e. keeps_lowered F a xs x t l (told_true v xs (HasType (a x) t) l e h)))
    keeps_transfer (TestSome t) v [] h = absurd h
    keeps_transfer (TestSome t) v (x ∷ args) h =
        keeps_then a (meets v (λ xs. tested_some t (type_at xs x))) (only_where (is_true v) (meets x (λ xs. t)))
        (keeps_meets F a v (λ xs. tested_some t (type_at xs x)) (λ xs l. tested_some_has F t (type_at xs x) (a x) (a v) (l x) h))
        (keeps_where a (is_true v) (meets x (λ xs. t)) (λ xs l e. keeps_lowered F a xs x t l (held xs l e h)))
      where
        held : (xs : Types) → LiesIn a xs → is_true v xs ≡ true → (HasType (a x) t × (a v ≡ true_value)) ⊎ (a v ≡ false_value) → HasType (a x) t
        held xs l e (inl k) = k.0
        held xs l e (inr k) = absurd (differ F (sym (only_true F (type_at xs v) (a v) e (l v)) ∙ k))
    keeps_transfer Same v [] h = absurd h
    keeps_transfer Same v (x ∷ []) h = absurd h
    keeps_transfer Same v (x ∷ y ∷ args) h =
        keeps_then a (meets v (λ xs. same_values (type_at xs x) (type_at xs y))) (only_where (is_true v) (alike x y))
        (keeps_meets F a v (λ xs. same_values (type_at xs x) (type_at xs y)) (λ xs l. same_has F (type_at xs x) (type_at xs y) (a x) (a y) (a v) (l x) (l y) h))
        (keeps_where a (is_true v) (alike x y) (λ xs l e. keeps_alike F a x y (told_true v xs (a x ≡ a y) l e h) xs l))
    keeps_transfer Differ v [] h = absurd h
    keeps_transfer Differ v (x ∷ []) h = absurd h
    keeps_transfer Differ v (x ∷ y ∷ args) h =
        keeps_then a (meets v (λ xs. other_values (type_at xs x) (type_at xs y))) (only_where (is_false v) (alike x y))
        (keeps_meets F a v (λ xs. other_values (type_at xs x) (type_at xs y)) (λ xs l. other_has F (type_at xs x) (type_at xs y) (a x) (a y) (a v) (l x) (l y) h))
        (keeps_where a (is_false v) (alike x y) (λ xs l e. keeps_alike F a x y (told_false v xs (a x ≡ a y) l e h) xs l))
    keeps_transfer Never v args h = absurd h

    pub keeps_part : (p : Part) → SatPart p a → Keeps a (narrowed p)
    unfolding narrowed
    keeps_part (Bound v t) h = keeps_meets F a v (λ xs. t) (λ xs l. h)
    keeps_part (Equal v w) h = keeps_alike F a v w h
    keeps_part (Tuple v ws) h =
        keeps_then a (meets v (λ xs. tuple (map (type_at xs) ws))) (each_projected v (length ws) 1 ws)
        (keeps_meets F a v (λ xs. tuple (map (type_at xs) ws)) (λ xs l. subst (λ x. HasType x (tuple (map (type_at xs) ws))) (sym h) (F.tuple_has (map (type_at xs) ws) (values_of a ws) (have_types a xs ws l))))
        (keeps_projected F a v ws h)
    keeps_part (Cons v h t) e =
        keeps_then a (meets v (λ xs. cons (type_at xs h) (type_at xs t) true)) (and_then (meets h (λ xs. elem (type_at xs v))) (meets t (λ xs. tail (type_at xs v))))
        (keeps_meets F a v (λ xs. cons (type_at xs h) (type_at xs t) true) (λ xs l. subst (λ x. HasType x (cons (type_at xs h) (type_at xs t) true)) (sym e) (F.cons_has (type_at xs h) (type_at xs t) true (a h) (a t) (l h) (l t))))
        (keeps_then a (meets h (λ xs. elem (type_at xs v))) (meets t (λ xs. tail (type_at xs v)))
        (keeps_meets F a h (λ xs. elem (type_at xs v)) (λ xs l. ((F.cons_parts (type_at xs v) (a h) (a t)).0 (subst (λ x. HasType x (type_at xs v)) e (l v))).0))
        (keeps_meets F a t (λ xs. tail (type_at xs v)) (λ xs l. ((F.cons_parts (type_at xs v) (a h) (a t)).0 (subst (λ x. HasType x (type_at xs v)) e (l v))).1)))
    keeps_part (Call v args sig) h =
        keeps_then a (each_typed args sig.args) (meets v (λ xs. sig.result)) (keeps_typed F a args sig.args h.0) (keeps_meets F a v (λ xs. sig.result) (λ xs l. h.1))
    keeps_part (Builtin v args ts f) h =
        keeps_then a (each_typed args ts) (transferred f v args) (keeps_typed F a args ts h.0) (keeps_transfer f v args h.1)
