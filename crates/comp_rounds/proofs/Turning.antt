-- A round in which only functions that are due are inferred.
use Rattle.std.proofs.Common.{◌≡◌, ℕ, zero, suc, ◌<◌, ◌⊎◌, inl, inr, Bool, true, false, cond, not, ◌||◌, List, [], ◌∷◌, ◌++◌}
use Rattle.std.proofs.Common.{Some, Contains, length, map, slice_get, slice_set, refl, sym, ap, ap₂, ◌∙◌, subst, true≢false, arith}
use Rattle.std.specs.Prelude.{nat_lt}
use Rattle.std.proofs.Math.Nat.{suc_inj}
use Rattle.std.proofs.lemmas.Bool.{and_from, cases_eq}
use Rattle.std.proofs.lemmas.List.Elements.{Contains-append_cases}
use Rattle.std.proofs.lemmas.Option.{same_Some}
use Rattle.type_kinds.proofs.Lists.{contains_none, contains_cases}
use Rattle.type_kinds.proofs.Truths.{first, second}
use Rattle.type_lattice.specs.Types.{Type4, Below, HasType, none, is_none, join, AreBelow}
use Rattle.type_lattice.specs.Inclusion.{leq}
use Rattle.cons_gen_rows.specs.Passes.{Knowledge}
use Rattle.cons_tree.specs.Callees.{Takes}
use Rattle.cons_tree.specs.Constraints.{Cons}
use Rattle.cons_tree.specs.Environments.{Types}
use Rattle.cons_tree.specs.Facts.{TypeFacts}
use Rattle.cons_tree.specs.Signatures.{has_none, all_none, agreed}
use Rattle.cons_tree.specs.declared.parts.Part.{Part}
use Rattle.cons_tree.specs.declared.parts.Sig.{Sig}
use Rattle.cons_solve.specs.Environments.{solution}
use Rattle.comp_rounds.specs.Rounds.{Function, arity, inferred, next_signature, all_next, joined_rounds, of_one, given}
use Rattle.comp_rounds.specs.Signatures.{anything, join_of, joins, are_below, is_below, all_below}
use Rattle.comp_rounds.specs.Takes.{AllTake}
use Rattle.comp_rounds.specs.Turns.{AreTurned, DifferAt, AllWithin}
use Rattle.comp_rounds.proofs.Places.{has_or_not, set_here, set_long, set_other, set_same, also_at}
use Rattle.comp_rounds.proofs.Settled.{next_same}
use Rattle.comp_rounds.proofs.SignatureLaws.{signature_types, below_anything}
use Rattle.comp_rounds.proofs.Taking.{inferred_length}

-- ---- the next signature is above what the round gives

module _ (F : TypeFacts) where
  under : (t u : Type4) → leq t (join u t) ≡ true
  under t u = (F.tells_below t (join u t)).1 (F.right u t)

  all_under : (us ts : List Type4) → length us ≡ length ts → are_below ts (joins us ts) ≡ true
  all_under [] [] e = refl
  all_under [] (t ∷ ts) e = absurd (omega (arith, e))
  all_under (u ∷ us) [] e = absurd (omega (arith, e))
  all_under (u ∷ us) (t ∷ ts) e =
      and_from (leq t (join u t)) (are_below ts (joins us ts)) (under t u) (all_under us ts (suc_inj {m = length us} {n = length ts} e))

  below_none : (t : Type4) → Below t none → is_none t ≡ true
  below_none t h = (F.tells_none t).1 (F.same t none h (λ v x. absurd (F.empty v x)))

  none_under : (t u : Type4) → is_none (join u t) ≡ true → is_none t ≡ true
  none_under t u e = below_none t (subst (Below t) ((F.tells_none (join u t)).0 e) (F.right u t))

  has_under : (us ts : List Type4) → length us ≡ length ts → has_none (joins us ts) ≡ true → has_none ts ≡ true
  has_under [] ts l e = absurd (true≢false (sym e))
  has_under (u ∷ us) [] l e = absurd (omega (arith, l))
  has_under (u ∷ us) (t ∷ ts) l e = by (λ h. has_under us ts (suc_inj {m = length us} {n = length ts} l) h) (is_none (join u t)) refl
    where
      by : (has_none (joins us ts) ≡ true → has_none ts ≡ true) → (b : Bool) → is_none (join u t) ≡ b → has_none (t ∷ ts) ≡ true
      by later true is = ap (λ b. b || has_none ts) (none_under t u is)
      by later false is = or_later (is_none t) (has_none ts) (later (ap (λ b. b || has_none (joins us ts)) (sym is) ∙ e))
        where
          or_later : (a b : Bool) → b ≡ true → (a || b) ≡ true
          or_later true b h = refl
          or_later false b h = h

  nones_under : (ts us : List Type4) → length us ≡ length ts → all_none ts ≡ true → are_below ts (map (λ t. none) us) ≡ true
  nones_under [] [] l e = refl
  nones_under [] (u ∷ us) l e = absurd (omega (arith, l))
  nones_under (t ∷ ts) [] l e = absurd (omega (arith, l))
  nones_under (t ∷ ts) (u ∷ us) l e =
      and_from (leq t none) (are_below ts (map (λ x. none) us))
      ((F.tells_below t none).1 (λ v h. subst (HasType v) ((F.tells_none t).0 (first (is_none t) (all_none ts) e)) h))
      (nones_under ts us (suc_inj {m = length us} {n = length ts} l) (second (is_none t) (all_none ts) e))

  long_joins : (us ts : List Type4) → length us ≡ length ts → length (joins us ts) ≡ length ts
  long_joins [] [] e = refl
  long_joins [] (t ∷ ts) e = absurd (omega (arith, e))
  long_joins (u ∷ us) [] e = absurd (omega (arith, e))
  long_joins (u ∷ us) (t ∷ ts) e = ap suc (long_joins us ts (suc_inj {m = length us} {n = length ts} e))

  agreed_under : (us ts : List Type4) → length us ≡ length ts → (not (has_none ts) || all_none ts) ≡ true → are_below ts (agreed (joins us ts)) ≡ true
  agreed_under us ts l agree = by (has_none (joins us ts)) refl
    where
      by : (b : Bool) → has_none (joins us ts) ≡ b → are_below ts (cond b (map (λ t. none) (joins us ts)) (joins us ts)) ≡ true
      by true e =
          nones_under ts (joins us ts) (long_joins us ts l) (ap (λ b. not b || all_none ts) (sym (has_under us ts l e)) ∙ agree)
      by false e = all_under us ts l

  join_upper : (s t : Sig) → length s.args ≡ length t.args → is_below t (join_of s t) ≡ true
  unfolding join_of is_below
  join_upper s t l =
      ap (are_below (t.result ∷ t.args)) (signature_types (join s.result t.result) (joins s.args t.args))
      ∙ agreed_under (s.result ∷ s.args) (t.result ∷ t.args) (ap suc l) t.agreed

  pub next_above : (k : ℕ) (s t : Sig) → length s.args ≡ length t.args → is_below t (next_signature k s t) ≡ true
  next_above k s t l = by (nat_lt k joined_rounds) (is_below t s) refl
    where
      by : (a b : Bool) → is_below t s ≡ b → is_below t (cond a (join_of s t) (cond b s (anything (length s.args)))) ≡ true
      by true b e = join_upper s t l
      by false true e = e
      by false false e = ap (λ n. is_below t (anything n)) l ∙ below_anything F t

-- ---- signatures of functions

pub takes_at : (gs : List Function) (ss : List Sig) (i : ℕ) (g : Function) (s : Sig) → AllTake gs (map of_one ss) → slice_get gs i ≡ Some g → slice_get ss i ≡ Some s
    → length s.args ≡ arity g
takes_at [] ss i g s h a b = absurd cc
takes_at (k ∷ ks) [] i g s h a b = absurd cc
takes_at (k ∷ ks) (u ∷ us) zero g s h a b = sym (ap (λ x. length x.args) (same_Some u s b)) ∙ h.0.0 ∙ ap arity (same_Some k g a)
takes_at (k ∷ ks) (u ∷ us) (suc i) g s h a b = takes_at ks us i g s h.1 a b

pub takes_long : (gs : List Function) (ss : List Sig) → AllTake gs (map of_one ss) → length ss ≡ length gs
takes_long [] [] h = refl
takes_long [] (s ∷ ss) h = absurd h
takes_long (g ∷ gs) [] h = absurd h
takes_long (g ∷ gs) (s ∷ ss) h = ap suc (takes_long gs ss h.1)

pub takes_one : (gs : List Function) (ss : List Sig) (i : ℕ) (g : Function) (s : Sig) → AllTake gs (map of_one ss) → slice_get gs i ≡ Some g → slice_get ss i ≡ Some s → Takes (of_one s) (arity g)
takes_one gs ss i g s h a b = (takes_at gs ss i g s h a b, takes_at gs ss i g s h a b)

-- ---- one function turned more

pub turned_none : (P : Knowledge) (k : ℕ) (gs : List Function) (old : List Sig) → AreTurned P k gs old old []
turned_none P k gs old = record {
  long = refl;
  each = λ i g s a b. inl b;
  next = λ i g s c a b. absurd (contains_none i c);
}

module _ (F : TypeFacts) (lower : (c : Cons Part) (xs ys : Types) → solution c xs ≡ Some ys → AreBelow ys xs) (P : Knowledge) (k : ℕ) (gs : List Function) (old : List Sig)
    (takes : AllTake gs (map of_one old)) where
  above : (i : ℕ) (g : Function) (s : Sig) → slice_get gs i ≡ Some g → slice_get old i ≡ Some s → is_below (inferred P g) (next_signature k s (inferred P g)) ≡ true
  above i g s a b = next_above F k s (inferred P g) (takes_at gs old i g s takes a b ∙ sym (inferred_length lower P g))

  -- what is turned twice is turned
  turn_at : (p : ℕ) (g : Function) (s u : Sig) → slice_get gs p ≡ Some g → slice_get old p ≡ Some s → (u ≡ s) ⊎ (u ≡ next_signature k s (inferred P g))
      → next_signature k u (inferred P g) ≡ next_signature k s (inferred P g)
  turn_at p g s u a b (inl e) = ap (λ x. next_signature k x (inferred P g)) e
  turn_at p g s u a b (inr e) =
      ap (λ x. next_signature k x (inferred P g)) e ∙ next_same F k (next_signature k s (inferred P g)) (inferred P g) (above p g s a b)

  module _ (now new : List Sig) (xs ys : List ℕ) (p : ℕ) (h : Function) (u : Sig) (here : slice_get gs p ≡ Some h) (has : slice_get now p ≡ Some u) (all : ys ≡ xs ++ p ∷ [])
      (is : new ≡ slice_set now p (next_signature k u (inferred P h))) (before : AreTurned P k gs old now xs) where
    turned_here : (g : Function) (s : Sig) → slice_get gs p ≡ Some g → slice_get old p ≡ Some s → slice_get new p ≡ Some (next_signature k s (inferred P g))
    turned_here g s a b =
        let function : h ≡ g = same_Some h g (sym here ∙ a) in
        let was : (u ≡ s) ⊎ (u ≡ next_signature k s (inferred P g)) = elim (before.each p g s a b) [
          | inl e ↦ inl (same_Some u s (sym has ∙ e))
          | inr e ↦ inr (same_Some u (next_signature k s (inferred P g)) (sym has ∙ e))
        ] in
        ap (λ l. slice_get l p) is ∙ set_here now p u (next_signature k u (inferred P h)) has
        ∙ ap Some (ap (λ x. next_signature k u (inferred P x)) function ∙ turn_at p g s u a b was)

    turned_other : (i : ℕ) → (i ≡ p → ⊥) → slice_get new i ≡ slice_get now i
    turned_other i d = ap (λ l. slice_get l i) is ∙ set_other now i p (next_signature k u (inferred P h)) d

    pub turned_more : AreTurned P k gs old new ys
    turned_more = record {
      long = ap length is ∙ set_long now p (next_signature k u (inferred P h)) ∙ before.long;
      each = λ i g s a b. elim (cases_eq i p) [
        | inl e ↦ inr (ap (slice_get new) e ∙ turned_here g s (ap (slice_get gs) (sym e) ∙ a) (ap (slice_get old) (sym e) ∙ b))
        | inr d ↦ (elim (before.each i g s a b) [
          | inl x ↦ inl (turned_other i d ∙ x)
          | inr x ↦ inr (turned_other i d ∙ x)
        ])
      ];
      next = λ i g s c a b. elim (cases_eq i p) [
        | inl e ↦ ap (slice_get new) e ∙ turned_here g s (ap (slice_get gs) (sym e) ∙ a) (ap (slice_get old) (sym e) ∙ b)
        | inr d ↦ turned_other i d ∙ before.next i g s (earlier i d (subst (λ l. Contains l i) all c)) a b
      ];
    }
      where
        earlier : (i : ℕ) → (i ≡ p → ⊥) → Contains (xs ++ p ∷ []) i → Contains xs i
        earlier i d c = elim (Contains-append_cases xs (p ∷ []) i c) [
          | inl e ↦ e
          | inr e ↦ (elim (contains_cases p i [] e) [
            | inl f ↦ absurd (d (sym f))
            | inr n ↦ absurd (contains_none i n)
          ])
        ]

  -- ---- the whole round

  next_list : (f : Function → Sig) (hs : List Function) (ss ts : List Sig) → length ts ≡ length ss → length ss ≡ length hs
      → ((i : ℕ) (g : Function) (s : Sig) → slice_get hs i ≡ Some g → slice_get ss i ≡ Some s → slice_get ts i ≡ Some (next_signature k s (f g))) → ts ≡ all_next k ss (map f hs)
  next_list f hs [] [] l m e = refl
  next_list f hs [] (t ∷ ts) l m e = absurd (omega (arith, l))
  next_list f hs (s ∷ ss) [] l m e = absurd (omega (arith, l))
  next_list f [] (s ∷ ss) (t ∷ ts) l m e = absurd (omega (arith, m))
  next_list f (h ∷ hs) (s ∷ ss) (t ∷ ts) l m e =
      ap₂ (λ x xs. x ∷ xs) (same_Some t (next_signature k s (f h)) (e 0 h s refl refl))
      (next_list f hs ss ts (suc_inj {m = length ts} {n = length ss} l) (suc_inj {m = length ss} {n = length hs} m) (λ i. e (suc i)))

  pub all_turned : (new : List Sig) (due : List ℕ) → AreTurned P k gs old new due
      → ((i : ℕ) (g : Function) (s : Sig) → (Contains due i → ⊥) → slice_get gs i ≡ Some g → slice_get old i ≡ Some s → is_below (inferred P g) s ≡ true)
      → new ≡ all_next k old (map (inferred P) gs)
  all_turned new due turned settled = next_list (inferred P) gs old new turned.long (takes_long gs old takes) at
    where
      at : (i : ℕ) (g : Function) (s : Sig) → slice_get gs i ≡ Some g → slice_get old i ≡ Some s → slice_get new i ≡ Some (next_signature k s (inferred P g))
      at i g s a b = elim (has_or_not due i) [
        | inl c ↦ turned.next i g s c a b
        | inr n ↦ (elim (turned.each i g s a b) [
          | inl x ↦ x ∙ ap Some (sym (next_same F k s (inferred P g) (settled i g s n a b)))
          | inr x ↦ x
        ])
      ]

  -- what the round gave is below the signatures after it
  pub turned_above : (new : List Sig) (due : List ℕ) → AreTurned P k gs old new due
      → ((i : ℕ) (g : Function) (s : Sig) → (Contains due i → ⊥) → slice_get gs i ≡ Some g → slice_get old i ≡ Some s → is_below (inferred P g) s ≡ true)
      → (i : ℕ) (g : Function) (s : Sig) → slice_get gs i ≡ Some g → slice_get new i ≡ Some s → is_below (inferred P g) s ≡ true
  turned_above new due turned settled i g s a b =
      let was = also_at new old i s (sym turned.long) b in
      elim (has_or_not due i) [
        | inl c ↦ subst (λ x. is_below (inferred P g) x ≡ true) (same_Some (next_signature k was.0 (inferred P g)) s (sym (turned.next i g was.0 c a was.1) ∙ b)) (above i g was.0 a was.1)
        | inr n ↦ (elim (turned.each i g was.0 a was.1) [
          | inl x ↦ subst (λ y. is_below (inferred P g) y ≡ true) (same_Some was.0 s (sym x ∙ b)) (settled i g was.0 n a was.1)
          | inr x ↦ subst (λ y. is_below (inferred P g) y ≡ true) (same_Some (next_signature k was.0 (inferred P g)) s (sym x ∙ b)) (above i g was.0 a was.1)
        ])
      ]

-- ---- where none is due

pub all_below_at : (f : Function → Sig) (gs : List Function) (ss : List Sig) → length ss ≡ length gs
    → ((i : ℕ) (g : Function) (s : Sig) → slice_get gs i ≡ Some g → slice_get ss i ≡ Some s → is_below (f g) s ≡ true) → all_below (map f gs) ss ≡ true
all_below_at f [] [] l e = refl
all_below_at f [] (s ∷ ss) l e = absurd (omega (arith, l))
all_below_at f (g ∷ gs) [] l e = absurd (omega (arith, l))
all_below_at f (g ∷ gs) (s ∷ ss) l e =
    and_from (is_below (f g) s) (all_below (map f gs) ss) (e 0 g s refl refl) (all_below_at f gs ss (suc_inj {m = length ss} {n = length gs} l) (λ i. e (suc i)))

-- ---- one turn

pub turn_kept : TypeFacts → (P : Knowledge) (k at : ℕ) (sigs : List Sig) (old gave s : Sig) (g : Function) → gave ≡ inferred P g → slice_get sigs at ≡ Some old → slice_get sigs at ≡ Some s
    → is_below gave old ≡ true → sigs ≡ slice_set sigs at (next_signature k s (inferred P g))
turn_kept F P k at sigs old gave s g given here has below =
    let same : s ≡ old = same_Some s old (sym has ∙ here) in
    let under : is_below (inferred P g) s ≡ true = ap₂ is_below (sym given) same ∙ below in
    sym (ap (slice_set sigs at) (next_same F k s (inferred P g) under) ∙ set_same sigs at s has)

pub turn_moved : (P : Knowledge) (k at : ℕ) (sigs new : List Sig) (old gave next s : Sig) (g : Function) → gave ≡ inferred P g → slice_get sigs at ≡ Some old → slice_get sigs at ≡ Some s
    → next ≡ next_signature k old gave → new ≡ slice_set sigs at next → new ≡ slice_set sigs at (next_signature k s (inferred P g))
turn_moved P k at sigs new old gave next s g given here has is set =
    set ∙ ap (slice_set sigs at) (is ∙ ap₂ (next_signature k) (same_Some old s (sym here ∙ has)) given)

pub differ_more : (old now new : List Sig) (p : ℕ) (u : Sig) (turned : Bool) (xs ys : List ℕ) → (turned ≡ false → new ≡ now) → new ≡ slice_set now p u
    → ((i : ℕ) → Contains xs i → Contains ys i) → (turned ≡ true → Contains ys p) → DifferAt xs old now → DifferAt ys old new
differ_more old now new p u turned xs ys same is kept added before i free = by turned refl ∙ before i (λ c. free (kept i c))
  where
    by : (b : Bool) → turned ≡ b → slice_get new i ≡ slice_get now i
    by true e = ap (λ l. slice_get l i) is ∙ set_other now i p u (λ f. free (subst (Contains ys) (sym f) (added e)))
    by false e = ap (λ l. slice_get l i) (same e)

pub within_more : (xs ys : List ℕ) (p n : ℕ) → p < n → ((i : ℕ) → Contains ys i → Contains xs i ⊎ (i ≡ p)) → AllWithin xs n → AllWithin ys n
within_more xs ys p n low only before i c = elim (only i c) [
  | inl a ↦ before i a
  | inr e ↦ omega (arith, e, low)
]
