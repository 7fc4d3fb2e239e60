-- Entries that, laid onto an array, give the join of solutions.
use Rattle.std.proofs.Common.{◌≡◌, ℕ, zero, suc, ◌-◌, ◌<◌, Bool, true, List, [], ◌∷◌, ◌++◌, length, set, take, drop, map, Option, Some, None, refl, sym, ap, ◌∙◌, subst, arith, inl, inr}
use Rattle.std.proofs.lemmas.Bool.{cases_eq}
use Rattle.std.proofs.lemmas.List.{length-set, set-set, set_comm, set-get_or, take_rest}
use Rattle.cons_tree.proofs.SlotLaws.{at_below, set_grows}
use Rattle.type_lattice.proofs.ListOrder.{are_self, are_long}
use Rattle.type_lattice.specs.Types.{Type4, Below, AreBelow, any, join}
use Rattle.cons_tree.specs.Environments.{Types, type_at}
use Rattle.cons_tree.specs.Facts.{TypeFacts}
use Rattle.cons_tree.specs.Trails.{answer, laid, Within}
use Rattle.cons_tree.specs.declared.slots.TrailEntry.{TrailEntry}
use Rattle.cons_solve.specs.Environments.{environments, joins}
use Rattle.cons_solve.specs.Solutions.{joined}
use Rattle.cons_solve.specs.steps.Alternatives.{now_of, raised_by, Agrees, KeptLows, Kept, best_of}
use Rattle.cons_solve.proofs.OrderLaws.{are_same, joins_left, joins_least}
use Rattle.cons_tree.proofs.TrailLaws.{laid_append, laid_length, within_parts}

-- ---- loops over entries

-- the entries from a checkpoint on, as a slice has them
pub rest_told : (f : TrailEntry → TrailEntry) (l t : List TrailEntry) (m : ℕ) → l ≡ t → map f (take (length l - m) (drop m l)) ≡ map f (drop m t)
rest_told f l t m e = ap (map f) (take_rest l m) ∙ ap (λ k. map f (drop m k)) e

-- ---- the first solution

-- what is written last to a slot hides what was written below the entries
set_hides : (fs : List TrailEntry) (xs : Types) (s : ℕ) (a b : Type4) → set (laid fs (set xs s a)) s b ≡ set (laid fs xs) s b
set_hides [] xs s a b = set-set xs s a b
set_hides (f ∷ fs) xs s a b = elim (cases_eq f.slot s) [
  | inl e ↦
      let one : (ys : Types) → set (set ys f.slot f.ty) s b ≡ set ys s b = λ ys. ap (λ n. set (set ys n f.ty) s b) e ∙ set-set ys s f.ty b in
      one (laid fs (set xs s a)) ∙ set_hides fs xs s a b ∙ sym (one (laid fs xs))
  | inr d ↦ set_comm (laid fs (set xs s a)) f.slot s f.ty b d ∙ ap (λ ys. set ys f.slot f.ty) (set_hides fs xs s a b) ∙ sym (set_comm (laid fs xs) f.slot s f.ty b d)
]

-- the entries with their slots' types now, laid onto what they give back, give what is now
pub now_again : (fs : List TrailEntry) (xs : Types) → laid (map (now_of xs) fs) (laid fs xs) ≡ xs
now_again [] xs = refl
now_again (f ∷ fs) xs =
    set_hides (map (now_of xs) fs) (laid fs xs) f.slot f.ty (type_at xs f.slot) ∙ ap (λ ys. set ys f.slot (type_at xs f.slot)) (now_again fs xs) ∙ set-get_or xs f.slot any

now_agrees : (fs : List TrailEntry) (xs : Types) → Agrees (map (now_of xs) fs) xs
now_agrees [] xs = tt
now_agrees (f ∷ fs) xs = (refl, now_agrees fs xs)

pub now_within : (n : ℕ) (fs : List TrailEntry) (xs : Types) → Within n fs → Within n (map (now_of xs) fs)
now_within n [] xs h = tt
now_within n (f ∷ fs) xs h = (h.0, now_within n fs xs h.1)

pub kept_first : (told new : List TrailEntry) (xs : Types) → new ≡ map (now_of xs) told → Within (length xs) told → AreBelow xs (laid told xs) → KeptLows new (laid told xs)
kept_first told new xs e w h =
    subst (λ l. KeptLows l (laid told xs)) (sym e) (record {
      within = now_within (length (laid told xs)) told xs (subst (λ n. Within n told) (sym (laid_length told xs)) w);
      agrees = subst (Agrees (map (now_of xs) told)) (sym (now_again told xs)) (now_agrees told xs);
      below = subst (λ ys. AreBelow ys (laid told xs)) (sym (now_again told xs)) h;
    })

pub first_joined : (told new : List TrailEntry) (xs : Types) → new ≡ map (now_of xs) told → joined environments None (Some xs) ≡ Some (laid new (laid told xs))
first_joined told new xs e = ap Some (sym (ap (λ l. laid l (laid told xs)) e ∙ now_again told xs))

-- ---- one more solution

joins_set : (ys xs : Types) (s : ℕ) (t : Type4) → joins (set ys s t) xs ≡ set (joins ys xs) s (join t (type_at xs s))
joins_set [] xs s t = refl
joins_set (y ∷ ys) [] zero t = refl
joins_set (y ∷ ys) [] (suc s) t = refl
joins_set (y ∷ ys) (x ∷ xs) zero t = refl
joins_set (y ∷ ys) (x ∷ xs) (suc s) t = ap (λ zs. join y x ∷ zs) (joins_set ys xs s t)

at_joins : (ys xs : Types) (s : ℕ) → s < length ys → length xs ≡ length ys → type_at (joins ys xs) s ≡ join (type_at ys s) (type_at xs s)
at_joins [] xs s h e = absurd (omega (arith, h))
at_joins (y ∷ ys) [] s h e = absurd (omega (arith, e))
at_joins (y ∷ ys) (x ∷ xs) zero h e = refl
at_joins (y ∷ ys) (x ∷ xs) (suc s) h e = at_joins ys xs s (omega (arith, h)) (omega (arith, e))

raised_agrees : (fs : List TrailEntry) (ys xs : Types) → Within (length ys) fs → length xs ≡ length ys → Agrees fs ys → Agrees (map (raised_by xs) fs) (joins ys xs)
raised_agrees [] ys xs w e h = tt
raised_agrees (f ∷ fs) ys xs w e h =
    (ap (λ t. join t (type_at xs f.slot)) h.0 ∙ sym (at_joins ys xs f.slot w.0 e), raised_agrees fs ys xs w.1 e h.1)

raised_within : (n : ℕ) (fs : List TrailEntry) (xs : Types) → Within n fs → Within n (map (raised_by xs) fs)
raised_within n [] xs h = tt
raised_within n (f ∷ fs) xs h = (h.0, raised_within n fs xs h.1)

module _ (facts : TypeFacts) where
  joins_same : (es xs : Types) → AreBelow xs es → joins es xs ≡ es
  joins_same es xs h =
      are_same facts (joins es xs) es (joins_least facts es xs es (are_self es) h) (joins_left facts es xs es (are_self es) h)

  raised_joins : (fs : List TrailEntry) (es xs : Types) → AreBelow xs es → laid (map (raised_by xs) fs) es ≡ joins (laid fs es) xs
  raised_joins [] es xs h = sym (joins_same es xs h)
  raised_joins (f ∷ fs) es xs h =
      ap (λ ys. set ys f.slot (join f.ty (type_at xs f.slot))) (raised_joins fs es xs h) ∙ sym (joins_set (laid fs es) xs f.slot f.ty)

  pub kept_next : (lows new : List TrailEntry) (begin xs : Types) → new ≡ map (raised_by xs) lows → AreBelow xs begin → KeptLows lows begin → KeptLows new begin
  kept_next lows new begin xs e h k =
      let is = raised_joins lows begin xs h in
      let long = laid_length lows begin in
      subst (λ l. KeptLows l begin) (sym e) (record {
        within = raised_within (length begin) lows xs k.within;
        agrees = subst (Agrees (map (raised_by xs) lows)) (sym is) (raised_agrees lows (laid lows begin) xs (subst (λ n. Within n lows) (sym long) k.within) (are_long xs begin h ∙ sym long) k.agrees);
        below = subst (λ ys. AreBelow ys begin) (sym is) (joins_least facts (laid lows begin) xs begin k.below h);
      })

  pub next_joined : (lows new : List TrailEntry) (begin xs : Types) → new ≡ map (raised_by xs) lows → AreBelow xs begin → joined environments (Some (laid lows begin)) (Some xs) ≡ Some (laid new begin)
  next_joined lows new begin xs e h = ap Some (sym (ap (λ l. laid l begin) e ∙ raised_joins lows begin xs h))

-- ---- the two ways on, as the code meets them

pub first_gathered : (best : Option (List TrailEntry)) (alive : Bool) (told new : List TrailEntry) (xs : Types) → best ≡ None → alive ≡ true → new ≡ map (now_of xs) told
    → joined environments (best_of best (laid told xs)) (answer alive xs) ≡ Some (laid new (laid told xs))
first_gathered best alive told new xs e f g =
    ap (λ b. joined environments (best_of b (laid told xs)) (answer alive xs)) e ∙ ap (λ a. joined environments None (answer a xs)) f ∙ first_joined told new xs g

pub next_kept : TypeFacts → (best : Option (List TrailEntry)) (alive : Bool) (lows same new : List TrailEntry) (begin xs : Types) → best ≡ Some lows → alive ≡ true → same ≡ lows → new ≡ map (raised_by xs) same
    → (alive ≡ true → AreBelow xs begin) → Kept best begin → KeptLows new begin
next_kept facts best alive lows same new begin xs e f s g h k =
    kept_next facts lows new begin xs (g ∙ ap (map (raised_by xs)) s) (h f) (subst (λ b. Kept b begin) e k)

pub next_gathered : TypeFacts → (best : Option (List TrailEntry)) (alive : Bool) (lows same new : List TrailEntry) (begin xs : Types) → best ≡ Some lows → alive ≡ true → same ≡ lows → new ≡ map (raised_by xs) same
    → (alive ≡ true → AreBelow xs begin) → joined environments (best_of best begin) (answer alive xs) ≡ Some (laid new begin)
next_gathered facts best alive lows same new begin xs e f s g h =
    ap (λ b. joined environments (best_of b begin) (answer alive xs)) e ∙ ap (λ a. joined environments (Some (laid lows begin)) (answer a xs)) f ∙ next_joined facts lows new begin xs (g ∙ ap (map (raised_by xs)) s) (h f)

-- ---- applying the join down

agrees_parts : (fs : List TrailEntry) (f : TrailEntry) (xs : Types) → Agrees (fs ++ f ∷ []) xs → Agrees fs xs × (f.ty ≡ type_at xs f.slot)
agrees_parts [] f xs h = (tt, h.0)
agrees_parts (g ∷ fs) f xs h = let p = agrees_parts fs f xs h.1 in ((h.0, p.0), p.1)

-- entries that are still to be laid, where the array is between the join and what it was
pub record Applying (lows : List TrailEntry) (slots whole : Types) : Type 0 where
  pub within : Within (length slots) lows
  pub agrees : Agrees lows whole
  pub below : AreBelow whole slots
  pub back : laid lows slots ≡ whole

pub applying_position : (old new : List TrailEntry) (f : TrailEntry) (slots whole : Types) → old ≡ new ++ f ∷ [] → Applying old slots whole → (f.slot < length slots) × Below f.ty (type_at slots f.slot)
applying_position old new f slots whole e l =
    let w = within_parts (length slots) new f (subst (Within (length slots)) e l.within) in
    let a = agrees_parts new f whole (subst (λ fs. Agrees fs whole) e l.agrees) in
    (w.1, subst (λ t. Below t (type_at slots f.slot)) (sym a.1) (at_below whole slots f.slot l.below))

pub applying_goes_on : (old new : List TrailEntry) (f : TrailEntry) (slots after whole : Types) → old ≡ new ++ f ∷ [] → after ≡ set slots f.slot f.ty → Applying old slots whole → Applying new after whole
applying_goes_on old new f slots after whole e g l =
    let w = within_parts (length slots) new f (subst (Within (length slots)) e l.within) in
    let a = agrees_parts new f whole (subst (λ fs. Agrees fs whole) e l.agrees) in
    let held : set whole f.slot f.ty ≡ whole = ap (set whole f.slot) a.1 ∙ set-get_or whole f.slot any in
    subst (λ ys. Applying new ys whole) (sym g) (record {
      within = subst (λ n. Within n new) (sym (length-set slots f.slot f.ty)) w.0;
      agrees = a.0;
      below = subst (λ ys. AreBelow ys (set slots f.slot f.ty)) held (set_grows whole slots f.slot f.ty f.ty l.below (λ v h. h));
      back = sym (ap (λ fs. laid fs slots) e ∙ laid_append new (f ∷ []) slots) ∙ l.back;
    })
