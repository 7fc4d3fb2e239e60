-- How much a trail grew, and the part of it from a checkpoint on.
use Rattle.std.proofs.Common.{◌≡◌, ℕ, ◌+◌, ◌<◌, ◌≤◌, Bool, true, false, cond, List, [], ◌∷◌, length, set, take, drop, Option, Some, None, refl, sym, ap, ◌∙◌, subst, arith, inl, inr, length-append}
use Rattle.std.specs.Prelude.{IfSome, IfNone}
use Rattle.std.proofs.lemmas.Bool.{cases_eq}
use Rattle.std.proofs.lemmas.List.{set-get_or, drop_at, take_at}
use Rattle.type_lattice.specs.Types.{Type4, any, rank}
use Rattle.cons_tree.specs.Environments.{Types, type_at}
use Rattle.cons_tree.specs.Trails.{laid, Within, Falling, summed, Trailed}
use Rattle.cons_tree.specs.declared.slots.TrailEntry.{TrailEntry}
use Rattle.cons_tree.specs.declared.slots.Slots.{Slots}
use Rattle.cons_solve.specs.Environments.{ranks}

-- a slot that has the type already
pub set_same : (xs : Types) (s : ℕ) (t : Type4) → t ≡ type_at xs s → xs ≡ set xs s t
set_same xs s t e = sym (ap (set xs s) e ∙ set-get_or xs s any)

pub if_some : {A : Type 0} (o : Option A) (x : A) (P : A → Type 0) → o ≡ Some x → IfSome o P → P x
if_some o x P e h = subst (λ q. IfSome q P) e h

pub if_none : {A : Type 0} (o : Option A) (P : Type 0) → o ≡ None → IfNone o P → P
if_none o P e h = subst (λ q. IfNone q P) e h

-- ---- how much a trail grew

pub empty_list : (fs : List TrailEntry) → length fs ≡ 0 → fs ≡ []
empty_list [] h = refl
empty_list (f ∷ fs) h = absurd (omega (arith, h))

pub trail_length : (old new : Slots) (t : Trailed old new) → length new.trail ≡ length old.trail + length t.added
trail_length old new t = ap length t.trail ∙ length-append old.trail t.added

-- with no entry more nothing was lowered
pub trailed_same : (old new : Slots) → Trailed old new → length new.trail ≡ length old.trail → new.types ≡ old.types
trailed_same old new t h =
    sym (ap (λ fs. laid fs new.types) (empty_list t.added (omega (arith, h, trail_length old new t)))) ∙ t.back

-- and with one each measure fell
pub trailed_pays : (old new : Slots) → Trailed old new → (length new.trail ≡ length old.trail → ⊥) → (h : Type4 → ℕ) → Falling h → summed h new.types + 1 ≤ summed h old.types
trailed_pays old new t d h f =
    let l = trail_length old new t in
    let c = t.paid h f in
    elim (cases_eq (length new.trail) (length old.trail)) [ inl e ↦ absurd (d e) | inr d ↦ omega (arith, d, l, c) ]

-- a turn that is counted where the trail grew pays for its tick
pub turn_pays : (old new : Slots) → Trailed old new → (b : Bool) → (b ≡ true → length old.trail < length new.trail) → (h : Type4 → ℕ) → Falling h → cond b 1 0 + summed h new.types ≤ summed h old.types
turn_pays old new t true g h f = let p = trailed_pays old new t (λ e. omega (arith, e, g refl)) h f in omega (arith, p)
turn_pays old new t false g h f = let p = t.paid h f in omega (arith, p)

-- and where none is counted, nothing was lowered
pub turn_still : (old new : Slots) → Trailed old new → (first before now : ℕ) (b : Bool) → (b ≡ false → length new.trail ≤ length old.trail) → now ≡ before + cond b 1 0 → first ≤ before → now ≡ first
    → (before ≡ first) × (new.types ≡ old.types)
turn_still old new t first before now true short e low same = absurd (omega (arith, e, low, same))
turn_still old new t first before now false short e low same = (omega (arith, e, same), trailed_same old new t (omega (arith, short refl, trail_length old new t)))

pub trailed_falls : (old new : Slots) → Falling rank → Trailed old new → (length new.trail ≡ length old.trail → ⊥) → ranks new.types < ranks old.types
trailed_falls old new f t d = omega (arith, trailed_pays old new t d rank f)

-- ---- the part of a trail from a checkpoint on

pub told_is : (old new : Slots) (m : ℕ) (t : Trailed old new) → m ≡ length old.trail → drop m new.trail ≡ t.added
told_is old new m t e = ap (drop m) t.trail ∙ drop_at old.trail t.added m (sym e)

pub told_back : (old new : Slots) (m : ℕ) → Trailed old new → m ≡ length old.trail → laid (drop m new.trail) new.types ≡ old.types
told_back old new m t e = ap (λ l. laid l new.types) (told_is old new m t e) ∙ t.back

pub told_within : (old new : Slots) (m : ℕ) → Trailed old new → m ≡ length old.trail → Within (length new.types) (drop m new.trail)
told_within old new m t e = subst (Within (length new.types)) (sym (told_is old new m t e)) t.within

pub told_front : (old new : Slots) (m : ℕ) → Trailed old new → m ≡ length old.trail → take m new.trail ≡ old.trail
told_front old new m t e = ap (take m) t.trail ∙ take_at old.trail t.added m (sym e)
