-- Members that wait: enqueuing them, and the queue.
use Rattle.std.proofs.Common.{◌≡◌, ℕ, zero, suc, ◌+◌, ◌<◌, ◌≤◌, Bool, true, false, List, [], ◌∷◌, ◌++◌, append_assoc}
use Rattle.std.proofs.Common.{length, get_or, set, map, drop, Some, refl, sym, ap, ◌∙◌, subst, arith, inl, inr, ◌⊎◌, true≢false}
use Rattle.std.specs.Prelude.{slice_get}
use Rattle.std.proofs.lemmas.Bool.{cases_eq}
use Rattle.std.proofs.lemmas.Option.{get_or_from_slice_get}
use Rattle.std.proofs.lemmas.List.{get_or-set_same, get_or-set_other}
use Rattle.cons_tree.specs.declared.slots.TrailEntry.{TrailEntry}
use Rattle.cons_solve.specs.declared.index.Naming.{Naming}
use Rattle.cons_solve.specs.steps.Positions.{Has, Once, here, Queued}

-- ---- lists of members

pub has_before : (xs ys : List ℕ) (j : ℕ) → Has xs j → Has (xs ++ ys) j
has_before [] ys j h = absurd h
has_before (x ∷ xs) ys j (inl e) = inl e
has_before (x ∷ xs) ys j (inr h) = inr (has_before xs ys j h)

pub has_last : (xs : List ℕ) (j : ℕ) → Has (xs ++ j ∷ []) j
has_last [] j = inl refl
has_last (x ∷ xs) j = inr (has_last xs j)

has_cases : (xs : List ℕ) (y j : ℕ) → Has (xs ++ y ∷ []) j → Has xs j ⊎ (y ≡ j)
has_cases [] y j (inl e) = inr e
has_cases [] y j (inr h) = absurd h
has_cases (x ∷ xs) y j (inl e) = inl (inl e)
has_cases (x ∷ xs) y j (inr h) = elim (has_cases xs y j h) [ inl k ↦ inl (inr k) | inr e ↦ inr e ]

once_more : (xs : List ℕ) (j : ℕ) → Once xs → (Has xs j → ⊥) → Once (xs ++ j ∷ [])
once_more [] j o n = (λ h. h, tt)
once_more (x ∷ xs) j o n =
    (λ h. elim (has_cases xs j x h) [ inl k ↦ o.0 k | inr e ↦ n (inl (sym e)) ], once_more xs j o.1 (λ h. n (inr h)))

once_front : (xs : List ℕ) (j : ℕ) → Once (xs ++ j ∷ []) → Once xs × (Has xs j → ⊥)
once_front [] j o = (tt, λ h. h)
once_front (x ∷ xs) j o =
    let p = once_front xs j o.1 in
    ((λ h. o.0 (has_before xs (j ∷ []) x h), p.0), elim [ inl e ↦ o.0 (subst (Has (xs ++ j ∷ [])) (sym e) (has_last xs j)) | inr h ↦ p.1 h ])

-- ---- the queue

pub queued_more : (f g : List Bool) (q r : List ℕ) (m : ℕ) → m < length f → get_or f m false ≡ false → g ≡ set f m true → r ≡ q ++ m ∷ [] → Queued f q → Queued g r
queued_more f g q r m l off e h k =
    subst (λ x. Queued x r) (sym e) (subst (Queued (set f m true)) (sym h) (record {
      stands = λ j on. elim (cases_eq j m) [
        | inl is ↦ subst (Has (q ++ m ∷ [])) (sym is) (has_last q m)
        | inr other ↦ has_before q (m ∷ []) j (k.stands j (sym (get_or-set_other f m j true false other) ∙ on))
      ];
      flagged = λ j has. elim (cases_eq j m) [
        | inl is ↦ ap (λ n. get_or (set f m true) n false) is ∙ get_or-set_same f m true false l
        | inr other ↦
            get_or-set_other f m j true false other ∙ elim (has_cases q m j has) [ inl old ↦ k.flagged j old | inr now ↦ absurd (other (sym now)) ]
      ];
      once = once_more q m k.once (λ has. true≢false (sym (k.flagged m has) ∙ off));
    }))

pub queued_less : (f g : List Bool) (q r : List ℕ) (m : ℕ) → q ≡ r ++ m ∷ [] → g ≡ set f m false → Queued f q → Queued g r
queued_less f g q r m e h k =
    let o = once_front r m (subst Once e k.once) in
    let on : get_or f m false ≡ true = k.flagged m (subst (λ x. Has x m) (sym e) (has_last r m)) in
    subst (λ x. Queued x r) (sym h) (record {
      stands = λ j flag. elim (cases_eq j m) [
        | inl is ↦ absurd (true≢false (sym flag ∙ ap (λ n. get_or (set f m false) n false) is ∙ off f m))
        | inr other ↦ elim (has_cases r m j (subst (λ x. Has x j) e (k.stands j (sym (get_or-set_other f m j false false other) ∙ flag)))) [ inl old ↦ old | inr now ↦ absurd (other (sym now)) ]
      ];
      flagged = λ j has. elim (cases_eq j m) [
        | inl is ↦ absurd (o.1 (subst (Has r) is has))
        | inr other ↦ get_or-set_other f m j false false other ∙ k.flagged j (subst (λ x. Has x j) (sym e) (has_before r (m ∷ []) j has))
      ];
      once = o.0;
    })
  where
    off : (f : List Bool) (m : ℕ) → get_or (set f m false) m false ≡ false
    off [] m = refl
    off (b ∷ f) zero = refl
    off (b ∷ f) (suc m) = off f m

-- ---- two queues

has_middle : (s l : List ℕ) (m j : ℕ) → Has ((s ++ l) ++ m ∷ []) j → Has ((s ++ m ∷ []) ++ l) j
has_middle [] l m j h = elim (has_cases l m j h) [ inl k ↦ inr k | inr e ↦ inl e ]
has_middle (x ∷ s) l m j (inl e) = inl e
has_middle (x ∷ s) l m j (inr h) = inr (has_middle s l m j h)

has_end : (s l : List ℕ) (m j : ℕ) → Has ((s ++ m ∷ []) ++ l) j → Has ((s ++ l) ++ m ∷ []) j
has_end [] l m j (inl e) = subst (Has (l ++ m ∷ [])) e (has_last l m)
has_end [] l m j (inr h) = has_before l (m ∷ []) j h
has_end (x ∷ s) l m j (inl e) = inl e
has_end (x ∷ s) l m j (inr h) = inr (has_end s l m j h)

once_middle : (s l : List ℕ) (m : ℕ) → Once ((s ++ l) ++ m ∷ []) → Once ((s ++ m ∷ []) ++ l)
once_middle [] l m o = let p = once_front l m o in (p.1, p.0)
once_middle (x ∷ s) l m o = (λ h. o.0 (has_end s l m x h), once_middle s l m o.1)

once_end : (s l : List ℕ) (m : ℕ) → Once ((s ++ m ∷ []) ++ l) → Once ((s ++ l) ++ m ∷ [])
once_end [] l m o = once_more l m o.1 o.0
once_end (x ∷ s) l m o = (λ h. o.0 (has_middle s l m x h), once_end s l m o.1)

queued_middle : (f : List Bool) (s l : List ℕ) (m : ℕ) → Queued f ((s ++ l) ++ m ∷ []) → Queued f ((s ++ m ∷ []) ++ l)
queued_middle f s l m k = record {
  stands = λ j on. has_middle s l m j (k.stands j on);
  flagged = λ j has. k.flagged j (has_end s l m j has);
  once = once_middle s l m k.once;
}

queued_end : (f : List Bool) (s l : List ℕ) (m : ℕ) → Queued f ((s ++ m ∷ []) ++ l) → Queued f ((s ++ l) ++ m ∷ [])
queued_end f s l m k = record {
  stands = λ j on. has_end s l m j (k.stands j on);
  flagged = λ j has. k.flagged j (has_middle s l m j has);
  once = once_end s l m k.once;
}

-- a member more in the first queue, and in the second
pub queued_soon : (f g : List Bool) (s t l : List ℕ) (m : ℕ) → m < length f → get_or f m false ≡ false → g ≡ set f m true → t ≡ s ++ m ∷ [] → Queued f (s ++ l) → Queued g (t ++ l)
queued_soon f g s t l m low off e h k =
    subst (λ x. Queued g (x ++ l)) (sym h) (queued_middle g s l m (queued_more f g (s ++ l) ((s ++ l) ++ m ∷ []) m low off e refl k))

pub queued_later : (f g : List Bool) (s l r : List ℕ) (m : ℕ) → m < length f → get_or f m false ≡ false → g ≡ set f m true → r ≡ l ++ m ∷ [] → Queued f (s ++ l) → Queued g (s ++ r)
queued_later f g s l r m low off e h k =
    queued_more f g (s ++ l) (s ++ r) m low off e (ap (λ x. s ++ x) h ∙ sym (append_assoc s l (m ∷ []))) k

-- the last of the second queue goes to the end of the first
pub queued_turned : (f : List Bool) (s t l r : List ℕ) (m : ℕ) → l ≡ r ++ m ∷ [] → t ≡ s ++ m ∷ [] → Queued f (s ++ l) → Queued f (t ++ r)
queued_turned f s t l r m e h k =
    subst (λ x. Queued f (x ++ r)) (sym h) (queued_middle f s r m (subst (Queued f) (ap (λ x. s ++ x) e ∙ sym (append_assoc s r (m ∷ []))) k))

-- the last of the first queue is taken
pub queued_taken : (f g : List Bool) (s t l : List ℕ) (m : ℕ) → s ≡ t ++ m ∷ [] → g ≡ set f m false → Queued f (s ++ l) → Queued g (t ++ l)
queued_taken f g s t l m e h k =
    queued_less f g ((t ++ l) ++ m ∷ []) (t ++ l) m refl h (queued_end f t l m (subst (λ x. Queued f (x ++ l)) e k))

pub queued_first : (f : List Bool) (s t l : List ℕ) (m : ℕ) → s ≡ t ++ m ∷ [] → Queued f (s ++ l) → get_or f m false ≡ true
queued_first f s t l m e k =
    k.flagged m (has_before s l m (subst (λ x. Has x m) (sym e) (has_last t m)))

pub read_flag : (f : List Bool) (m : ℕ) (b : Bool) → slice_get f m ≡ Some b → b ≡ false → get_or f m false ≡ false
read_flag f m b h e = get_or_from_slice_get f m b false h ∙ e

-- while the members before a position were enqueued
pub record Enqueuing (except : ℕ) (woken : List Naming) (flags new : List Bool) (i : ℕ) : Type 0 where
  pub long : length new ≡ length flags
  pub calm : (j : ℕ) → get_or new j true ≡ false → (get_or flags j true ≡ false) × ((j ≡ except → ⊥) → (Has (map (λ n. n.member) (drop i woken)) j → ⊥) → Has (map (λ n. n.member) woken) j → ⊥)

-- ---- all that the entries of a trail enqueue

-- while the entries before a position were told
pub record Waking (except : ℕ) (index : List Naming) (told : List TrailEntry) (flags new : List Bool) (i : ℕ) : Type 0 where
  pub long : length new ≡ length flags
  pub calm : (j : ℕ) → get_or new j true ≡ false → (get_or flags j true ≡ false) × ((j ≡ except → ⊥) → (k : ℕ) → k < i → (f : TrailEntry) → Has (here index (get_or told k f).slot) j → ⊥)

-- ---- flags

-- the last i members of n are enqueued
abbrev pub LastOf : List Bool → ℕ → ℕ → Type 0
LastOf f n i = (j : ℕ) → j < n → n ≤ j + i → get_or f j true ≡ false → ⊥

-- ---- the next member

pub flag_within : (f : List Bool) (j : ℕ) → get_or f j false ≡ true → j < length f
flag_within [] j e = absurd (true≢false (sym e))
flag_within (b ∷ f) zero e = omega arith
flag_within (b ∷ f) (suc j) e = let h = flag_within f j e in omega (arith, h)

flag_down : (f : List Bool) (j : ℕ) → j < length f → (get_or f j false ≡ true → ⊥) → get_or f j true ≡ false
flag_down [] j l n = absurd (omega (arith, l))
flag_down (true ∷ f) zero l n = absurd (n refl)
flag_down (false ∷ f) zero l n = refl
flag_down (b ∷ f) (suc j) l n = flag_down f j (omega (arith, l)) n

-- without a member in either queue no flag is up
pub queued_nothing : (f g : List Bool) (s l : List ℕ) → f ≡ g → s ≡ [] → l ≡ [] → Queued f (s ++ l) → (j : ℕ) → j < length g → get_or g j true ≡ false
queued_nothing f g s l same e h k j low =
    flag_down g j low (λ on. subst (λ x. Has x j) (ap (λ x. x ++ l) e ∙ h) (k.stands j (ap (λ x. get_or x j false) same ∙ on)))
