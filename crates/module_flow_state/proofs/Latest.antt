-- The functions that changed last are listed.
use Rattle.std.proofs.Common.{◌≡◌, ℕ, zero, suc, ◌<◌, Bool, true, false, cond, nat_eq, List, [], ◌∷◌, ◌++◌, refl, sym, ap, ◌∙◌, subst, eqb-true, true≢false, arith}
use Rattle.std.specs.List.{Contains}
use Rattle.std.proofs.lemmas.List.Elements.{Contains-append_left, Contains-push}
use Rattle.module_flow_state.specs.declared.changes.Changes.{Changes}
use Rattle.module_flow_state.specs.declared.changes.FlowChanges.{FlowChanges}
use Rattle.module_flow_state.specs.steps.Changes.{AllListed, AllNotedAnew, MoreChanges, MoreNoted, NoneIn, NotedAnew, in_round, rounds_of}

pub more_none : (changes : Changes) (k : ℕ) → MoreNoted changes changes k
more_none changes k = record { listed = λ h. h; later = λ n lt h. h }

pub more_through : (a b d : Changes) (k : ℕ) → MoreNoted a b k → MoreNoted b d k → MoreNoted a d k
more_through a b d k one two = record { listed = λ h. two.listed (one.listed h); later = λ n lt h. two.later n lt (one.later n lt h) }

not_later : (k n : ℕ) → k < n → nat_eq k n ≡ false
not_later k n lt = by (nat_eq k n) refl
  where
    by : (b : Bool) → nat_eq k n ≡ b → b ≡ false
    by true e = absurd (let same = eqb-true k n e in omega (arith, same))
    by false e = refl

-- one more
pub more_one : (before after : Changes) (i k : ℕ) → ((r l : ℕ) → in_round after.rounds r l ≡ cond (nat_eq i l) (nat_eq k r) (in_round before.rounds r l)) → after.latest ≡ before.latest ++ i ∷ [] → MoreNoted before after k
more_one before after i k noted latest = record {
  listed = λ h l e. subst (λ ls. Contains ls l) (sym latest) (listed h l (nat_eq i l) refl (sym (noted k l) ∙ e));
  later = λ n lt h l. noted n l ∙ later n lt l (nat_eq i l) (h l);
}
  where
    listed : AllListed before.rounds k before.latest → (l : ℕ) (b : Bool) → nat_eq i l ≡ b → cond b (nat_eq k k) (in_round before.rounds k l) ≡ true → Contains (before.latest ++ i ∷ []) l
    listed h l true q e = subst (λ j. Contains (before.latest ++ i ∷ []) j) (eqb-true i l q) (Contains-push before.latest i)
    listed h l false q e = Contains-append_left before.latest (i ∷ []) l (h l e)

    later : (n : ℕ) → k < n → (l : ℕ) (b : Bool) → in_round before.rounds n l ≡ false → cond b (nat_eq k n) (in_round before.rounds n l) ≡ false
    later n lt l true h = not_later k n lt
    later n lt l false h = h

-- from an empty list on
pub noted_anew : (before cleared after : Changes) (k : ℕ) → cleared.rounds ≡ before.rounds → MoreNoted cleared after k → NotedAnew before after k
noted_anew before cleared after k e more = record {
  listed = λ none. more.listed (λ l h. absurd (true≢false (sym h ∙ ap (λ r. in_round r k l) e ∙ none l)));
  later = λ n lt none. more.later n lt (subst (λ r. NoneIn r n) (sym e) none);
}

-- where no round was
pub none_at_first : (rounds : List ℕ) (n : ℕ) → rounds ≡ [] → 0 < n → NoneIn rounds n
none_at_first rounds n e h l = ap (λ r. in_round r n l) e ∙ by l
  where
    by : (i : ℕ) → in_round [] n i ≡ false
    by zero = not_later 0 n h
    by (suc i) = not_later 0 n h

-- ---- both kinds of change

pub changes_none : (changes : FlowChanges) (k : ℕ) → MoreChanges changes changes k
changes_none changes k = record { entered = more_none changes.entered k; given = more_none changes.given k }

pub changes_through : (a b d : FlowChanges) (k : ℕ) → MoreChanges a b k → MoreChanges b d k → MoreChanges a d k
changes_through a b d k one two = record {
  entered = more_through a.entered b.entered d.entered k one.entered two.entered;
  given = more_through a.given b.given d.given k one.given two.given;
}

pub changes_anew : (before cleared after : FlowChanges) (k : ℕ) → rounds_of cleared ≡ rounds_of before → MoreChanges cleared after k → AllNotedAnew before after k
changes_anew before cleared after k e more = record {
  entered = noted_anew before.entered cleared.entered after.entered k (ap (λ r. r.0) e) more.entered;
  given = noted_anew before.given cleared.given after.given k (ap (λ r. r.1) e) more.given;
}
