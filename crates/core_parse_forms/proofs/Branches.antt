-- Branches that what comes next rules out, and branches in another order.
use Rattle.std.proofs.Common.{◌≡◌, ℕ, List, [], ◌∷◌, inl, inr, true, false, refl, sym, ap, ◌∙◌, subst}
use Rattle.core_scan.specs.declared.token.Token.{Token}
use Rattle.core_scan.specs.declared.sort.Sort.{Sort}
use Rattle.core_scan.specs.declared.sort.Sort.TheVariants as s
use Rattle.core_scan.specs.Sorts.{sort, fits}
use Rattle.core_scan.proofs.SortLaws.{fitting, fits_no_other}
use Rattle.core_parse_grammar.specs.Grammar.{Part, a, first, the, Nonterminal, Said, Action}
use Rattle.core_parse_grammar.specs.Faults.{Takes}
use Rattle.core_parse_grammar.specs.Matches.{Extent, all, front, MatchesAll, unseen, token, one}
use Rattle.core_parse_grammar.specs.Starters.{opens_with}
use Rattle.core_parse_grammar.specs.Track.{Branch, barred, MatchesBranch, IsSeen, Goes, Then, guards, live}
use Rattle.core_parse_grammar.proofs.Moves.{seen_first, guard_at, prune}

-- The same branches.
pub rearranged : (n : Nonterminal) (bs cs : List (Branch n)) (ts : List Token)
    → ((s : Extent) (l : ℕ) (seen : List Token) (v : Said n) (us : List Token) → MatchesBranch s l n cs seen v us → MatchesBranch s l n bs seen v us)
    → ((s : Extent) (l : ℕ) (seen : List Token) (v : Said n) (us : List Token) → MatchesBranch s l n bs seen v us → MatchesBranch s l n cs seen v us)
    → Goes n bs cs ts ts
rearranged n bs cs ts f g = record { used = []; split = refl; there = λ s l d seen v us r. f s l seen v us r; only = λ s l d seen q v us h r. g s l seen v us r }

pub swapped : (n : Nonterminal) (b c : Branch n) (bs : List (Branch n)) (ts : List Token) → Goes n (b ∷ c ∷ bs) (c ∷ b ∷ bs) ts ts
swapped n b c bs ts = rearranged n (b ∷ c ∷ bs) (c ∷ b ∷ bs) ts (λ s l seen v us r. turn r) (λ s l seen v us r. turn r)
  where
    turn : {s : Extent} {l : ℕ} {x y : Branch n} {seen us : List Token} {v : Said n} → MatchesBranch s l n (x ∷ y ∷ bs) seen v us → MatchesBranch s l n (y ∷ x ∷ bs) seen v us
    turn (inl r) = inr (inl r)
    turn (inr (inl r)) = inl r
    turn (inr (inr r)) = inr (inr r)

pub turned : (n : Nonterminal) (b c e : Branch n) (ts : List Token) → Goes n (b ∷ c ∷ e ∷ []) (e ∷ b ∷ c ∷ []) ts ts
turned n b c e ts = rearranged n (b ∷ c ∷ e ∷ []) (e ∷ b ∷ c ∷ []) ts (λ s l seen v us r. back r) (λ s l seen v us r. on r)
  where
    back : {s : Extent} {l : ℕ} {seen us : List Token} {v : Said n} → MatchesBranch s l n (e ∷ b ∷ c ∷ []) seen v us → MatchesBranch s l n (b ∷ c ∷ e ∷ []) seen v us
    back (inl r) = inr (inr (inl r))
    back (inr (inl r)) = inl r
    back (inr (inr (inl r))) = inr (inl r)
    back (inr (inr (inr r))) = absurd r

    on : {s : Extent} {l : ℕ} {seen us : List Token} {v : Said n} → MatchesBranch s l n (b ∷ c ∷ e ∷ []) seen v us → MatchesBranch s l n (e ∷ b ∷ c ∷ []) seen v us
    on (inl r) = inr (inl r)
    on (inr (inl r)) = inr (inr (inl r))
    on (inr (inr (inl r))) = inl r
    on (inr (inr (inr r))) = absurd r

-- Branches that a token of the sort rules out are gone.
pub pruned : (n : Nonterminal) (bs : List (Branch n)) (ts left : List Token) (t : Token) (q : Sort) → ts ≡ t ∷ left → sort t ≡ q → Goes n bs (live 12 n t q bs) ts ts
pruned n bs ts left t q e h = subst (λ x. Goes n bs (live 12 n t q bs) x x) (sym e) (subst (λ k. Goes n bs (live 12 n t k bs) (t ∷ left) (t ∷ left)) h (prune 12 n bs t left))

-- Where the tokens don't begin with one of a sort, none takes it.
none_taken : (s : Extent) (l : ℕ) (n : Nonterminal) (c : Sort) (ps : List Part) (b : Action (a c ∷ ps) (Said n)) (left seen us : List Token) (v : Said n) → opens_with c left ≡ false → IsSeen s seen left
    → MatchesAll s l n (a c ∷ ps) b seen v us → ⊥
none_taken all l n c ps b left seen us v e q (one (token {t = t} {ts = ts} h) r) = let z : fits c (sort t) ≡ false = ap (opens_with c) q ∙ e in absurd cc
none_taken all l n c ps b left seen us v e q (one (unseen h) r) = absurd cc
none_taken front l n c ps b left seen us v e (u, us_, more, p, k) (one (token {t = t} {ts = ts} h) r) = let z : fits c (sort t) ≡ false = sym (ap (opens_with c) k) ∙ e in absurd cc
none_taken front l n c ps b left seen us v e (u, us_, more, p, k) (one (unseen h) r) = let z : [] ≡ u ∷ us_ = p in absurd cc

pub drop_unless : (n : Nonterminal) (c : Sort) (ps : List Part) (b : Token → Action ps (Said n)) (bs : List (Branch n)) (ts : List Token) → opens_with c ts ≡ false → Goes n (record { parts = a c ∷ ps; build = b } ∷ bs) bs ts ts
drop_unless n c ps b bs ts e = record {
  used = [];
  split = refl;
  there = λ s l d seen v us r. inr r;
  only = λ s l d seen q v us h r. elim r [ inl x ↦ absurd (none_taken s l n c ps b ts seen us v e q x) | inr x ↦ x ];
}

-- Each branch wants a token of the sort.
abbrev pub First_wants : Sort → List Part → Type 0
First_wants c (a q ∷ ps) = q ≡ c
First_wants c _ = ⊥

abbrev pub All_want : (n : Nonterminal) → Sort → List (Branch n) → Type 0
All_want n c [] = Unit {0}
All_want n c (b ∷ bs) = First_wants c b.parts × All_want n c bs

none_of : (s : Extent) (l : ℕ) (n : Nonterminal) (c : Sort) (bs : List (Branch n)) (left seen us : List Token) (v : Said n) → All_want n c bs → opens_with c left ≡ false → IsSeen s seen left → MatchesBranch s l n bs seen v us
    → ⊥
none_of s l n c [] left seen us v w e q r = r
none_of s l n c (b ∷ bs) left seen us v w e q (inl r) = go b.parts b.build w.0 r
  where
    go : (ps : List Part) (f : Action ps (Said n)) → First_wants c ps → MatchesAll s l n ps f seen v us → ⊥
    go (a k ∷ ps) f z r = none_taken s l n k ps f left seen us v (ap (λ (x : Sort). opens_with x left) z ∙ e) q r
    go (first d k ∷ ps) f z r = z
    go (the m ∷ ps) f z r = z
    go [] f z r = z
none_of s l n c (b ∷ bs) left seen us v w e q (inr r) = none_of s l n c bs left seen us v w.1 e q r

pub drop_rest : (n : Nonterminal) (c : Sort) (b : Branch n) (bs : List (Branch n)) (ts : List Token) → All_want n c bs → opens_with c ts ≡ false → Goes n (b ∷ bs) (b ∷ []) ts ts
drop_rest n c b bs ts w e = record {
  used = [];
  split = refl;
  there = λ s l d seen v us r. elim r [ inl x ↦ inl x | inr x ↦ absurd x ];
  only = λ s l d seen q v us h r. elim r [ inl x ↦ inl x | inr x ↦ absurd (none_of s l n c bs ts seen us v w e q x) ];
}

-- What comes behind a part is not begun by a token that is barred there.
pub drop_guarded : (q : Sort) (m n : Nonterminal) (h : Then m n) (x : Said m) (bs : List (Branch n)) (ts left : List Token) (t : Token) → ts ≡ t ∷ left → sort t ≡ q → barred m q ≡ true
    → ((t : Token) (x : Said m) → guards q m n h.parts h.build t x ≡ true)
    → Goes n (record { parts = h.parts; build = h.build x } ∷ bs) bs ts ts
drop_guarded q m n h x bs ts left t e is k g = record {
  used = [];
  split = refl;
  there = λ s l d seen v us r. inr r;
  only = λ s l d seen o v us f r. elim r [
    | inl y ↦ absurd (let z = seen_first s t left seen (subst (λ w. IsSeen s seen w) e o) in
        guard_at s l q m n h.parts h.build t x is (g t x) k z.0 us v f (subst (λ w. MatchesAll s l n h.parts (h.build x) w v us) z.1 y))
    | inr y ↦ y
  ];
}

-- The sort of a token that was asked for, an integer's aside.
pub taken_sort : (c : Sort) (ts left : List Token) → (c ≡ s.Integer → ⊥) → (h : Takes c ts left) → sort h.first ≡ c
taken_sort c ts left k h = elim (fitting c (sort h.first) h.fits_it) [ inl e ↦ e | inr e ↦ absurd (k e.0) ]

pub opens_not : (c : Sort) (ts left : List Token) (t : Token) → ts ≡ t ∷ left → (c ≡ s.Integer → ⊥) → (sort t ≡ c → ⊥) → opens_with c ts ≡ false
opens_not c ts left t e k h = ap (opens_with c) e ∙ fits_no_other c (sort t) k h
