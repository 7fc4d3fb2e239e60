-- What a branch does at a token is what its readings do.
use Rattle.std.proofs.Common.{◌≡◌, ℕ, zero, suc, ◌≤◌, List, [], ◌∷◌, ◌++◌, ◌⊎◌, inl, inr, Bool, true, false, Option, Some, None, IsTrue, refl, sym, subst}
use Rattle.core_scan.specs.Sorts.{sort, fits}
use Rattle.core_scan.specs.declared.token.Token.{Token}
use Rattle.core_parse_grammar.specs.Grammar.{Part, a, first, the, Nonterminal, Said, Action, Way, ways}
use Rattle.core_parse_grammar.specs.Matches.{Extent, token, node, part, MatchesOne, here, later, MatchesAll, none, one}
use Rattle.core_parse_grammar.specs.Track.{Step, takes, done, compose, both, gather, take_if, look}

module _ (s : Extent) (l : ℕ) where
  pub joins : (m n : Nonterminal) (ps qs : List Part) (f : Action ps (Said m)) (g : Said m → Action qs (Said n)) (ts us vs : List Token) (x : Said m) (v : Said n)
      → MatchesAll s l m ps f ts x us → MatchesAll s l n qs (g x) us v vs → MatchesAll s l n (ps ++ qs) (compose m n ps qs f g) ts v vs
  joins m n [] qs f g ts us vs x v none r = r
  joins m n (p ∷ ps) qs f g ts us vs x v (one h t) r = one h (joins m n ps qs _ g _ us vs x v t r)

  pub splits : (m n : Nonterminal) (ps qs : List Part) (f : Action ps (Said m)) (g : Said m → Action qs (Said n)) (ts vs : List Token) (v : Said n)
      → MatchesAll s l n (ps ++ qs) (compose m n ps qs f g) ts v vs → (x : Said m) × (us : List Token) × MatchesAll s l m ps f ts x us × MatchesAll s l n qs (g x) us v vs
  splits m n [] qs f g ts vs v r = (f, ts, none, r)
  splits m n (p ∷ ps) qs f g ts vs v (one h t) = let r = splits m n ps qs _ g _ vs v t in (r.0, r.1, one h r.2, r.3)

  -- how a reading goes on after the token
  abbrev pub Goes_on : (n : Nonterminal) → Step n → Token → List Token → Said n → List Token → Type 0
  Goes_on n (takes None ps b) t ts v us = MatchesAll s l n ps b ts v us
  Goes_on n (takes (Some d) ps b) t ts v us = (d ≤ l) × MatchesAll s l n ps b ts v us
  Goes_on n (done x) t ts v us = (v ≡ x) × (us ≡ t ∷ ts)

  abbrev pub One_of : (n : Nonterminal) → List (Step n) → Token → List Token → Said n → List Token → Type 0
  One_of n [] t ts v us = ⊥
  One_of n (x ∷ xs) t ts v us = Goes_on n x t ts v us ⊎ One_of n xs t ts v us

  abbrev pub Is_shallow : (n : Nonterminal) → Step n → Type 0
  Is_shallow n (takes None ps b) = Unit {0}
  Is_shallow n (takes (Some d) ps b) = d ≤ l
  Is_shallow n (done x) = Unit {0}

  abbrev pub One_in : (n : Nonterminal) → Option (List (Step n)) → Token → List Token → Said n → List Token → Type 0
  One_in n None t ts v us = Unit {0}
  One_in n (Some xs) t ts v us = One_of n xs t ts v us

  left_of : (n : Nonterminal) (xs ys : List (Step n)) (t : Token) (ts us : List Token) (v : Said n) → One_of n xs t ts v us → One_of n (xs ++ ys) t ts v us
  left_of n (x ∷ xs) ys t ts us v (inl h) = inl h
  left_of n (x ∷ xs) ys t ts us v (inr h) = inr (left_of n xs ys t ts us v h)
  left_of n [] ys t ts us v h = absurd h

  right_of : (n : Nonterminal) (xs ys : List (Step n)) (t : Token) (ts us : List Token) (v : Said n) → One_of n ys t ts v us → One_of n (xs ++ ys) t ts v us
  right_of n (x ∷ xs) ys t ts us v h = inr (right_of n xs ys t ts us v h)
  right_of n [] ys t ts us v h = h

  either_of : (n : Nonterminal) (xs ys : List (Step n)) (t : Token) (ts us : List Token) (v : Said n) → One_of n (xs ++ ys) t ts v us → One_of n xs t ts v us ⊎ One_of n ys t ts v us
  either_of n (x ∷ xs) ys t ts us v (inl h) = inl (inl h)
  either_of n (x ∷ xs) ys t ts us v (inr h) = elim (either_of n xs ys t ts us v h) [ inl k ↦ inl (inr k) | inr k ↦ inr k ]
  either_of n [] ys t ts us v h = inr h

  left_in : (n : Nonterminal) (xs ys : Option (List (Step n))) (t : Token) (ts us : List Token) (v : Said n) → One_in n xs t ts v us → One_in n (both xs ys) t ts v us
  left_in n (Some xs) (Some ys) t ts us v h = left_of n xs ys t ts us v h
  left_in n (Some xs) None t ts us v h = tt
  left_in n None ys t ts us v h = tt

  right_in : (n : Nonterminal) (xs ys : Option (List (Step n))) (t : Token) (ts us : List Token) (v : Said n) → One_in n ys t ts v us → One_in n (both xs ys) t ts v us
  right_in n (Some xs) (Some ys) t ts us v h = right_of n xs ys t ts us v h
  right_in n (Some xs) None t ts us v h = tt
  right_in n None ys t ts us v h = tt

  take_found : (n : Nonterminal) (q : Bool) (d : Option ℕ) (ps : List Part) (f : Action ps (Said n)) (t : Token) (ts us : List Token) (v : Said n) → IsTrue q → Is_shallow n (takes d ps f) → MatchesAll s l n ps f ts v us
      → One_of n (take_if q d ps f) t ts v us
  take_found n true None ps f t ts us v e k r = inl r
  take_found n true (Some d) ps f t ts us v e k r = inl (k, r)
  take_found n false d ps f t ts us v e k r = absurd cc

  -- a step for each of the ways
  ways_found : (m n : Nonterminal) (t : Token) (ps : List Part) (b : Said m → Action ps (Said n)) (g : Way (Said m) → Option (List (Step n)))
      → ((w : Way (Said m)) (ts us : List Token) (v : Said n) → MatchesAll s l n (w.parts ++ ps) (compose m n w.parts ps w.says b) (t ∷ ts) v us → One_in n (g w) t ts v us)
      → (ws : List (Way (Said m))) (ts us vs : List Token) (x : Said m) (v : Said n) → MatchesOne s l m ws (t ∷ ts) x us → MatchesAll s l n ps (b x) us v vs → One_in n (gather g ws) t ts v vs
  ways_found m n t ps b g h [] ts us vs x v r k = elim r [ ]
  ways_found m n t ps b g h (w ∷ ws) ts us vs x v (here r) k = left_in n (g w) (gather g ws) t ts vs v (h w ts vs v (joins m n w.parts ps w.says b _ _ _ x v r k))
  ways_found m n t ps b g h (w ∷ ws) ts us vs x v (later r) k = right_in n (g w) (gather g ws) t ts vs v (ways_found m n t ps b g h ws ts us vs x v r k)

  pub found : (f : ℕ) (n : Nonterminal) (t : Token) (ps : List Part) (b : Action ps (Said n)) (ts us : List Token) (v : Said n) → MatchesAll s l n ps b (t ∷ ts) v us → One_in n (look f n t (sort t) ps b) t ts v us
  found f n t [] b ts us v none = inl (refl, refl)
  found f n t (a c ∷ ps) b ts us v (one (token h) r) = take_found n (fits c (sort t)) None ps _ t ts us v h tt r
  found f n t (first d c ∷ ps) b ts us v (one (node h k) r) = take_found n (fits c (sort t)) (Some d) ps _ t ts us v h k r
  found zero n t (the m ∷ ps) b ts us v r = tt
  found (suc f) n t (the m ∷ ps) b ts us v (one (part h) r) = ways_found m n t ps b _ (λ w ts us v. found f n t (w.parts ++ ps) (compose m n w.parts ps w.says b) ts us v) (ways m) ts _ us _ v h r

  abbrev pub Back_in : (n : Nonterminal) → Option (List (Step n)) → Token → List Token → Said n → List Token → Type 0
  Back_in n None t ts v us = ⊥
  Back_in n (Some xs) t ts v us = One_of n xs t ts v us

  take_back : (n : Nonterminal) (q : Bool) (d : Option ℕ) (p : Part) (ps : List Part) (f : Action ps (Said n)) (g : Action (p ∷ ps) (Said n)) (t : Token) (ts us : List Token) (v : Said n)
      → (IsTrue q → Is_shallow n (takes d ps f) → MatchesAll s l n ps f ts v us → MatchesAll s l n (p ∷ ps) g (t ∷ ts) v us)
      → One_of n (take_if q d ps f) t ts v us → MatchesAll s l n (p ∷ ps) g (t ∷ ts) v us
  take_back n true None p ps f g t ts us v h (inl r) = h refl tt r
  take_back n true (Some d) p ps f g t ts us v h (inl r) = h refl r.0 r.1
  take_back n true None p ps f g t ts us v h (inr r) = absurd r
  take_back n true (Some d) p ps f g t ts us v h (inr r) = absurd r
  take_back n false d p ps f g t ts us v h r = absurd r

  either_in : (n : Nonterminal) (xs ys : Option (List (Step n))) (t : Token) (ts us : List Token) (v : Said n) → Back_in n (both xs ys) t ts v us → Back_in n xs t ts v us ⊎ Back_in n ys t ts v us
  either_in n (Some xs) (Some ys) t ts us v h = either_of n xs ys t ts us v h
  either_in n (Some xs) None t ts us v h = absurd h
  either_in n None ys t ts us v h = absurd h

  ways_choice : {A B : Type 0} (m n : Nonterminal) (t : Token) (ps : List Part) (b : Said m → Action ps (Said n)) (w : Way (Said m)) (ws : List (Way (Said m))) (ts vs : List Token) (v : Said n)
      → (A → (x : Said m) × (us : List Token) × MatchesAll s l m w.parts w.says (t ∷ ts) x us × MatchesAll s l n ps (b x) us v vs)
      → (B → (x : Said m) × (us : List Token) × MatchesOne s l m ws (t ∷ ts) x us × MatchesAll s l n ps (b x) us v vs)
      → A ⊎ B → (x : Said m) × (us : List Token) × MatchesOne s l m (w ∷ ws) (t ∷ ts) x us × MatchesAll s l n ps (b x) us v vs
  ways_choice m n t ps b w ws ts vs v f g (inl k) = let z = f k in (z.0, z.1, here z.2, z.3)
  ways_choice m n t ps b w ws ts vs v f g (inr k) = let z = g k in (z.0, z.1, later z.2, z.3)

  ways_back : (m n : Nonterminal) (t : Token) (ps : List Part) (b : Said m → Action ps (Said n)) (g : Way (Said m) → Option (List (Step n)))
      → ((w : Way (Said m)) (ts us : List Token) (v : Said n) → Back_in n (g w) t ts v us → MatchesAll s l n (w.parts ++ ps) (compose m n w.parts ps w.says b) (t ∷ ts) v us)
      → (ws : List (Way (Said m))) (ts vs : List Token) (v : Said n) → Back_in n (gather g ws) t ts v vs → (x : Said m) × (us : List Token) × MatchesOne s l m ws (t ∷ ts) x us × MatchesAll s l n ps (b x) us v vs
  ways_back m n t ps b g h [] ts vs v r = absurd r
  ways_back m n t ps b g h (w ∷ ws) ts vs v r =
      ways_choice m n t ps b w ws ts vs v (λ k. splits m n w.parts ps w.says b (t ∷ ts) vs v (h w ts vs v k)) (λ k. ways_back m n t ps b g h ws ts vs v k) (either_in n (g w) (gather g ws) t ts vs v r)

  pub back : (f : ℕ) (n : Nonterminal) (t : Token) (ps : List Part) (b : Action ps (Said n)) (ts us : List Token) (v : Said n) → Back_in n (look f n t (sort t) ps b) t ts v us → MatchesAll s l n ps b (t ∷ ts) v us
  back f n t [] b ts us v (inl h) = subst (λ x. MatchesAll s l n [] b (t ∷ ts) x us) (sym h.0) (subst (λ x. MatchesAll s l n [] b (t ∷ ts) b x) (sym h.1) none)
  back f n t [] b ts us v (inr h) = absurd h
  back f n t (a c ∷ ps) b ts us v h = take_back n (fits c (sort t)) None (a c) ps (b t) b t ts us v (λ e k r. one (token e) r) h
  back f n t (first d c ∷ ps) b ts us v h = take_back n (fits c (sort t)) (Some d) (first d c) ps (b t) b t ts us v (λ e k r. one (node e k) r) h
  back zero n t (the m ∷ ps) b ts us v h = absurd h
  back (suc f) n t (the m ∷ ps) b ts us v h =
      let z = ways_back m n t ps b _ (λ w ts us v. back f n t (w.parts ++ ps) (compose m n w.parts ps w.says b) ts us v) (ways m) ts us v h in one (part z.2) z.3
