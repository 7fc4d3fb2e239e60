-- How a part's branches go on: by a token, by a part, to a fault.
use Rattle.std.proofs.Common.{◌≡◌, ℕ, suc, ◌≤◌, List, [], ◌∷◌, ◌++◌, ◌⊎◌, inl, inr, Bool, true, false, Option, Some, None, refl, sym, ap, ◌∙◌, subst, append_assoc, append-nil, if◌then◌else◌, arith}
use Rattle.core_scan.specs.declared.sort.Sort.{Sort}
use Rattle.core_scan.specs.declared.sort.Sort.TheVariants as q_
use Rattle.core_scan.specs.Sorts.{sort}
use Rattle.core_scan.specs.declared.token.Token.{Token}
use Rattle.type_kinds.specs.declared.place.Place.{Place}
use Rattle.core_scan.specs.declared.token.TokenKind.TheVariants as tk
use Rattle.core_ast.specs.Model as m_
use Rattle.core_ast.specs.declared.syntax.FunName.{FunName}
use Rattle.core_ast.specs.declared.syntax.VarName.{VarName}
use Rattle.core_ast.specs.declared.syntax.Literal.TheVariants as lit
use Rattle.core_parse_grammar.specs.declared.notes.Constant.TheVariants.{Another}
use Rattle.core_parse_grammar.specs.Build.{at, nil, no_note}
use Rattle.core_parse_grammar.specs.Grammar.{Part, a, first, the, Nonterminal, SaidBy, Said, Action, Way, ways, noted_, annotation, many, more, annotated_module, «module», attribute, function_name, definition}
use Rattle.core_parse_grammar.specs.Grammar.{function, definitions, variable, variables, literal, constant, other_constant, constant_list, constant_rest, constant_tail, constant_segment, constant_pair}
use Rattle.core_parse_grammar.specs.Grammar.{expression, bare_expression, other_expression, list, list_rest, list_tail, segment, pairs, more_pairs, pair, bare_pair, clauses_to, clause, bare_clause}
use Rattle.core_parse_grammar.specs.Grammar.{clause_patterns, pattern, bare_pattern, other_pattern, alias_variable, pattern_list, pattern_rest, pattern_tail, pattern_segment, pattern_pair, bare_pattern_pair}
use Rattle.core_parse_grammar.specs.Matches.{Extent, all, front, Matches, unseen, part, MatchesOne, here, later, MatchesAll, none, one}
use Rattle.core_parse_grammar.specs.Begins.{depth_limit}
use Rattle.core_parse_grammar.specs.Track.{Branch, deeper_limit, barred, IsFree, MatchesBranch, IsSeen, Goes, itself, said, Passes, Stops, Wants, Sinks, Step, takes, done, look, after_steps, after_look}
use Rattle.core_parse_grammar.specs.Track.{next, steps_fine, look_fine, fine, depths_in, depths_look, Shallow, compose, live_look, live, Then, opened, passed, expansions, only_ends, guards, Guarded}
use Rattle.core_parse_grammar.proofs.Look.{joins, splits, One_of, One_in, found, Back_in, back}

pub stay : (n : Nonterminal) (bs : List (Branch n)) (ts : List Token) → Goes n bs bs ts ts
stay n bs ts = record { used = []; split = refl; there = λ s l d seen v us h. h; only = λ s l d seen e v us q h. h }

seen_more : (s : Extent) (used seen left all_left : List Token) → all_left ≡ used ++ left → IsSeen s seen left → IsSeen s (used ++ seen) all_left
seen_more all used seen left al e h = ap (λ x. used ++ x) h ∙ sym e
seen_more front [] seen left al e (t, ts, m, p, q) = (t, ts, m, p, e ∙ q)
seen_more front (u ∷ us) seen left al e (t, ts, m, p, q) = (u, us ++ seen, m, refl, e ∙ ap (λ x. u ∷ (us ++ x)) q ∙ ap (λ x. u ∷ x) (sym (append_assoc us seen m)))

infixl 20 ◌>>◌
pub ◌>>◌ : {n : Nonterminal} {bs cs ds : List (Branch n)} {ts us vs : List Token} → Goes n bs cs ts us → Goes n cs ds us vs → Goes n bs ds ts vs
◌>>◌ {n} {bs} {cs} {ds} {ts} {us} {vs} g h = record {
  used = g.used ++ h.used;
  split = g.split ∙ ap (λ x. g.used ++ x) h.split ∙ sym (append_assoc g.used h.used vs);
  there = λ s l d seen v ws r. subst (λ x. MatchesBranch s l n bs x v ws) (sym (append_assoc g.used h.used seen)) (g.there s l d (h.used ++ seen) v ws (h.there s l d seen v ws r));
  only = λ s l d seen e v ws q r. h.only s l d seen e v ws q (g.only s l d (h.used ++ seen) (seen_more s h.used seen vs us h.split e) v ws q (subst (λ x. MatchesBranch s l n bs x v ws) (append_assoc g.used h.used seen) r));
}

-- along equal tokens
pub along : {n : Nonterminal} {bs cs : List (Branch n)} {ts us vs : List Token} → ts ≡ us → Goes n bs cs us vs → Goes n bs cs ts vs
along {n} {bs} {cs} {ts} {us} {vs} e g = subst (λ x. Goes n bs cs x vs) (sym e) g

module _ (s : Extent) (l : ℕ) (n : Nonterminal) where
  left_branch : (bs cs : List (Branch n)) (ts us : List Token) (v : Said n) → MatchesBranch s l n bs ts v us → MatchesBranch s l n (bs ++ cs) ts v us
  left_branch [] cs ts us v h = absurd h
  left_branch (b ∷ bs) cs ts us v (inl h) = inl h
  left_branch (b ∷ bs) cs ts us v (inr h) = inr (left_branch bs cs ts us v h)

  right_branch : (bs cs : List (Branch n)) (ts us : List Token) (v : Said n) → MatchesBranch s l n cs ts v us → MatchesBranch s l n (bs ++ cs) ts v us
  right_branch [] cs ts us v h = h
  right_branch (b ∷ bs) cs ts us v h = inr (right_branch bs cs ts us v h)

  either_branch : (bs cs : List (Branch n)) (ts us : List Token) (v : Said n) → MatchesBranch s l n (bs ++ cs) ts v us → MatchesBranch s l n bs ts v us ⊎ MatchesBranch s l n cs ts v us
  either_branch [] cs ts us v h = inr h
  either_branch (b ∷ bs) cs ts us v (inl h) = inl (inl h)
  either_branch (b ∷ bs) cs ts us v (inr h) = elim (either_branch bs cs ts us v h) [ inl r ↦ inl (inr r) | inr r ↦ inr r ]

  steps_after : (t : Token) (q : Bool) (xs : List (Step n)) → barred n (sort t) ≡ q → steps_fine n q xs ≡ true → (ts us : List Token) (v : Said n) → IsFree n us → One_of s l n xs t ts v us
      → MatchesBranch s l n (after_steps n xs) ts v us
  steps_after t q [] e f ts us v h r = absurd r
  steps_after t q (takes None ps b ∷ xs) e f ts us v h (inl r) = inl r
  steps_after t q (takes (Some d) ps b ∷ xs) e f ts us v h (inl r) = inl r.1
  steps_after t q (takes None ps b ∷ xs) e f ts us v h (inr r) = inr (steps_after t q xs e f ts us v h r)
  steps_after t q (takes (Some d) ps b ∷ xs) e f ts us v h (inr r) = inr (steps_after t q xs e f ts us v h r)
  steps_after t true (done x ∷ xs) e f ts us v h (inl r) = let k = subst (λ y. IsFree n y) r.1 h in absurd cc
  steps_after t true (done x ∷ xs) e f ts us v h (inr r) = steps_after t true xs e f ts us v h r
  steps_after t false (done x ∷ xs) e f ts us v h r = absurd cc

  look_after : (t : Token) (o : Option (List (Step n))) → look_fine n (barred n (sort t)) o ≡ true → (ts us : List Token) (v : Said n) → IsFree n us → One_in s l n o t ts v us → MatchesBranch s l n (after_look n o) ts v us
  look_after t None f ts us v h r = absurd cc
  look_after t (Some xs) f ts us v h r = steps_after t (barred n (sort t)) xs refl f ts us v h r

  after_back : (t : Token) (xs : List (Step n)) → depths_in n xs l → (ts us : List Token) (v : Said n) → MatchesBranch s l n (after_steps n xs) ts v us → One_of s l n xs t ts v us
  after_back t [] d ts us v r = r
  after_back t (takes None ps b ∷ xs) d ts us v (inl r) = inl r
  after_back t (takes (Some e) ps b ∷ xs) d ts us v (inl r) = inl (d.0, r)
  after_back t (takes None ps b ∷ xs) d ts us v (inr r) = inr (after_back t xs d ts us v r)
  after_back t (takes (Some e) ps b ∷ xs) d ts us v (inr r) = inr (after_back t xs d.1 ts us v r)
  after_back t (done x ∷ xs) d ts us v r = inr (after_back t xs d ts us v r)

  look_back : (t : Token) (o : Option (List (Step n))) → depths_look n o l → (ts us : List Token) (v : Said n) → MatchesBranch s l n (after_look n o) ts v us → Back_in s l n o t ts v us
  look_back t None d ts us v r = r
  look_back t (Some xs) d ts us v r = after_back t xs d ts us v r

  next_there : (f : ℕ) (t : Token) (bs : List (Branch n)) → Shallow f n t (sort t) bs l → (ts us : List Token) (v : Said n) → MatchesBranch s l n (next f n t (sort t) bs) ts v us → MatchesBranch s l n bs (t ∷ ts) v us
  next_there f t [] d ts us v r = r
  next_there f t (b ∷ bs) d ts us v r = elim (either_branch (after_look n (look f n t (sort t) b.parts b.build)) (next f n t (sort t) bs) ts us v r)
      [ inl x ↦ inl (back s l f n t b.parts b.build ts us v (look_back t (look f n t (sort t) b.parts b.build) d.0 ts us v x)) | inr x ↦ inr (next_there f t bs d.1 ts us v x) ]

  if_both : (p q : Bool) → (if p then q else false) ≡ true → (p ≡ true) × (q ≡ true)
  if_both true q e = (refl, e)
  if_both false q e = absurd cc

  next_only : (f : ℕ) (t : Token) (bs : List (Branch n)) → fine f n t (sort t) bs ≡ true → (ts us : List Token) (v : Said n) → IsFree n us → MatchesBranch s l n bs (t ∷ ts) v us
      → MatchesBranch s l n (next f n t (sort t) bs) ts v us
  next_only f t [] e ts us v h r = r
  next_only f t (b ∷ bs) e ts us v h (inl r) = left_branch _ (next f n t (sort t) bs) ts us v
      (look_after t (look f n t (sort t) b.parts b.build) (if_both _ (fine f n t (sort t) bs) e).0 ts us v h (found s l f n t b.parts b.build ts us v r))
  next_only f t (b ∷ bs) e ts us v h (inr r) = right_branch (after_look n (look f n t (sort t) b.parts b.build)) (next f n t (sort t) bs) ts us v
      (next_only f t bs (if_both (look_fine n (barred n (sort t)) (look f n t (sort t) b.parts b.build)) _ e).1 ts us v h r)

  live_there : (f : ℕ) (t : Token) (bs : List (Branch n)) (ts us : List Token) (v : Said n) → MatchesBranch s l n (live f n t (sort t) bs) ts v us → MatchesBranch s l n bs ts v us
  live_there f t [] ts us v r = r
  live_there f t (b ∷ bs) ts us v r = go (look f n t (sort t) b.parts b.build) (live_there f t bs ts us v) r
    where
      go : (o : Option (List (Step n))) → (MatchesBranch s l n (live f n t (sort t) bs) ts v us → MatchesBranch s l n bs ts v us) → MatchesBranch s l n (live_look n o b ++ live f n t (sort t) bs) ts v us
          → MatchesBranch s l n (b ∷ bs) ts v us
      go (Some []) h r = inr (h r)
      go (Some (x ∷ xs)) h (inl r) = inl r
      go (Some (x ∷ xs)) h (inr r) = inr (h r)
      go None h (inl r) = inl r
      go None h (inr r) = inr (h r)

  live_only : (f : ℕ) (t : Token) (bs : List (Branch n)) (ts us : List Token) (v : Said n) → MatchesBranch s l n bs (t ∷ ts) v us → MatchesBranch s l n (live f n t (sort t) bs) (t ∷ ts) v us
  live_only f t [] ts us v r = r
  live_only f t (b ∷ bs) ts us v (inl r) = go (look f n t (sort t) b.parts b.build) (found s l f n t b.parts b.build ts us v r)
    where
      go : (o : Option (List (Step n))) → One_in s l n o t ts v us → MatchesBranch s l n (live_look n o b ++ live f n t (sort t) bs) (t ∷ ts) v us
      go (Some []) h = absurd h
      go (Some (x ∷ xs)) h = inl r
      go None h = inl r
  live_only f t (b ∷ bs) ts us v (inr r) = right_branch (live_look n (look f n t (sort t) b.parts b.build) b) (live f n t (sort t) bs) (t ∷ ts) us v (live_only f t bs ts us v r)

-- what is seen of tokens begins with the first of them
pub seen_first : (s : Extent) (t : Token) (left seen : List Token) → IsSeen s seen (t ∷ left) → (ts : List Token) × (seen ≡ t ∷ ts)
seen_first all t left seen h = (left, h)
seen_first front t left seen (u, us, m, p, q) = (us, go)
  where
    go : seen ≡ t ∷ us
    go = let r : t ∷ left ≡ (u ∷ us) ++ m = q ∙ ap (λ x. x ++ m) p in cc

-- a token is taken
pub advance : (f : ℕ) (n : Nonterminal) (bs : List (Branch n)) (t : Token) (left : List Token) → fine f n t (sort t) bs ≡ true → ((l : ℕ) → depth_limit ≤ l → Shallow f n t (sort t) bs l)
    → Goes n bs (next f n t (sort t) bs) (t ∷ left) left
advance f n bs t left e d = record {
  used = t ∷ [];
  split = refl;
  there = λ s l m seen v us r. next_there s l n f t bs (d l m) seen us v r;
  only = λ s l m seen q v us h r. next_only s l n f t bs e seen us v h r;
}

-- branches that the next token rules out are gone
pub prune : (f : ℕ) (n : Nonterminal) (bs : List (Branch n)) (t : Token) (left : List Token) → Goes n bs (live f n t (sort t) bs) (t ∷ left) (t ∷ left)
prune f n bs t left = record {
  used = [];
  split = refl;
  there = λ s l m seen v us r. live_there s l n f t bs seen us v r;
  only = λ s l m seen q v us h r. let z = seen_first s t left seen q in
      subst (λ x. MatchesBranch s l n (live f n t (sort t) bs) x v us) (sym z.1) (live_only s l n f t bs z.0 us v (subst (λ x. MatchesBranch s l n bs x v us) z.1 r));
}

-- Nothing is read from no tokens, where all of them are seen.
abbrev Some_parts : List Part → Type 0
Some_parts [] = ⊥
Some_parts (p ∷ ps) = Unit {0}

abbrev Begins_ : {R : Type 0} → List (Way R) → Type 0
Begins_ [] = Unit {0}
Begins_ (w ∷ ws) = Some_parts w.parts × Begins_ ws

each_begins : (n : Nonterminal) → Begins_ (ways n)
each_begins (noted_ p) = (tt, (tt, tt))
each_begins annotation = (tt, tt)
each_begins (many c p) = (tt, (tt, tt))
each_begins (more c p) = (tt, (tt, tt))
each_begins annotated_module = (tt, tt)
each_begins «module» = (tt, tt)
each_begins attribute = (tt, tt)
each_begins (definitions c d) = (tt, (tt, tt))
each_begins (definition d) = (tt, tt)
each_begins function_name = (tt, tt)
each_begins (function d) = (tt, tt)
each_begins variable = (tt, tt)
each_begins variables = (tt, (tt, tt))
each_begins (literal d) = (tt, (tt, (tt, (tt, (tt, (tt, tt))))))
each_begins (constant d) = (tt, (tt, tt))
each_begins (other_constant d) = (tt, (tt, (tt, (tt, (tt, tt)))))
each_begins (constant_list d) = (tt, (tt, tt))
each_begins (constant_rest d) = (tt, (tt, (tt, tt)))
each_begins (constant_tail d) = (tt, (tt, tt))
each_begins (constant_segment d) = (tt, tt)
each_begins (constant_pair d) = (tt, tt)
each_begins (expression d) = (tt, tt)
each_begins (bare_expression d) = (tt, (tt, tt))
each_begins (other_expression d) = (tt, (tt, (tt, (tt, (tt, (tt, (tt, (tt, (tt, (tt, (tt, (tt, (tt, (tt, (tt, (tt, (tt, (tt, (tt, tt)))))))))))))))))))
each_begins (list d) = (tt, (tt, tt))
each_begins (list_rest d) = (tt, (tt, (tt, tt)))
each_begins (list_tail d) = (tt, (tt, (tt, tt)))
each_begins (segment d) = (tt, tt)
each_begins (pairs d) = (tt, (tt, (tt, tt)))
each_begins (more_pairs d) = (tt, (tt, (tt, tt)))
each_begins (pair d) = (tt, tt)
each_begins (bare_pair d) = (tt, (tt, tt))
each_begins (clauses_to c d) = (tt, (tt, tt))
each_begins (clause d) = (tt, tt)
each_begins (bare_clause d) = (tt, tt)
each_begins (clause_patterns d) = (tt, (tt, (tt, tt)))
each_begins (pattern d) = (tt, tt)
each_begins (bare_pattern d) = (tt, (tt, tt))
each_begins (other_pattern d) = (tt, (tt, (tt, (tt, (tt, (tt, tt))))))
each_begins (alias_variable d) = (tt, (tt, tt))
each_begins (pattern_list d) = (tt, (tt, tt))
each_begins (pattern_rest d) = (tt, (tt, (tt, tt)))
each_begins (pattern_tail d) = (tt, (tt, (tt, tt)))
each_begins (pattern_segment d) = (tt, tt)
each_begins (pattern_pair d) = (tt, tt)
each_begins (bare_pattern_pair d) = (tt, tt)

mutual
  pub no_part : (l : ℕ) (p : Part) (v : SaidBy p) (us : List Token) → Matches all l p [] v us → ⊥
  no_part l p v us (unseen e) = absurd cc
  no_part l (the n) v us (part h) = no_way l n (ways n) v us (each_begins n) h

  no_way : (l : ℕ) (n : Nonterminal) (ws : List (Way (Said n))) (v : Said n) (us : List Token) → Begins_ ws → MatchesOne all l n ws [] v us → ⊥
  no_way l n [] v us b h = elim h [ ]
  no_way l n (w ∷ ws) v us b (here h) = no_parts l n w.parts w.says v us b.0 h
  no_way l n (w ∷ ws) v us b (later h) = no_way l n ws v us b.1 h

  no_parts : (l : ℕ) (n : Nonterminal) (ps : List Part) (f : Action ps (Said n)) (v : Said n) (us : List Token) → Some_parts ps → MatchesAll all l n ps f [] v us → ⊥
  no_parts l n [] f v us b h = absurd b
  no_parts l n (p ∷ ps) f v us b (one h k) = no_part l p _ _ h

abbrev pub ended_one : (n : Nonterminal) → Branch n → List Part → List (Branch n)
ended_one n b [] = b ∷ []
ended_one n b (p ∷ ps) = []

-- the branches that are done
abbrev pub ended : (n : Nonterminal) → List (Branch n) → List (Branch n)
ended n [] = []
ended n (b ∷ bs) = ended_one n b b.parts ++ ended n bs

ended_there : (s : Extent) (l : ℕ) (n : Nonterminal) (bs : List (Branch n)) (ts us : List Token) (v : Said n) → MatchesBranch s l n (ended n bs) ts v us → MatchesBranch s l n bs ts v us
ended_there s l n [] ts us v r = r
ended_there s l n (b ∷ bs) ts us v r = go b.parts (ended_there s l n bs ts us v) r
  where
    go : (ps : List Part) → (MatchesBranch s l n (ended n bs) ts v us → MatchesBranch s l n bs ts v us) → MatchesBranch s l n (ended_one n b ps ++ ended n bs) ts v us → MatchesBranch s l n (b ∷ bs) ts v us
    go [] h (inl r) = inl r
    go [] h (inr r) = inr (h r)
    go (p ∷ ps) h r = inr (h r)

ended_only : (l : ℕ) (n : Nonterminal) (bs : List (Branch n)) (us : List Token) (v : Said n) → MatchesBranch all l n bs [] v us → MatchesBranch all l n (ended n bs) [] v us
ended_only l n [] us v r = r
ended_only l n (b ∷ bs) us v (inl r) = go b.parts b.build r
  where
    go : (ps : List Part) (f : Action ps (Said n)) → MatchesAll all l n ps f [] v us → MatchesBranch all l n (ended_one n b ps ++ ended n bs) [] v us
    go [] f h = inl r
    go (p ∷ ps) f h = absurd (no_parts l n (p ∷ ps) f v us tt h)
ended_only l n (b ∷ bs) us v (inr r) = right_branch all l n (ended_one n b b.parts) (ended n bs) [] us v (ended_only l n bs us v r)

-- where the text ends, the branches that want more are gone
pub finish : (n : Nonterminal) (bs : List (Branch n)) → Goes n bs (ended n bs) [] []
finish n bs = record {
  used = [];
  split = refl;
  there = λ s l m seen v us r. ended_there s l n bs seen us v r;
  only = go;
}
  where
    go : (s : Extent) (l : ℕ) → depth_limit ≤ l → (seen : List Token) → IsSeen s seen [] → (v : Said n) (us : List Token) → IsFree n us → MatchesBranch s l n bs seen v us → MatchesBranch s l n (ended n bs) seen v us
    go all l m seen q v us h r = subst (λ x. MatchesBranch all l n (ended n bs) x v us) (sym q) (ended_only l n bs us v (subst (λ x. MatchesBranch all l n bs x v us) q r))
    go front l m seen (t, ts, m2, p, e) v us h r = let z : [] ≡ (t ∷ ts) ++ m2 = e ∙ ap (λ x. x ++ m2) p in absurd cc

-- a the's ways in its place
pub expand : (n m : Nonterminal) (ps : List Part) (b : Said m → Action ps (Said n)) (bs : List (Branch n)) (ts : List Token)
    → Goes n (record { parts = the m ∷ ps; build = b } ∷ bs) (expansions m n ps b (ways m) ++ bs) ts ts
expand n m ps b bs ts = record {
  used = [];
  split = refl;
  there = λ s l k seen v us r. elim (either_branch s l n (expansions m n ps b (ways m)) bs seen us v r) [ inl x ↦ inl (up s l seen v us (ways m) x) | inr x ↦ inr x ];
  only = λ s l k seen q v us h r. down s l seen q v us r;
}
  where
    up_one : (s : Extent) (l : ℕ) (seen : List Token) (v : Said n) (us : List Token) (ws : List (Way (Said m))) → MatchesBranch s l n (expansions m n ps b ws) seen v us
        → (x : Said m) × (mid : List Token) × MatchesOne s l m ws seen x mid × MatchesAll s l n ps (b x) mid v us
    up_one s l seen v us [] r = absurd r
    up_one s l seen v us (w ∷ ws) (inl r) = let z = splits s l m n w.parts ps w.says b seen us v r in (z.0, z.1, here z.2, z.3)
    up_one s l seen v us (w ∷ ws) (inr r) = let z = up_one s l seen v us ws r in (z.0, z.1, later z.2, z.3)

    up : (s : Extent) (l : ℕ) (seen : List Token) (v : Said n) (us : List Token) (ws : List (Way (Said m))) → MatchesBranch s l n (expansions m n ps b (ways m)) seen v us → MatchesAll s l n (the m ∷ ps) b seen v us
    up s l seen v us ws r = let z = up_one s l seen v us (ways m) r in one (part z.2) z.3

    down_one : (s : Extent) (l : ℕ) (seen mid : List Token) (x : Said m) (v : Said n) (us : List Token) (ws : List (Way (Said m))) → MatchesOne s l m ws seen x mid → MatchesAll s l n ps (b x) mid v us
        → MatchesBranch s l n (expansions m n ps b ws) seen v us
    down_one s l seen mid x v us [] h r = elim h [ ]
    down_one s l seen mid x v us (w ∷ ws) (here h) r = inl (joins s l m n w.parts ps w.says b seen mid us x v h r)
    down_one s l seen mid x v us (w ∷ ws) (later h) r = inr (down_one s l seen mid x v us ws h r)

    down_part : (s : Extent) (l : ℕ) (seen mid : List Token) (x : Said m) (v : Said n) (us : List Token) → IsSeen s seen ts → Matches s l (the m) seen x mid → MatchesAll s l n ps (b x) mid v us
        → MatchesBranch s l n (expansions m n ps b (ways m)) seen v us
    down_part s l seen mid x v us q (part h) r = down_one s l seen mid x v us (ways m) h r
    down_part s l seen mid x v us q (unseen e) r = let z = subst (λ y. IsSeen y [] ts) e q in let w : [] ≡ z.0 ∷ z.1 = z.3 in absurd cc

    down_all : (s : Extent) (l : ℕ) (seen : List Token) → IsSeen s seen ts → (v : Said n) (us : List Token) → MatchesAll s l n (the m ∷ ps) b seen v us → MatchesBranch s l n (expansions m n ps b (ways m)) seen v us
    down_all s l seen q v us (one h r) = down_part s l seen _ _ v us q h r

    down : (s : Extent) (l : ℕ) (seen : List Token) → IsSeen s seen ts → (v : Said n) (us : List Token) → MatchesBranch s l n (record { parts = the m ∷ ps; build = b } ∷ bs) seen v us
        → MatchesBranch s l n (expansions m n ps b (ways m) ++ bs) seen v us
    down s l seen q v us (inl r) = left_branch s l n (expansions m n ps b (ways m)) bs seen us v (down_all s l seen q v us r)
    down s l seen q v us (inr r) = right_branch s l n (expansions m n ps b (ways m)) bs seen us v r

-- What is barred after a part is free there, where what follows doesn't begin with it.
barred_sort : (n : Nonterminal) (q : Sort) → barred n q ≡ true → (q ≡ q_.Slash) ⊎ (q ≡ q_.Equals)
barred_sort (definition d) q_.Slash e = inl refl
barred_sort (function d) q_.Slash e = inl refl
barred_sort (expression d) q_.Slash e = inl refl
barred_sort (bare_expression d) q_.Slash e = inl refl
barred_sort (other_expression d) q_.Slash e = inl refl
barred_sort (list d) q_.Slash e = inl refl
barred_sort (list_tail d) q_.Slash e = inl refl
barred_sort (pair d) q_.Slash e = inl refl
barred_sort (bare_pair d) q_.Slash e = inl refl
barred_sort (clause d) q_.Slash e = inl refl
barred_sort (bare_clause d) q_.Slash e = inl refl
barred_sort (clause_patterns d) q_.Equals e = inr refl
barred_sort (pattern d) q_.Equals e = inr refl
barred_sort (bare_pattern d) q_.Equals e = inr refl
barred_sort (other_pattern d) q_.Equals e = inr refl
barred_sort (pattern_list d) q_.Equals e = inr refl
barred_sort (pattern_tail d) q_.Equals e = inr refl
barred_sort (pattern_pair d) q_.Equals e = inr refl
barred_sort (bare_pattern_pair d) q_.Equals e = inr refl
barred_sort _ _ e = absurd cc

module _ (s : Extent) (l : ℕ) where
  pub un_itself : (m : Nonterminal) (ts us : List Token) (x : Said m) → MatchesBranch s l m (itself m) ts x us → Matches s l (the m) ts x us
  un_itself m ts us x (inl (one q none)) = q
  un_itself m ts us x (inr r) = absurd r

  pub to_itself : (m : Nonterminal) (ts us : List Token) (x : Said m) → Matches s l (the m) ts x us → MatchesBranch s l m (itself m) ts x us
  to_itself m ts us x q = inl (one q none)

  pub un_said : (m : Nonterminal) (x y : Said m) (seen mid : List Token) → MatchesBranch s l m (said m x) seen y mid → (y ≡ x) × (mid ≡ seen)
  un_said m x y seen mid (inl none) = (refl, refl)
  un_said m x y seen mid (inr r) = absurd r

  -- a token that a look finds nothing for begins no reading
  not_begun : (n : Nonterminal) (q : Bool) (o : Option (List (Step n))) → only_ends n q o ≡ true → (t : Token) (ts us : List Token) (v : Said n) → One_in s l n o t ts v us → (q ≡ true) × (us ≡ t ∷ ts)
  not_begun n q (Some []) e t ts us v r = absurd r
  not_begun n true (Some (done x ∷ [])) e t ts us v (inl r) = (refl, r.1)
  not_begun n true (Some (done x ∷ [])) e t ts us v (inr r) = absurd r
  not_begun n false (Some (done x ∷ [])) e t ts us v r = absurd cc
  not_begun n q (Some (done x ∷ y ∷ xs)) e t ts us v r = go q e
    where
      go : (q : Bool) → only_ends n q (Some (done x ∷ y ∷ xs)) ≡ true → (q ≡ true) × (us ≡ t ∷ ts)
      go true e = absurd cc
      go false e = absurd cc
  not_begun n q (Some (takes d ps f ∷ xs)) e t ts us v r = go q e
    where
      go : (q : Bool) → only_ends n q (Some (takes d ps f ∷ xs)) ≡ true → (q ≡ true) × (us ≡ t ∷ ts)
      go true e = absurd cc
      go false e = absurd cc
  not_begun n q None e t ts us v r = go q e
    where
      go : (q : Bool) → only_ends n q None ≡ true → (q ≡ true) × (us ≡ t ∷ ts)
      go true e = absurd cc
      go false e = absurd cc

  pub guard_at : (q : Sort) (m n : Nonterminal) (ps : List Part) (b : Said m → Action ps (Said n)) (t : Token) (x : Said m) → sort t ≡ q → guards q m n ps b t x ≡ true → barred m q ≡ true
      → (ts us : List Token) (v : Said n) → IsFree n us → MatchesAll s l n ps (b x) (t ∷ ts) v us → ⊥
  guard_at q m n ps b t x is g e ts us v h r =
      let o = look 12 n t q ps (b x) in
      let z = not_begun n (barred n q) o (if_true (barred m q) (only_ends n (barred n q) o) e g) t ts us v (subst (λ k. One_in s l n (look 12 n t k ps (b x)) t ts v us) is (found s l 12 n t ps (b x) ts us v r)) in
      let w = subst (λ y. IsFree n y) z.1 h in differ (sym (ap (barred n) is) ∙ w) z.0
    where
      if_true : (p q : Bool) → p ≡ true → (if p then q else true) ≡ true → q ≡ true
      if_true true q e f = f
      if_true false q e f = absurd cc

      differ : {p : Bool} → p ≡ false → p ≡ true → ⊥
      differ e f = absurd cc

  free_after : (m n : Nonterminal) (h : Then m n) (x : Said m) → ((t : Token) (x : Said m) → guards q_.Slash m n h.parts h.build t x ≡ true) → ((t : Token) (x : Said m) → guards q_.Equals m n h.parts h.build t x ≡ true)
      → (mid us : List Token) (v : Said n) → IsFree n us → MatchesAll s l n h.parts (h.build x) mid v us → IsFree m mid
  free_after m n h x p q [] us v f r = λ e. e
  free_after m n h x p q (t ∷ ts) us v f r = go (barred m (sort t)) refl
    where
      go : (y : Bool) → barred m (sort t) ≡ y → barred m (sort t) ≡ false
      go false e = e
      go true e = absurd (elim (barred_sort m (sort t) e) [
        | inl z ↦ guard_at q_.Slash m n h.parts h.build t x z (p t x) (sym (ap (barred m) z) ∙ e) ts us v f r
        | inr z ↦ guard_at q_.Equals m n h.parts h.build t x z (q t x) (sym (ap (barred m) z) ∙ e) ts us v f r
      ])

pub reads : (m : Nonterminal) (ts left : List Token) (x : Said m) (g : Passes m ts x left) (s : Extent) (l : ℕ) → depth_limit ≤ l → (seen : List Token) → Matches s l (the m) (g.used ++ seen) x seen
reads m ts left x g s l d seen = un_itself s l m (g.used ++ seen) seen x (g.there s l d seen x seen (inl none))

-- a part is passed
pub pass : (m n : Nonterminal) (hs : List (Then m n)) (ts left : List Token) (x : Said m) → Guarded m n hs → Passes m ts x left → Goes n (opened m n hs) (passed m n x hs) ts left
pass m n hs ts left x q g = record {
  used = g.used;
  split = g.split;
  there = λ s l d seen v us r. up s l d seen v us hs r;
  only = λ s l d seen e v us f r. down s l d seen e v us f hs q r;
}
  where
    up : (s : Extent) (l : ℕ) → depth_limit ≤ l → (seen : List Token) (v : Said n) (us : List Token) (hs : List (Then m n)) → MatchesBranch s l n (passed m n x hs) seen v us
        → MatchesBranch s l n (opened m n hs) (g.used ++ seen) v us
    up s l d seen v us [] r = r
    up s l d seen v us (h ∷ hs) (inl r) = inl (one (reads m ts left x g s l d seen) r)
    up s l d seen v us (h ∷ hs) (inr r) = inr (up s l d seen v us hs r)

    here_ : (s : Extent) (l : ℕ) → depth_limit ≤ l → (seen : List Token) → IsSeen s seen left → (v : Said n) (us : List Token) → IsFree n us → (h : Then m n)
        → ((t : Token) (x : Said m) → guards q_.Slash m n h.parts h.build t x ≡ true) → ((t : Token) (x : Said m) → guards q_.Equals m n h.parts h.build t x ≡ true)
        → MatchesAll s l n (the m ∷ h.parts) h.build (g.used ++ seen) v us → MatchesAll s l n h.parts (h.build x) seen v us
    here_ s l d seen e v us f h p q (one {x = y} {us = mid} r1 r2) =
        let z = un_said s l m x y seen mid (g.only s l d seen e y mid (free_after s l m n h y p q mid us v f r2) (to_itself s l m (g.used ++ seen) mid y r1)) in
        subst (λ w. MatchesAll s l n h.parts (h.build x) w v us) z.1 (subst (λ w. MatchesAll s l n h.parts (h.build w) mid v us) z.0 r2)

    down : (s : Extent) (l : ℕ) → depth_limit ≤ l → (seen : List Token) → IsSeen s seen left → (v : Said n) (us : List Token) → IsFree n us → (hs : List (Then m n)) → Guarded m n hs
        → MatchesBranch s l n (opened m n hs) (g.used ++ seen) v us → MatchesBranch s l n (passed m n x hs) seen v us
    down s l d seen e v us f [] q r = r
    down s l d seen e v us f (h ∷ hs) q (inl r) = inl (here_ s l d seen e v us f h q.0 q.1 r)
    down s l d seen e v us f (h ∷ hs) q (inr r) = inr (down s l d seen e v us f hs q.2 r)

-- a part is begun, in one branch
pub enter : (m n : Nonterminal) (ps qs : List Part) (b : Action ps (Said m)) (c : Said m → Action qs (Said n)) (ts left : List Token) → Guarded m n (record { parts = qs; build = c } ∷ [])
    → Goes m (itself m) (record { parts = ps; build = b } ∷ []) ts left → Goes n (record { parts = the m ∷ qs; build = c } ∷ []) (record { parts = ps ++ qs; build = compose m n ps qs b c } ∷ []) ts left
enter m n ps qs b c ts left q g = record {
  used = g.used;
  split = g.split;
  there = up;
  only = down;
}
  where
    up : (s : Extent) (l : ℕ) → depth_limit ≤ l → (seen : List Token) (v : Said n) (us : List Token) → MatchesBranch s l n (record { parts = ps ++ qs; build = compose m n ps qs b c } ∷ []) seen v us
        → MatchesBranch s l n (record { parts = the m ∷ qs; build = c } ∷ []) (g.used ++ seen) v us
    up s l d seen v us (inr r) = inr r
    up s l d seen v us (inl r) = let z = splits s l m n ps qs b c seen us v r in inl (one (un_itself s l m (g.used ++ seen) z.1 z.0 (g.there s l d seen z.0 z.1 (inl z.2))) z.3)

    join : (s : Extent) (l : ℕ) (seen mid us : List Token) (x : Said m) (v : Said n) → MatchesBranch s l m (record { parts = ps; build = b } ∷ []) seen x mid → MatchesAll s l n qs (c x) mid v us
        → MatchesAll s l n (ps ++ qs) (compose m n ps qs b c) seen v us
    join s l seen mid us x v (inl h) r = joins s l m n ps qs b c seen mid us x v h r
    join s l seen mid us x v (inr h) r = absurd h

    down : (s : Extent) (l : ℕ) → depth_limit ≤ l → (seen : List Token) → IsSeen s seen left → (v : Said n) (us : List Token) → IsFree n us
        → MatchesBranch s l n (record { parts = the m ∷ qs; build = c } ∷ []) (g.used ++ seen) v us
        → MatchesBranch s l n (record { parts = ps ++ qs; build = compose m n ps qs b c } ∷ []) seen v us
    down s l d seen e v us f (inr r) = inr r
    down s l d seen e v us f (inl (one {x = x} {us = mid} r1 r2)) =
        inl (join s l seen mid us x v (g.only s l d seen e x mid (free_after s l m n (record { parts = qs; build = c }) x q.0 q.1 mid us v f r2) (to_itself s l m (g.used ++ seen) mid x r1)) r2)

-- some value of each part, for parts that aren't seen
some_place : Place
some_place = record { byte = 0; line = 1 }

some_token : Token
some_token = record { kind = tk.Symbol []; place = some_place }

some_tree : m_.Tree
some_tree = nil some_place

some_pattern : m_.Pattern
some_pattern = m_.equals (at some_place) lit.Nil

some_name : FunName
some_name = record { name = []; arity = 0 }

some_variable : VarName
some_variable = record { name = []; place = some_place; note = no_note }

some_module : m_.Module
some_module = record { name = []; exports = []; export_places = []; defs = m_.no_def; note = no_note }

mutual
  pub some_value : (p : Part) → SaidBy p
  some_value (a c) = some_token
  some_value (first d c) = some_token
  some_value (the n) = some_said n

  pub some_said : (n : Nonterminal) → Said n
  some_said (noted_ p) = record { value = some_value p; note = None }
  some_said annotation = no_note
  some_said (many c p) = []
  some_said (more c p) = []
  some_said annotated_module = some_module
  some_said «module» = some_module
  some_said attribute = tt
  some_said function_name = record { place = some_place; name = some_name }
  some_said (definition d) = record { name = some_name; mark = at some_place; fun = record { params = []; body = some_tree } }
  some_said (function d) = record { mark = at some_place; params = []; body = some_tree }
  some_said (definitions c d) = []
  some_said variable = some_variable
  some_said variables = []
  some_said (literal d) = record { place = some_place; value = lit.Nil }
  some_said (constant d) = Another
  some_said (other_constant d) = Another
  some_said (constant_list d) = tt
  some_said (constant_rest d) = tt
  some_said (constant_tail d) = tt
  some_said (constant_segment d) = tt
  some_said (constant_pair d) = tt
  some_said (expression d) = some_tree
  some_said (bare_expression d) = some_tree
  some_said (other_expression d) = some_tree
  some_said (list d) = record { place = some_place; items = []; tail = some_tree }
  some_said (list_rest d) = record { items = []; tail = some_tree }
  some_said (list_tail d) = record { items = []; tail = some_tree }
  some_said (segment d) = record { value = some_tree; args = m_.no_tree }
  some_said (pairs d) = record { pairs = []; updated = None }
  some_said (more_pairs d) = record { pairs = []; updated = None }
  some_said (pair d) = record { exact = true; key = some_tree; value = some_tree }
  some_said (bare_pair d) = record { exact = true; key = some_tree; value = some_tree }
  some_said (clauses_to c d) = []
  some_said (clause d) = record { mark = at some_place; patterns = m_.no_pattern; guard = some_tree; body = some_tree }
  some_said (bare_clause d) = record { mark = at some_place; patterns = m_.no_pattern; guard = some_tree; body = some_tree }
  some_said (clause_patterns d) = record { place = some_place; patterns = [] }
  some_said (pattern d) = some_pattern
  some_said (bare_pattern d) = some_pattern
  some_said (other_pattern d) = some_pattern
  some_said (alias_variable d) = record { place = some_place; name = some_variable }
  some_said (pattern_list d) = record { place = some_place; items = []; tail = some_pattern }
  some_said (pattern_rest d) = record { items = []; tail = some_pattern }
  some_said (pattern_tail d) = record { items = []; tail = some_pattern }
  some_said (pattern_segment d) = record { value = some_pattern; args = m_.no_tree }
  some_said (pattern_pair d) = record { key = some_tree; value = some_pattern }
  some_said (bare_pattern_pair d) = record { key = some_tree; value = some_pattern }

pub blank : (l : ℕ) (n : Nonterminal) (ps : List Part) (f : Action ps (Said n)) → (v : Said n) × MatchesAll front l n ps f [] v []
blank l n [] f = (f, none)
blank l n (p ∷ ps) f = let r = blank l n ps (f (some_value p)) in (r.0, one (unseen refl) r.1)

-- some branch is left
abbrev pub Is_open : (n : Nonterminal) → List (Branch n) → Type 0
Is_open n [] = ⊥
Is_open n (b ∷ bs) = Unit {0}

blank_branch : (l : ℕ) (n : Nonterminal) (bs : List (Branch n)) → Is_open n bs → (v : Said n) × MatchesBranch front l n bs [] v []
blank_branch l n [] h = absurd h
blank_branch l n (b ∷ bs) h = let r = blank l n b.parts b.build in (r.0, inl r.1)

begun_at : (l : ℕ) → depth_limit ≤ l → (n : Nonterminal) (bs cs : List (Branch n)) (ts left : List Token) (g : Goes n bs cs ts left) → Is_open n cs → (v : Said n) × MatchesBranch front l n bs g.used v []
begun_at l d n bs cs ts left g o = let r = blank_branch l n cs o in (r.0, subst (λ x. MatchesBranch front l n bs x r.0 []) (append-nil g.used) (g.there front l d [] r.0 [] r.1))

-- no branch goes on with the token, and none is done unless the token is barred
pub stop_at : (f : ℕ) (n : Nonterminal) (bs cs : List (Branch n)) (ts left : List Token) (t : Token) → Goes n bs cs ts (t ∷ left) → Is_open n cs → fine f n t (sort t) cs ≡ true → next f n t (sort t) cs ≡ []
    → Stops n bs ts t.place
stop_at f n bs cs ts left t g o e d = record {
  used = g.used;
  at = t;
  left = left;
  split = g.split;
  place_is = refl;
  begun = begun_at depth_limit (omega arith) n bs cs ts (t ∷ left) g o;
  never = λ s l m seen q v us h r. subst (λ x. MatchesBranch s l n x seen v us) d (next_only s l n f t cs e seen us v h (g.only s l m (t ∷ seen) q v us h r));
}

-- too few tokens
pub want : (n : Nonterminal) (bs cs : List (Branch n)) (ts : List Token) → Goes n bs cs ts [] → Is_open n cs → ended n cs ≡ [] → Wants n bs ts
want n bs cs ts g o e = record {
  begun = let r = begun_at depth_limit (omega arith) n bs cs ts [] g o in (r.0, subst (λ x. MatchesBranch front depth_limit n bs x r.0 []) (sym (append-nil g.used) ∙ sym g.split) r.1);
  never = λ l m v us h r. subst (λ x. MatchesBranch all l n x [] v us) e (ended_only l n cs us v (g.only all l m [] refl v us h (subst (λ x. MatchesBranch all l n bs x v us) g.split r)));
}

abbrev pub Some_then : (m n : Nonterminal) → List (Then m n) → Type 0
Some_then m n [] = ⊥
Some_then m n (h ∷ hs) = Unit {0}

begun_in : (m n : Nonterminal) (l : ℕ) (hs : List (Then m n)) (used : List Token) (x : Said m) → Some_then m n hs → MatchesBranch front l m (itself m) used x [] → (v : Said n) × MatchesBranch front l n (opened m n hs) used v []
begun_in m n l [] used x o r = absurd o
begun_in m n l (h ∷ hs) used x o r = let z = blank l n h.parts (h.build x) in (z.0, inl (one (un_itself front l m used [] x r) z.1))

never_in : (m n : Nonterminal) (s : Extent) (l : ℕ) (hs : List (Then m n)) (used us : List Token) (v : Said n) → Guarded m n hs → IsFree n us
    → ((y : Said m) (mid : List Token) → IsFree m mid → MatchesBranch s l m (itself m) used y mid → ⊥) → MatchesBranch s l n (opened m n hs) used v us → ⊥
never_in m n s l [] used us v q f g r = r
never_in m n s l (h ∷ hs) used us v q f g (inr r) = never_in m n s l hs used us v q.2 f g r
never_in m n s l (h ∷ hs) used us v q f g (inl (one {x = y} {us = mid} r1 r2)) = g y mid (free_after s l m n h y q.0 q.1 mid us v f r2) (to_itself s l m used mid y r1)

open_up : (n : Nonterminal) (bs cs : List (Branch n)) (ts left used : List Token) (s : Extent) (l : ℕ) (g : Goes n bs cs ts left) → depth_limit ≤ l → (v : Said n) × MatchesBranch s l n cs used v []
    → (v : Said n) × MatchesBranch s l n bs (g.used ++ used) v []
open_up n bs cs ts left used s l g d r = (r.0, g.there s l d used r.0 [] r.1)

-- a part's fault is the fault of what holds it
pub stop_in : (m n : Nonterminal) (hs : List (Then m n)) (bs : List (Branch n)) (ts us : List Token) (place : Place) → Guarded m n hs → Some_then m n hs → Goes n bs (opened m n hs) ts us → Stops m (itself m) us place
    → Stops n bs ts place
stop_in m n hs bs ts us place q o g h = record {
  used = g.used ++ h.used;
  at = h.at;
  left = h.left;
  split = g.split ∙ ap (λ x. g.used ++ x) h.split ∙ sym (append_assoc g.used h.used (h.at ∷ h.left));
  place_is = h.place_is;
  begun = open_up n bs (opened m n hs) ts us h.used front depth_limit g (omega arith) (begun_in m n depth_limit hs h.used h.begun.0 o h.begun.1);
  never = λ s l d seen e v ws f r. never_in m n s l hs (h.used ++ h.at ∷ seen) ws v q f (λ y mid w z. h.never s l d seen e y mid w z)
      (g.only s l d (h.used ++ h.at ∷ seen) (seen_more s h.used (h.at ∷ seen) (h.at ∷ h.left) us h.split e) v ws f (subst (λ x. MatchesBranch s l n bs x v ws) (append_assoc g.used h.used (h.at ∷ seen)) r));
}

pub want_in : (m n : Nonterminal) (hs : List (Then m n)) (bs : List (Branch n)) (ts us : List Token) → Guarded m n hs → Some_then m n hs → Goes n bs (opened m n hs) ts us → Wants m (itself m) us → Wants n bs ts
want_in m n hs bs ts us q o g h = record {
  begun = let r = open_up n bs (opened m n hs) ts us us front depth_limit g (omega arith) (begun_in m n depth_limit hs us h.begun.0 o h.begun.1) in (r.0, subst (λ x. MatchesBranch front depth_limit n bs x r.0 []) (sym g.split) r.1);
  never = λ l d v ws f r. never_in m n all l hs us ws v q f (λ y mid w z. h.never l d y mid w z) (g.only all l d us refl v ws f (subst (λ x. MatchesBranch all l n bs x v ws) g.split r));
}

-- each branch that takes the token begins a node there, below the depth_limit
abbrev pub deep_steps : (n : Nonterminal) → ℕ → List (Step n) → Type 0
deep_steps n l [] = Unit {0}
deep_steps n l (takes None ps f ∷ xs) = ⊥
deep_steps n l (takes (Some d) ps f ∷ xs) = (suc l ≤ d) × deep_steps n l xs
deep_steps n l (done x ∷ xs) = ⊥

abbrev pub deep_look : (n : Nonterminal) → ℕ → Option (List (Step n)) → Type 0
deep_look n l None = ⊥
deep_look n l (Some xs) = deep_steps n l xs

abbrev pub Deep : ℕ → (n : Nonterminal) → Token → Sort → List (Branch n) → ℕ → Type 0
Deep f n t q [] l = Unit {0}
Deep f n t q (b ∷ bs) l = deep_look n l (look f n t q b.parts b.build) × Deep f n t q bs l

none_deep : (s : Extent) (l : ℕ) (n : Nonterminal) (xs : List (Step n)) → deep_steps n l xs → (t : Token) (ts us : List Token) (v : Said n) → One_of s l n xs t ts v us → ⊥
none_deep s l n [] d t ts us v r = r
none_deep s l n (takes None ps f ∷ xs) d t ts us v r = d
none_deep s l n (takes (Some e) ps f ∷ xs) d t ts us v (inl r) = absurd (omega (arith, d.0, r.0))
none_deep s l n (takes (Some e) ps f ∷ xs) d t ts us v (inr r) = none_deep s l n xs d.1 t ts us v r
none_deep s l n (done x ∷ xs) d t ts us v r = d

none_deep_look : (s : Extent) (l : ℕ) (n : Nonterminal) (o : Option (List (Step n))) → deep_look n l o → (t : Token) (ts us : List Token) (v : Said n) → One_in s l n o t ts v us → ⊥
none_deep_look s l n None d t ts us v r = d
none_deep_look s l n (Some xs) d t ts us v r = none_deep s l n xs d t ts us v r

none_deep_all : (s : Extent) (l : ℕ) (f : ℕ) (n : Nonterminal) (t : Token) (bs : List (Branch n)) → Deep f n t (sort t) bs l → (ts us : List Token) (v : Said n) → MatchesBranch s l n bs (t ∷ ts) v us → ⊥
none_deep_all s l f n t [] d ts us v r = r
none_deep_all s l f n t (b ∷ bs) d ts us v (inl r) = none_deep_look s l n (look f n t (sort t) b.parts b.build) d.0 t ts us v (found s l f n t b.parts b.build ts us v r)
none_deep_all s l f n t (b ∷ bs) d ts us v (inr r) = none_deep_all s l f n t bs d.1 ts us v r

-- a node too deep begins at the token
pub sink_at : (f : ℕ) (n : Nonterminal) (bs cs : List (Branch n)) (ts left : List Token) (t : Token) → Goes n bs cs ts (t ∷ left) → Is_open n cs → Deep f n t (sort t) cs depth_limit → Shallow f n t (sort t) cs (deeper_limit)
    → Is_open n (next f n t (sort t) cs) → Sinks n bs ts t.place
sink_at f n bs cs ts left t g o d w p = record {
  used = g.used;
  at = t;
  left = left;
  split = g.split;
  place_is = refl;
  begun = begun_at depth_limit (omega arith) n bs cs ts (t ∷ left) g o;
  deeper = let r = blank_branch (deeper_limit) n (next f n t (sort t) cs) p in (r.0, g.there front (deeper_limit) (omega arith) (t ∷ []) r.0 [] (next_there front (deeper_limit) n f t cs w [] [] r.0 r.1));
  never = λ s seen q v us h r. none_deep_all s depth_limit f n t cs d seen us v (g.only s depth_limit (omega arith) (t ∷ seen) q v us h r);
}

pub sink_in : (m n : Nonterminal) (hs : List (Then m n)) (bs : List (Branch n)) (ts us : List Token) (place : Place) → Guarded m n hs → Some_then m n hs → Goes n bs (opened m n hs) ts us → Sinks m (itself m) us place
    → Sinks n bs ts place
sink_in m n hs bs ts us place q o g h = record {
  used = g.used ++ h.used;
  at = h.at;
  left = h.left;
  split = g.split ∙ ap (λ x. g.used ++ x) h.split ∙ sym (append_assoc g.used h.used (h.at ∷ h.left));
  place_is = h.place_is;
  begun = open_up n bs (opened m n hs) ts us h.used front depth_limit g (omega arith) (begun_in m n depth_limit hs h.used h.begun.0 o h.begun.1);
  deeper = let r = open_up n bs (opened m n hs) ts us (h.used ++ h.at ∷ []) front (deeper_limit) g (omega arith) (begun_in m n (deeper_limit) hs (h.used ++ h.at ∷ []) h.deeper.0 o h.deeper.1) in
      (r.0, subst (λ x. MatchesBranch front (deeper_limit) n bs x r.0 []) (sym (append_assoc g.used h.used (h.at ∷ []))) r.1);
  never = λ s seen e v ws f r. never_in m n s depth_limit hs (h.used ++ h.at ∷ seen) ws v q f (λ y mid w z. h.never s seen e y mid w z)
      (g.only s depth_limit (omega arith) (h.used ++ h.at ∷ seen) (seen_more s h.used (h.at ∷ seen) (h.at ∷ h.left) us h.split e) v ws f
      (subst (λ x. MatchesBranch s depth_limit n bs x v ws) (append_assoc g.used h.used (h.at ∷ seen)) r));
}
