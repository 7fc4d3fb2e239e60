-- Readings and beginnings are what matches, and what the readers answer is what `parse` promises.
use Rattle.std.proofs.Common.{◌≡◌, ◌⊎◌, ℕ, ◌+◌, ◌≤◌, List, [], ◌∷◌, ◌++◌, inl, inr, refl, sym, ap, ◌∙◌, subst, append-nil, arith}
use Rattle.type_kinds.specs.declared.place.Place.{Place}
use Rattle.core_scan.specs.declared.token.Token.{Token}
use Rattle.core_ast.specs.Model as m
use Rattle.core_scan.specs.declared.sort.Sort.{Sort}
use Rattle.core_parse_grammar.specs.declared.fault.ParseFault.{ParseFault}
use Rattle.core_parse_grammar.specs.declared.fault.PartFault.{PartFault}
use Rattle.core_parse_grammar.specs.declared.fault.PartFault.TheVariants as g
use Rattle.core_parse_grammar.specs.Grammar.{Part, a, first, the, Nonterminal, SaidBy, Said, Action, Way, ways, annotated_module}
use Rattle.core_parse_grammar.specs.Labels.{numbered}
use Rattle.core_parse_grammar.specs.Spells.{Reads, ReadsOne, ReadsAll, SpellsModule}
use Rattle.core_parse_grammar.specs.Spells as r
use Rattle.core_parse_grammar.specs.Begins.{Prefixes, nothing, token_, node_, part_, PrefixesOne, here_, later_, PrefixesAll, none_, inside, whole, BeginsTo, Begins, depth_limit, FailsAt, TooShort, SinksAt, IsModule, Refused, in_text}
use Rattle.core_parse_grammar.specs.Matches.{Extent, all, front, Matches, unseen, token, node, part, MatchesOne, here, later, MatchesAll, none, one}
use Rattle.core_parse_grammar.specs.Track.{Stops, Wants, Sinks, itself, deeper_limit, MatchesBranch}
use Rattle.core_parse_grammar.specs.Faults.{Refuses, RanOut, Starts}
use Rattle.core_parse_grammar.specs.Readings.{ReadsModule}
use Rattle.core_parse_grammar.proofs.Moves.{some_value, blank, un_itself, to_itself, un_said}

-- what is read matches, whatever is seen
module _ (s : Extent) (l : ℕ) where
  mutual
    matches : (p : Part) (ts us : List Token) (v : SaidBy p) → Reads l p ts v us → Matches s l p ts v us
    matches (a c) ts us v (r.token h) = token h
    matches (first d c) ts us v (r.node h k) = node h k
    matches (the n) ts us v (r.part h) = part (matches_one n (ways n) ts us v h)

    matches_one : (n : Nonterminal) (ws : List (Way (Said n))) (ts us : List Token) (v : Said n) → ReadsOne l n ws ts v us → MatchesOne s l n ws ts v us
    matches_one n (w ∷ ws) ts us v (r.here h) = here (matches_all n w.parts w.says ts us v h)
    matches_one n (w ∷ ws) ts us v (r.later h) = later (matches_one n ws ts us v h)
    matches_one n [] ts us v h = elim h [ ]

    matches_all : (n : Nonterminal) (ps : List Part) (f : Action ps (Said n)) (ts us : List Token) (v : Said n) → ReadsAll l n ps f ts v us → MatchesAll s l n ps f ts v us
    matches_all n [] f ts us v r.none = none
    matches_all n (p ∷ ps) f ts us v (r.one h k) = one (matches p ts _ _ h) (matches_all n ps _ _ us v k)

-- what matches the whole text is read
module _ (l : ℕ) where
  mutual
    reads_so : (p : Part) (ts us : List Token) (v : SaidBy p) → Matches all l p ts v us → Reads l p ts v us
    reads_so p ts us v (unseen e) = absurd cc
    reads_so (a c) ts us v (token h) = r.token h
    reads_so (first d c) ts us v (node h k) = r.node h k
    reads_so (the n) ts us v (part h) = r.part (reads_one n (ways n) ts us v h)

    reads_one : (n : Nonterminal) (ws : List (Way (Said n))) (ts us : List Token) (v : Said n) → MatchesOne all l n ws ts v us → ReadsOne l n ws ts v us
    reads_one n (w ∷ ws) ts us v (here h) = r.here (reads_all n w.parts w.says ts us v h)
    reads_one n (w ∷ ws) ts us v (later h) = r.later (reads_one n ws ts us v h)
    reads_one n [] ts us v h = elim h [ ]

    reads_all : (n : Nonterminal) (ps : List Part) (f : Action ps (Said n)) (ts us : List Token) (v : Said n) → MatchesAll all l n ps f ts v us → ReadsAll l n ps f ts v us
    reads_all n [] f ts us v none = r.none
    reads_all n (p ∷ ps) f ts us v (one h k) = r.one (reads_so p ts _ _ h) (reads_all n ps _ _ us v k)

  -- a beginning matches a prefix
  mutual
    front_reads : (p : Part) (ts : List Token) → Prefixes l p ts → (v : SaidBy p) × Matches front l p ts v []
    front_reads p ts nothing = (some_value p, unseen refl)
    front_reads (a c) ts (token_ h) = (_, token h)
    front_reads (first d c) ts (node_ h k) = (_, node h k)
    front_reads (the n) ts (part_ h) = let z = front_reads_one n (ways n) ts h in (z.0, part z.1)

    front_reads_one : (n : Nonterminal) (ws : List (Way (Said n))) (ts : List Token) → PrefixesOne l n ws ts → (v : Said n) × MatchesOne front l n ws ts v []
    front_reads_one n (w ∷ ws) ts (here_ h) = let z = front_reads_all n w.parts w.says ts h in (z.0, here z.1)
    front_reads_one n (w ∷ ws) ts (later_ h) = let z = front_reads_one n ws ts h in (z.0, later z.1)
    front_reads_one n [] ts h = elim h [ ]

    front_reads_all : (n : Nonterminal) (ps : List Part) (f : Action ps (Said n)) (ts : List Token) → PrefixesAll l ps ts → (v : Said n) × MatchesAll front l n ps f ts v []
    front_reads_all n ps f ts none_ = blank l n ps f
    front_reads_all n (p ∷ ps) f ts (inside h) = let z = front_reads p ts h in let b = blank l n ps (f z.0) in (b.0, one z.1 b.1)
    front_reads_all n (p ∷ ps) f ts (whole h k) = let z = front_reads_all n ps (f _) _ k in (z.0, one (matches front l p ts _ _ h) z.1)

  mutual
    nothing_left : (p : Part) (ts us : List Token) (v : SaidBy p) → ts ≡ [] → Matches front l p ts v us → us ≡ []
    nothing_left p ts us v e (unseen h) = refl
    nothing_left (a c) ts us v e (token h) = absurd cc
    nothing_left (first d c) ts us v e (node h k) = absurd cc
    nothing_left (the n) ts us v e (part h) = nothing_left_one n (ways n) ts us v e h

    nothing_left_one : (n : Nonterminal) (ws : List (Way (Said n))) (ts us : List Token) (v : Said n) → ts ≡ [] → MatchesOne front l n ws ts v us → us ≡ []
    nothing_left_one n (w ∷ ws) ts us v e (here h) = nothing_left_all n w.parts w.says ts us v e h
    nothing_left_one n (w ∷ ws) ts us v e (later h) = nothing_left_one n ws ts us v e h
    nothing_left_one n [] ts us v e h = elim h [ ]

    nothing_left_all : (n : Nonterminal) (ps : List Part) (f : Action ps (Said n)) (ts us : List Token) (v : Said n) → ts ≡ [] → MatchesAll front l n ps f ts v us → us ≡ []
    nothing_left_all n [] f ts us v e none = e
    nothing_left_all n (p ∷ ps) f ts us v e (one {us = mid} h k) = nothing_left_all n ps _ mid us v (nothing_left p ts mid _ e h) k

  -- a match that leaves a token has seen all that it read
  mutual
    all_seen : (p : Part) (ts us : List Token) (v : SaidBy p) → (us ≡ [] → ⊥) → Matches front l p ts v us → Reads l p ts v us
    all_seen p ts us v e (unseen h) = absurd (e refl)
    all_seen (a c) ts us v e (token h) = r.token h
    all_seen (first d c) ts us v e (node h k) = r.node h k
    all_seen (the n) ts us v e (part h) = r.part (all_seen_one n (ways n) ts us v e h)

    all_seen_one : (n : Nonterminal) (ws : List (Way (Said n))) (ts us : List Token) (v : Said n) → (us ≡ [] → ⊥) → MatchesOne front l n ws ts v us → ReadsOne l n ws ts v us
    all_seen_one n (w ∷ ws) ts us v e (here h) = r.here (all_seen_all n w.parts w.says ts us v e h)
    all_seen_one n (w ∷ ws) ts us v e (later h) = r.later (all_seen_one n ws ts us v e h)
    all_seen_one n [] ts us v e h = elim h [ ]

    all_seen_all : (n : Nonterminal) (ps : List Part) (f : Action ps (Said n)) (ts us : List Token) (v : Said n) → (us ≡ [] → ⊥) → MatchesAll front l n ps f ts v us → ReadsAll l n ps f ts v us
    all_seen_all n [] f ts us v e none = r.none
    all_seen_all n (p ∷ ps) f ts us v e (one {us = mid} h k) = r.one (all_seen p ts mid _ (λ z. e (nothing_left_all n ps _ mid us v z k)) h) (all_seen_all n ps _ mid us v e k)

  -- a prefix that matches is a beginning
  mutual
    is_front : (p : Part) (ts us : List Token) (v : SaidBy p) → us ≡ [] → Matches front l p ts v us → Prefixes l p ts
    is_front p ts us v e (unseen h) = nothing
    is_front (a c) ts us v e (token {t = t} h) = subst (λ x. Prefixes l (a c) (t ∷ x)) (sym e) (token_ h)
    is_front (first d c) ts us v e (node {t = t} h k) = subst (λ x. Prefixes l (first d c) (t ∷ x)) (sym e) (node_ h k)
    is_front (the n) ts us v e (part h) = part_ (is_front_one n (ways n) ts us v e h)

    is_front_one : (n : Nonterminal) (ws : List (Way (Said n))) (ts us : List Token) (v : Said n) → us ≡ [] → MatchesOne front l n ws ts v us → PrefixesOne l n ws ts
    is_front_one n (w ∷ ws) ts us v e (here h) = here_ (is_front_all n w.parts w.says ts us v e h)
    is_front_one n (w ∷ ws) ts us v e (later h) = later_ (is_front_one n ws ts us v e h)
    is_front_one n [] ts us v e h = elim h [ ]

    is_front_all : (n : Nonterminal) (ps : List Part) (f : Action ps (Said n)) (ts us : List Token) (v : Said n) → us ≡ [] → MatchesAll front l n ps f ts v us → PrefixesAll l ps ts
    is_front_all n [] f ts us v e none = subst (λ x. PrefixesAll l [] x) (sym e) none_
    is_front_all n (p ∷ ps) f ts us v e (one {us = []} h k) = inside (is_front p ts [] _ refl h)
    is_front_all n (p ∷ ps) f ts us v e (one {us = t ∷ mid} h k) = whole (all_seen p ts (t ∷ mid) _ (λ z. cc) h) (is_front_all n ps _ (t ∷ mid) us v e k)

-- deeper limits match the same
module _ (s : Extent) (l m : ℕ) (le : l ≤ m) where
  mutual
    deeper_so : (p : Part) (ts us : List Token) (v : SaidBy p) → Matches s l p ts v us → Matches s m p ts v us
    deeper_so p ts us v (unseen e) = unseen e
    deeper_so (a c) ts us v (token h) = token h
    deeper_so (first d c) ts us v (node h k) = node h (omega arith)
    deeper_so (the n) ts us v (part h) = part (deeper_one n (ways n) ts us v h)

    deeper_one : (n : Nonterminal) (ws : List (Way (Said n))) (ts us : List Token) (v : Said n) → MatchesOne s l n ws ts v us → MatchesOne s m n ws ts v us
    deeper_one n (w ∷ ws) ts us v (here h) = here (deeper_all n w.parts w.says ts us v h)
    deeper_one n (w ∷ ws) ts us v (later h) = later (deeper_one n ws ts us v h)
    deeper_one n [] ts us v h = elim h [ ]

    deeper_all : (n : Nonterminal) (ps : List Part) (f : Action ps (Said n)) (ts us : List Token) (v : Said n) → MatchesAll s l n ps f ts v us → MatchesAll s m n ps f ts v us
    deeper_all n [] f ts us v none = none
    deeper_all n (p ∷ ps) f ts us v (one h k) = one (deeper_so p ts _ _ h) (deeper_all n ps _ _ us v k)

-- The promises of parse, from those of its readers.
no_end : ⊥ → ⊥
no_end e = e

abbrev whole_ : Part
whole_ = the annotated_module

begins_of : (ts : List Token) → (v : Said annotated_module) × MatchesBranch front depth_limit annotated_module (itself annotated_module) ts v [] → BeginsTo depth_limit ts
begins_of ts z = is_front depth_limit whole_ ts [] z.0 refl (un_itself front depth_limit annotated_module ts [] z.0 z.1)

more_than : (l : ℕ) → (m : ℕ) × (l ≤ m) × (depth_limit ≤ m)
more_than l = (l + depth_limit, omega arith, omega arith)

-- a beginning of any depth, as a branch at a limit that is no less
branch_of : (ts : List Token) (b : Begins ts) → (v : Said annotated_module) × MatchesBranch front (more_than b.0).0 annotated_module (itself annotated_module) ts v []
branch_of ts b = let z = front_reads b.0 whole_ ts b.1 in
    (z.0, to_itself front (more_than b.0).0 annotated_module ts [] z.0 (deeper_so front b.0 (more_than b.0).0 (more_than b.0).1 whole_ ts [] z.0 z.1))

pub fails_at : (ts : List Token) (place : Place) → Stops annotated_module (itself annotated_module) ts place → FailsAt ts place
fails_at ts place h = record {
  before = h.used;
  at = h.at;
  after = h.left;
  split = h.split;
  place_is = h.place_is;
  begun = begins_of h.used h.begun;
  first_bad = λ b. let z = branch_of (h.used ++ h.at ∷ []) b in h.never front (more_than b.0).0 (more_than b.0).2 [] (h.at, [], h.left, refl, refl) z.0 [] no_end z.1;
}

spelling_of : (ts : List Token) (x : m.Module) (b : SpellsModule ts x) → MatchesBranch all (more_than b.0).0 annotated_module (itself annotated_module) ts b.1.says []
spelling_of ts x b = to_itself all (more_than b.0).0 annotated_module ts [] b.1.says (deeper_so all b.0 (more_than b.0).0 (more_than b.0).1 whole_ ts [] b.1.says (matches all b.0 whole_ ts [] b.1.says b.1.reads))

pub too_short : (ts : List Token) → Wants annotated_module (itself annotated_module) ts → TooShort ts
too_short ts h = record {
  begun = begins_of ts h.begun;
  none = λ x b. h.never (more_than b.0).0 (more_than b.0).2 b.1.says [] no_end (spelling_of ts x b);
}

pub sinks_at : (ts : List Token) (place : Place) → Sinks annotated_module (itself annotated_module) ts place → SinksAt ts place
sinks_at ts place h = record {
  before = h.used;
  at = h.at;
  after = h.left;
  split = h.split;
  place_is = h.place_is;
  begun = begins_of h.used h.begun;
  goes_on = (deeper_limit, is_front deeper_limit whole_ (h.used ++ h.at ∷ []) [] h.deeper.0 refl (un_itself front deeper_limit annotated_module (h.used ++ h.at ∷ []) [] h.deeper.0 h.deeper.1));
  too_deep = λ b. let z = front_reads depth_limit whole_ (h.used ++ h.at ∷ []) b in h.never front [] (h.at, [], h.left, refl, refl) z.0 [] no_end (to_itself front depth_limit annotated_module (h.used ++ h.at ∷ []) [] z.0 z.1);
}

-- what is read to the end is spelled, and nothing else is
pub module_is : (ts : List Token) (made : m.Module) → ReadsModule ts made [] → IsModule ts made
module_is ts made h = record {
  spelled = record {
    says = h.says;
    reads = subst (λ x. Reads depth_limit whole_ x h.says []) (sym h.passes.split)
        (reads_so depth_limit whole_ (h.passes.used ++ []) [] h.says (un_itself all depth_limit annotated_module (h.passes.used ++ []) [] h.says (h.passes.there all depth_limit (omega arith) [] h.says [] (inl none))));
    labels = h.agrees;
  };
  alone = λ x b. sym b.1.labels ∙ ap (λ y. numbered y) (un_said all (more_than b.0).0 annotated_module h.says b.1.says [] []
      (h.passes.only all (more_than b.0).0 (more_than b.0).2 [] refl b.1.says [] no_end (subst (λ y. MatchesBranch all (more_than b.0).0 annotated_module (itself annotated_module) y b.1.says []) h.passes.split (spelling_of ts x b)))).0
      ∙ h.agrees;
}

-- tokens left over behind a whole module
pub left_over : (ts left : List Token) (t : Token) (made : m.Module) → ReadsModule ts made (t ∷ left) → FailsAt ts t.place
left_over ts left t made h = record {
  before = h.passes.used;
  at = t;
  after = left;
  split = h.passes.split;
  place_is = refl;
  begun = subst (λ x. BeginsTo depth_limit x) (append-nil h.passes.used) (is_front depth_limit whole_ (h.passes.used ++ []) [] h.says refl
      (un_itself front depth_limit annotated_module (h.passes.used ++ []) [] h.says (h.passes.there front depth_limit (omega arith) [] h.says [] (inl none))));
  first_bad = λ b. let z = branch_of (h.passes.used ++ t ∷ []) b in
      bad (un_said front (more_than b.0).0 annotated_module h.says z.0 (t ∷ []) [] (h.passes.only front (more_than b.0).0 (more_than b.0).2 (t ∷ []) (t, [], left, refl, refl) z.0 [] no_end z.1)).1;
}
  where
    bad : [] ≡ t ∷ [] → ⊥
    bad e = absurd cc

pub refusal : (ts : List Token) (end : Place) (e : PartFault) (b : ParseFault) → Refuses annotated_module ts e → b ≡ in_text end e → Refused ts end b
refusal ts end (g.Syntax place) b h e = subst (Refused ts end) (sym e) (inl (fails_at ts place h))
refusal ts end g.End b h e = subst (Refused ts end) (sym e) (inr (refl, too_short ts h))
refusal ts end (g.TooDeep place) b h e = subst (Refused ts end) (sym e) (sinks_at ts place h)
refusal ts end g.Memory b h e = subst (Refused ts end) (sym e) tt

pub ran_out_empty : (ts : List Token) (e : PartFault) → RanOut ts e → ts ≡ []
ran_out_empty ts g.End h = h
ran_out_empty ts (g.Syntax place) h = absurd h
ran_out_empty ts (g.TooDeep place) h = absurd h
ran_out_empty ts g.Memory h = absurd h

-- what `parse` answers behind a whole module
pub read_whole : (ts us : List Token) (made : m.Module) (e : PartFault) → ReadsModule ts made us → RanOut us e → IsModule ts made
read_whole ts us made e h r = module_is ts made (subst (λ x. ReadsModule ts made x) (ran_out_empty us e r) h)

pub read_past : (ts us left : List Token) (t : Token) (c : Sort) (place end : Place) (made : m.Module) → ReadsModule ts made us → Starts us t c place left → FailsAt ts place ⊎ ((place ≡ end) × TooShort ts)
read_past ts us left t c place end made h b = inl (subst (λ p. FailsAt ts p) (sym b.place_is) (left_over ts left t made (subst (λ x. ReadsModule ts made x) b.are h)))
