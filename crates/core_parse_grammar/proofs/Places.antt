-- Moves in the words of the readers' contracts.
use Rattle.std.proofs.Common.{◌≡◌, ℕ, zero, ◌≤◌, List, [], ◌∷◌, ◌++◌, inl, inr, Bool, true, false, Option, Some, None, refl, sym, subst, if◌then◌else◌, arith}
use Rattle.core_scan.specs.declared.token.Token.{Token}
use Rattle.core_scan.specs.declared.sort.Sort.{Sort}
use Rattle.core_scan.specs.Sorts.{sort, fits}
use Rattle.core_parse_grammar.specs.declared.fault.PartFault.{PartFault}
use Rattle.core_parse_grammar.specs.declared.fault.PartFault.TheVariants.{Syntax, End, TooDeep, Memory}
use Rattle.core_parse_grammar.specs.Grammar.{Part, a, first, the, Nonterminal, Said, Action}
use Rattle.core_parse_grammar.specs.Begins.{depth_limit}
use Rattle.core_parse_grammar.specs.Track.{Branch, barred, look_fine, take_if, after_steps, Goes, itself, Passes, Stops, next, fine, Shallow, Then, opened, Step, takes, done, depths_in, depths_look, look, Guarded, IsSeen, MatchesBranch}
use Rattle.core_parse_grammar.specs.Faults.{Refuses, Takes, Misses, RanOut}
use Rattle.core_parse_grammar.proofs.Moves.{◌>>◌, along, advance, pass, finish, stop_at, want, stop_in, want_in, sink_in, Is_open, Some_then, ended, seen_first}
use Rattle.core_parse_grammar.specs.Matches.{Extent, MatchesAll, one, token, node}

depths_more : (n : Nonterminal) (xs : List (Step n)) (l : ℕ) → depth_limit ≤ l → depths_in n xs depth_limit → depths_in n xs l
depths_more n [] l e h = tt
depths_more n (takes None ps f ∷ xs) l e h = depths_more n xs l e h
depths_more n (takes (Some d) ps f ∷ xs) l e h = (omega (arith, h.0), depths_more n xs l e h.1)
depths_more n (done x ∷ xs) l e h = depths_more n xs l e h

shallow_more : (f : ℕ) (n : Nonterminal) (t : Token) (q : Sort) (bs : List (Branch n)) (l : ℕ) → depth_limit ≤ l → Shallow f n t q bs depth_limit → Shallow f n t q bs l
shallow_more f n t q [] l e h = tt
shallow_more f n t q (b ∷ bs) l e h = (go (look f n t q b.parts b.build) h.0, shallow_more f n t q bs l e h.1)
  where
    go : (o : Option (List (Step n))) → depths_look n o depth_limit → depths_look n o l
    go None h = tt
    go (Some xs) h = depths_more n xs l e h

-- a token of a sort is taken
pub taken : (n : Nonterminal) (bs : List (Branch n)) (ts left : List Token) (t : Token) (q : Sort) → ts ≡ t ∷ left → sort t ≡ q → fine 12 n t q bs ≡ true → Shallow 12 n t q bs depth_limit
    → Goes n bs (next 12 n t q bs) ts left
taken n bs ts left t q e h f d = along e (subst (λ k. Goes n bs (next 12 n t k bs) (t ∷ left) left) h (go (sort t) h))
  where
    go : (k : Sort) → k ≡ q → Goes n bs (next 12 n t (sort t) bs) (t ∷ left) left
    go k g = advance 12 n bs t left (subst (λ k. fine 12 n t k bs ≡ true) (sym h) f) (λ l z. subst (λ k. Shallow 12 n t k bs l) (sym h) (shallow_more 12 n t q bs l z d))

-- no branch takes the token
abbrev pub Shut : (n : Nonterminal) → Token → Sort → List (Branch n) → Type 0
Shut n t q bs = (fine 12 n t q bs ≡ true) × (next 12 n t q bs ≡ [])

pub halted : (n : Nonterminal) (bs cs : List (Branch n)) (ts us left : List Token) (t : Token) → Goes n bs cs ts us → us ≡ t ∷ left → Is_open n cs → Shut n t (sort t) cs → Stops n bs ts t.place
halted n bs cs ts us left t g e o h = stop_at 12 n bs cs ts left t (subst (λ x. Goes n bs cs ts x) e g) o h.0 h.1

-- a part is passed, in one branch
pub through : (m n : Nonterminal) (ps : List Part) (b : Said m → Action ps (Said n)) (ts left : List Token) (x : Said m) → Passes m ts x left → Guarded m n (record { parts = ps; build = b } ∷ [])
    → Goes n (record { parts = the m ∷ ps; build = b } ∷ []) (record { parts = ps; build = b x } ∷ []) ts left
through m n ps b ts left x h q = pass m n (record { parts = ps; build = b } ∷ []) ts left x q h

-- a part's fault
pub refused : (m n : Nonterminal) (ps : List Part) (b : Said m → Action ps (Said n)) (ts us : List Token) (e : PartFault) → Goes n (itself n) (record { parts = the m ∷ ps; build = b } ∷ []) ts us
    → Guarded m n (record { parts = ps; build = b } ∷ []) → Refuses m us e → Refuses n ts e
refused m n ps b ts us (Syntax place) g q h = stop_in m n (record { parts = ps; build = b } ∷ []) (itself n) ts us place q tt g h
refused m n ps b ts us End g q h = want_in m n (record { parts = ps; build = b } ∷ []) (itself n) ts us q tt g h
refused m n ps b ts us (TooDeep place) g q h = sink_in m n (record { parts = ps; build = b } ∷ []) (itself n) ts us place q tt g h
refused m n ps b ts us Memory g q h = tt

pub refused_in : (m n : Nonterminal) (hs : List (Then m n)) (ts us : List Token) (e : PartFault) → Goes n (itself n) (opened m n hs) ts us → Some_then m n hs → Guarded m n hs → Refuses m us e → Refuses n ts e
refused_in m n hs ts us (Syntax place) g o q h = stop_in m n hs (itself n) ts us place q o g h
refused_in m n hs ts us End g o q h = want_in m n hs (itself n) ts us q o g h
refused_in m n hs ts us (TooDeep place) g o q h = sink_in m n hs (itself n) ts us place q o g h
refused_in m n hs ts us Memory g o q h = tt

-- a token's fault, where a token of one sort alone may come
pub lacking : (n : Nonterminal) (c : Sort) (ps : List Part) (b : Token → Action ps (Said n)) (ts us : List Token) (e : PartFault) → Goes n (itself n) (record { parts = a c ∷ ps; build = b } ∷ []) ts us → Misses c us e
    → Refuses n ts e
lacking n c ps b ts us (Syntax place) g h =
    let r = subst (λ x. Goes n (itself n) (record { parts = a c ∷ ps; build = b } ∷ []) ts x) h.are g in
    subst (λ p. Stops n (itself n) ts p) (sym h.place_is) (stop_at zero n (itself n) _ ts h.left h.first r tt (go (fits c (sort h.first)) h.other) (gone (fits c (sort h.first)) h.other))
  where
    go : (q : Bool) → q ≡ false → (if look_fine n (barred n (sort h.first)) (Some (take_if q None ps (b h.first))) then true else false) ≡ true
    go true e = absurd cc
    go false e = refl

    gone : (q : Bool) → q ≡ false → after_steps n (take_if q None ps (b h.first)) ++ [] ≡ []
    gone true e = absurd cc
    gone false e = refl
lacking n c ps b ts us End g h = want n (itself n) _ ts (subst (λ x. Goes n (itself n) (record { parts = a c ∷ ps; build = b } ∷ []) ts x) h g) tt refl
lacking n c ps b ts us (TooDeep place) g h = absurd h
lacking n c ps b ts us Memory g h = absurd h

pub lacking_first : (n : Nonterminal) (d : ℕ) (c : Sort) (ps : List Part) (b : Token → Action ps (Said n)) (ts us : List Token) (e : PartFault) → Goes n (itself n) (record { parts = first d c ∷ ps; build = b } ∷ []) ts us
    → Misses c us e → Refuses n ts e
lacking_first n d c ps b ts us (Syntax place) g h =
    let r = subst (λ x. Goes n (itself n) (record { parts = first d c ∷ ps; build = b } ∷ []) ts x) h.are g in
    subst (λ p. Stops n (itself n) ts p) (sym h.place_is) (stop_at zero n (itself n) _ ts h.left h.first r tt (go (fits c (sort h.first)) h.other) (gone (fits c (sort h.first)) h.other))
  where
    go : (q : Bool) → q ≡ false → (if look_fine n (barred n (sort h.first)) (Some (take_if q (Some d) ps (b h.first))) then true else false) ≡ true
    go true e = absurd cc
    go false e = refl

    gone : (q : Bool) → q ≡ false → after_steps n (take_if q (Some d) ps (b h.first)) ++ [] ≡ []
    gone true e = absurd cc
    gone false e = refl
lacking_first n d c ps b ts us End g h = want n (itself n) _ ts (subst (λ x. Goes n (itself n) (record { parts = first d c ∷ ps; build = b } ∷ []) ts x) h g) tt refl
lacking_first n d c ps b ts us (TooDeep place) g h = absurd h
lacking_first n d c ps b ts us Memory g h = absurd h

-- the tokens end where more are wanted
pub ran_out : (n : Nonterminal) (cs : List (Branch n)) (ts us : List Token) (e : PartFault) → Goes n (itself n) cs ts us → Is_open n cs → ended n cs ≡ [] → RanOut us e → Refuses n ts e
ran_out n cs ts us End g o d h = want n (itself n) cs ts (subst (λ x. Goes n (itself n) cs ts x) h g) o d
ran_out n cs ts us (Syntax p) g o d h = absurd h
ran_out n cs ts us (TooDeep p) g o d h = absurd h
ran_out n cs ts us Memory g o d h = absurd h

-- the head of a branch doesn't fit the token
abbrev pub Unfit : List Part → Sort → Type 0
Unfit (a c ∷ ps) q = fits c q ≡ false
Unfit (first d c ∷ ps) q = fits c q ≡ false
Unfit _ q = ⊥

unfit : (n : Nonterminal) (s : Extent) (l : ℕ) (ps : List Part) (b : Action ps (Said n)) (t : Token) → Unfit ps (sort t) → (rest us : List Token) (v : Said n) → MatchesAll s l n ps b (t ∷ rest) v us → ⊥
unfit n s l (a c ∷ ps) b t f rest us v (one (token h) r) = absurd cc
unfit n s l (first d c ∷ ps) b t f rest us v (one (node h k) r) = absurd cc
unfit n s l (the m ∷ ps) b t f rest us v r = absurd f
unfit n s l [] b t f rest us v r = absurd f

-- a branch that wants another token is gone
pub drop : (n : Nonterminal) (b : Branch n) (bs : List (Branch n)) (ts left : List Token) (t : Token) → ts ≡ t ∷ left → Unfit b.parts (sort t) → Goes n (b ∷ bs) bs ts ts
drop n b bs ts left t e f = record {
  used = [];
  split = refl;
  there = λ s l d seen v us r. inr r;
  only = λ s l d seen q v us h r. go s l seen (seen_first s t left seen (subst (λ x. IsSeen s seen x) e q)) v us r;
}
  where
    go : (s : Extent) (l : ℕ) (seen : List Token) → (rest : List Token) × (seen ≡ t ∷ rest) → (v : Said n) (us : List Token) → MatchesBranch s l n (b ∷ bs) seen v us → MatchesBranch s l n bs seen v us
    go s l seen z v us (inl r) = absurd (unfit n s l b.parts b.build t f z.0 us v (subst (λ x. MatchesAll s l n b.parts b.build x v us) z.1 r))
    go s l seen z v us (inr r) = r

-- the same behind the first branch
pub drop_second : (n : Nonterminal) (c b : Branch n) (bs : List (Branch n)) (ts left : List Token) (t : Token) → ts ≡ t ∷ left → Unfit b.parts (sort t) → Goes n (c ∷ b ∷ bs) (c ∷ bs) ts ts
unfolding drop
drop_second n c b bs ts left t e f = let g = drop n b bs ts left t e f in record {
  used = [];
  split = refl;
  there = λ s l d seen v us r. elim r [ inl x ↦ inl x | inr x ↦ inr (inr x) ];
  only = λ s l d seen q v us h r. elim r [ inl x ↦ inl x | inr x ↦ inr (g.only s l d seen q v us h x) ];
}

-- a token that stands for the sort is taken
pub take_class : (n : Nonterminal) (c : Sort) (ps : List Part) (b : Token → Action ps (Said n)) (ts left : List Token) (h : Takes c ts left)
    → Goes n (record { parts = a c ∷ ps; build = b } ∷ []) (record { parts = ps; build = b h.first } ∷ []) ts left
take_class n c ps b ts left h = along h.are (go (fits c (sort h.first)) h.fits_it
    (advance zero n (record { parts = a c ∷ ps; build = b } ∷ []) h.first left (fine_it (fits c (sort h.first)) h.fits_it) (λ l d. (shallow_it (fits c (sort h.first)) l, tt))))
  where
    fine_it : (q : Bool) → q ≡ true → (if look_fine n (barred n (sort h.first)) (Some (take_if q None ps (b h.first))) then true else false) ≡ true
    fine_it true e = refl
    fine_it false e = absurd cc

    shallow_it : (q : Bool) (l : ℕ) → depths_in n (take_if q None ps (b h.first)) l
    shallow_it true l = tt
    shallow_it false l = tt

    go : (q : Bool) → q ≡ true → Goes n (record { parts = a c ∷ ps; build = b } ∷ []) (after_steps n (take_if q None ps (b h.first)) ++ []) (h.first ∷ left) left
        → Goes n (record { parts = a c ∷ ps; build = b } ∷ []) (record { parts = ps; build = b h.first } ∷ []) (h.first ∷ left) left
    go true e g = g
    go false e g = absurd cc

-- the same, for a node's first token
pub take_first : (n : Nonterminal) (d : ℕ) (c : Sort) (ps : List Part) (b : Token → Action ps (Said n)) (ts left : List Token) → d ≤ 400 → (h : Takes c ts left)
    → Goes n (record { parts = first d c ∷ ps; build = b } ∷ []) (record { parts = ps; build = b h.first } ∷ []) ts left
take_first n d c ps b ts left w h = along h.are (go (fits c (sort h.first)) h.fits_it
    (advance zero n (record { parts = first d c ∷ ps; build = b } ∷ []) h.first left (fine_it (fits c (sort h.first)) h.fits_it) (λ l z. (shallow_it (fits c (sort h.first)) l z, tt))))
  where
    fine_it : (q : Bool) → q ≡ true → (if look_fine n (barred n (sort h.first)) (Some (take_if q (Some d) ps (b h.first))) then true else false) ≡ true
    fine_it true e = refl
    fine_it false e = absurd cc

    shallow_it : (q : Bool) (l : ℕ) → depth_limit ≤ l → depths_in n (take_if q (Some d) ps (b h.first)) l
    shallow_it true l z = (omega arith, tt)
    shallow_it false l z = tt

    go : (q : Bool) → q ≡ true → Goes n (record { parts = first d c ∷ ps; build = b } ∷ []) (after_steps n (take_if q (Some d) ps (b h.first)) ++ []) (h.first ∷ left) left
        → Goes n (record { parts = first d c ∷ ps; build = b } ∷ []) (record { parts = ps; build = b h.first } ∷ []) (h.first ∷ left) left
    go true e g = g
    go false e g = absurd cc

pub at_end : {n : Nonterminal} {bs cs : List (Branch n)} {ts us : List Token} → Goes n bs cs ts us → us ≡ [] → Goes n bs (ended n cs) ts us
at_end {n} {bs} {cs} {ts} {us} g e = g >> subst (λ x. Goes n cs (ended n cs) x x) (sym e) (finish n cs)
