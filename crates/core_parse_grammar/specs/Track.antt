-- How far a part has been read.
use Rattle.std.specs.Prelude.{◌≡◌, ℕ, suc, ◌+◌, ◌≤◌, List, [], ◌∷◌, ◌++◌, zero, ◌⊎◌, Bool, true, false, Option, Some, None, if◌then◌else◌}
use Rattle.type_kinds.specs.declared.place.Place.{Place}
use Rattle.core_scan.specs.declared.token.Token.{Token}
use Rattle.core_scan.specs.declared.sort.Sort.{Sort}
use Rattle.core_scan.specs.declared.sort.Sort.TheVariants as s
use Rattle.core_scan.specs.Sorts.{sort, fits}
use Rattle.core_parse_grammar.specs.Grammar.{Part, a, first, the, Nonterminal, Said, Action, Way, ways, definition, function, expression, bare_expression, other_expression, list, list_tail, pair}
use Rattle.core_parse_grammar.specs.Grammar.{bare_pair, clause, bare_clause, clause_patterns, pattern, bare_pattern, other_pattern, pattern_list, pattern_tail, pattern_pair, bare_pattern_pair}
use Rattle.core_parse_grammar.specs.Begins.{depth_limit}
use Rattle.core_parse_grammar.specs.Matches.{Extent, all, front, MatchesAll}

-- what may still come of a part, and what it will say
pub record Branch (n : Nonterminal) : Type 0 where
  pub parts : List Part
  pub build : Action parts (Said n)

-- A node too deep is at most one deeper than the limit, and the bytes of a string one more.
abbrev pub deeper_limit : ℕ
deeper_limit = depth_limit + 2

-- A token that no part of a text has after this one: it belongs to the part, or is a fault. So an atom
-- and a function's name are told apart, and a variable and an alias.
abbrev pub barred : Nonterminal → Sort → Bool
barred (definition d) q = fits s.Slash q
barred (function d) q = fits s.Slash q
barred (expression d) q = fits s.Slash q
barred (bare_expression d) q = fits s.Slash q
barred (other_expression d) q = fits s.Slash q
barred (list d) q = fits s.Slash q
barred (list_tail d) q = fits s.Slash q
barred (pair d) q = fits s.Slash q
barred (bare_pair d) q = fits s.Slash q
barred (clause d) q = fits s.Slash q
barred (bare_clause d) q = fits s.Slash q
barred (clause_patterns d) q = fits s.Equals q
barred (pattern d) q = fits s.Equals q
barred (bare_pattern d) q = fits s.Equals q
barred (other_pattern d) q = fits s.Equals q
barred (pattern_list d) q = fits s.Equals q
barred (pattern_tail d) q = fits s.Equals q
barred (pattern_pair d) q = fits s.Equals q
barred (bare_pattern_pair d) q = fits s.Equals q
barred _ q = false

abbrev pub IsFree : Nonterminal → List Token → Type 0
IsFree n [] = ⊥ → ⊥
IsFree n (t ∷ ts) = barred n (sort t) ≡ false

-- one of the branches goes on so
abbrev pub MatchesBranch : Extent → ℕ → (n : Nonterminal) → List (Branch n) → List Token → Said n → List Token → Type 0
MatchesBranch s l n [] ts v us = ⊥
MatchesBranch s l n (b ∷ bs) ts v us = MatchesAll s l n b.parts b.build ts v us ⊎ MatchesBranch s l n bs ts v us

-- what may be seen of the rest: all of it, or a prefix with a token
abbrev pub IsSeen : Extent → List Token → List Token → Type 0
IsSeen all seen left = seen ≡ left
IsSeen front seen left = (t : Token) × (ts : List Token) × (more : List Token) × (seen ≡ t ∷ ts) × (left ≡ seen ++ more)

-- from these branches to those, and no others
pub record Goes (n : Nonterminal) (bs cs : List (Branch n)) (ts left : List Token) : Type 0 where
  pub used : List Token
  pub split : ts ≡ used ++ left
  pub there : (s : Extent) (l : ℕ) → depth_limit ≤ l → (seen : List Token) (v : Said n) (us : List Token) → MatchesBranch s l n cs seen v us → MatchesBranch s l n bs (used ++ seen) v us
  pub only : (s : Extent) (l : ℕ) → depth_limit ≤ l → (seen : List Token) → IsSeen s seen left → (v : Said n) (us : List Token) → IsFree n us → MatchesBranch s l n bs (used ++ seen) v us → MatchesBranch s l n cs seen v us

abbrev pub itself : (n : Nonterminal) → List (Branch n)
itself n = record { parts = the n ∷ []; build = λ x. x } ∷ []

abbrev pub said : (n : Nonterminal) → Said n → List (Branch n)
said n x = record { parts = []; build = x } ∷ []

-- the part is read, and says the value
abbrev pub Passes : (n : Nonterminal) → List Token → Said n → List Token → Type 0
Passes n ts v left = Goes n (itself n) (said n v) ts left

-- No token may follow that stands at this place, and the tokens before it begin the part.
pub record Stops (n : Nonterminal) (bs : List (Branch n)) (ts : List Token) (place : Place) : Type 0 where
  pub used : List Token
  pub at : Token
  pub left : List Token
  pub split : ts ≡ used ++ at ∷ left
  pub place_is : place ≡ at.place
  pub begun : (v : Said n) × MatchesBranch front depth_limit n bs used v []
  pub never : (s : Extent) (l : ℕ) → depth_limit ≤ l → (seen : List Token) → IsSeen s (at ∷ seen) (at ∷ left) → (v : Said n) (us : List Token) → IsFree n us → MatchesBranch s l n bs (used ++ at ∷ seen) v us → ⊥

-- All tokens begin the part, and there are too few.
pub record Wants (n : Nonterminal) (bs : List (Branch n)) (ts : List Token) : Type 0 where
  pub begun : (v : Said n) × MatchesBranch front depth_limit n bs ts v []
  pub never : (l : ℕ) → depth_limit ≤ l → (v : Said n) (us : List Token) → IsFree n us → MatchesBranch all l n bs ts v us → ⊥

-- A node below the deepest allowed begins at this place.
pub record Sinks (n : Nonterminal) (bs : List (Branch n)) (ts : List Token) (place : Place) : Type 0 where
  pub used : List Token
  pub at : Token
  pub left : List Token
  pub split : ts ≡ used ++ at ∷ left
  pub place_is : place ≡ at.place
  pub begun : (v : Said n) × MatchesBranch front depth_limit n bs used v []
  pub deeper : (v : Said n) × MatchesBranch front (deeper_limit) n bs (used ++ at ∷ []) v []
  pub never : (s : Extent) (seen : List Token) → IsSeen s (at ∷ seen) (at ∷ left) → (v : Said n) (us : List Token) → IsFree n us → MatchesBranch s depth_limit n bs (used ++ at ∷ seen) v us → ⊥

-- what a branch does at a token: it takes it, or was done before it
pub data Step (n : Nonterminal) : Type 0 where
  takes : Option ℕ → (ps : List Part) → Action ps (Said n) → Step n
  done : Said n → Step n

abbrev pub compose : (m n : Nonterminal) (ps qs : List Part) → Action ps (Said m) → (Said m → Action qs (Said n)) → Action (ps ++ qs) (Said n)
compose m n [] qs x g = g x
compose m n (p ∷ ps) qs f g = λ v. compose m n ps qs (f v) g

abbrev pub both : {B : Type 0} → Option (List B) → Option (List B) → Option (List B)
both (Some xs) (Some ys) = Some (xs ++ ys)
both _ _ = None

abbrev pub gather : {A B : Type 0} → (A → Option (List B)) → List A → Option (List B)
gather g [] = Some []
gather g (x ∷ xs) = both (g x) (gather g xs)

abbrev pub take_if : {n : Nonterminal} → Bool → Option ℕ → (ps : List Part) → Action ps (Said n) → List (Step n)
take_if true d ps f = takes d ps f ∷ []
take_if false d ps f = []

-- what a branch does at a token of a sort, looking f nonterminals down
abbrev pub look : ℕ → (n : Nonterminal) → Token → Sort → (ps : List Part) → Action ps (Said n) → Option (List (Step n))
look f n t q [] x = Some (done x ∷ [])
look f n t q (a c ∷ ps) b = Some (take_if (fits c q) None ps (b t))
look f n t q (first d c ∷ ps) b = Some (take_if (fits c q) (Some d) ps (b t))
look zero n t q (the m ∷ ps) b = None
look (suc f) n t q (the m ∷ ps) b = gather (λ w. look f n t q (w.parts ++ ps) (compose m n w.parts ps w.says b)) (ways m)

-- the branches after a token, those that a token leaves, and what they ask for
abbrev pub after_steps : (n : Nonterminal) → List (Step n) → List (Branch n)
after_steps n [] = []
after_steps n (takes d ps f ∷ xs) = record { parts = ps; build = f } ∷ after_steps n xs
after_steps n (done x ∷ xs) = after_steps n xs

abbrev pub after_look : (n : Nonterminal) → Option (List (Step n)) → List (Branch n)
after_look n None = []
after_look n (Some xs) = after_steps n xs

abbrev pub next : ℕ → (n : Nonterminal) → Token → Sort → List (Branch n) → List (Branch n)
next f n t q [] = []
next f n t q (b ∷ bs) = after_look n (look f n t q b.parts b.build) ++ next f n t q bs

abbrev pub steps_fine : (n : Nonterminal) → Bool → List (Step n) → Bool
steps_fine n q [] = true
steps_fine n q (takes d ps f ∷ xs) = steps_fine n q xs
steps_fine n true (done x ∷ xs) = steps_fine n true xs
steps_fine n false (done x ∷ xs) = false

abbrev pub look_fine : (n : Nonterminal) → Bool → Option (List (Step n)) → Bool
look_fine n q None = false
look_fine n q (Some xs) = steps_fine n q xs

-- no branch is done before the token, or the token is barred there
abbrev pub fine : ℕ → (n : Nonterminal) → Token → Sort → List (Branch n) → Bool
fine f n t q [] = true
fine f n t q (b ∷ bs) = if look_fine n (barred n q) (look f n t q b.parts b.build) then fine f n t q bs else false

abbrev pub depths_in : (n : Nonterminal) → List (Step n) → ℕ → Type 0
depths_in n [] l = Unit {0}
depths_in n (takes None ps f ∷ xs) l = depths_in n xs l
depths_in n (takes (Some d) ps f ∷ xs) l = (d ≤ l) × depths_in n xs l
depths_in n (done x ∷ xs) l = depths_in n xs l

abbrev pub depths_look : (n : Nonterminal) → Option (List (Step n)) → ℕ → Type 0
depths_look n None l = Unit {0}
depths_look n (Some xs) l = depths_in n xs l

-- the nodes that begin at the token aren't too deep
abbrev pub Shallow : ℕ → (n : Nonterminal) → Token → Sort → List (Branch n) → ℕ → Type 0
Shallow f n t q [] l = Unit {0}
Shallow f n t q (b ∷ bs) l = depths_look n (look f n t q b.parts b.build) l × Shallow f n t q bs l

abbrev pub live_look : (n : Nonterminal) → Option (List (Step n)) → Branch n → List (Branch n)
live_look n (Some []) b = []
live_look n (Some (x ∷ xs)) b = b ∷ []
live_look n None b = b ∷ []

-- without the branches that neither take the token nor are done
abbrev pub live : ℕ → (n : Nonterminal) → Token → Sort → List (Branch n) → List (Branch n)
live f n t q [] = []
live f n t q (b ∷ bs) = live_look n (look f n t q b.parts b.build) b ++ live f n t q bs

-- what comes after a part in a branch
pub record Then (m n : Nonterminal) : Type 0 where
  pub parts : List Part
  pub build : Said m → Action parts (Said n)

abbrev pub opened : (m n : Nonterminal) → List (Then m n) → List (Branch n)
opened m n [] = []
opened m n (h ∷ hs) = record { parts = the m ∷ h.parts; build = h.build } ∷ opened m n hs

abbrev pub passed : (m n : Nonterminal) → Said m → List (Then m n) → List (Branch n)
passed m n x [] = []
passed m n x (h ∷ hs) = record { parts = h.parts; build = h.build x } ∷ passed m n x hs

abbrev pub expansions : (m n : Nonterminal) (ps : List Part) → (Said m → Action ps (Said n)) → List (Way (Said m)) → List (Branch n)
expansions m n ps b [] = []
expansions m n ps b (w ∷ ws) = record { parts = w.parts ++ ps; build = compose m n w.parts ps w.says b } ∷ expansions m n ps b ws

abbrev pub only_ends : (n : Nonterminal) → Bool → Option (List (Step n)) → Bool
only_ends n q (Some []) = true
only_ends n true (Some (done x ∷ [])) = true
only_ends n _ _ = false

abbrev pub guards : Sort → (m n : Nonterminal) (ps : List Part) → (Said m → Action ps (Said n)) → Token → Said m → Bool
guards q m n ps b t x = if barred m q then only_ends n (barred n q) (look 12 n t q ps (b x)) else true

-- a token that is barred after the part is no beginning of what comes after it
abbrev pub Guarded : (m n : Nonterminal) → List (Then m n) → Type 0
Guarded m n [] = Unit {0}
Guarded m n (h ∷ hs) = ((t : Token) (x : Said m) → guards s.Slash m n h.parts h.build t x ≡ true)
    × ((t : Token) (x : Said m) → guards s.Equals m n h.parts h.build t x ≡ true) × Guarded m n hs
