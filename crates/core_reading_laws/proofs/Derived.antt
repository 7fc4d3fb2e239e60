-- Tokens as the symbols read them, whatever they say and however deep: with a bound on how many nonterminals stand in one another.
use Rattle.std.proofs.Common.{◌≡◌, ℕ, suc, ◌+◌, ◌≤◌, ◌<◌, Bool, true, List, [], ◌∷◌, ◌++◌, sym, subst, arith}
use Rattle.std.proofs.lemmas.Bool.{and_parts}
use Rattle.core_scan.specs.declared.token.Token.{Token}
use Rattle.core_scan.specs.declared.sort.Sort.{Sort}
use Rattle.core_scan.specs.Sorts.{sort, fits}
use Rattle.core_parse_grammar.specs.Grammar.{Part, a, first, the, Nonterminal, SaidBy, Said, Action, Way, ways}
use Rattle.core_parse_grammar.specs.Spells.{Reads, token, node, part, ReadsOne, here, later, ReadsAll, none, one}
use Rattle.core_reading_laws.proofs.Symbols.{Symbol, token_of, opening, Head, rows, rows_are, symbol, symbols, way_symbols}
use Rattle.core_reading_laws.proofs.Apart.{all_rows}

mutual
  -- the tokens begin with what the symbol reads, and the rest is left
  pub data Derives : ℕ → Symbol → List Token → List Token → Type 0 where
    taken : {m : ℕ} {c : Sort} {t : Token} {ts : List Token} → fits c (sort t) ≡ true → Derives m (token_of c) (t ∷ ts) ts
    opened : {m k : ℕ} {h : Head} {ts us : List Token} → k < m → RunsOne k (rows h) ts us → Derives m (opening h) ts us

  -- by one of the rows
  pub data RunsOne : ℕ → List (List Symbol) → List Token → List Token → Type 0 where
    this_row : {m : ℕ} {r : List Symbol} {rs : List (List Symbol)} {ts us : List Token} → Runs m r ts us → RunsOne m (r ∷ rs) ts us
    other_row : {m : ℕ} {r : List Symbol} {rs : List (List Symbol)} {ts us : List Token} → RunsOne m rs ts us → RunsOne m (r ∷ rs) ts us

  -- by the symbols one after another
  pub data Runs : ℕ → List Symbol → List Token → List Token → Type 0 where
    at_end : {m : ℕ} {ts : List Token} → Runs m [] ts ts
    and_then : {m : ℕ} {p : Symbol} {ps : List Symbol} {ts us vs : List Token} → Derives m p ts us → Runs m ps us vs → Runs m (p ∷ ps) ts vs

-- ---- a higher bound

pub derives_within : (m n : ℕ) → m ≤ n → (p : Symbol) (ts us : List Token) → Derives m p ts us → Derives n p ts us
derives_within m n low (token_of c) [] us h = elim h [ ]
derives_within m n low (token_of c) (t ∷ ts) us (taken e) = taken e
derives_within m n low (opening h) ts us (opened {k = k} less r) = opened {k = k} (omega (arith, less, low)) r

pub runs_within : (m n : ℕ) → m ≤ n → (ps : List Symbol) (ts us : List Token) → Runs m ps ts us → Runs n ps ts us
runs_within m n low [] ts us at_end = at_end
runs_within m n low (p ∷ ps) ts us (and_then {us = mid} d r) = and_then (derives_within m n low p ts mid d) (runs_within m n low ps mid us r)

pub one_within : (m n : ℕ) → m ≤ n → (rs : List (List Symbol)) (ts us : List Token) → RunsOne m rs ts us → RunsOne n rs ts us
one_within m n low [] ts us h = elim h [ ]
one_within m n low (r ∷ rs) ts us (this_row h) = this_row (runs_within m n low r ts us h)
one_within m n low (r ∷ rs) ts us (other_row h) = other_row (one_within m n low rs ts us h)

-- ---- a nonterminal in front is one of its rows

pub runs_append : (m : ℕ) (ps qs : List Symbol) (ts us vs : List Token) → Runs m ps ts us → Runs m qs us vs → Runs m (ps ++ qs) ts vs
runs_append m [] qs ts us vs at_end h = h
runs_append m (p ∷ ps) qs ts us vs (and_then {us = mid} d r) h = and_then d (runs_append m ps qs mid us vs r h)

pub some_row : (m : ℕ) (test : List Symbol → Bool) (rs : List (List Symbol)) → all_rows test rs ≡ true → (ts us : List Token) → RunsOne m rs ts us → (r : List Symbol) × ((test r ≡ true) × Runs m r ts us)
some_row m test [] e ts us h = elim h [ ]
some_row m test (r ∷ rs) e ts us (this_row h) = (r, ((and_parts (test r) (all_rows test rs) e).0, h))
some_row m test (r ∷ rs) e ts us (other_row h) = some_row m test rs (and_parts (test r) (all_rows test rs) e).1 ts us h

-- one that passes a test which all rows pass
pub some_row_of : (m : ℕ) (test : List Symbol → Bool) (h : Head) → all_rows test (rows h) ≡ true → (ts us : List Token) → Derives m (opening h) ts us → (r : List Symbol) × ((test r ≡ true) × Runs m r ts us)
some_row_of m test h e ts us (opened {k = k} less r) =
    let found = some_row k test (rows h) e ts us r in
    (found.0, (found.1.0, runs_within k m (omega (arith, less)) found.0 ts us found.1.1))

-- ---- more tokens behind

mutual
  derives_before : (m : ℕ) (p : Symbol) (ts us ws : List Token) → Derives m p ts us → Derives m p (ts ++ ws) (us ++ ws)
  derives_before m (token_of c) [] us ws h = elim h [ ]
  derives_before m (token_of c) (t ∷ ts) us ws (taken e) = taken e
  derives_before m (opening h) ts us ws (opened {k = k} less r) = opened {k = k} less (one_before k (rows h) ts us ws r)

  one_before : (m : ℕ) (rs : List (List Symbol)) (ts us ws : List Token) → RunsOne m rs ts us → RunsOne m rs (ts ++ ws) (us ++ ws)
  one_before m [] ts us ws h = elim h [ ]
  one_before m (r ∷ rs) ts us ws (this_row h) = this_row (runs_before m r ts us ws h)
  one_before m (r ∷ rs) ts us ws (other_row h) = other_row (one_before m rs ts us ws h)

  runs_before : (m : ℕ) (ps : List Symbol) (ts us ws : List Token) → Runs m ps ts us → Runs m ps (ts ++ ws) (us ++ ws)
  runs_before m [] ts us ws at_end = at_end
  runs_before m (p ∷ ps) ts us ws (and_then {us = mid} d r) = and_then (derives_before m p ts mid ws d) (runs_before m ps mid us ws r)

-- ---- what is read is derived

abbrev pub Derived : Symbol → List Token → List Token → Type 0
Derived p ts us = (m : ℕ) × Derives m p ts us

pub derives_append : (p : Symbol) (ts us ws : List Token) → Derived p ts us → Derived p (ts ++ ws) (us ++ ws)
derives_append p ts us ws h = (h.0, derives_before h.0 p ts us ws h.1)

abbrev pub Ran : List Symbol → List Token → List Token → Type 0
Ran ps ts us = (m : ℕ) × Runs m ps ts us

abbrev pub RanOne : List (List Symbol) → List Token → List Token → Type 0
RanOne rs ts us = (m : ℕ) × RunsOne m rs ts us

ran_first : (p : Symbol) (ps : List Symbol) (ts us vs : List Token) → Derived p ts us → Ran ps us vs → Ran (p ∷ ps) ts vs
ran_first p ps ts us vs d r = (d.0 + r.0, and_then (derives_within d.0 (d.0 + r.0) (omega arith) p ts us d.1) (runs_within r.0 (d.0 + r.0) (omega arith) ps us vs r.1))

module _ (deepest : ℕ) where
  mutual
    pub derived : (p : Part) (ts us : List Token) (x : SaidBy p) → Reads deepest p ts x us → Derived (symbol p) ts us
    derived (a c) [] us x h = elim h [ ]
    derived (first d c) [] us x h = elim h [ ]
    derived (a c) (t ∷ ts) us x (token e) = (0, taken e)
    derived (first d c) (t ∷ ts) us x (node e low) = (0, taken e)
    derived (the n) ts us x (part h) =
        let r = ran_one n (ways n) ts us x h in
        (suc r.0, opened {k = r.0} (omega arith) (subst (λ rs. RunsOne r.0 rs ts us) (sym (rows_are n)) r.1))

    pub ran_one : (n : Nonterminal) (ws : List (Way (Said n))) (ts us : List Token) (x : Said n) → ReadsOne deepest n ws ts x us → RanOne (way_symbols n ws) ts us
    ran_one n [] ts us x h = elim h [ ]
    ran_one n (w ∷ ws) ts us x (here h) = let r = ran n w.parts w.says ts us x h in (r.0, this_row r.1)
    ran_one n (w ∷ ws) ts us x (later h) = let r = ran_one n ws ts us x h in (r.0, other_row r.1)

    pub ran : (n : Nonterminal) (ps : List Part) (f : Action ps (Said n)) (ts us : List Token) (x : Said n) → ReadsAll deepest n ps f ts x us → Ran (symbols ps) ts us
    ran n [] f ts us x none = (0, at_end)
    ran n (p ∷ ps) f ts us x (one {x = y} {us = mid} r rs) = ran_first (symbol p) (symbols ps) ts mid us (derived p ts mid y r) (ran n ps (f y) mid us x rs)
