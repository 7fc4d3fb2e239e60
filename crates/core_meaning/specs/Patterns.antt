-- Patterns worked by hand: what small patterns match and miss, each row of both tables at least once. `docs/MEANING.md` says
-- which row is in which.
use Rattle.std.specs.Prelude.{ℕ, pos, Bool, List, codes}
use Rattle.core_ast.specs.declared.syntax.Mark.{Mark}
use Rattle.core_ast.specs.declared.syntax.Literal.TheVariants as l
use Rattle.core_ast.specs.Model as m
use Rattle.type_lattice_model.specs.Values.{Value, bits, nil, cons, tuple, no_value, Env, and_variable}
use Rattle.bif_types.specs.Results.{one_value, two_values}
use Rattle.core_meaning.specs.Matching.{Match, MatchEach, Miss}
use Rattle.core_meaning.specs.Forms.{number, number_pair, num, word, var, bind}

module _ (k : Mark) where
  -- `1`, and the patterns of X, of both, and of none
  abbrev one : m.Pattern
  one = m.equals k (l.Int (pos 1))

  abbrev only : m.Pattern → m.Patterns
  only p = m.and_pattern p m.no_pattern

  abbrev both : m.Pattern → m.Pattern → m.Patterns
  both p q = m.and_pattern p (only q)

  -- the arguments of a segment: 8 bits, one at a time, an integer
  abbrev integer_segment : m.Trees
  integer_segment = m.and_tree (num k 8) (m.and_tree (num k 1) (m.and_tree (word k (codes "integer")) m.no_tree))

module _ (W : Value → Type 0) (env : Env) (k : Mark) where
  -- X is bound to a number
  abbrev with_x : ℕ → Env
  with_x n = and_variable (codes "X") (number n) env

  pub record WorkedMatches : Type 0 where
    -- `X` and `1`, each against 1
    pub a_variable : Match W (bind k (codes "X")) (number 1) env (with_x 1)
    pub a_literal : Match W (one k) (number 1) env env
    -- `[1|X]` against `[1|2]`, and `{1,X}` against `{1,2}`
    pub a_list : Match W (m.list_of k (only k (one k)) (bind k (codes "X"))) (cons (number 1) (number 2)) env (with_x 2)
    pub a_tuple : Match W (m.tuple_of k (both k (one k) (bind k (codes "X")))) (tuple (two_values (number 1) (number 2))) env (with_x 2)
    -- `X = 1` against 1
    pub an_alias : Match W (m.alias k (var k (codes "X")) (one k)) (number 1) env (with_x 1)
    -- `~{1:=X}~` against the map of 1 to 2
    pub a_map : Match W (m.map_of k (m.and_pat_pair (num k 1) (bind k (codes "X")) m.no_pat_pair)) (number_pair 1 2) env (with_x 2)
    -- `#{#<X>(8,1,'integer')}#` against any bit string, with an integer from outside
    pub a_binary : (bs : List Bool) (n : ℕ) → W (number n) → Match W (m.binary_of k (m.and_pat_segment (bind k (codes "X")) (integer_segment k) m.no_pat_segment)) (bits bs) env (with_x n)
    -- `<1,X>` against 1 and 2
    pub two_patterns : MatchEach W (both k (one k) (bind k (codes "X"))) (two_values (number 1) (number 2)) env (with_x 2)

module _ (k : Mark) where
  pub record WorkedMisses : Type 0 where
    -- `1` against 2
    pub a_literal : Miss (one k) (number 2)
    -- `[1|1]` against nil, `[2|1]` and `[1|2]`; `[1,1|1]` against `[1|[2|1]]`
    pub no_list : Miss (m.list_of k (only k (one k)) (one k)) nil
    pub other_head : Miss (m.list_of k (only k (one k)) (one k)) (cons (number 2) (number 1))
    pub other_rest : Miss (m.list_of k (only k (one k)) (one k)) (cons (number 1) (number 2))
    pub other_tail : Miss (m.list_of k (both k (one k) (one k)) (one k)) (cons (number 1) (cons (number 2) (number 1)))
    -- `{1}` against nil, `{}`, `{2}` and `{1,2}`; `{1,1}` against `{1,2}`
    pub no_tuple : Miss (m.tuple_of k (only k (one k))) nil
    pub shorter : Miss (m.tuple_of k (only k (one k))) (tuple no_value)
    pub other_element : Miss (m.tuple_of k (only k (one k))) (tuple (one_value (number 2)))
    pub longer : Miss (m.tuple_of k (only k (one k))) (tuple (two_values (number 1) (number 2)))
    pub other_last : Miss (m.tuple_of k (both k (one k) (one k))) (tuple (two_values (number 1) (number 2)))
    -- `X = 1` against 2
    pub an_alias : Miss (m.alias k (var k (codes "X")) (one k)) (number 2)
    -- a map pattern and a binary pattern may miss every value
    pub a_map : (v : Value) → Miss (m.map_of k m.no_pat_pair) v
    pub a_binary : (v : Value) → Miss (m.binary_of k m.no_pat_segment) v
