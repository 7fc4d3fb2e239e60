-- The patterns worked by hand, step by step.
use Rattle.std.proofs.Common.{◌≡◌, pos, inl, refl}
use Rattle.core_ast.specs.declared.syntax.Mark.{Mark}
use Rattle.type_lattice_model.specs.Values.{Value, nil, cons, tuple, Values, Env}
use Rattle.core_meaning.specs.Matching.{match_variable, match_literal, match_list, match_tuple, match_map, match_binary, match_alias, match_none}
use Rattle.core_meaning.specs.Matching.{match_next, match_rest, match_head, match_no_pair, match_pair, match_no_segment, match_segment}
use Rattle.core_meaning.specs.Matching.{miss_literal, miss_list, miss_no_tuple, miss_tuple, miss_map, miss_binary, miss_alias, miss_more, miss_fewer, miss_here, miss_later, miss_no_list, miss_head, miss_tail, miss_rest}
use Rattle.core_meaning.specs.Forms.{number}
use Rattle.core_meaning.specs.Patterns.{WorkedMatches, WorkedMisses}

two_no_one : number 2 ≡ number 1 → ⊥
two_no_one e = cc

nil_no_list : (h t : Value) → nil ≡ cons h t → ⊥
nil_no_list h t e = cc

nil_no_tuple : (vs : Values) → nil ≡ tuple vs → ⊥
nil_no_tuple vs e = cc

module _ (W : Value → Type 0) (env : Env) (k : Mark) where
  pub matches : WorkedMatches W env k
  matches = record {
    a_variable = match_variable;
    a_literal = match_literal refl;
    a_list = match_list (match_head (match_literal refl) (match_rest match_variable));
    a_tuple = match_tuple (match_next (match_literal refl) (match_next match_variable match_none));
    an_alias = match_alias (match_literal refl);
    a_map = match_map (match_pair (number 1) (inl (refl, refl)) match_variable match_no_pair);
    a_binary = λ bs n w. match_binary (match_segment w (pos n, refl) match_variable match_no_segment);
    two_patterns = match_next (match_literal refl) (match_next match_variable match_none);
  }

module _ (k : Mark) where
  pub misses : WorkedMisses k
  misses = record {
    a_literal = miss_literal two_no_one;
    no_list = miss_list (miss_no_list nil_no_list);
    other_head = miss_list (miss_head (miss_literal two_no_one));
    other_rest = miss_list (miss_tail (miss_rest (miss_literal two_no_one)));
    other_tail = miss_list (miss_tail (miss_head (miss_literal two_no_one)));
    no_tuple = miss_no_tuple nil_no_tuple;
    shorter = miss_tuple miss_fewer;
    other_element = miss_tuple (miss_here (miss_literal two_no_one));
    longer = miss_tuple (miss_later miss_more);
    other_last = miss_tuple (miss_later (miss_here (miss_literal two_no_one)));
    an_alias = miss_alias (miss_literal two_no_one);
    a_map = λ v. miss_map;
    a_binary = λ v. miss_binary;
  }
