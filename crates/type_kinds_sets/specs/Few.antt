-- How many values a set may list.
use Rattle.std.specs.Prelude.{◌+◌, Bool, List, length, nat_lt}
use Rattle.type_kinds_sets.specs.declared.limits.TheConstants.{MAX_MEMBERS}

-- whether a set may list as many values as the list has: at most `MAX_MEMBERS`
abbrev pub are_few : {K : Type 0} → List K → Bool
are_few xs = nat_lt (length xs) (MAX_MEMBERS + 1)
