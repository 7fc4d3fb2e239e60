-- The order of findings: by label, and at one label by kind.
use Rattle.std.specs.Prelude.{ℕ, Bool, ◌&&◌, ◌||◌, nat_eq, nat_lt, List}
use Rattle.std.specs.List.Sorted.{IsPermutation, IsSortedBy, IsStableBy}
use Rattle.warn_list.specs.declared.finding.Finding.{Finding}
use Rattle.warn_list.specs.declared.finding.FindingKind.{FindingKind}
use Rattle.warn_list.specs.declared.finding.FindingKind.TheVariants as k

abbrev pub kind_number : FindingKind → ℕ
kind_number (k.NoReturn f) = 1
kind_number (k.DeadCall c) = 2
kind_number k.DeadClause = 3
kind_number (k.NeverCalled f) = 4
kind_number (k.UnknownFunction home f) = 5

-- One finding stands before another.
abbrev pub stands_before : Finding → Finding → Bool
stands_before f g = nat_lt f.label g.label || (nat_eq f.label g.label && nat_lt (kind_number f.kind) (kind_number g.kind))

-- The second list has the findings of the first, in order. Two of one kind at one label stay as they were.
pub record AreInOrder (findings ordered : List Finding) : Type 0 where
  pub same : IsPermutation findings ordered
  pub sorted : IsSortedBy stands_before ordered
  pub stable : IsStableBy stands_before findings ordered
