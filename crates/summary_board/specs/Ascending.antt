-- The callees of a component.
use Rattle.std.specs.Prelude.{ℕ, ◌<◌, List, All, AllPairs}

-- The numbers ascend strictly, and all are below top.
abbrev pub AscendsBelow : ℕ → List ℕ → Type 0
AscendsBelow top xs = AllPairs (λ a b. a < b) xs × All (λ x. x < top) xs
