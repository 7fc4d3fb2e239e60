-- The lines of applications: 'm':3: apply of a value with 1 arguments may enter fun 'm':2, 'm':'f'/1
use Rattle.std.specs.Prelude.{ℕ, ◌<◌, List, [], ◌∷◌, ◌++◌, codes, slice_index_or}
use Rattle.std.specs.Fmt.{decimal}
use Rattle.std.specs.List.{All, flat_map}
use Rattle.type_kinds.specs.declared.atom.Atom.{Atom}
use Rattle.type_kinds.specs.Quoted.{quoted}
use Rattle.warn_list.specs.Lines.{remote_text}
use Rattle.fun_flow_answers.specs.declared.target.AppliedCall.{AppliedCall}
use Rattle.fun_flow_answers.specs.declared.target.Target.{Target}
use Rattle.fun_flow_answers.specs.declared.target.Target.TheVariants.{Fun, Name}
use Rattle.fun_flow_answers.specs.declared.target.ListedTargets.{ListedTargets}
use Rattle.fun_flow_answers.specs.declared.target.ListedTargets.TheVariants.{Anything, Only}

-- 'm':2, of the module at this position
abbrev pub place_text : List Atom → (position line : ℕ) → List ℕ
place_text homes i n = quoted (slice_index_or homes i []) ++ codes ":" ++ decimal n

abbrev pub target_text : List Atom → Target → List ℕ
target_text homes (Fun i l n) = codes "fun " ++ place_text homes i n
target_text homes (Name home f) = remote_text home f

abbrev pub only_text : List Atom → List Target → List ℕ
only_text homes [] = codes "nothing"
only_text homes (t ∷ ts) = target_text homes t ++ flat_map (λ u. codes ", " ++ target_text homes u) ts

abbrev pub targets_text : List Atom → ListedTargets → List ℕ
targets_text homes Anything = codes "anything"
targets_text homes (Only ts) = only_text homes ts

abbrev pub call_line : List Atom → AppliedCall → List ℕ
call_line homes c =
    place_text homes c.«module» c.line ++ codes ": apply of a value with " ++ decimal c.arity ++ codes " arguments may enter " ++ targets_text homes c.targets ++ 10 ∷ []

-- a line for each, where these are the names of the modules
abbrev pub call_lines : List Atom → List AppliedCall → List ℕ
call_lines homes cs = flat_map (call_line homes) cs

-- ---- positions that there are

abbrev pub IsTargetWithin : ℕ → Target → Type 0
IsTargetWithin n (Fun i l k) = i < n
IsTargetWithin n (Name home f) = Unit {0}

abbrev pub AreTargetsWithin : ℕ → ListedTargets → Type 0
AreTargetsWithin n Anything = Unit {0}
AreTargetsWithin n (Only ts) = All (IsTargetWithin n) ts

-- all that the calls name are positions of modules, of which there are n
pub record IsCallWithin (n : ℕ) (c : AppliedCall) : Type 0 where
  pub module_there : c.«module» < n
  pub targets_there : AreTargetsWithin n c.targets
