-- The parts that are made are those of the components, so the written outputs of the work are their summaries.
use Rattle.std.proofs.Common.{◌≡◌, ◌≢◌, Bool, true, false, ℕ, ◌+◌, ◌<◌, List, [], ◌∷◌, ◌++◌, length, map, ◌⊎◌, inl, inr, Some, Ok}
use Rattle.std.proofs.Common.{Err, IfOk, Result, Contains, All, refl, sym, ap, ap₂, ◌∙◌, subst, arith, length-append, add-one}
use Rattle.std.specs.Prelude.{slice_get, slice_index_or, option_map, if◌then◌else◌}
use Rattle.std.specs.List.{list_any}
use Rattle.std.proofs.lemmas.Option.{slice_get-map, slice_get-get_or}
use Rattle.summary_board.proofs.Below.{length_each_below, get_each_below}
use Rattle.comp_rounds.proofs.SameCallees.{pointwise}
use Rattle.type_kinds.proofs.Lists.{contains_first, contains_later}
use Rattle.type_kinds.specs.declared.atom.Atom.{Atom}
use Rattle.core_ast.specs.declared.syntax.FunName.{FunName}
use Rattle.core_ast.specs.Model as m
use Rattle.core_scope.specs.Asks.{erlang}
use Rattle.core_scope.specs.Names.{Distinct}
use Rattle.call_graph.specs.Calls.{ModuleFunction, functions_of, GoesTo}
use Rattle.call_graph.specs.Outside.{outside_of, GoesInside}
use Rattle.call_graph.specs.Targets.{CallTarget, targets}
use Rattle.call_graph.specs.Targets.CallTarget.{defined, inner, remote}
use Rattle.components.specs.Numbering.{Numbering, IsNumbering, members_of, callees_of}
use Rattle.components.specs.Ready.{IsReadyNumbering}
use Rattle.cons_tree.specs.Callees.{found, same_home}
use Rattle.cons_tree.specs.declared.parts.Callee.TheVariants.{Undefined}
use Rattle.cons_tree.specs.declared.parts.Summary.{Summary}
use Rattle.comp_rounds.specs.declared.parts.CompOut.{CompOut}
use Rattle.comp_rounds.specs.declared.parts.CompPart.{CompPart}
use Rattle.comp_rounds.specs.Members.{function_of}
use Rattle.comp_rounds.specs.Parts.{Listed, written}
use Rattle.comp_rounds.specs.Rounds.{Callees, Function, summaries, with_summaries}
use Rattle.comp_rounds.specs.Takes.{AllTake}
use Rattle.comp_rounds.specs.declared.work.CompWork.{CompWork}
use Rattle.comp_rounds.specs.Works.{no_part, parts_of, callees_of as numbers_of}
use Rattle.sound_laws.specs.Accepted.{AreAccepted}
use Rattle.summary_board.specs.Ascending.{AscendsBelow}
use Rattle.summary_board.specs.Calls.{each_below}
use Rattle.summary_board.specs.Solved.{solved}
use Rattle.analysis_summaries.specs.Functions.{summarized, all_functions, picked}
use Rattle.analysis_summaries.specs.Known.{module_names, closed_over, known_over, after_components, all_unknown}
use Rattle.analysis_summaries.specs.Whole.{IsCallGraph}
use Rattle.sound_laws_whole.proofs.Named.{member_at, home_of_member}
use Rattle.sound_laws_whole.proofs.Wholes.{closed_there, summarized_at}
use Rattle.analysis_crew.specs.Parts.{functions_in, listed, IsFixedAt, IsFixedFor, IsPartOf, AreSummariesOf, IsNumberingOf, summaries_of}
use Rattle.analysis_crew.specs.steps.Fixing.{Call, fixed_by}
use Rattle.analysis_crew.specs.steps.Making.{IsMadeOf, AreMadeOf, lists_of, IsWorkOf, AreOutputsOf}
use Rattle.analysis_crew.proofs.Fixing.{own_fixed, call_fixed}
use Rattle.analysis_crew.proofs.Loops.{each_there}
use Rattle.analysis_crew.proofs.Outputs.{all_of}

-- ---- lists by number

map_same : {X : Type 0} (f g : ℕ → X) (ds : List ℕ) → ((d : ℕ) → Contains ds d → f d ≡ g d) → map f ds ≡ map g ds
map_same f g [] h = refl
map_same f g (d ∷ ds) h = ap₂ (λ x xs. x ∷ xs) (h d (contains_first d ds)) (map_same f g ds (λ e has. h e (contains_later d e ds has)))

-- ---- the callees of a component

pub callees_below : (c : Numbering) → IsNumbering c → (n : ℕ) → n < c.count → All (λ d. d < c.count) (callees_of c n)
callees_below c kept n low = all_of (λ d. d < c.count) (callees_of c n) (λ d has. under d (kept.callees_below n d low has))
  where
    under : (d : ℕ) → d < n → d < c.count
    under d less = omega (arith, less, low)

pub callees_ascend : (c : Numbering) → IsNumbering c → (callees : List (List ℕ)) → callees ≡ each_below c.count (callees_of c) → (parts : ℕ) → parts ≡ c.count
    → (n : ℕ) → n < parts → AscendsBelow n (slice_index_or callees n [])
callees_ascend c kept callees is parts counted n low =
    let under : n < c.count = omega (arith, counted, low) in
    subst (AscendsBelow n) (sym (ap (λ xs. slice_index_or xs n []) is ∙ get_each_below c.count (callees_of c) n [] under))
    (kept.callees_sorted n under, all_of (λ d. d < n) (callees_of c n) (λ d has. kept.callees_below n d under has))

-- ---- what is fixed

abbrev pub Either : Type 0
Either = (xs : List m.Module) (f : ModuleFunction) (home : Atom) (name : FunName) → Contains (targets [] f.body) (remote home name) → home ≢ erlang
    → GoesInside xs f (remote home name) ⊎ Contains (outside_of xs f) (home, name)

-- the modules are closed in what is known at first
abbrev pub AreClosed : List m.Module → (first : Callees) → Type 0
AreClosed xs first = first ≡ closed_over first (module_names xs)

closed_twice : (around : Callees) (homes : List Atom) → closed_over (closed_over around homes) homes ≡ closed_over around homes
closed_twice around homes = pointwise (closed_over (closed_over around homes) homes) (closed_over around homes) (λ h f. by h f (list_any (same_home h) homes))
  where
    by : (h : Atom) (f : FunName) (b : Bool) → (if b then Undefined else (if b then Undefined else around h f)) ≡ (if b then Undefined else around h f)
    by h f true = refl
    by h f false = refl

pub are_closed : (xs : List m.Module) (around first : Callees) → first ≡ closed_over around (module_names xs) → AreClosed xs first
are_closed xs around first is = subst (AreClosed xs) (sym is) (sym (closed_twice around (module_names xs)))

module _ (either : Either) (xs : List m.Module) (first : Callees) (closed : AreClosed xs first) where
  abbrev calls : List (List Call)
  calls = map (outside_of xs) (functions_of xs)

  own_closed : (i : ℕ) (g : Function) → slice_get (all_functions xs) i ≡ Some g → (f : FunName) → first g.home f ≡ Undefined
  own_closed i g at f =
      ap (λ k. k g.home f) closed ∙ closed_there first (module_names xs) g.home f (home_of_member xs g.home g.name (member_at (all_functions xs) i g at))

  abbrev fixed : List ℕ → Callees
  fixed numbers = fixed_by first (all_functions xs) calls all_unknown numbers

  fixed_is : (numbers : List ℕ) → IsFixedFor first xs numbers (fixed numbers)
  fixed_is numbers i g t has there stands nowhere = by t stands nowhere
    where
      by : (t : CallTarget) → Contains (targets [] g.body) t → ((k : ModuleFunction) → Contains (functions_of xs) k → GoesTo g t k → ⊥) → IsFixedAt first xs (fixed numbers) g t
      by (defined f count) stands nowhere =
          own_fixed first (all_functions xs) calls own_closed numbers i (summarized g) f has (summarized_at xs i g there) ∙ ap (λ k. k g.home f) closed
      by (inner f count) stands nowhere = tt
      by (remote h f) stands nowhere = λ far.
          call_fixed first (all_functions xs) calls own_closed numbers i (outside_of xs g) (h, f) has
          (slice_get-map (outside_of xs) (functions_of xs) i ∙ ap (option_map (outside_of xs)) there)
          (elim (either xs g h f stands far) [
            | inl inside ↦ absurd (nowhere inside.0 inside.1 inside.2)
            | inr out ↦ out
          ])
          ∙ ap (λ k. k h f) closed

  -- ---- the parts

  pub part_is : (c : Numbering) → IsNumbering c → (parts : List CompPart) (callees : List (List ℕ)) → IsWorkOf (all_functions xs) first calls c parts callees
      → (n : ℕ) → n < c.count → IsPartOf first xs c n (slice_index_or parts n no_part)
  part_is c kept parts callees work n low = record {
    members = made.members;
    fixed = subst (IsFixedFor first xs (members_of c n)) (sym made.fixed) (fixed_is (members_of c n));
    callees =
        made.callees
        ∙ map_same (λ d. slice_index_or (lists_of (all_functions xs) c) d []) (λ d. map listed (functions_in xs c d)) (callees_of c n)
        (λ d has. get_each_below c.count (λ e. map listed (functions_in xs c e)) d [] (under d (kept.callees_below n d low has)));
  }
    where
      within : n < length parts
      within = let counted = work.counted in omega (arith, counted, low)

      made : IsMadeOf (all_functions xs) first calls (lists_of (all_functions xs) c) c n (slice_index_or parts n no_part)
      made = work.made n (slice_index_or parts n no_part) (slice_get-get_or parts n no_part within)

      under : (d : ℕ) → d < n → d < c.count
      under d less = omega (arith, less, low)

-- the law of outputs, as this crate states it
abbrev pub OutputsLaw : Type 0
OutputsLaw = (around : Callees) (xs : List m.Module) (graph : List (List ℕ)) (c : Numbering) (part : ℕ → CompPart) (callees : ℕ → List ℕ)
    → AreAccepted xs → Distinct (module_names xs) → IsCallGraph xs graph → IsReadyNumbering graph c
    → ((n : ℕ) → n < c.count → IsPartOf around xs c n (part n)) → ((n : ℕ) → n < c.count → callees n ≡ callees_of c n)
    → (n : ℕ) → n < c.count → slice_get (solved written part callees c.count) n ≡ Some (record { summaries = summaries_of around xs c n })

outputs_of_modules : OutputsLaw → Either → (xs : List m.Module) → AreAccepted xs → Distinct (module_names xs) → (c : Numbering) → IsNumberingOf xs c → (first : Callees) → AreClosed xs first
    → (outs : List CompOut) → AreOutputsOf (all_functions xs) first (map (outside_of xs) (functions_of xs)) c outs → AreSummariesOf first (all_functions xs) c outs
outputs_of_modules law either xs accepted apart c numbering first closed outs are = subst (λ k. AreSummariesOf k (all_functions xs) c outs) (sym closed) (record {
  counted = are.counted ∙ are.work.counted;
  each = λ n low.
      ap (λ os. slice_get os n) (are.solved_so ∙ ap (solved written (λ n. slice_index_or are.parts n no_part) (λ n. slice_index_or are.callees n [])) are.work.counted)
      ∙ law first xs numbering.0 c (λ n. slice_index_or are.parts n no_part) (λ n. slice_index_or are.callees n []) accepted apart numbering.1 numbering.2
      (part_is either xs first closed c numbering.2.kept are.parts are.callees are.work)
      (λ k under. ap (λ xss. slice_index_or xss k []) are.work.numbers ∙ get_each_below c.count (callees_of c) k [] under) n low;
})

pub outputs_known : OutputsLaw → Either → (xs : List m.Module) → AreAccepted xs → Distinct (module_names xs) → (c : Numbering) → IsNumberingOf xs c
    → (around first : Callees) → first ≡ closed_over around (module_names xs) → (fs : List Function) → fs ≡ all_functions xs → (outside : List (List Call)) → outside ≡ map (outside_of xs) (functions_of xs)
    → (outs : List CompOut) → AreOutputsOf fs first outside c outs → AreSummariesOf first fs c outs
outputs_known law either xs accepted apart c numbering around first first_is fs fs_is outside outside_is outs are =
    subst (λ gs. AreSummariesOf first gs c outs) (sym fs_is)
    (outputs_of_modules law either xs accepted apart c numbering first (are_closed xs around first first_is) outs
    (subst (λ calls. AreOutputsOf (all_functions xs) first calls c outs) outside_is (subst (λ gs. AreOutputsOf gs first outside c outs) fs_is are)))

-- where these are entered one component after another
pub known_by_outputs : (xs : List m.Module) (c : Numbering) (around first known : Callees) (fs : List Function) → first ≡ closed_over around (module_names xs) → fs ≡ all_functions xs
    → known ≡ after_components first fs c c.count → known ≡ known_over around xs c
known_by_outputs xs c around first known fs first_is fs_is is =
    is
    ∙ ap (λ k. after_components k fs c c.count) first_is
    ∙ ap (λ gs. after_components (closed_over around (module_names xs)) gs c c.count) fs_is

-- ---- one component after another

module _ (first : Callees) (fs : List Function) (c : Numbering) (outs : List CompOut) (are : AreSummariesOf first fs c outs) (n : ℕ) (low : n < c.count) (out : CompOut) (there : slice_get outs n ≡ Some out) where
  output_is : out.summaries ≡ summaries (after_components first fs c n) (picked fs (members_of c n))
  output_is = ap (λ (o : CompOut). o.summaries) (some_is out _ (sym there ∙ are.each n low))
    where
      some_is : (x y : CompOut) → Some x ≡ Some y → x ≡ y
      some_is x y e = cc

  pub output_takes : ((outside : Callees) (gs : List Function) → AllTake gs (summaries outside gs)) → (numbers : List ℕ) → numbers ≡ members_of c n → (passed : List Summary) → passed ≡ out.summaries
      → AllTake (picked fs numbers) passed
  output_takes take numbers is passed same =
      subst (λ is. AllTake (picked fs is) passed) (sym is)
      (subst (AllTake (picked fs (members_of c n))) (sym (same ∙ output_is)) (take (after_components first fs c n) (picked fs (members_of c n))))

  pub output_entered : (old new : Callees) (numbers : List ℕ) → numbers ≡ members_of c n → (passed : List Summary) → passed ≡ out.summaries → old ≡ after_components first fs c n
      → new ≡ with_summaries old (picked fs numbers) passed → new ≡ after_components first fs c (n + 1)
  output_entered old new numbers is passed same before entered =
      entered
      ∙ ap (λ is. with_summaries old (picked fs is) passed) is
      ∙ ap₂ (λ k ss. with_summaries k (picked fs (members_of c n)) ss) before (same ∙ output_is)
      ∙ ap (after_components first fs c) (sym (add-one n))

-- ---- what the code makes

pub all_within : (called passed : List ℕ) (component count top : ℕ) → ((d : ℕ) → Contains called d → d < component) → component < count → top ≡ count → passed ≡ called
    → All (λ d. d < top) passed
all_within called passed component count top below low same is = subst (All (λ d. d < top)) (sym is) (all_of (λ d. d < top) called (λ d has. under d (below d has)))
  where
    under : (d : ℕ) → d < component → d < top
    under d less = omega (arith, less, low, same)

module _ (fs : List Function) (first : Callees) (outside : List (List Call)) (lists : List (List Listed)) (c : Numbering) where
  pub part_made : (n : ℕ) (part : CompPart) (numbers called : List ℕ) → numbers ≡ members_of c n → called ≡ callees_of c n → map function_of part.members ≡ picked fs numbers
      → found part.fixed ≡ fixed_by first fs outside all_unknown numbers → part.callees ≡ map (λ d. slice_index_or lists d []) called → IsMadeOf fs first outside lists c n part
  part_made n part numbers called numbers_are called_are members fixed callees = record {
    members = members ∙ ap (picked fs) numbers_are;
    fixed = fixed ∙ ap (λ is. fixed_by first fs outside all_unknown is) numbers_are;
    callees = callees ∙ ap (map (λ d. slice_index_or lists d [])) called_are;
  }

  pub part_added : (old new : List CompPart) (part : CompPart) (n : ℕ) → new ≡ old ++ part ∷ [] → (length old ≡ n) × AreMadeOf fs first outside lists c old → IsMadeOf fs first outside lists c n part
      → (length new ≡ n + 1) × AreMadeOf fs first outside lists c new
  part_added old new part n is before made = (
    ap length is ∙ length-append old (part ∷ []) ∙ ap (λ k. k + 1) before.0,
    subst (AreMadeOf fs first outside lists c) (sym is)
        (each_there (λ k x. IsMadeOf fs first outside lists c k x) old part before.1 (subst (λ k. IsMadeOf fs first outside lists c k part) (sym before.0) made)),
  )

pub of_both : {A E : Type 0} (r : Result A E) (P Q R : A → Type 0) → IfOk r P → IfOk r Q → ((x : A) → P x → Q x → R x) → IfOk r R
of_both (Ok x) P Q R p q f = f x p q
of_both (Err e) P Q R p q f = tt

pub lists_long : (fs : List Function) (c : Numbering) (lists : List (List Listed)) → lists ≡ lists_of fs c → length lists ≡ c.count
lists_long fs c lists is = ap length is ∙ length_each_below c.count (λ n. map listed (picked fs (members_of c n)))

pub callees_long : (c : Numbering) (callees : List (List ℕ)) → callees ≡ each_below c.count (callees_of c) → length callees ≡ c.count
callees_long c callees is = ap length is ∙ length_each_below c.count (callees_of c)

module _ (fs : List Function) (first : Callees) (outside : List (List Call)) (c : Numbering) (lists : List (List Listed)) (lists_are : lists ≡ lists_of fs c)
    (parts : List CompPart) (callees : List (List ℕ)) (counted : length parts ≡ c.count) (made : AreMadeOf fs first outside lists c parts) (numbers : callees ≡ each_below c.count (callees_of c)) where
  its_work : IsWorkOf fs first outside c parts callees
  its_work = record {
    counted = counted;
    made = subst (λ xss. AreMadeOf fs first outside xss c parts) lists_are made;
    numbers = numbers;
  }

  pub work_made : {E : Type 0} (r : Result CompWork E) → IfOk r (λ work. parts_of work ≡ parts) → IfOk r (λ work. numbers_of work ≡ callees) → IfOk r (λ work. IsWorkOf fs first outside c (parts_of work) (numbers_of work))
  work_made (Ok work) p q = subst (λ ps. IsWorkOf fs first outside c ps (numbers_of work)) (sym p) (subst (λ cs. IsWorkOf fs first outside c parts cs) (sym q) its_work)
  work_made (Err e) p q = tt
