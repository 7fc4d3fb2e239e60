-- What stands before and after each round.
use Rattle.std.proofs.Common.{◌≡◌, ℕ, suc, ◌+◌, ◌<◌, ◌≤◌, true, List, [], ◌∷◌, Contains, length, map, Some, refl, sym, ap, ap₂, ◌∙◌, subst, add-one, arith}
use Rattle.std.proofs.lemmas.List.{length-map}
use Rattle.std.proofs.lemmas.Option.{slice_get_within}
use Rattle.type_kinds.proofs.Lists.{contains_none}
use Rattle.type_lattice.specs.Types.{AreBelow}
use Rattle.cons_tree.specs.Constraints.{Cons}
use Rattle.cons_tree.specs.Environments.{Types}
use Rattle.cons_tree.specs.Facts.{TypeFacts}
use Rattle.cons_tree.specs.declared.parts.Part.{Part}
use Rattle.cons_tree.specs.declared.parts.Sig.{Sig}
use Rattle.cons_tree.specs.declared.parts.Summary.{Summary}
use Rattle.call_graph.specs.declared.among.CallsAmong.{CallsAmong}
use Rattle.components.specs.Graph.{Leads}
use Rattle.cons_solve.specs.Environments.{solution}
use Rattle.comp_rounds.specs.Rounds.{Function, Callees, of_one, all_next, joined_rounds, inferred, lenient_pass, paired, strict_pass, after_rounds, last_round, strict_signatures, summaries, with_signatures}
use Rattle.comp_rounds.specs.Calls.{AreCalls}
use Rattle.comp_rounds.specs.Signatures.{all_below, is_below}
use Rattle.comp_rounds.specs.Takes.{AllTake}
use Rattle.comp_rounds.specs.Turns.{AreEntered, AreSettled, AreTurned, DifferAt}
use Rattle.comp_rounds.proofs.Framed.{infers_same}
use Rattle.comp_rounds.proofs.Knowing.{overwritten}
use Rattle.comp_rounds.proofs.Settled.{stays}
use Rattle.comp_rounds.proofs.Places.{at_last}
use Rattle.comp_rounds.proofs.Taking.{Counted, all_counted, counted_take, next_counted, rounds_counted}
use Rattle.comp_rounds.proofs.Turning.{all_below_at, all_turned, takes_long, turned_above}

pub take_length : (gs : List Function) (ss : List Summary) → AllTake gs ss → length ss ≡ length gs
take_length [] [] h = refl
take_length [] (s ∷ ss) h = absurd h
take_length (g ∷ gs) [] h = absurd h
take_length (g ∷ gs) (s ∷ ss) h = ap suc (take_length gs ss h.1)

-- the number of the last round, as the code has it
pub last_number : {A : Type 0} (xs : List A) (f : A → Function) (outside : Callees) → 12 + length xs ≡ last_round outside (map f xs)
unfolding joined_rounds
last_number xs f outside = ap (λ n. 12 + n) (sym (length-map xs f))

-- ---- one round

counted_from : (gs : List Function) (ss : List Sig) → AllTake gs (map of_one ss) → Counted gs ss
counted_from [] [] h = tt
counted_from [] (s ∷ ss) h = absurd h
counted_from (g ∷ gs) [] h = absurd h
counted_from (g ∷ gs) (s ∷ ss) h = (h.0.0, counted_from gs ss h.1)

module _ (F : TypeFacts) (lower : (c : Cons Part) (xs ys : Types) → solution c xs ≡ Some ys → AreBelow ys xs) where
  module _ (gs : List Function) (now : Callees) (k : ℕ) (old new : List Sig) (due changed : List ℕ) (takes : AllTake gs (map of_one old)) (stands : now ≡ with_signatures now gs old)
      (settled : AreSettled now gs old due) (turned : AreTurned (strict_pass now) k gs old new due) (differ : DifferAt changed old new) where
    pub round_next : new ≡ all_next k old (map (inferred (strict_pass now)) gs)
    round_next = all_turned F lower (strict_pass now) k gs old takes new due turned settled

    pub round_takes_next : AllTake gs (map of_one new)
    round_takes_next =
        subst (λ ss. AllTake gs (map of_one ss)) (sym round_next)
        (counted_take gs (all_next k old (map (inferred (strict_pass now)) gs))
        (next_counted k gs old (map (inferred (strict_pass now)) gs) (counted_from gs old takes) (all_counted lower (strict_pass now) gs)))

    pub round_entered : AreEntered gs new now changed
    round_entered j g s free a b last =
        ap (λ c. c g.home g.name) stands ∙ at_last gs old now g.home g.name j g s (takes_long gs old takes) a (sym (differ j free) ∙ b) last

    pub round_settled : (calls : CallsAmong) (after : Callees) (next : List ℕ) → AreCalls gs calls → after ≡ with_signatures now gs new
        → ((i j : ℕ) → Contains changed j → Leads calls.callers j i → Contains next i) → AreSettled after gs new next
    round_settled calls after next are known callers i g s free a b =
        let same : inferred (strict_pass after) g ≡ inferred (strict_pass now) g =
        ap (λ c. inferred (strict_pass c) g) known
        ∙ infers_same gs calls are now old new (takes_long gs old takes) (turned.long ∙ takes_long gs old takes) changed next differ callers i g a free
        ∙ ap (λ c. inferred (strict_pass c) g) (sym stands)
        in
        ap (λ t. is_below t s) same ∙ turned_above F lower (strict_pass now) k gs old takes new due turned settled i g s a b

  -- ---- all rounds

  module _ (outside : Callees) (gs : List Function) where
    pub round_takes : (k : ℕ) (sigs : List Sig) → sigs ≡ after_rounds outside gs k → AllTake gs (map of_one sigs)
    round_takes k sigs e =
        subst (λ ss. AllTake gs (map of_one ss)) (sym e) (counted_take gs (after_rounds outside gs k) (rounds_counted lower outside gs k))

    -- functions that are known by their signatures are known by them alone
    pub round_stands : (k : ℕ) (sigs : List Sig) (now : Callees) → sigs ≡ after_rounds outside gs k → now ≡ with_signatures outside gs sigs → now ≡ with_signatures now gs sigs
    round_stands k sigs now e known =
        known ∙ sym (overwritten gs (map of_one sigs) (map of_one sigs) outside (take_length gs (map of_one sigs) (round_takes k sigs e)))
        ∙ ap (λ c. with_signatures c gs sigs) (sym known)

    pub round_after : (k : ℕ) (sigs new : List Sig) (now : Callees) → sigs ≡ after_rounds outside gs k → now ≡ with_signatures outside gs sigs
        → new ≡ all_next k sigs (map (inferred (strict_pass now)) gs) → new ≡ after_rounds outside gs (k + 1)
    round_after k sigs new now e known is =
        is ∙ ap₂ (all_next k) e (ap (λ c. map (inferred (strict_pass c)) gs) (known ∙ ap (λ ss. with_signatures outside gs ss) e)) ∙ ap (after_rounds outside gs) (sym (add-one k))

    pub round_known : (k : ℕ) (sigs new : List Sig) (now after : Callees) → new ≡ after_rounds outside gs k → now ≡ with_signatures outside gs sigs → after ≡ with_signatures now gs new
        → after ≡ with_signatures outside gs new
    round_known k sigs new now after e known is =
        is ∙ ap (λ c. with_signatures c gs new) known ∙ overwritten gs (map of_one new) (map of_one sigs) outside (take_length gs (map of_one new) (round_takes k new e))

    pub round_last : (k : ℕ) (sigs : List Sig) (now : Callees) (due : List ℕ) → k ≤ last_round outside gs → sigs ≡ after_rounds outside gs k → now ≡ with_signatures outside gs sigs
        → AreSettled now gs sigs due → due ≡ [] → sigs ≡ strict_signatures outside gs
    round_last k sigs now due within e known settled none =
        let still : all_below (map (inferred (strict_pass now)) gs) sigs ≡ true =
        all_below_at (inferred (strict_pass now)) gs sigs (takes_long gs sigs (round_takes k sigs e))
        (λ i g s a b. settled i g s (λ c. contains_none i (subst (λ xs. Contains xs i) none c)) a b)
        in
        e ∙ sym (stays F outside gs k
        (ap₂ all_below (ap (λ c. map (inferred (strict_pass c)) gs) (ap (λ ss. with_signatures outside gs ss) (sym e) ∙ sym known)) (sym e) ∙ still)
        (last_round outside gs) within)

pub all_due : (known : Callees) (gs : List Function) (ss : List Sig) (due : List ℕ) (n : ℕ) → n ≡ length gs → ((i : ℕ) → i < n → Contains due i) → AreSettled known gs ss due
all_due known gs ss due n long all i g s free a b = absurd (free (all i (let w = slice_get_within gs i g a in omega (arith, long, w))))

-- the summaries, from the steps that find them
pub summaries_are : (outside : Callees) (gs : List Function) (strict lenient : List Sig) (all : List Summary) (now : Callees) → strict ≡ strict_signatures outside gs → now ≡ with_signatures outside gs strict
    → lenient ≡ map (inferred (lenient_pass gs now)) gs → all ≡ paired strict lenient → all ≡ summaries outside gs
summaries_are outside gs strict lenient all now found known gave is =
    is
    ∙ ap₂ paired found
    (gave ∙ ap (λ callees. map (inferred (lenient_pass gs callees)) gs) (known ∙ ap (λ ss. with_signatures outside gs ss) found))
