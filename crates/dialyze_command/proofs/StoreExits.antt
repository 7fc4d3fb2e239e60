-- What became of a plan: each way out.
use Rattle.std.proofs.Common.{◌≡◌, ℕ, ◌<◌, List, get_or, length, Option, Some, None, Result, Ok, Err, sym, ap, ◌∙◌, subst}
use Rattle.std.specs.Prelude.{IfOk, IfSome, slice_get}
use Rattle.std.specs.Borrow.{Bor}
use Rattle.type_kinds.specs.declared.memory.Memory.{Memory}
use Rattle.da_shelf.specs.Told.{Files, replaced, IsOldOrNew}
use Rattle.table_file.specs.Spelling.{table_bytes}
use Rattle.analysis_sources.specs.declared.refusals.Device.TheVariants.{Replace}
use Rattle.analysis_sources.specs.Words.{texts}
use Rattle.dialyze_command.specs.declared.answer.Answer.{Answer}
use Rattle.dialyze_command.specs.declared.plan.NewTable.{NewTable}
use Rattle.dialyze_command.specs.declared.plan.CheckPlan.{CheckPlan}
use Rattle.dialyze_command.specs.declared.status.Status.TheVariants.{DeviceFault}
use Rattle.dialyze_command.specs.Outcome.{Intended, answered, unreplaced, passed, under, of_new_table}
use Rattle.dialyze_command.specs.steps.Plans as p
use Rattle.analysis_answers.proofs.Texts.{texts_at}

pub stored_put : (ws : List (Bor (List ℕ))) (told after : Option Files) (n k : ℕ) (plan : Answer) (made : Option NewTable) (table : NewTable) (d : Bor (List ℕ)) (r : Result Answer Memory) → made ≡ Some table
    → IfSome made (λ t. t.word < length ws)
    → IfOk r (λ a. p.IsPutAs (get_or ws table.word d).now told after n k plan table a) → IfOk r (λ a. p.IsStored (texts ws) told after n k plan made a)
stored_put ws told after n k plan made table d (Err e) some h put = tt
stored_put ws told after n k plan made table d (Ok a) some h (p.taken same is) = p.put table (get_or ws table.word d).now some (texts_at ws table.word d (subst (λ o. IfSome o (λ t. t.word < length ws)) some h)) same is
stored_put ws told after n k plan made table d (Ok a) some h (p.refused_so s o rose whole) =
    p.failed table (get_or ws table.word d).now some (texts_at ws table.word d (subst (λ o. IfSome o (λ t. t.word < length ws)) some h)) s o rose whole

one_name : (words : List (List ℕ)) (word : ℕ) (name other : List ℕ) → slice_get words word ≡ Some name → slice_get words word ≡ Some other → name ≡ other
one_name words word name other e f = let k = sym e ∙ f in cc

one_table : (made : Option NewTable) (table other : NewTable) → made ≡ Some table → made ≡ Some other → table ≡ other
one_table made table other e f = let k = sym e ∙ f in cc

no_table_there : (made : Option NewTable) (table : NewTable) → made ≡ None → made ≡ Some table → ⊥
no_table_there made table e f = let k = sym e ∙ f in absurd cc

-- a plan that was carried out is what the run means to answer
pub carried : (words : List (List ℕ)) (told after : Option Files) (rb rn n k : ℕ) (plan : Answer) (made : Option NewTable) (a : Answer) → p.IsPlan words told rb rn plan.status plan.output made
    → p.IsStored words told after n k plan made a → Intended words told rb rn n k a.status a.output after
carried words told after rb rn n k plan made a (p.answers none means) (p.as_planned empty same is) =
    subst (λ b. Intended words told rb rn n k b.status b.output after) (sym same) (subst (Intended words told rb rn n k plan.status plan.output) (sym is) (means n k))
carried words told after rb rn n k plan made a (p.answers none means) (p.put table name some there same is) = absurd (no_table_there made table none some)
carried words told after rb rn n k plan made a (p.answers none means) (p.failed table name some there s o rose whole) = absurd (no_table_there made table none some)
carried words told after rb rn n k plan made a (p.stores command reports new table some analyses says o is) (p.as_planned empty same e) = absurd (no_table_there made table empty some)
carried words told after rb rn n k plan made a (p.stores command reports new table some analyses says o is) (p.put other name also there same e) =
    let one = one_table made other table also some in
    let called = one_name words table.word is.name name is.names.there (subst (λ t. slice_get words t.word ≡ Some name) one there) in
    subst (λ b. Intended words told rb rn n k b.status b.output after) (sym same)
    (answered (passed command reports new says o analyses (under table.word is.name is.names is.short
    (e ∙ ap (λ t. replaced told name t.bytes) one ∙ ap (replaced told name) is.bytes_so ∙ ap (λ m. replaced told m (table_bytes new)) (sym called)))))
carried words told after rb rn n k plan made a (p.stores command reports new table some analyses says o is) (p.failed other name also there s f rose whole) =
    let one = one_table made other table also some in
    let called = one_name words table.word is.name name is.names.there (subst (λ t. slice_get words t.word ≡ Some name) one there) in
    unreplaced table.word is.name (s ∙ ap (λ t. DeviceFault (Replace t.word)) one) (f ∙ ap (λ t. t.line) one ∙ is.line_so)
    (of_new_table (record {
      command = command;
      reports = reports;
      new = new;
      analyses = analyses;
      out = is.names;
      short = is.short;
      whole = subst (λ m. IsOldOrNew told after m (table_bytes new)) (sym called) (subst (IsOldOrNew told after name) (ap (λ t. t.bytes) one ∙ is.bytes_so) whole);
    }))
    rose

pub answered_so : (words : List (List ℕ)) (told mid after : Option Files) (rb rm rn n m k : ℕ) (plan : CheckPlan) (r : Result Answer Memory) → p.IsPlan words told rb rm plan.answer.status plan.answer.output plan.table → mid ≡ told
    → m ≡ n → rn ≡ rm
    → IfOk r (λ a. p.IsStored words mid after m k plan.answer plan.table a) → IfOk r (λ a. Intended words told rb rn n k a.status a.output after)
answered_so words told mid after rb rm rn n m k plan (Err e) is same also reads stored = tt
answered_so words told mid after rb rm rn n m k plan (Ok a) is same also reads stored =
    subst (λ q. Intended words told rb q n k a.status a.output after) (sym reads)
    (carried words told after rb rm n k plan.answer plan.table a is (subst (λ q. p.IsStored words told after q k plan.answer plan.table a) also (subst (λ t. p.IsStored words t after m k plan.answer plan.table a) same stored)))
