use Rattle.std.proofs.Common.{◌≡◌, ap, sym, ◌∙◌}
use Rattle.core_scan.specs.Vocabulary.{words, sort_in}
use Rattle.core_scan.specs.steps.Fronts.{is_known}
use Rattle.core_scan.proofs.Tables.{one_of_known, known_of_one, words_known}
use Rattle.core_scan.proofs.vocabulary.is_reserved.Goals as goal

pub returns : goal.returns
returns c =
    let is : c.is_known.result ≡ is_known (sort_in words c.args.word.now) = c.is_known.ensures ∙ ap is_known c.word_sort.ensures in
    ((λ known. one_of_known words c.args.word.now (sym is ∙ known)), (λ among. is ∙ known_of_one words c.args.word.now words_known among))
