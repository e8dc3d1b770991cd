use Rattle.sinotayam.proofs.Spans.{span_sum, span_fits}
use borrow.Author.Rules.{rules}
use Rattle.sinotayam.proofs.texts.text.Goals as goal

pub overflow_add-end : goal.overflow_add-end
overflow_add-end c = search (rules, span_sum)

pub slice_bounds-result-end : goal.slice_bounds-result-end
slice_bounds-result-end c = search (rules, span_fits)
