use Rattle.std.proofs.Common.{◌*◌, length, sym, ◌∙◌, ap, min}
use Rattle.std.specs.FinMap as map
use Rattle.std.specs.Ordering.{nat_cmp}
use Rattle.rg_image.specs.Meaning.{stored}
use Rattle.rg_log.specs.Kept.{Listed}
use Rattle.rg_model.specs.State.{at_rest}
use Rattle.rg_space.specs.Memory.{space_pages}
use Rattle.rg_tests_desk.proofs.desk.shown.ShownEngine.new.Goals as goal

pub invariant_of-result : goal.invariant_of-result
invariant_of-result c = (
  λ up. record {
    state = at_rest map.empty 1;
    allowed = 4064 * length (space_pages c.in_ok-found.found.space);
    shows = c.in_ok-engine.ensures.shows map.empty 1
        (λ k. map.get-empty nat_cmp k
        ∙ sym
        (ap (λ (l : Listed). stored l.records k) (c.in_ok-found.ensures.log ∙ c.empty.ensures)));
  },
  ap (λ (l : Listed). l.pages)
      (c.in_ok-engine.ensures.log ∙ c.in_ok-found.ensures.log ∙ c.empty.ensures)
      ∙ c.min-pages.ensures ∙ ap (λ n. min n 65536) c.capacity.ensures,
  c.in_ok-outlet.ensures.ring,
)
