use Rattle.std.proofs.Common.{◌≡◌, ℕ, ◌*◌, List, [], ◌∷◌, ◌++◌, length, sym, ◌∙◌, ap, arith}
use Rattle.rg_model.specs.State.{at_rest, row_count}
use Rattle.rg_stmt.specs.Entries.{opened_entry}
use Rattle.rg_stmt.specs.declared.event.Entry.{Entry}
use Rattle.rg_space.specs.Space.{frames_of}
use Rattle.rg_space.proofs.Whole.{slots_count}
use Rattle.rg_space.specs.Memory.{space_pages}
use Rattle.rg_engine.proofs.Begins.{none_locked}
use Rattle.rg_desk.proofs.desk.begin.Goals as goal

pub unlocked_rows-rows-requires : goal.unlocked_rows-rows-requires
unlocked_rows-rows-requires c =
    let b = c.requires.begins in
    record {
      state = at_rest b.start c.args.found.copy;
      allowed = 4064 * length (space_pages c.args.found.space);
      shows = c.in_ok-engine.ensures.shows b.start c.args.found.copy b.starts;
    }

pub returns-clause-begun : goal.returns-clause-begun
returns-clause-begun c =
    let b = c.requires.begins in
    let copy = c.args.found.copy in
    let pages = length (space_pages c.args.found.space) in
    let shows = c.in_ok-engine.ensures.shows b.start copy b.starts in
    let counted = c.unlocked_rows-rows.ensures (at_rest b.start copy) (4064 * pages) shows in
    let rows : c.unlocked_rows-rows.result ≡ row_count b.start =
    omega (arith, counted, none_locked b.start copy) in
    let trace = c.make_room.ensures.trace ∙ c.requires.first in
    record {
      start = b.start;
      starts = b.starts;
      few = b.few;
      shows = shows;
      space = c.in_ok-engine.ensures.space;
      top = c.in_ok-engine.ensures.top;
      idle = c.in_ok-engine.ensures.idle;
      log = c.in_ok-engine.ensures.log;
      opened = c.in_ok-engine.ensures.opened;
      set_aside = c.in_ok-engine.ensures.set_aside;
      trace =
          c.push.ensures.trace
          ∙ ap (λ (xs : List Entry). xs ++ c.opened.result ∷ []) trace
          ∙ ap (λ (e : Entry). e ∷ []) c.opened.ensures
          ∙ ap
          (λ (n : ℕ). opened_entry copy n c.count-pages.result c.used-used.result c.args.calls ∷ [])
          rows
          ∙ ap
          (λ (n : ℕ). opened_entry copy (row_count b.start) n c.used-used.result c.args.calls ∷ [])
          (c.count-pages.ensures ∙ sym (slots_count (frames_of c.args.found.space).pages.items))
          ∙ ap (λ (n : ℕ). opened_entry copy (row_count b.start) pages n c.args.calls ∷ [])
          c.used-used.ensures;
      at = c.push.ensures.calls ∙ ap (λ (e : Entry). e.calls) c.opened.ensures;
      recorded = c.push.ensures.recorded;
    }
