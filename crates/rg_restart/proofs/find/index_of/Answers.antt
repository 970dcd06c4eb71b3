use Rattle.std.proofs.Common.{◌∙◌, sym, subst}
use Rattle.rg_home.specs.Pages.{slot_of}
use Rattle.rg_home.specs.Rows.{row_at}
use Rattle.rg_index.specs.Entries.{IsRising}
use Rattle.rg_index.specs.Listed.{IsListingOf}
use Rattle.rg_index.proofs.Kept.{shown_is}
use Rattle.rg_btree.specs.Indexes.Listings.{entries_of}
use Rattle.rg_check.proofs.PageTestsLemmas.Says.{ok_map}
use Rattle.rg_space.specs.Memory.{space_pages}
use Rattle.rg_restart.proofs.find.index_of.Goals as goal

pub build-requires : goal.build-requires
build-requires c = subst IsRising (sym c.as_slice.ensures)
    (c.in_ok-list.ensures (space_pages c.args._space.now) c.requires).0

pub returns : goal.returns
returns c =
    let lists = c.in_ok-list.ensures (space_pages c.args._space.now) c.requires in
    ok_map c.build.result _
    (λ index. IsListingOf c.args.which (row_at (slot_of (space_pages c.args._space.now)))
    (entries_of index))
    (λ index is. subst (IsListingOf c.args.which (row_at (slot_of (space_pages c.args._space.now))))
    (sym
    (shown_is c.as_slice.result.now index.entries (subst IsRising (sym c.as_slice.ensures) lists.0)
    (sym is) ∙ c.as_slice.ensures))
    lists.1)
    c.build.ensures
