use Rattle.std.proofs.Common.{◌≡◌, ◌++◌, take}
use Rattle.std.specs.List.{flat_map}
use Rattle.rg_print.specs.Layout.{listing_line}
use Rattle.rg_print.proofs.layout.push_listing.Given as goal

abbrev pub invariant-loop-entry : goal.invariant-loop-entry
invariant-loop-entry l =
    l.out.items ≡ l.fn.out.items ++ flat_map (listing_line l.which) (take l.entry-index l.listing)
