use Rattle.std.proofs.Common.{◌≡◌, ◌∙◌, ℕ, List, sym, ap, subst, ◌==◌, filter, map, take, length}
use Rattle.std.proofs.Common.{arith}
use Rattle.std.proofs.lemmas.List.{take_all}
use Rattle.rg_base.specs.declared.options.Options.{Options}
use Rattle.rg_base.specs.declared.place.Place.{Place}
use Rattle.rg_base.specs.declared.row.Row.{Row}
use Rattle.rg_feed.specs.Fold.Lawful.{AreApart}
use Rattle.rg_home.specs.Pages.{slot_of}
use Rattle.rg_home.specs.Rows.{row_at}
use Rattle.rg_page.specs.Content.{slots_of}
use Rattle.rg_space.specs.Space.{frames_of}
use Rattle.rg_stmt.specs.declared.layout.Spot.{Spot}
use Rattle.rg_model.specs.Packed.{page_count}
use Rattle.rg_reload.specs.Moved.{AreOneToOne, AreTargets, Moved, packed_rows, pages_filled}
use Rattle.rg_reload.specs.Moved.{pairs_of, row_through, target_in}
use Rattle.rg_reload.specs.Reloading.{Reloading, HasMade, IsCopy, reloading_at}
use Rattle.rg_reload.specs.declared.packer.NewCopy.{NewCopy}
use Rattle.rg_reload.specs.declared.packer.NewCopy.TheVariants.{Whole}
use Rattle.rg_model.specs.Layout.{are_rising}
use Rattle.rg_reload.proofs.Rising.{targets_rise}
use Rattle.rg_reload.proofs.Steps.{first_spots, length-moved_from, moved_spots-moved}
use Rattle.rg_reload.proofs.Through.{below_is, homes_are, one_to_one_is, proper_is, slot_is}
use Rattle.rg_reload.proofs.Through.{source_is}
use Rattle.rg_reload.proofs.packer.Packer.finish.Goals as goal

all_placed : (options : Options) (rows : List (Place × Row)) (count : ℕ) → count ≡ length rows
    → take count (packed_rows options rows) ≡ packed_rows options rows
all_placed options rows count e =
    take_all count (packed_rows options rows) (omega (arith, length-moved_from options 0 0 0 rows))

copy_of : (c : goal.After-new) → IsCopy c.args.self.copy c.args.self.capacity
    (page_count c.args.self.options.freepage c.args.self.filled)
    (packed_rows c.args.self.options c.args.self.rows) c.in-Whole.space
copy_of c =
    let inside = c.self.inside in
    let i : HasMade
    (reloading_at inside.copy inside.capacity inside.options inside.rows.items inside.count
    inside.filled (Whole c.in-Whole.space)) (Whole c.in-Whole.space) =
    subst
    (λ (s : NewCopy). HasMade
    (reloading_at inside.copy inside.capacity inside.options inside.rows.items inside.count
    inside.filled s) s)
    c.in-Whole.is c.self.invariant.made_is in
    subst
    (λ (v : Reloading). IsCopy v.copy v.capacity (page_count v.options.freepage v.filled)
    (packed_rows v.options v.rows) c.in-Whole.space) c.self.view_is (subst
    (λ (m : List Moved). IsCopy inside.copy inside.capacity
    (page_count inside.options.freepage inside.filled) m c.in-Whole.space)
    (all_placed inside.options inside.rows.items inside.count i.1) i.0)

pairs_is : (c : goal.After-new)
    → c.new.result ≡ pairs_of (packed_rows c.args.self.options c.args.self.rows)
pairs_is c =
    let inside = c.self.inside in
    let i : HasMade
    (reloading_at inside.copy inside.capacity inside.options inside.rows.items inside.count
    inside.filled (Whole c.in-Whole.space)) (Whole c.in-Whole.space) =
    subst
    (λ (s : NewCopy). HasMade
    (reloading_at inside.copy inside.capacity inside.options inside.rows.items inside.count
    inside.filled s) s)
    c.in-Whole.is c.self.invariant.made_is in
    c.new.ensures ∙ c.self.invariant.pairs_are
    ∙ ap pairs_of (all_placed inside.options inside.rows.items inside.count i.1)
    ∙ ap (λ (v : Reloading). pairs_of (packed_rows v.options v.rows)) c.self.view_is

pub returns-clause-space : goal.returns-clause-space
returns-clause-space c = copy_of c

pub returns-clause-pairs : goal.returns-clause-pairs
returns-clause-pairs c = pairs_is c

pub returns-clause-one_to_one : goal.returns-clause-one_to_one
returns-clause-one_to_one c =
    let apart : AreApart c.args.self.rows =
    subst (λ (v : Reloading). AreApart v.rows) c.self.view_is c.self.invariant.apart in
    subst (λ (pairs : List (Place × Place)). AreOneToOne pairs) (sym (pairs_is c))
    (one_to_one_is c.args.self.options c.args.self.rows apart)

pub returns-clause-slots : goal.returns-clause-slots
returns-clause-slots c = slot_is c.args.self.options c.args.self.rows
    (frames_of c.in-Whole.space).pages.items (copy_of c).rows_are

pub returns-clause-proper : goal.returns-clause-proper
returns-clause-proper c = proper_is c.args.self.options c.args.self.rows
    (frames_of c.in-Whole.space).pages.items (copy_of c).rows_are

pub returns-clause-below : goal.returns-clause-below
returns-clause-below c = below_is c.args.self.options c.args.self.rows
    (frames_of c.in-Whole.space).pages.items (copy_of c).rows_are

pub returns-clause-homes : goal.returns-clause-homes
returns-clause-homes c =
    subst
    (λ (pairs : List (Place × Place)). AreTargets pairs
    (row_at (slot_of (slots_of (frames_of c.in-Whole.space).pages.items)))) (sym (pairs_is c))
    (homes_are c.args.self.options c.args.self.rows (frames_of c.in-Whole.space).pages.items
    (copy_of c).rows_are)

pub returns-clause-rows : goal.returns-clause-rows
returns-clause-rows c = λ place.
    ap
    (λ (pairs : List (Place × Place)). row_through
    (row_at (slot_of (slots_of (frames_of c.in-Whole.space).pages.items))) (target_in pairs place))
    (pairs_is c)
    ∙ source_is c.args.self.options c.args.self.rows (frames_of c.in-Whole.space).pages.items
    (copy_of c).rows_are place

pub returns-clause-spots : goal.returns-clause-spots
returns-clause-spots c = moved_spots-moved c.args.self.options 0 0 0 c.args.self.rows

pub returns-clause-pages : goal.returns-clause-pages
returns-clause-pages c =
    let inside = c.self.inside in
    let i : HasMade
    (reloading_at inside.copy inside.capacity inside.options inside.rows.items inside.count
    inside.filled (Whole c.in-Whole.space)) (Whole c.in-Whole.space) =
    subst
    (λ (s : NewCopy). HasMade
    (reloading_at inside.copy inside.capacity inside.options inside.rows.items inside.count
    inside.filled s) s)
    c.in-Whole.is c.self.invariant.made_is in
    (copy_of c).pages
    ∙ ap (λ (v : Reloading). page_count v.options.freepage v.filled) (sym c.self.view_is)
    ∙ ap (page_count inside.options.freepage)
    (c.self.invariant.filled_are
    ∙ ap pages_filled (all_placed inside.options inside.rows.items inside.count i.1))
    ∙ ap
    (λ (v : Reloading). page_count v.options.freepage (pages_filled (packed_rows v.options v.rows)))
    c.self.view_is
    ∙ ap (page_count c.args.self.options.freepage)
    (first_spots (packed_rows c.args.self.options c.args.self.rows)
    ∙ ap (λ (spots : List Spot). length (filter (λ (spot : Spot). spot.place.slot == 0) spots))
    (moved_spots-moved c.args.self.options 0 0 0 c.args.self.rows))

pub returns-clause-rising : goal.returns-clause-rising
returns-clause-rising c =
    ap (λ (pairs : List (Place × Place)). are_rising (map (λ (pair : Place × Place). pair.1) pairs))
    (pairs_is c)
    ∙ targets_rise c.args.self.options 0 0 0 c.args.self.rows
