use Rattle.std.proofs.Common.{List, length, ◌∙◌, ap, subst, sym}
use Rattle.std.specs.Option.{option_copied}
use Rattle.rg_page.specs.Content.{Content}
use Rattle.rg_space.specs.Space.{capacity_in}
use Rattle.rg_space.proofs.Applying.{all_there, can_pages, can_slots, stay_ready}
use Rattle.rg_shadow.specs.Planned.{AreUnlogged, pages_in, seen_in}
use Rattle.rg_shadow.proofs.Holding.{all_held}
use Rattle.rg_shadow.proofs.Unlogged.{still_unlogged}
use Rattle.rg_shadow.proofs.plans.apply.Goals as goal

pub apply_parts-requires-clause-held : goal.apply_parts-requires-clause-held
apply_parts-requires-clause-held c = all_held c.args.space.now c.args.parts.now

pub returns-clause-slots : goal.returns-clause-slots
returns-clause-slots c = λ can.
    let old = c.args.space.now in
    can_slots (seen_in old) (capacity_in old) 0 0 (option_copied c.args.row) c.args.parts.now
    (pages_in c.apply_parts.new.self) c.requires.step.few c.apply_parts.ensures.pages can

pub returns-clause-positions : goal.returns-clause-positions
returns-clause-positions c = λ can unlogged.
    let old = c.args.space.now in
    let wrote =
    can_pages (seen_in old) (capacity_in old) 0 0 (option_copied c.args.row) c.args.parts.now
    (pages_in c.apply_parts.new.self) c.requires.step.few c.apply_parts.ensures.pages can in
    subst AreUnlogged (sym wrote)
    (still_unlogged (seen_in old).copy 0 (option_copied c.args.row) (pages_in old) c.args.parts.now
    unlogged)

pub returns-clause-stay : goal.returns-clause-stay
returns-clause-stay c = λ can there others ready.
    let old = c.args.space.now in
    let same = ap (λ (ps : List Content). length ps)
    (can_pages (seen_in old) (capacity_in old) 0 0 (option_copied c.args.row) c.args.parts.now
    (pages_in c.apply_parts.new.self) c.requires.step.few c.apply_parts.ensures.pages can)
    ∙ all_there (seen_in old).copy 0 (option_copied c.args.row) 0 (pages_in old) c.args.parts.now
    there in
    stay_ready 0 (seen_in old) (seen_in c.apply_parts.new.self) (capacity_in old) others
    c.apply_parts.ensures.writes same ready
