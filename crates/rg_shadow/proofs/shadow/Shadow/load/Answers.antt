use Rattle.std.proofs.Common.{List, ◌∙◌, ap}
use Rattle.rg_base.specs.declared.place.Place.{Place}
use Rattle.rg_home.specs.Pages.{slot_of}
use Rattle.rg_home.specs.Rows.{row_at}
use Rattle.rg_reload.specs.Moved.{target_in}
use Rattle.rg_shadow.specs.Planned.{slots_in}
use Rattle.rg_shadow.proofs.Pairing.{pairs_mapped}
use Rattle.rg_shadow.proofs.shadow.Shadow.load.Goals as goal

pub invariant_of-result : goal.invariant_of-result
invariant_of-result c = record {
  has = c.requires.has;
  proper = c.requires.proper;
  below = c.requires.below;
  mapped = pairs_mapped c.in_ok-map.map.targets c.args.pairs
      (row_at (slot_of (slots_in c.args.space))) c.requires.one_to_one c.requires.homes
      (λ source. c.in_ok-map.ensures source
      ∙ ap (λ (ps : List (Place × Place)). target_in ps source) c.as_slice.ensures);
  kept = c.new.ensures.kept _;
  values = tt;
}
