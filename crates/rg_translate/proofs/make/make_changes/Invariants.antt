use Rattle.std.proofs.Common.{◌≡◌, [], true, None, map, take}
use Rattle.rg_base.specs.declared.change.Change.{Change}
use Rattle.rg_base.specs.declared.place.Place.{Place}
use Rattle.rg_feed.specs.Fold.Last.{applied_at, last_at}
use Rattle.rg_model.specs.Layout.{are_rising}
use Rattle.rg_shadow.specs.Shade.{source_rows, target_of}
use Rattle.rg_translate.specs.Caught.{ClaimsMore, KeepTargets, SameCopy, Unmoved}
use Rattle.rg_translate.proofs.make.make_changes.Given as goal

abbrev pub invariant-loop-change : goal.invariant-loop-change
invariant-loop-change l = record {
  rows : (place : Place)
      → source_rows l.shadow place
      ≡ applied_at place (take l.change-index l.changes) (source_rows l.fn.shadow place);
  unmoved : Unmoved l.fn.shadow l.shadow l.changes;
  behind : (source : Place) → last_at source (take l.change-index l.changes) ≡ None
      → target_of l.shadow source ≡ target_of l.fn.shadow source;
  stays : are_rising (map (λ (c : Change). c.home) l.changes) ≡ true
      → KeepTargets l.fn.shadow l.shadow;
  copy : SameCopy l.fn.shadow l.shadow;
  claims : ClaimsMore l.fn.shadow l.shadow (take l.change-index l.changes);
  idle : l.changes ≡ [] → l.shadow ≡ l.fn.shadow;
}
