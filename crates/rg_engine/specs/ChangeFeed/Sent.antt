-- The change that a record makes.
use Rattle.std.specs.Prelude.{Option, Some, None}
use Rattle.rg_base.specs.declared.place.Place.{Place}
use Rattle.rg_record.specs.declared.record.Kind.{Kind}
use Rattle.rg_record.specs.declared.record.Kind.TheVariants as kind

-- the home of the row that a record of this kind changes
abbrev pub home_changed : Kind → Option Place
home_changed (kind.Change home before after parts) = Some home
home_changed (kind.Undo next home after parts) = Some home
home_changed kind.Commit = None
home_changed kind.RolledBack = None
home_changed (kind.Purge parts) = None
home_changed (kind.Switch copy pages) = None
