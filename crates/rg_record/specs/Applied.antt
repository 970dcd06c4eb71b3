-- What a record does to pages: the parts that it applies, and the row that it brings.
use Rattle.std.specs.Prelude.{List, [], Option, None}
use Rattle.rg_base.specs.declared.part.Part.{Part}
use Rattle.rg_base.specs.declared.row.Row.{Row}
use Rattle.rg_record.specs.declared.record.Kind.{Kind}
use Rattle.rg_record.specs.declared.record.Kind.TheVariants.{Change, Undo, Commit, RolledBack}
use Rattle.rg_record.specs.declared.record.Kind.TheVariants.{Purge, Switch}

-- the parts that a record applies
abbrev pub parts_of : Kind → List Part
parts_of (Change home before after parts) = parts
parts_of (Undo next home after parts) = parts
parts_of Commit = []
parts_of RolledBack = []
parts_of (Purge parts) = parts
parts_of (Switch copy pages) = []

-- the row that a record brings, if it brings one
abbrev pub after_of : Kind → Option Row
after_of (Change home before after parts) = after
after_of (Undo next home after parts) = after
after_of Commit = None
after_of RolledBack = None
after_of (Purge parts) = None
after_of (Switch copy pages) = None
