-- The acts of the records that a write appends.
use Rattle.std.proofs.Common.{◌≡◌, ◌+◌, List, [], ◌∷◌, ◌++◌, Option, length, refl, ◌∙◌, ap}
use Rattle.std.proofs.Common.{append_assoc, reverse, map}
use Rattle.std.proofs.lemmas.List.{map-append, reverse-append}
use Rattle.rg_base.specs.declared.place.Place.{Place}
use Rattle.rg_base.specs.declared.row.Row.{Row}
use Rattle.rg_base.specs.declared.part.Part.{Part}
use Rattle.rg_home.specs.declared.plan.Plan.{Plan}
use Rattle.rg_record.specs.declared.record.Record.{Record}
use Rattle.rg_laws_log.specs.LogState.Act.{Change}
use Rattle.rg_laws_log.specs.LogState.DeskLaws.{purge_acts}
use Rattle.rg_laws_log.specs.LogState.Records.{act_of, acts_of}
use Rattle.rg_laws_log.specs.LogState.Write.{Write, write_of}
use Rattle.rg_engine.specs.Stored.{IsQuiet}
use Rattle.rg_engine.specs.Walks.{change_record}
use Rattle.rg_engine.specs.Wrote.{purge_record, records_cleared, records_wrote}
use Rattle.rg_engine.specs.declared.units.OpenUnit.{OpenUnit}

-- one record more is one act before
pub acts_snoc : (rs : List Record) (r : Record)
    → acts_of [] (rs ++ r ∷ []) ≡ act_of [] r ∷ acts_of [] rs
acts_snoc rs r = ap reverse (map-append (act_of []) rs (r ∷ []))
    ∙ reverse-append (map (act_of []) rs) (act_of [] r ∷ [])

-- the records that a write appends
abbrev pub more_wrote : List Record → OpenUnit → List Part → Write → List Record
more_wrote rs unit [] w = change_record (length rs + 1) unit.tran.0 unit.last.0 w ∷ []
more_wrote rs unit (x ∷ parts) w =
    purge_record (length rs + 1) (x ∷ parts)
    ∷ change_record (length (rs ++ purge_record (length rs + 1) (x ∷ parts) ∷ []) + 1) unit.tran.0
    unit.last.0 w
    ∷ []

more_is : (rs : List Record) (unit : OpenUnit) (parts : List Part) (w : Write)
    → records_cleared rs parts
    ++ change_record (length (records_cleared rs parts) + 1) unit.tran.0 unit.last.0 w ∷ []
    ≡ rs ++ more_wrote rs unit parts w
more_is rs unit [] w = refl
more_is rs unit (x ∷ parts) w = append_assoc rs (purge_record (length rs + 1) (x ∷ parts) ∷ []) _

pub wrote_more : (rs : List Record) (unit : OpenUnit) (plan : Plan) (after : Option Row)
    → records_wrote rs unit plan after
    ≡ rs
    ++ more_wrote rs unit plan.purge (write_of unit.tran.0 plan.home plan.before after plan.parts)
wrote_more rs unit plan after =
    more_is rs unit plan.purge (write_of unit.tran.0 plan.home plan.before after plan.parts)

acts_more : (rs : List Record) (unit : OpenUnit) (parts : List Part) (home : Place)
    (before after : Option Row) (purge : List Part)
    → acts_of [] (more_wrote rs unit purge (write_of unit.tran.0 home before after parts))
    ≡ Change (write_of unit.tran.0 home before after parts) ∷ purge_acts purge
acts_more rs unit parts home before after [] = refl
acts_more rs unit parts home before after (x ∷ purge) = refl

-- their acts
pub acts_wrote : (rs : List Record) (unit : OpenUnit) (plan : Plan) (after : Option Row)
    → acts_of []
    (more_wrote rs unit plan.purge (write_of unit.tran.0 plan.home plan.before after plan.parts))
    ≡ Change (write_of unit.tran.0 plan.home plan.before after plan.parts) ∷ purge_acts plan.purge
acts_wrote rs unit plan after = acts_more rs unit plan.parts plan.home plan.before after plan.purge

-- none of them is a Commit
pub quiet_wrote : (w : Write) (purge : List Part) → IsQuiet (Change w ∷ purge_acts purge)
quiet_wrote w [] = tt
quiet_wrote w (x ∷ purge) = tt
