use Rattle.std.proofs.Common.{[], ◌∷◌, ◌++◌, refl}
use Rattle.rg_record.specs.Applied.{parts_of}
use Rattle.rg_space.specs.Space.{capacity_in, frames_of}
use Rattle.rg_space.specs.Memory.{list_seen}
use Rattle.rg_laws_crash.proofs.NewestPagesLemmas.Near.{can_near}
use Rattle.rg_engine.proofs.Held.{all_held}
use Rattle.rg_engine.proofs.NewestKept.{record_stays, space_newest}
use Rattle.rg_engine.proofs.engine.make.Goals as goal

pub apply-requires-clause-held : goal.apply-requires-clause-held
apply-requires-clause-held c = all_held (frames_of c.args.space.now) (parts_of c.args.entry.kind)

pub returns-clause-newest : goal.returns-clause-newest
returns-clause-newest c = λ can other e h.
    space_newest (c.args.log.now.records ++ c.args.entry ∷ []) c.append.new.log.records
    c.apply.new.self c.apply.new.self c.append.ensures.records refl e
    (record_stays c.args.log.now.records c.args.entry c.args.space.now c.apply.new.self
    (can_near (list_seen (frames_of c.args.space.now)) (capacity_in c.args.space.now) _ _
    (parts_of c.args.entry.kind) can) c.requires.next other c.apply.ensures.writes.keeps.copy
    (c.apply.ensures.pages can) e h)
