-- The records of a unit's undo.
use Rattle.std.proofs.Common.{◌≡◌, ◌≤◌, ◌+◌, ℕ, true, List, [], ◌∷◌, refl, sym, ◌∙◌, arith}
use Rattle.std.specs.List.{AllByRecursion}
use Rattle.rg_home.specs.Able.{Proper}
use Rattle.rg_home.specs.Slot.{Slot}
use Rattle.rg_home.specs.Undo.{undone}
use Rattle.rg_home.specs.Written.{Written}
use Rattle.rg_laws_log.specs.StoredRows.Keyed.{AllTakeBack, TakesBack, TransBelow}
use Rattle.rg_laws_pages.specs.UndoRoom.Needed.{NeededInTurn}
use Rattle.rg_laws_pages.proofs.UndoRoomLemmas.Next.{undo_proper}
use Rattle.rg_record.specs.declared.record.Kind.{Kind}
use Rattle.rg_record.specs.declared.record.Kind.TheVariants.{Change, Undo, Commit, RolledBack}
use Rattle.rg_record.specs.declared.record.Kind.TheVariants.{Purge, Switch}
use Rattle.rg_record.specs.declared.record.Record.{Record}
use Rattle.rg_undo.specs.Undoing.{written_of}
use Rattle.rg_undo.specs.Unit.{undo_records, writes_of}
use Rattle.rg_undo.proofs.Undoing.{owner_is}
use Rattle.rg_image.specs.Rules.{is_undo}
use Rattle.rg_engine.proofs.Spelled.{undo_few}
use Rattle.rg_restart.specs.Closed.{AreUndosFrom}

pub takes_undo : (kind : Kind) → is_undo kind ≡ true → TakesBack kind
takes_undo (Undo next home after parts) is = tt
takes_undo (Change home before after parts) is = absurd (cc (is))
takes_undo Commit is = absurd (cc (is))
takes_undo RolledBack is = tt
takes_undo (Purge parts) is = absurd (cc (is))
takes_undo (Switch copy pages) is = absurd (cc (is))

pub undos_take_back : (position tran : ℕ) (undos : List Record) → AreUndosFrom position tran undos
    → AllTakeBack undos
undos_take_back position tran [] are = tt
undos_take_back position tran (undo ∷ undos) are =
    (takes_undo undo.kind are.1, undos_take_back (position + 1) tran undos are.4)

pub undos_below : (top position tran : ℕ) (undos : List Record) → tran ≤ top
    → AreUndosFrom position tran undos → TransBelow top undos
undos_below top position tran [] low are = tt
undos_below top position tran (undo ∷ undos) low are =
    (omega (arith, are.3, low), undos_below top (position + 1) tran undos low are.4)

-- each Change had what it needs, so each undo has a spelling
pub undos_from : (position back tran : ℕ) (slots : List (List Slot)) (entries : List Record)
    → Proper slots → NeededInTurn slots (writes_of entries)
    → AllByRecursion (λ (c : Written). c.owner ≡ tran) (writes_of entries)
    → AreUndosFrom position tran (undo_records position back slots entries)
undos_from position back tran slots [] proper needed of = tt
undos_from position back tran slots (entry ∷ entries) proper needed of = (
  (undo_few slots (written_of entry) needed.0.0, tt),
  refl,
  refl,
  sym (owner_is entry.tran.0 entry.kind) ∙ of.0,
  undos_from (position + 1) position tran (undone slots (written_of entry)) entries
      (undo_proper (written_of entry) slots proper needed.0.0) needed.1 of.1,
)
