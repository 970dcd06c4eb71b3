-- Pages that have a spelling are sound, and so is what is redone on them.
use Rattle.std.proofs.Common.{ℕ, zero, suc, List, [], ◌∷◌}
use Rattle.std.specs.List.{AllByRecursion}
use Rattle.rg_home.specs.Able.{Holds}
use Rattle.rg_home.specs.Slot.{Slot, Free, Row, Pointer, Over, DeadRow, DeadPointer, DeadOver}
use Rattle.rg_home.specs.Slots.{slot_at}
use Rattle.rg_page.specs.Content.{Content, slots_of}
use Rattle.rg_page.specs.Bytes.Content.{FitsPage, FitsSlot}
use Rattle.rg_record.specs.declared.record.Record.{Record}
use Rattle.rg_redo.specs.Redo.{AllRedoFit, redone_all}
use Rattle.rg_redo.specs.CurrentCopy.Rebuilt.{AreSoundPages}
use Rattle.rg_redo.proofs.CurrentCopyLemmas.Sounding.{AllSound, SoundPage, are_sound, records_sound}

slot_holds : (s : Slot) → FitsSlot s → Holds s
slot_holds Free fits = tt
slot_holds (Row capacity row) fits = fits.2
slot_holds (Pointer capacity other) fits = tt
slot_holds (Over capacity row home) fits = fits.2
slot_holds (DeadRow capacity owner) fits = tt
slot_holds (DeadPointer capacity other owner) fits = tt
slot_holds (DeadOver capacity home owner) fits = tt

slots_hold : (slots : List Slot) → AllByRecursion FitsSlot slots → (i : ℕ) → Holds (slot_at slots i)
slots_hold [] fits zero = tt
slots_hold [] fits (suc i) = tt
slots_hold (s ∷ slots) fits zero = slot_holds s fits.0
slots_hold (s ∷ slots) fits (suc i) = slots_hold slots fits.1 i

page_sound : (x : Content) → FitsPage x → SoundPage x.slots
page_sound x fits =
    record { trimmed = fits.trimmed; fits = fits.within; holds = slots_hold x.slots fits.slots }

pages_sound : (pages : List Content) → AllByRecursion FitsPage pages → AllSound pages
pages_sound [] fits = tt
pages_sound (x ∷ pages) fits = (page_sound x fits.0, pages_sound pages fits.1)

-- records that fit leave them sound
pub redone_sound : (base : List Content) (rs : List Record) → AllByRecursion FitsPage base
    → AllRedoFit rs base → AreSoundPages (slots_of (redone_all rs base))
redone_sound base rs fits fit =
    are_sound (redone_all rs base) (records_sound rs base fit (pages_sound base fits))
