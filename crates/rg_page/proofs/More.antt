-- What one more slot adds to the bytes of slots.
use Rattle.std.proofs.Common.{◌≡◌, ◌+◌, ℕ, List, [], ◌∷◌, ◌++◌, sym, ap, ◌∙◌, arith, append_assoc}
use Rattle.std.proofs.lemmas.List.{append-nil}
use Rattle.std.specs.List.{AllByRecursion}
use Rattle.rg_base.specs.Field.{field}
use Rattle.rg_home.specs.Slot.{Slot}
use Rattle.rg_home.specs.Slots.{capacity_of}
use Rattle.rg_page.specs.Bytes.Content.{FitsSlot}
use Rattle.rg_page.specs.Bytes.PageBytes.{directory, slot_bytes, slots_bytes, slots_size}

pub slots_bytes-more : (slots : List Slot) (s : Slot)
    → slots_bytes (slots ++ s ∷ []) ≡ slots_bytes slots ++ slot_bytes s
unfolding slots_bytes
slots_bytes-more [] s = append-nil (slot_bytes s)
slots_bytes-more (x ∷ slots) s =
    ap (λ (bytes : List ℕ). slot_bytes x ++ bytes) (slots_bytes-more slots s)
    ∙ sym (append_assoc (slot_bytes x) (slots_bytes slots) (slot_bytes s))

pub slots_size-more : (slots : List Slot) (s : Slot)
    → slots_size (slots ++ s ∷ []) ≡ slots_size slots + (16 + capacity_of s)
slots_size-more [] s = omega arith
slots_size-more (x ∷ slots) s = omega (arith, slots_size-more slots s)

pub slots_fit-more : (slots : List Slot) (s : Slot) → AllByRecursion FitsSlot slots → FitsSlot s
    → AllByRecursion FitsSlot (slots ++ s ∷ [])
slots_fit-more [] s fits fit = (fit, tt)
slots_fit-more (x ∷ slots) s fits fit = (fits.0, slots_fit-more slots s fits.1 fit)

pub directory-more : (at : ℕ) (slots : List Slot) (s : Slot)
    → directory at (slots ++ s ∷ []) ≡ field 2 (at + slots_size slots) ++ directory at slots
unfolding directory
directory-more at [] s =
    let e : at ≡ at + 0 = omega arith in
    ap (field 2) e ∙ sym (append-nil (field 2 (at + 0)))
directory-more at (x ∷ slots) s =
    let next : ℕ = at + (16 + capacity_of x) in
    let e : next + slots_size slots ≡ at + slots_size (x ∷ slots) = omega arith in
    ap (λ (bytes : List ℕ). bytes ++ field 2 at) (directory-more next slots s)
    ∙ append_assoc (field 2 (next + slots_size slots)) (directory next slots) (field 2 at)
    ∙ ap (λ (k : ℕ). field 2 k ++ (directory next slots ++ field 2 at)) e
