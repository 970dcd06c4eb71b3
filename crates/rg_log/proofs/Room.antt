-- The pages of a log that keeps to its limit are within its set.
use Rattle.std.proofs.Common.{◌≡◌, ap, ⊎_elim, ℕ, suc, ◌+◌, ◌*◌, ◌≤◌, Bool, List, [], ◌∷◌, length}
use Rattle.std.proofs.Common.{refl, sym, subst, arith, if◌then◌else◌}
use Rattle.std.proofs.lemmas.Bool.Decides.{leb_tells}
use Rattle.rg_record.specs.declared.record.Record.{Record}
use Rattle.rg_image.specs.Form.{IsOpened}
use Rattle.rg_image.specs.Kept.{AreEntries}
use Rattle.rg_image.proofs.Start.{last_page}
use Rattle.rg_image.specs.Pack.{Spot, start, end_of, next_spot, size_of, room, log_bytes}
use Rattle.rg_image.specs.Rules.{limit_of}
use Rattle.rg_image.proofs.Entries.{entry_size}
use Rattle.rg_image.proofs.Room.{end_full}

-- a page that is left holds more than 2,270 bytes
abbrev Held : Spot → ℕ
Held at = 2270 * at.page + at.used

next_held : (at : Spot) (r : Record) → size_of r ≤ 1731
    → Held (next_spot at r) ≤ Held at + size_of r
next_held at r small =
    ⊎_elim
    (λ fits. subst
    (λ (t : Bool). Held
    (if t then record { page = at.page; used = at.used + size_of r }
    else record { page = at.page + 1; used = size_of r }) ≤ Held at + size_of r) (sym fits.0)
    (omega arith))
    (λ full. subst
    (λ (t : Bool). Held
    (if t then record { page = at.page; used = at.used + size_of r }
    else record { page = at.page + 1; used = size_of r }) ≤ Held at + size_of r) (sym full.0)
    (omega (arith, full.1, small)))
    (leb_tells (at.used + size_of r) room)

end_held : (at : Spot) (rs : List Record) → AreEntries rs
    → Held (end_of at rs) ≤ Held at + log_bytes rs
end_held at [] entries = omega arith
end_held at (r ∷ rs) entries =
    let one = next_held at r (entry_size r (entries r (0, omega arith, refl))) in
    let others =
    end_held (next_spot at r) rs (λ x c. entries x (suc c.0, omega (arith, c.1), c.2)) in
    omega (arith, one, others)

some_bytes : (rs : List Record) → 1 ≤ length rs → 2 ≤ log_bytes rs
some_bytes [] some = absurd (omega (arith, some))
some_bytes (r ∷ rs) some = omega arith

pub page_within : (rs : List Record) (pages : ℕ) → AreEntries rs → 1 ≤ length rs
    → log_bytes rs ≤ limit_of pages
    → (end_of start rs).page ≤ pages
page_within rs pages entries some le =
    let held = end_held start rs entries in
    let bytes = some_bytes rs some in
    omega (arith, held, bytes, le)

pub opened_page : (rs : List Record) (from page : ℕ) → IsOpened rs from page → 1 ≤ page
    → (end_of start rs).page ≡ page
opened_page rs from page is low =
    last_page rs from page (is.begins low) is.fit (is.there low) (is.whole low)

pub opened_bytes : (rs : List Record) (from page : ℕ) → IsOpened rs from page → page ≤ 65536
    → log_bytes rs ≤ 4072 * 65536
opened_bytes rs from page is le =
    ⊎_elim
    (λ low. let full = end_full start rs (omega arith) is.fit in
    omega (arith, full.0, full.1, opened_page rs from page is low.1))
    (λ lt. let none : rs ≡ [] = is.none (omega (arith, lt.1)) in omega (arith, ap log_bytes none))
    (leb_tells 1 page)
